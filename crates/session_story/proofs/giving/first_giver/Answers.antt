use Rattle.std.proofs.Common.{◌≡◌, ℕ, ◌&&◌, true, false, nat_le, List, Some, None, length, sym, ap, ◌∙◌}
use Rattle.migration_types.specs.declared.records.PagerRec.{PagerRec}
use Rattle.page_facts.specs.Tables.{first_before}
use Rattle.session_story.specs.Giving.{MayPrecede, is_unseen, puts}
use Rattle.session_story.proofs.Givers.{first_gives, none_gives, too_late}
use Rattle.session_story.proofs.giving.first_giver.Goals as goal

pub returns-then-may_precede : goal.returns-then-may_precede
returns-then-may_precede c =
    let s = c.args.session.now in
    let test = λ (q : ℕ) (r : PagerRec). puts c.args.page c.args.cell c.args.value r && (is_unseen c.seen_before_change.result q && nat_le c.last_seen.result q) in
    let at : Some c.in-Some.place ≡ first_before test s.pager (length s.pager) = c.in-Some.ensures ∙ ap (λ (log : List PagerRec). first_before test log (length log)) c.pager.ensures in
    first_gives s c.args.n c.args.page c.args.cell c.args.value c.seen_before_change.result c.last_seen.result c.seen_before_change.ensures c.last_seen.ensures c.in-Some.place (sym at) (c.may_precede.ensures.0 c.if-may_precede.true)

pub returns-else-may_precede : goal.returns-else-may_precede
returns-else-may_precede c =
    let s = c.args.session.now in
    let test = λ (q : ℕ) (r : PagerRec). puts c.args.page c.args.cell c.args.value r && (is_unseen c.seen_before_change.result q && nat_le c.last_seen.result q) in
    let at : Some c.in-Some.place ≡ first_before test s.pager (length s.pager) = c.in-Some.ensures ∙ ap (λ (log : List PagerRec). first_before test log (length log)) c.pager.ensures in
    let late : MayPrecede s c.in-Some.place c.args.n → ⊥ = λ may. let yes : c.may_precede.result ≡ true = c.may_precede.ensures.1 may in let no : c.may_precede.result ≡ false = c.if-may_precede.false in absurd (cc) in
    too_late s c.args.n c.args.page c.args.cell c.args.value c.seen_before_change.result c.last_seen.result c.seen_before_change.ensures c.last_seen.ensures c.in-Some.place (sym at) late

pub returns-in-None : goal.returns-in-None
returns-in-None c =
    let s = c.args.session.now in
    let test = λ (q : ℕ) (r : PagerRec). puts c.args.page c.args.cell c.args.value r && (is_unseen c.seen_before_change.result q && nat_le c.last_seen.result q) in
    let at : None ≡ first_before test s.pager (length s.pager) = c.in-None.ensures ∙ ap (λ (log : List PagerRec). first_before test log (length log)) c.pager.ensures in
    none_gives s c.args.n c.args.page c.args.cell c.args.value c.seen_before_change.result c.last_seen.result c.seen_before_change.ensures c.last_seen.ensures (sym at)
