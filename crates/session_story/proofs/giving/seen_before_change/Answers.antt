use Rattle.std.proofs.Common.{◌≡◌, List, Some, None, sym, ap, ◌∙◌, arith}
use Rattle.migration_types.specs.declared.records.GuestRec.{GuestRec}
use Rattle.session_story.specs.Scans.{last_before}
use Rattle.session_story.specs.Values.{sets}
use Rattle.session_story.proofs.Givers.{after_change, last_some, none_set, unseen_follow}
use Rattle.session_story.proofs.giving.seen_before_change.Goals as goal

pub greatest_look-requires : goal.greatest_look-requires
greatest_look-requires c =
    let s = c.args.session.now in
    let test = sets c.args.page c.args.cell in
    let by : Some c.in-Some.change ≡ last_before (λ m. test) s.guest c.args.n = c.in-Some.ensures ∙ ap (λ (log : List GuestRec). last_before (λ m. test) log c.args.n) c.guest.ensures in
    let last = last_some (λ m. test) s.guest c.args.n c.in-Some.change (sym by) in
    let below = last.below in
    omega (arith, below, c.requires)

pub returns-in-Some : goal.returns-in-Some
returns-in-Some c = λ q.
    let s = c.args.session.now in
    let test = sets c.args.page c.args.cell in
    let by : Some c.in-Some.change ≡ last_before (λ m. test) s.guest c.args.n = c.in-Some.ensures ∙ ap (λ (log : List GuestRec). last_before (λ m. test) log c.args.n) c.guest.ensures in
    after_change s c.args.n c.args.page c.args.cell c.in-Some.change (sym by) q _ (unseen_follow s c.in-Some.change c.greatest_look.result c.greatest_look.ensures q)

pub returns-in-None : goal.returns-in-None
returns-in-None c = λ q.
    let s = c.args.session.now in
    let test = sets c.args.page c.args.cell in
    let by : None ≡ last_before (λ m. test) s.guest c.args.n = c.in-None.ensures ∙ ap (λ (log : List GuestRec). last_before (λ m. test) log c.args.n) c.guest.ensures in
    none_set s c.args.n c.args.page c.args.cell (sym by) q
