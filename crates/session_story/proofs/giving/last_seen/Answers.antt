use Rattle.std.proofs.Common.{◌≡◌, ℕ, ◌&&◌, nat_le, List, Some, None, length, sym, ap, ◌∙◌}
use Rattle.migration_types.specs.declared.records.PagerRec.{PagerRec}
use Rattle.audit_model.specs.Shape.{is_placement_of}
use Rattle.session_story.specs.Scans.{last_before}
use Rattle.session_story.proofs.Givers.{from_seen, none_seen, unseen}
use Rattle.session_story.proofs.giving.last_seen.Goals as goal

pub returns-in_default : goal.returns-in_default
returns-in_default c = unseen c.args.session.now c.args.n c.args.page c.in_default.ensures

pub returns-in-Some-last_of : goal.returns-in-Some-last_of
returns-in-Some-last_of c =
    let s = c.args.session.now in
    let look = c.in-Some.look in
    let test = λ (m : ℕ) (r : PagerRec). is_placement_of c.args.page r && nat_le m look.placement in
    let at : Some c.in-Some-last_of.place ≡ last_before test s.pager (length s.pager) = c.in-Some-last_of.ensures ∙ ap (λ (log : List PagerRec). last_before test log (length log)) c.pager-pager.ensures in
    from_seen s c.args.n c.args.page look c.in-Some.ensures c.in-Some-last_of.place (sym at)

pub returns-in-None : goal.returns-in-None
returns-in-None c =
    let s = c.args.session.now in
    let look = c.in-Some.look in
    let test = λ (m : ℕ) (r : PagerRec). is_placement_of c.args.page r && nat_le m look.placement in
    let at : None ≡ last_before test s.pager (length s.pager) = c.in-None.ensures ∙ ap (λ (log : List PagerRec). last_before test log (length log)) c.pager-pager.ensures in
    none_seen s c.args.n c.args.page look c.in-Some.ensures (sym at)
