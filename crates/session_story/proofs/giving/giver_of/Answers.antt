use Rattle.std.proofs.Common.{◌≡◌, ◌<◌, List, Some, length, sym, ap, ◌∙◌, subst}
use Rattle.std.specs.Prelude.{slice_get}
use Rattle.std.proofs.lemmas.Option.{slice_get-get_or}
use Rattle.migration_types.specs.declared.records.GuestRec.{GuestRec}
use Rattle.migration_types.specs.declared.records.GuestRec.TheVariants.{Read}
use Rattle.session_story.proofs.Givers.{is_giver}
use Rattle.session_story.proofs.giving.giver_of.Goals as goal

pub returns : goal.returns
returns c =
    let s = c.args.session.now in
    let n = c.args.n in
    let below : n < length c.guest.result.now = subst (λ (log : List GuestRec). n < length log) (sym c.guest.ensures) c.requires in
    let reads : slice_get s.guest n ≡ Some (Read c.in-Read.vcpu c.in-Read.page c.in-Read.cell c.in-Read.value) = ap (λ (log : List GuestRec). slice_get log n) (sym c.guest.ensures) ∙ (slice_get-get_or c.guest.result.now n _ below ∙ ap (λ (r : GuestRec). Some r) c.in-Read.is) in
    is_giver s n c.in-Read.vcpu c.in-Read.page c.in-Read.cell c.in-Read.value c.first_giver.result reads c.first_giver.ensures
