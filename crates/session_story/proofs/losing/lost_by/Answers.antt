use Rattle.std.proofs.Common.{◌≡◌, ◌<◌, List, Some, None, length, sym, ap, ◌∙◌, subst, arith}
use Rattle.std.specs.Prelude.{slice_get}
use Rattle.std.proofs.lemmas.Option.{slice_get-get_or}
use Rattle.std.proofs.lemmas.Result.{IfOk-weaker}
use Rattle.migration_types.specs.declared.records.GuestRec.{GuestRec}
use Rattle.migration_types.specs.declared.records.GuestRec.TheVariants.{Read}
use Rattle.session_story.specs.Scans.{last_before}
use Rattle.session_story.specs.Values.{sets}
use Rattle.session_story.proofs.Givers.{last_some}
use Rattle.session_story.proofs.Losses.{is_lost, none_lost}
use Rattle.session_story.proofs.losing.lost_by.Goals as goal

pub lost_at-requires-clause-within : goal.lost_at-requires-clause-within
lost_at-requires-clause-within c =
    let s = c.args.session.now in
    let test = sets c.in-Read.page c.in-Read.cell in
    let by : Some c.in-Some.change ≡ last_before (λ m. test) s.guest c.args.n = c.in-Some.ensures ∙ ap (λ (log : List GuestRec). last_before (λ m. test) log c.args.n) c.guest-2.ensures in
    let below = (last_some (λ m. test) s.guest c.args.n c.in-Some.change (sym by)).below in
    omega (arith, below, c.requires)

pub returns-in-Some : goal.returns-in-Some
returns-in-Some c =
    let s = c.args.session.now in
    let n = c.args.n in
    let test = sets c.in-Read.page c.in-Read.cell in
    let below : n < length c.guest.result.now = subst (λ (log : List GuestRec). n < length log) (sym c.guest.ensures) c.requires in
    let reads : slice_get s.guest n ≡ Some (Read c.in-Read.vcpu c.in-Read.page c.in-Read.cell c.in-Read.value) = ap (λ (log : List GuestRec). slice_get log n) (sym c.guest.ensures) ∙ (slice_get-get_or c.guest.result.now n _ below ∙ ap (λ (r : GuestRec). Some r) c.in-Read.is) in
    let by : Some c.in-Some.change ≡ last_before (λ m. test) s.guest n = c.in-Some.ensures ∙ ap (λ (log : List GuestRec). last_before (λ m. test) log n) c.guest-2.ensures in
    IfOk-weaker c.lost_at.result _ _ (is_lost s n c.in-Read.vcpu c.in-Read.page c.in-Read.cell c.in-Read.value reads c.in-Some.change (sym by)) c.lost_at.ensures

pub returns-in-None : goal.returns-in-None
returns-in-None c =
    let s = c.args.session.now in
    let n = c.args.n in
    let test = sets c.in-Read.page c.in-Read.cell in
    let below : n < length c.guest.result.now = subst (λ (log : List GuestRec). n < length log) (sym c.guest.ensures) c.requires in
    let reads : slice_get s.guest n ≡ Some (Read c.in-Read.vcpu c.in-Read.page c.in-Read.cell c.in-Read.value) = ap (λ (log : List GuestRec). slice_get log n) (sym c.guest.ensures) ∙ (slice_get-get_or c.guest.result.now n _ below ∙ ap (λ (r : GuestRec). Some r) c.in-Read.is) in
    let by : None ≡ last_before (λ m. test) s.guest n = c.in-None.ensures ∙ ap (λ (log : List GuestRec). last_before (λ m. test) log n) c.guest-2.ensures in
    none_lost s n c.in-Read.vcpu c.in-Read.page c.in-Read.cell c.in-Read.value reads (sym by)
