-- The pager's book stays on its machine.
use Rattle.std.proofs.Common.{◌≡◌, ℕ, Bool, true, false, cond, List, [], ◌∷◌, ◌++◌, Option, Some, None, refl, ◌∙◌}
use Rattle.migration_types.specs.declared.records.PagerRec.TheVariants.{Fault}
use Rattle.migration_types.specs.Extents.{Extent}
use Rattle.migration_types.specs.PageSets.{with_page}
use Rattle.residency.specs.Placements.{is_resident}
use Rattle.fault_queue.specs.Waiting.{is_asked, is_waiting, without}
use Rattle.target_side.specs.TargetPart.{TargetPart, settled as with_settled}
use Rattle.target_side.specs.declared.access.UntakenMiss.{UntakenMiss}
use Rattle.target_side.specs.declared.incoming.Incoming.{Incoming}
use Rattle.book_events.proofs.Branches.{either}
use Rattle.target_side.specs.PagerPart.{PagerPart, Paged, settles, is_released, fault_join, faults, faults_by, next_fault, delivers_next, delivers_by, deliver}

abbrev IsOn : Extent → Paged → Type 0
IsOn e r = r.pager.geometry ≡ e

on_either : (c : Bool) (x y : Paged) (e : Extent) → IsOn e x → IsOn e y → IsOn e (cond c x y)
on_either c x y e p q = either (λ (r : Paged). r.pager.geometry) e c x y p q

settles_on : (ps : List ℕ) (b : PagerPart) → (settles ps b).geometry ≡ b.geometry
settles_on [] b = refl
settles_on (p ∷ ps) b = settles_on ps (record b { settled = with_page p b.settled; waiting = without p b.waiting })

join_on : (p v : ℕ) (want : Option ℕ) (b : PagerPart) → (fault_join p v want b).geometry ≡ b.geometry
join_on p v None b = refl
join_on p v (Some want) b = refl

faults_on : (xs : List UntakenMiss) (b : PagerPart) (t : TargetPart) → IsOn b.geometry (faults xs b t)
faults_on [] b t = refl
faults_on (x ∷ rest) b t =
    let asked = on_either (is_asked x.page b.waiting) _ _ b.geometry (join_on x.page x.vcpu (b.wants x.page) (record b { log = b.log ++ Fault x.number ∷ [] })) refl in
    let absent = on_either (is_waiting x.vcpu b.waiting) _ _ b.geometry refl (on_either (is_released b.released x.page) _ _ b.geometry refl asked) in
    on_either (is_resident (t.placed x.page) (t.freed x.page)) _ _ b.geometry refl absent

faults_by_on : (released : Option (List ℕ)) (xs : List UntakenMiss) (b : PagerPart) (t : TargetPart) → IsOn b.geometry (faults_by released xs b t)
faults_by_on None xs b t = refl
faults_by_on (Some released) xs b t = faults_on xs b t

pub next_fault_on : (b : PagerPart) (t : TargetPart) → IsOn b.geometry (next_fault b t)
next_fault_on b t = faults_by_on b.released t.misses (settles t.unsettled b) (with_settled t) ∙ settles_on t.unsettled b

delivers_next_on : (xs : List Incoming) (b : PagerPart) (t : TargetPart) → IsOn b.geometry (delivers_next xs b t)
delivers_next_on [] b t = refl
delivers_next_on (x ∷ rest) b t = on_either (is_resident (t.placed x.page) (t.freed x.page)) _ _ b.geometry refl refl

delivers_by_on : (released : Option (List ℕ)) (b : PagerPart) (t : TargetPart) → IsOn b.geometry (delivers_by released b t)
delivers_by_on None b t = refl
delivers_by_on (Some released) b t = on_either t.is_resumed _ _ b.geometry (delivers_next_on b.inbox b t) refl

pub deliver_on : (b : PagerPart) (t : TargetPart) → IsOn b.geometry (deliver b t)
deliver_on b t = delivers_by_on b.released (settles t.unsettled b) (with_settled t) ∙ settles_on t.unsettled b
