-- A history that grows at its end.
use Rattle.std.proofs.Common.{◌≡◌, List, [], ◌∷◌, ◌++◌, length, refl, sym, ap, ◌∙◌, subst, arith}
use Rattle.std.specs.List.{AllByRecursion}
use Rattle.std.proofs.lemmas.Option.{slice_get_within}
use Rattle.migration_types.specs.declared.records.GuestRec.{GuestRec}
use Rattle.migration_types.specs.declared.records.GuestRec.TheVariants.{Miss}
use Rattle.target_side.specs.declared.access.UntakenMiss.{UntakenMiss}
use Rattle.target_side.specs.TargetPart.{TargetPart}
use Rattle.target_side.specs.History.{Happening, Did, Placed, guest_part, Target, untouched, target_after, target_at, Meets, IsHistory, IsRecorded, Holds, IsHistoryOf}
use Rattle.target_side.proofs.Logs.{get_old, before_push, before_end, all_push}

guest_push : (h : List Happening) (x : Happening) → guest_part (h ++ x ∷ []) ≡ guest_part h ++ guest_part (x ∷ [])
guest_push [] x = refl
guest_push (Did r ∷ h) x = ap (λ (log : List GuestRec). r ∷ log) (guest_push h x)
guest_push (Placed p k xs ∷ h) x = guest_push h x

demands_push : (h : List Happening) (x : Happening) → IsHistory h → Meets x (target_at h (length h)) → IsHistory (h ++ x ∷ [])
demands_push h x all here =
    all_push (λ n y. Meets y (target_at h n)) (λ n y. Meets y (target_at (h ++ x ∷ []) n)) h x all
    (λ n y is met.
    let lt = slice_get_within h n y is in
    subst (λ (t : Target). Meets y t) (sym (before_push target_after untouched h (x ∷ []) n (omega (arith, lt)))) met)
    (subst (λ (t : Target). Meets x t) (sym (before_push target_after untouched h (x ∷ []) (length h) (omega arith))) here)

-- misses are recorded in a longer log
pub recorded_more : (log records : List GuestRec) (misses : List UntakenMiss) → AllByRecursion (IsRecorded log) misses → AllByRecursion (IsRecorded (log ++ records)) misses
recorded_more log records [] all = tt
recorded_more log records (m ∷ misses) all = (get_old log records m.number (Miss m.vcpu m.page) all.0, recorded_more log records misses all.1)

-- one happening more, for a book whose log has grown by what of it is the guest's
pub pushed : (h : List Happening) (x : Happening) (old new : TargetPart) → IsHistoryOf old h → Meets x (target_at h (length h)) → new.log ≡ old.log ++ guest_part (x ∷ []) → Holds (target_after x (target_at h (length h))) new → AllByRecursion (IsRecorded new.log) new.misses →
    IsHistoryOf new (h ++ x ∷ [])
pushed h x old new was met log holds misses = record {
  demands = demands_push h x was.demands met;
  log = guest_push h x ∙ ap (λ (l : List GuestRec). l ++ guest_part (x ∷ [])) was.log ∙ sym log;
  holds = subst (λ (t : Target). Holds t new) (sym (before_end target_after untouched h x)) holds;
  misses = misses;
}
