-- The branches of the calls on both books.
use Rattle.std.proofs.Common.{◌≡◌, ℕ, Bool, true, false, cond, [], refl, ap, ◌∙◌}
use Rattle.residency.specs.Placements.{is_resident}
use Rattle.fault_queue.specs.Waiting.{is_asked, is_waiting}
use Rattle.target_side.specs.TargetPart.{TargetPart}
use Rattle.target_side.specs.PagerPart.{PagerPart, Paged, fault_new, fault_join, fault_absent, fault_at, zeroes, is_released}
use Rattle.target_side.specs.inner.Steps.{asks}

-- both books as they were, and nobody woken
abbrev pub unchanged : PagerPart → TargetPart → Paged
unchanged b t = record { pager = b; target = t; woken = [] }

-- the branches of a fault on a page that is not there
abbrev branched : Bool → Bool → Bool → ℕ → ℕ → PagerPart → TargetPart → Paged
branched waits releases asked p v b t = cond waits (unchanged b t) (cond releases (zeroes p b t) (cond asked (unchanged (fault_join p v (b.wants p) b) t) (unchanged (fault_new p v b) t)))

pub fault_zero : (p v : ℕ) (b : PagerPart) (t : TargetPart) → is_resident (t.placed p) (t.freed p) ≡ false → is_waiting v b.waiting ≡ false → is_released b.released p ≡ true → fault_at p v b t ≡ zeroes p b t
fault_zero p v b t none away is =
    ap (λ c. cond c (unchanged b t) (fault_absent p v b t)) none
    ∙ ap (λ c. branched c (is_released b.released p) (is_asked p b.waiting) p v b t) away
    ∙ ap (λ c. branched false c (is_asked p b.waiting) p v b t) is

pub fault_asks : (p v : ℕ) (b : PagerPart) (t : TargetPart) → is_resident (t.placed p) (t.freed p) ≡ false → is_waiting v b.waiting ≡ false → is_released b.released p ≡ false → fault_at p v b t ≡ unchanged (asks p v b) t
fault_asks p v b t none away is =
    ap (λ c. cond c (unchanged b t) (fault_absent p v b t)) none
    ∙ ap (λ c. branched c (is_released b.released p) (is_asked p b.waiting) p v b t) away
    ∙ ap (λ c. branched false c (is_asked p b.waiting) p v b t) is
    ∙ asked_or_new (is_asked p b.waiting)
  where
    asked_or_new : (c : Bool) → cond c (unchanged (fault_join p v (b.wants p) b) t) (unchanged (fault_new p v b) t) ≡ unchanged (cond c (fault_join p v (b.wants p) b) (fault_new p v b)) t
    asked_or_new true = refl
    asked_or_new false = refl
