-- How many records a miss appends once the pages are settled.
use Rattle.std.proofs.Common.{◌≡◌, ℕ, ◌+◌, Bool, true, false, ◌||◌, List, [], ◌∷◌, length, Option, Some, None, refl, sym, ap, ◌∙◌, subst, arith}
use Rattle.std.specs.Prelude.{is_some, slice_get}
use Rattle.migration_types.specs.declared.records.PagerRec.TheVariants.{Fault, Zero}
use Rattle.residency.specs.Placements.{is_resident}
use Rattle.fault_queue.specs.Waiting.{is_asked, is_waiting, without_all}
use Rattle.target_side.specs.TargetPart.{TargetPart, with_misses}
use Rattle.target_side.specs.declared.access.UntakenMiss.{UntakenMiss}
use Rattle.target_side.specs.PagerPart.{PagerPart, Paged, is_released, faults, faults_by, next_fault}
use Rattle.target_side.specs.PagerLists.{IsKept}
use Rattle.target_side.specs.inner.Steps.{learned}
use Rattle.target_side.proofs.Branches.{fault_zero, fault_asks}
use Rattle.target_side.proofs.Lists.{length_more}
use Rattle.target_side.proofs.Paging.{two_more, asks_length}
use Rattle.target_side.proofs.Settling.{branches, dropped, next_fault_over, kept_dropped}

-- what is settled makes no difference
next_log : (b : PagerPart) (t : TargetPart) → length (next_fault b t).pager.log ≡ length (faults_by b.released t.misses (dropped b t) t).pager.log
next_log b t = ap (λ (g : Paged). length g.pager.log) (next_fault_over b t)

-- the state has not come, or there is no miss
pub counts_early : (b : PagerPart) (t : TargetPart) → is_some b.released ≡ false → length (next_fault b t).pager.log ≡ length b.log
counts_early b t early = next_log b t ∙ go b.released early
  where
    go : (o : Option (List ℕ)) → is_some o ≡ false → length (faults_by o t.misses (dropped b t) t).pager.log ≡ length b.log
    go None e = refl
    go (Some released) e = absurd (cc)

pub counts_none : (b : PagerPart) (t : TargetPart) → slice_get t.misses 0 ≡ None → length (next_fault b t).pager.log ≡ length b.log
counts_none b t none = next_log b t ∙ go b.released t.misses none
  where
    go : (o : Option (List ℕ)) (misses : List UntakenMiss) → slice_get misses 0 ≡ None → length (faults_by o misses (dropped b t) t).pager.log ≡ length b.log
    go None misses e = refl
    go (Some released) [] e = refl
    go (Some released) (y ∷ rest) e = absurd (cc)

-- nothing follows from the miss
one_record : (x : UntakenMiss) (rest : List UntakenMiss) (b : PagerPart) (t : TargetPart) → (is_resident (t.placed x.page) (t.freed x.page) || is_waiting x.vcpu b.waiting) ≡ true → length (faults (x ∷ rest) b t).pager.log ≡ length b.log + 1
one_record x rest b t is = go (is_resident (t.placed x.page) (t.freed x.page)) (is_waiting x.vcpu b.waiting) is
  where
    go : (r w : Bool) → (r || w) ≡ true → length (branches r w (is_released b.released x.page) (is_asked x.page b.waiting) (b.wants x.page) x.page x.vcpu (learned x.number b) (with_misses rest t)).pager.log ≡ length b.log + 1
    go true w e = omega (arith, length_more b.log (Fault x.number))
    go false true e = omega (arith, length_more b.log (Fault x.number))
    go false false e = absurd (cc)

-- the page is placed as zeros, or asked for
two_records : (x : UntakenMiss) (rest : List UntakenMiss) (b : PagerPart) (t : TargetPart) → IsKept b → (is_resident (t.placed x.page) (t.freed x.page) || is_waiting x.vcpu b.waiting) ≡ false → length (faults (x ∷ rest) b t).pager.log ≡ length b.log + 2
two_records x rest b t k is =
    let neither = apart (is_resident (t.placed x.page) (t.freed x.page)) (is_waiting x.vcpu b.waiting) is in
    go (is_released b.released x.page) refl neither.0 neither.1
  where
    apart : (r w : Bool) → (r || w) ≡ false → (r ≡ false) × (w ≡ false)
    apart true w e = absurd (cc)
    apart false w e = (refl, e)

    go : (z : Bool) → is_released b.released x.page ≡ z → is_resident (t.placed x.page) (t.freed x.page) ≡ false → is_waiting x.vcpu b.waiting ≡ false → length (faults (x ∷ rest) b t).pager.log ≡ length b.log + 2
    go true z r w = ap (λ (g : Paged). length g.pager.log) (fault_zero x.page x.vcpu (learned x.number b) (with_misses rest t) r w z) ∙ two_more b.log (Fault x.number) (Zero x.page)
    go false z r w = ap (λ (g : Paged). length g.pager.log) (fault_asks x.page x.vcpu (learned x.number b) (with_misses rest t) r w z) ∙ asks_length b x.number x.page x.vcpu k

-- the same of the call
module _ (b : PagerPart) (t : TargetPart) (x : UntakenMiss) (ready : is_some b.released ≡ true) (first : slice_get t.misses 0 ≡ Some x) where
  by_first : (n : ℕ) → ((rest : List UntakenMiss) → length (faults (x ∷ rest) (dropped b t) t).pager.log ≡ length b.log + n) → length (next_fault b t).pager.log ≡ length b.log + n
  by_first n each = next_log b t ∙ go b.released t.misses ready first
    where
      go : (o : Option (List ℕ)) (misses : List UntakenMiss) → is_some o ≡ true → slice_get misses 0 ≡ Some x → length (faults_by o misses (dropped b t) t).pager.log ≡ length b.log + n
      go None misses e f = absurd (cc)
      go (Some released) [] e f = absurd (cc)
      go (Some released) (y ∷ rest) e f =
          let same : y ≡ x = cc in
          subst (λ (z : UntakenMiss). length (faults (z ∷ rest) (dropped b t) t).pager.log ≡ length b.log + n) (sym same) (each rest)

  pub counts_one : (is_resident (t.placed x.page) (t.freed x.page) || is_waiting x.vcpu (without_all t.unsettled b.waiting)) ≡ true → length (next_fault b t).pager.log ≡ length b.log + 1
  counts_one is = by_first 1 (λ rest. one_record x rest (dropped b t) t is)

  pub counts_two : IsKept b → (is_resident (t.placed x.page) (t.freed x.page) || is_waiting x.vcpu (without_all t.unsettled b.waiting)) ≡ false → length (next_fault b t).pager.log ≡ length b.log + 2
  counts_two k is = by_first 2 (λ rest. two_records x rest (dropped b t) t (kept_dropped t.unsettled b k) is)
