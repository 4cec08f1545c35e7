-- A pass that comes after the first refuses a recording only where that changed.
use Rattle.std.proofs.Common.{◌≡◌, ℕ, Result, Ok, Err, sym, subst, ◌∙◌, arith, inl, inr}
use Rattle.std.specs.Prelude.{IfErr, IfOk}
use Rattle.migration_types.specs.Sessions.{Recorded}
use Rattle.windows.specs.declared.faults.CutFault.{CutFault}
use Rattle.windows.specs.declared.faults.CutFault.TheVariants.{Recording, Outside, Changed, Memory}
use Rattle.windows.specs.declared.marking.Marks.{Marks}
use Rattle.windows.specs.declared.pages.Window.{Window}
use Rattle.windows.specs.Cuts.{IsBeyond, IsNotCutBy, IsOf, IsOnly, IsOutside}
use Rattle.windows.specs.Pages.{numbers_of}
use Rattle.windows.specs.inner.Met.{Found}
use Rattle.windows.specs.inner.Settled.{IsFoundIn, IsNotWrittenBy, found_later, later}
use Rattle.windows.proofs.Same.{settled_again}

not_both : (w : Window) (pages : ℕ) → IsOf w pages → IsBeyond w pages → ⊥
not_both w pages within (inl none) = omega (arith, within.0, none)
not_both w pages within (inr past) = omega (arith, within.1, past)

module _ (Is : Recorded → Type 0) (w : Window) where
  -- one recording whose machine has these pages has no machine that has not
  not_outside : (known found : Marks) → IsFoundIn Is w known found → IsOutside Is w → (s : Recorded) → IsOnly Is s → ⊥
  not_outside known found i o s one =
      let same : o.s ≡ i.s = one.only o.s o.is ∙ sym (one.only i.s i.is) in
      not_both w i.s.geometry.pages i.inside (subst (λ (t : Recorded). IsBeyond w t.geometry.pages) same o.outside)

  -- of a recording that the first pass went through, a later one is not refused for want of pages
  later_not_cut : {F : Type 0} (known found : Marks) (fault : CutFault F) → IsFoundIn Is w known found → IsNotCutBy Is w fault → IsNotCutBy Is w (later fault)
  later_not_cut known found (Recording fault) i h = tt
  later_not_cut known found Outside i h = not_outside known found i h
  later_not_cut known found Changed i h = h
  later_not_cut known found Memory i h = tt

  pub later_err : {T F : Type 0} (known found : Marks) (r : Result T (CutFault F)) (fault : CutFault F) → IsFoundIn Is w known found → Err fault ≡ found_later r → IfErr r (IsNotCutBy Is w) → IsNotCutBy Is w fault
  later_err known found (Ok t) fault i e h = absurd cc
  later_err {F = F} known found (Err f) fault i e h = let is : later f ≡ fault = cc in subst (λ (x : CutFault F). IsNotCutBy Is w x) is (later_not_cut known found f i h)

  found_of : (known found : Marks) (s : Recorded) → IsOnly Is s → IsFoundIn Is w known found → Found (numbers_of w) known found s
  found_of known found s one i = subst (Found (numbers_of w) known found) (one.only i.s i.is) i.is_found

  never_changed : {F : Type 0} (m0 m1 m2 m3 : Marks) (fault : CutFault F) → IsFoundIn Is w m0 m1 → IsFoundIn Is w m1 m2 → IsFoundIn Is w m2 m3 → IsNotWrittenBy Is w m3 fault → IsNotCutBy Is w (later fault)
  never_changed m0 m1 m2 m3 (Recording fault) f1 f2 f3 h = tt
  never_changed m0 m1 m2 m3 Outside f1 f2 f3 h = not_outside m0 m1 f1 h
  never_changed m0 m1 m2 m3 Changed f1 f2 f3 h = λ s one.
      h.others (settled_again (numbers_of w) s m0 m1 m2 m3 h.found (found_of m0 m1 s one f1) (found_of m1 m2 s one f2) (found_of m2 m3 s one f3) (subst (Found (numbers_of w) m3 h.found) (one.only h.s h.is) h.is_found))
  never_changed m0 m1 m2 m3 Memory f1 f2 f3 h = tt

  -- why a fourth pass writes no window is why there is none
  pub never_written : {T F : Type 0} (m0 m1 m2 m3 : Marks) (r : Result T (CutFault F)) → IsFoundIn Is w m0 m1 → IsFoundIn Is w m1 m2 → IsFoundIn Is w m2 m3 → IfErr r (IsNotWrittenBy Is w m3) → IfErr (found_later r) (IsNotCutBy Is w)
  never_written m0 m1 m2 m3 (Ok t) f1 f2 f3 h = tt
  never_written m0 m1 m2 m3 (Err f) f1 f2 f3 h = never_changed m0 m1 m2 m3 f f1 f2 f3 h

-- what is found by a later pass is what the pass found
pub later_ok : {T F : Type 0} (r : Result T (CutFault F)) (v : T) (Holds : T → Type 0) → Ok v ≡ found_later r → IfOk r Holds → Holds v
later_ok (Ok t) v Holds e h = let is : v ≡ t = cc in subst Holds (sym is) h
later_ok (Err f) v Holds e h = absurd cc

pub ok_later : {T F : Type 0} (r : Result T (CutFault F)) (Holds : T → Type 0) → IfOk r Holds → IfOk (found_later r) Holds
ok_later (Ok t) Holds h = h
ok_later (Err f) Holds h = tt
