-- The walks to the end of a migration, one record further.
use Rattle.std.proofs.Common.{◌≡◌, ◌≢◌, ℕ, suc, ◌+◌, Bool, false, ◌||◌, List, Some, refl, ap, ◌∙◌, arith}
use Rattle.std.specs.Prelude.{slice_get}
use Rattle.migration_types.specs.declared.records.PagerRec.{PagerRec}
use Rattle.migration_types.specs.declared.records.PagerRec.TheVariants.{Got, Pull, Ready, Fault, Join, Want, Place, Zero, Skip, All}
use Rattle.migration_types.specs.Sessions.{Recorded}
use Rattle.audit_model.specs.Flat.{changed}
use Rattle.audit_model.specs.Shape.{earlier, passes}
use Rattle.page_facts.specs.Tables.{some_before}
use Rattle.completeness.specs.Complete.{places_owed}

-- a record that places no page places none that was owed
pub places_none : (s : Recorded) (r : PagerRec) → ((page got : ℕ) (content : List ℕ) → r ≢ Place page got content) → ((page : ℕ) → r ≢ Zero page) → false ≡ places_owed s r
places_none s (Place page got content) place zero = absurd (place page got content refl)
places_none s (Zero page) place zero = absurd (zero page refl)
places_none s (Got down) place zero = refl
places_none s (Pull down) place zero = refl
places_none s Ready place zero = refl
places_none s (Fault miss) place zero = refl
places_none s (Join want) place zero = refl
places_none s (Want page) place zero = refl
places_none s (Skip got) place zero = refl
places_none s All place zero = refl

-- one record more
pub some_on : {A : Type 0} (test : ℕ → A → Bool) (log : List A) (n : ℕ) (r : A) → slice_get log n ≡ Some r → some_before test log (n + 1) ≡ (test n r || some_before test log n)
some_on test log n r is =
    let one : n + 1 ≡ suc n = omega arith in
    ap (some_before test log) one ∙ ap (λ o. passes (test n) o || some_before test log n) is

pub earlier_on : {A : Type 0} (test : A → Bool) (log : List A) (n : ℕ) (r : A) → slice_get log n ≡ Some r → earlier test log (n + 1) ≡ (test r || earlier test log n)
earlier_on test log n r is =
    let one : n + 1 ≡ suc n = omega arith in
    ap (earlier test log) one ∙ ap (λ o. changed (λ x found. test x || found) o (earlier test log n)) is
