-- The first records of a log.
use Rattle.std.proofs.Common.{◌≡◌, ℕ, zero, suc, ◌<◌, ◌≤◌, ◌||◌, ◌↔◌, Bool, true, false, List, [], ◌∷◌, take, Option, Some, None, refl, sym, ap, ◌∙◌, subst, arith}
use Rattle.std.specs.Prelude.{slice_get}
use Rattle.std.specs.List.{list_any}
use Rattle.migration_types.specs.declared.records.GuestRec.{GuestRec}
use Rattle.migration_types.specs.declared.records.GuestRec.TheVariants.{Halt}
use Rattle.audit_model.specs.Flat.{changed, before, halt_place}
use Rattle.audit_model.specs.Faults.{if_fault}

-- a record that is taken
pub taken_at : {A : Type 0} (k : ℕ) (log : List A) (n : ℕ) → n < k → slice_get (take k log) n ≡ slice_get log n
taken_at zero log n lt = absurd (omega arith)
taken_at (suc k) [] n lt = refl
taken_at (suc k) (x ∷ log) zero lt = refl
taken_at (suc k) (x ∷ log) (suc n) lt = taken_at k log n (omega arith)

pub taken_is : {A : Type 0} (k : ℕ) (log : List A) (n : ℕ) (x : A) → slice_get (take k log) n ≡ Some x → (n < k) × (slice_get log n ≡ Some x)
taken_is zero log n x e = absurd (cc)
taken_is (suc k) [] n x e = absurd (cc)
taken_is (suc k) (y ∷ log) zero x e = (omega arith, e)
taken_is (suc k) (y ∷ log) (suc n) x e = let r = taken_is k log n x e in let lt = r.0 in (omega (arith, lt), r.1)

-- a value is changed by the records before a place alone
pub before_taken : {A B : Type 0} (change : A → B → B) (start : B) (k : ℕ) (log : List A) (n : ℕ) → n ≤ k → before change start (take k log) n ≡ before change start log n
before_taken change start k log zero le = refl
before_taken change start k log (suc n) le =
    ap (λ o. changed change o (before change start (take k log) n)) (taken_at k log n (omega arith))
    ∙ ap (changed change (slice_get log n)) (before_taken change start k log n (omega arith))

pub halt_taken : (k : ℕ) (log : List GuestRec) → halt_place log ≤ k → halt_place (take k log) ≡ halt_place log
halt_taken zero log le = omega (arith, le)
halt_taken (suc k) [] le = refl
halt_taken (suc k) (Halt ∷ log) le = refl
halt_taken (suc k) (x ∷ log) le = ap suc (halt_taken k log (omega arith))

pub none_taken : {A : Type 0} (test : A → Bool) (k : ℕ) (log : List A) → list_any test log ≡ false → list_any test (take k log) ≡ false
none_taken test zero log e = refl
none_taken test (suc k) [] e = refl
none_taken test (suc k) (x ∷ log) e = go (test x) (list_any test log) (list_any test (take k log)) (none_taken test k log) e
  where
    go : (a b d : Bool) → (b ≡ false → d ≡ false) → (a || b) ≡ false → (a || d) ≡ false
    go true b d f e = absurd (cc)
    go false b d f e = f e

-- a fault of a record that is taken
pub fault_taken : {A : Type 0} (fault fault' : A → Type 0) (k : ℕ) (log : List A) (n : ℕ) → n < k → ((x : A) → slice_get log n ≡ Some x → fault x ↔ fault' x) → if_fault fault (slice_get log n) ↔ if_fault fault' (slice_get (take k log) n)
fault_taken {A} fault fault' k log n lt same = subst (λ o. if_fault fault (slice_get log n) ↔ if_fault fault' o) (sym (taken_at k log n lt)) (go (slice_get log n) refl)
  where
    go : (o : Option A) → slice_get log n ≡ o → if_fault fault o ↔ if_fault fault' o
    go None is = (λ h. h, λ h. h)
    go (Some x) is = same x is

-- the record that has a fault
pub faulty_is : {A : Type 0} (fault : A → Type 0) (k : ℕ) (log : List A) (n : ℕ) → if_fault fault (slice_get (take k log) n) → (x : A) × (n < k) × (slice_get log n ≡ Some x) × fault x
faulty_is {A} fault k log n h = go (slice_get (take k log) n) refl h
  where
    go : (o : Option A) → slice_get (take k log) n ≡ o → if_fault fault o → (x : A) × (n < k) × (slice_get log n ≡ Some x) × fault x
    go None is h = absurd h
    go (Some x) is h = let r = taken_is k log n x is in (x, r.0, r.1, h)
