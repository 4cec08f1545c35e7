-- The records that are kept, and those that go.
use Rattle.std.proofs.Common.{◌≡◌, ℕ, zero, suc, ◌⊎◌, inl, inr, ◌||◌, Bool, true, false, List, [], ◌∷◌, length, map, Option, Some, None, refl, sym, ap, ◌∙◌, arith}
use Rattle.std.specs.Prelude.{slice_get, is_some}
use Rattle.std.specs.Option.{option_map}
use Rattle.std.proofs.lemmas.List.{map-id}
use Rattle.std.proofs.lemmas.Option.{slice_get-map}
use Rattle.migration_types.specs.declared.records.GuestRec.{GuestRec}
use Rattle.migration_types.specs.declared.records.GuestRec.TheVariants.{Read, Write, Release, Miss, Halt, Resume, See}
use Rattle.migration_types.specs.Sessions.{Recorded}
use Rattle.audit_model.specs.declared.home.Home.{Home}
use Rattle.audit_model.specs.Flat.{changed, before, home_after, freed_after}
use Rattle.audit_model.specs.Shape.{is_halt, is_resume, earlier}
use Rattle.audit_model.specs.Faults.{looks_at}
use Rattle.audit_model.specs.Windows.{kept_in, rank}
use Rattle.audit_model.proofs.Ranks.{Aligned, came_from, fold_kept}
use Rattle.kept_faults.specs.Thinned.{MayGo, IsThinning}

pub aligned_by_length : {A : Type 0} (marks : List Bool) (log : List A) → length marks ≡ length log → Aligned marks log
aligned_by_length [] [] e n = refl
aligned_by_length [] (x ∷ log) e n = absurd (omega (arith, e))
aligned_by_length (m ∷ marks) [] e n = absurd (omega (arith, e))
aligned_by_length (m ∷ marks) (x ∷ log) e zero = refl
aligned_by_length (m ∷ marks) (x ∷ log) e (suc n) = aligned_by_length marks log (omega (arith, e)) n

-- what stands in what is kept came from a record that is kept
pub kept_from : {A : Type 0} (marks : List Bool) (log : List A) (k : ℕ) (y : A) → slice_get (kept_in marks log) k ≡ Some y → (n : ℕ) × (slice_get log n ≡ Some y) × (slice_get marks n ≡ Some true) × (rank marks n ≡ k)
kept_from {A} marks log k y is =
    let f = came_from (λ (x : A). x) marks log k y (ap (λ l. slice_get l k) (map-id (kept_in marks log)) ∙ is) in
    (f.0, f.2 ∙ ap (λ (z : A). Some z) f.5, f.3, f.4)

-- what kept records say, where those that go say nothing
pub fold_thin : {A V : Type 0} (marks : List Bool) (log : List A) (change change' : A → V → V) (start : V) → Aligned marks log →
    ((n : ℕ) (x : A) (v : V) → slice_get log n ≡ Some x → slice_get marks n ≡ Some true → change' x v ≡ change x v) →
    ((n : ℕ) (x : A) (v : V) → slice_get log n ≡ Some x → slice_get marks n ≡ Some false → v ≡ change x v) →
    (n : ℕ) → before change' start (kept_in marks log) (rank marks n) ≡ before change start log n
fold_thin {A} marks log change change' start aligned same gone n =
    ap (λ l. before change' start l (rank marks n)) (sym (map-id (kept_in marks log)))
    ∙ fold_kept (λ (x : A). x) marks log change change' start aligned same gone n

-- what the records of a log say that were given other numbers
pub before_map : {A B V : Type 0} (f : A → B) (change : A → V → V) (change' : B → V → V) (start : V) → ((x : A) (v : V) → change' (f x) v ≡ change x v) → (log : List A) (n : ℕ) → before change' start (map f log) n ≡ before change start log n
before_map f change change' start same log zero = refl
before_map {A} f change change' start same log (suc n) = ap (λ o. changed change' o (before change' start (map f log) n)) (slice_get-map f log n) ∙ go (slice_get log n) (before_map f change change' start same log n)
  where
    go : (o : Option A) → before change' start (map f log) n ≡ before change start log n → changed change' (option_map f o) (before change' start (map f log) n) ≡ changed change o (before change start log n)
    go None e = e
    go (Some x) e = ap (change' (f x)) e ∙ same x (before change start log n)

pub earlier_map : {A B : Type 0} (f : A → B) (test : A → Bool) (test' : B → Bool) → ((x : A) → test' (f x) ≡ test x) → (log : List A) (n : ℕ) → earlier test' (map f log) n ≡ earlier test log n
earlier_map f test test' same log n = before_map f (λ x found. test x || found) (λ x found. test' x || found) false (λ x v. ap (λ b. b || v) (same x)) log n

-- a record that may go
module _ (marks : List Bool) (s : Recorded) (n : ℕ) where
  pub gone_halt : (x : GuestRec) → MayGo marks s n x → is_halt x ≡ false
  gone_halt (Read v p c y) h = refl
  gone_halt (Write v p c y) h = refl
  gone_halt (Release v p) h = absurd h
  gone_halt (Miss v p) h = absurd h
  gone_halt Halt h = absurd h
  gone_halt (Resume i) h = absurd h
  gone_halt (See i) h = absurd h

  pub gone_resume : (x : GuestRec) → MayGo marks s n x → is_resume x ≡ false
  gone_resume (Read v p c y) h = refl
  gone_resume (Write v p c y) h = refl
  gone_resume (Release v p) h = absurd h
  gone_resume (Miss v p) h = absurd h
  gone_resume Halt h = absurd h
  gone_resume (Resume i) h = absurd h
  gone_resume (See i) h = absurd h

  pub gone_home : (x : GuestRec) (v : Home) → MayGo marks s n x → v ≡ home_after x v
  gone_home (Read v p c y) w h = refl
  gone_home (Write v p c y) w h = refl
  gone_home (Release v p) w h = absurd h
  gone_home (Miss v p) w h = absurd h
  gone_home Halt w h = absurd h
  gone_home (Resume i) w h = absurd h
  gone_home (See i) w h = absurd h

  pub gone_freed : (at : Home) (page : ℕ) (x : GuestRec) (v : Bool) → MayGo marks s n x → v ≡ freed_after at page x v
  gone_freed at page (Read v p c y) w h = refl
  gone_freed at page (Write v p c y) w h = refl
  gone_freed at page (Release v p) w h = absurd h
  gone_freed at page (Miss v p) w h = absurd h
  gone_freed at page Halt w h = absurd h
  gone_freed at page (Resume i) w h = absurd h
  gone_freed at page (See i) w h = absurd h

  pub gone_look : (page : ℕ) (x : GuestRec) → MayGo marks s n x → looks_at s page x ≡ false
  gone_look page (Read v p c y) h = refl
  gone_look page (Write v p c y) h = refl
  gone_look page (Release v p) h = absurd h
  gone_look page (Miss v p) h = absurd h
  gone_look page Halt h = absurd h
  gone_look page (Resume i) h = absurd h
  gone_look page (See i) h = absurd h

module _ (marks : List Bool) (s : Recorded) (thin : IsThinning marks s) where
  pub aligned : Aligned marks s.guest
  aligned = aligned_by_length marks s.guest thin.has_marks

  -- a record is kept, or it may go
  pub kept_or_gone : (n : ℕ) (x : GuestRec) → slice_get s.guest n ≡ Some x → (slice_get marks n ≡ Some true) ⊎ (slice_get marks n ≡ Some false)
  kept_or_gone n x is = go (slice_get marks n) refl
    where
      go : (o : Option Bool) → slice_get marks n ≡ o → (slice_get marks n ≡ Some true) ⊎ (slice_get marks n ≡ Some false)
      go None e = let f : false ≡ true = sym (ap is_some e) ∙ aligned n ∙ ap is_some is in absurd (cc)
      go (Some true) e = inl e
      go (Some false) e = inr e

  -- one that may not go is kept
  pub must_stay : (n : ℕ) (x : GuestRec) → slice_get s.guest n ≡ Some x → (MayGo marks s n x → ⊥) → slice_get marks n ≡ Some true
  must_stay n x is stays = go (kept_or_gone n x is)
    where
      go : (slice_get marks n ≡ Some true) ⊎ (slice_get marks n ≡ Some false) → slice_get marks n ≡ Some true
      go (inl e) = e
      go (inr e) = absurd (stays (thin.may_go n x is e))
