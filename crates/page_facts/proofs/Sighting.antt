-- The page's first look, and its first placement.
use Rattle.std.proofs.Common.{◌≡◌, ℕ, suc, ◌<◌, ◌≤◌, ◌⊎◌, inl, inr, Bool, true, false, length, Some, refl, sym, ap, ◌∙◌, arith}
use Rattle.std.specs.Prelude.{slice_get}
use Rattle.std.proofs.lemmas.Bool.{cases_lt, le-leb}
use Rattle.migration_types.specs.declared.records.GuestRec.{GuestRec}
use Rattle.migration_types.specs.declared.records.GuestRec.TheVariants.{Read, Write, Release, Miss, Halt, Resume, See}
use Rattle.migration_types.specs.declared.records.PagerRec.{PagerRec}
use Rattle.migration_types.specs.Sessions.{Recorded}
use Rattle.audit_model.specs.Shape.{passes, is_placement_of, earlier}
use Rattle.audit_model.specs.Faults.{looks_at}
use Rattle.page_facts.specs.Tables.{first_before}
use Rattle.page_facts.specs.Looks.{first_look}
use Rattle.page_facts.specs.inner.EntryTests.{sees_from}
use Rattle.page_facts.proofs.Before.{some_true, some_false, first_some, IsFirstAt}
use Rattle.page_facts.proofs.Looking.{earlier_some}

module _ (s : Recorded) (page place : ℕ) (first : first_before (λ m. is_placement_of page) s.pager (length s.pager) ≡ Some place) where
  at : IsFirstAt (λ m. is_placement_of page) s.pager (length s.pager) place
  at = first_some (λ m. is_placement_of page) s.pager (length s.pager) place first

  -- a look at a placement of the page or at a later record is one at its first placement or at a later record
  pub looks_reach : (k : ℕ) → looks_at s page (See k) ≡ true → place ≤ k
  looks_reach k e = let w = some_true (λ m. is_placement_of page) s.pager (suc k) (sym (earlier_some (is_placement_of page) s.pager (suc k)) ∙ e) in go w.0 w.1 w.2 w.3 w.4 (cases_lt k place)
    where
      go : (m : ℕ) (r : PagerRec) → slice_get s.pager m ≡ Some r → is_placement_of page r ≡ true → m < suc k → (k < place) ⊎ (place ≤ k) → place ≤ k
      go m r is t lt (inr le) = le
      go m r is t lt (inl less) = let f = at.is_first m r is (omega arith) in absurd (cc)

  pub reach_looks : (k : ℕ) → place ≤ k → looks_at s page (See k) ≡ true
  reach_looks k le = go (earlier (is_placement_of page) s.pager (suc k)) refl
    where
      go : (b : Bool) → earlier (is_placement_of page) s.pager (suc k) ≡ b → b ≡ true
      go true e = refl
      go false e =
          let f = some_false (λ m. is_placement_of page) s.pager (suc k) (sym (earlier_some (is_placement_of page) s.pager (suc k)) ∙ e) place at.by at.stands (omega arith) in
          let t = at.passes_test in
          absurd (cc)

  look_sees : (r : GuestRec) → looks_at s page r ≡ true → sees_from place r ≡ true
  look_sees (See k) e = le-leb place k (looks_reach k e)
  look_sees (Read v q d x) e = absurd (cc)
  look_sees (Write v q d x) e = absurd (cc)
  look_sees (Release v q) e = absurd (cc)
  look_sees (Miss v q) e = absurd (cc)
  look_sees Halt e = absurd (cc)
  look_sees (Resume i) e = absurd (cc)

  -- the page's first look sees its first placement
  pub first_sees : (n : ℕ) → first_look s (length s.guest) page ≡ Some n → passes (sees_from place) (slice_get s.guest n) ≡ true
  first_sees n e = let f = first_some (λ m. looks_at s page) s.guest (length s.guest) n e in ap (λ o. passes (sees_from place) o) f.stands ∙ look_sees f.by f.passes_test
