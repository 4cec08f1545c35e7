-- The first record that passes a test, and of which page it is.
use Rattle.std.proofs.Common.{◌≡◌, ℕ, ◌<◌, ◌⊎◌, inl, inr, Bool, true, false, List, Option, Some, None, refl, ap}
use Rattle.std.specs.Prelude.{slice_get, ◌==◌, is_some}
use Rattle.std.proofs.lemmas.Bool.{cases_order, and_parts}
use Rattle.migration_types.specs.declared.records.SourceRec.{SourceRec}
use Rattle.migration_types.specs.declared.records.SourceRec.TheVariants.{Halted, State, Send, Again, Ask, Done, Back}
use Rattle.migration_types.specs.declared.records.PagerRec.{PagerRec}
use Rattle.migration_types.specs.declared.records.PagerRec.TheVariants.{Got, Pull, Ready, Fault, Join, Want, Place, Zero, Skip, All}
use Rattle.migration_types.specs.Sessions.{Recorded}
use Rattle.audit_model.specs.Shape.{is_placement_of}
use Rattle.migration_types.specs.Paged.{source_page, pager_page}
use Rattle.migration_types.specs.Paged.{of_page}
use Rattle.page_facts.specs.Tables.{some_before, first_before}
use Rattle.page_facts.specs.Judged.{is_wrong_send, is_altered}
use Rattle.page_facts.proofs.Before.{some_true, some_false, first_none, first_some, IsFirstAt}

module _ {A : Type 0} (test : ℕ → A → Bool) (log : List A) where
  -- the first that passes is the first
  pub first_is : (n k : ℕ) → IsFirstAt test log n k → first_before test log n ≡ Some k
  first_is n k at = go (first_before test log n) refl
    where
      order : (j : ℕ) → first_before test log n ≡ Some j → (j ≡ k) ⊎ ((j < k) ⊎ (k < j)) → Some j ≡ Some k
      order j e (inl same) = ap (λ i. Some i) same
      order j e (inr (inl lt)) = let f = first_some test log n j e in let no_one = at.is_first j f.by f.stands lt in let yes_one = f.passes_test in absurd (cc)
      order j e (inr (inr lt)) = let f = first_some test log n j e in let no_one = f.is_first k at.by at.stands lt in let yes_one = at.passes_test in absurd (cc)

      go : (o : Option ℕ) → first_before test log n ≡ o → o ≡ Some k
      go None e = let no_one = first_none test log n e k at.by at.stands at.below in let yes_one = at.passes_test in absurd (cc)
      go (Some j) e = order j e (cases_order j k)

  pub none_is_first : (n : ℕ) → ((m : ℕ) (r : A) → slice_get log m ≡ Some r → m < n → test m r ≡ false) → first_before test log n ≡ None
  none_is_first n none = go (first_before test log n) refl
    where
      go : (o : Option ℕ) → first_before test log n ≡ o → o ≡ None
      go None e = refl
      go (Some j) e = let f = first_some test log n j e in let no_one = none j f.by f.stands f.below in let yes_one = f.passes_test in absurd (cc)

  -- whether one passes is whether there is a first
  pub some_is_first : (n : ℕ) → some_before test log n ≡ is_some (first_before test log n)
  some_is_first n = go (first_before test log n) refl (some_before test log n) refl
    where
      go : (o : Option ℕ) → first_before test log n ≡ o → (b : Bool) → some_before test log n ≡ b → b ≡ is_some o
      go None e false t = refl
      go None e true t = let w = some_true test log n t in let no_one = first_none test log n e w.0 w.1 w.2 w.4 in let yes_one = w.3 in absurd (cc)
      go (Some j) e true t = refl
      go (Some j) e false t = let f = first_some test log n j e in let no_one = some_false test log n t j f.by f.stands f.below in let yes_one = f.passes_test in absurd (cc)

-- ---- what passes is of the page

pub send_only : (s : Recorded) (page n : ℕ) (r : SourceRec) → is_wrong_send s page n r ≡ true → of_page source_page page r ≡ true
send_only s page n (Send p content) t = (and_parts (p == page) _ t).0
send_only s page n (Halted h) t = absurd (cc)
send_only s page n State t = absurd (cc)
send_only s page n (Again i) t = absurd (cc)
send_only s page n (Ask i) t = absurd (cc)
send_only s page n Done t = absurd (cc)
send_only s page n Back t = absurd (cc)

pub altered_only : (s : Recorded) (page n : ℕ) (r : PagerRec) → is_altered s page n r ≡ true → of_page pager_page page r ≡ true
altered_only s page n (Place p got content) t = (and_parts (p == page) _ t).0
altered_only s page n (Zero p) t = (and_parts (p == page) _ t).0
altered_only s page n (Got d) t = absurd (cc)
altered_only s page n (Pull d) t = absurd (cc)
altered_only s page n Ready t = absurd (cc)
altered_only s page n (Fault i) t = absurd (cc)
altered_only s page n (Join w) t = absurd (cc)
altered_only s page n (Want q) t = absurd (cc)
altered_only s page n (Skip k) t = absurd (cc)
altered_only s page n All t = absurd (cc)

pub placed_is : (page : ℕ) (r : PagerRec) → of_page pager_page page r ≡ is_placement_of page r
placed_is page (Place p got content) = refl
placed_is page (Zero p) = refl
placed_is page (Got d) = refl
placed_is page (Pull d) = refl
placed_is page Ready = refl
placed_is page (Fault i) = refl
placed_is page (Join w) = refl
placed_is page (Want q) = refl
placed_is page (Skip k) = refl
placed_is page All = refl
