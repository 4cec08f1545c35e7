-- Faulty pages of no page, of one more, and of more behind them.
use Rattle.std.proofs.Common.{◌≡◌, ◌≢◌, ℕ, suc, ◌+◌, ◌<◌, ◌≤◌, ◌⊎◌, inl, inr, List, [], ◌∷◌, ◌++◌, length, refl, sym, ◌∙◌, subst, arith, length-append}
use Rattle.std.specs.List.{All, AllPairs}
use Rattle.std.proofs.lemmas.Bool.{cases_lt}
use Rattle.std.proofs.lemmas.List.Elements.{All-nil, All-cons, All-head, All-tail, All-append, All-weaker}
use Rattle.std.proofs.lemmas.List.Kept.{AllPairs-cons}
use Rattle.migration_types.specs.Limits.{most_pages}
use Rattle.migration_types.specs.Sessions.{Recorded, line_of}
use Rattle.page_facts.specs.declared.page_fault.PageFault.{PageFault}
use Rattle.page_facts.specs.PageFaults.{IsClean, IsFirstFault}
use Rattle.page_facts.specs.declared.faulty.FaultyPage.{FaultyPage}
use Rattle.page_facts.specs.FaultyPages.{AreFaultyBelow, AreFaultyFrom, AreManyFrom, IsFaultyPage}

-- ---- lists one behind the other

all_left : {A : Type 0} (P : A → Type 0) (xs ys : List A) → All P (xs ++ ys) → All P xs
all_left P [] ys all = All-nil P
all_left P (x ∷ xs) ys all = All-cons P x xs (All-head P x (xs ++ ys) all) (all_left P xs ys (All-tail P x (xs ++ ys) all))

all_right : {A : Type 0} (P : A → Type 0) (xs ys : List A) → All P (xs ++ ys) → All P ys
all_right P [] ys all = all
all_right P (x ∷ xs) ys all = all_right P xs ys (All-tail P x (xs ++ ys) all)

pairs_joined : {A : Type 0} (R : A → A → Type 0) (xs ys : List A) → AllPairs R xs → AllPairs R ys → All (λ (x : A). All (R x) ys) xs → AllPairs R (xs ++ ys)
pairs_joined R [] ys low high across = high
pairs_joined {A} R (x ∷ xs) ys low high across =
    AllPairs-cons R x (xs ++ ys) (All-append (R x) xs ys (λ k d lt. low 0 (suc k) d (omega arith) (omega (arith, lt))) (All-head (λ (z : A). All (R z) ys) x xs across))
    (pairs_joined R xs ys (λ i j d lt within. low (suc i) (suc j) d (omega (arith, lt)) (omega (arith, within))) high (All-tail (λ (z : A). All (R z) ys) x xs across))

-- ---- numbers that ascend

-- pages that ascend, from one on and below another, are no more than lie between
few_between : (first end : ℕ) (xs : List FaultyPage) → first ≤ end → AllPairs (λ a b. a.fault.page < b.fault.page) xs → All (λ (f : FaultyPage). first ≤ f.fault.page) xs → All (λ (f : FaultyPage). f.fault.page < end) xs → first + length xs ≤ end
few_between first end [] le pairs from below = omega (arith, le)
few_between first end (x ∷ xs) le pairs from below =
    let ge = All-head (λ (f : FaultyPage). first ≤ f.fault.page) x xs from in
    let lt = All-head (λ (f : FaultyPage). f.fault.page < end) x xs below in
    let rest = few_between (suc x.fault.page) end xs (omega (arith, lt)) (λ i j d less within. pairs (suc i) (suc j) d (omega (arith, less)) (omega (arith, within))) (λ k d within. omega (arith, pairs 0 (suc k) d (omega arith) (omega (arith, within)))) (All-tail (λ (f : FaultyPage). f.fault.page < end) x xs below) in
    omega (arith, rest, ge)

-- ---- faulty pages

module _ (s : Recorded) where
  pub no_page : (first : ℕ) → AreFaultyFrom s first 0 []
  no_page first = record {
    ascending = λ i j d lt within. absurd (omega arith);
    from = All-nil (λ (f : FaultyPage). first ≤ f.fault.page);
    within = All-nil (λ (f : FaultyPage). f.fault.page < first + 0);
    faulty = All-nil (IsFaultyPage s);
    others = λ page ge lt none. absurd (omega arith);
  }

  pub joined : (first count more : ℕ) (xs ys : List FaultyPage) → AreFaultyFrom s first count xs → AreFaultyFrom s (first + count) more ys → AreFaultyFrom s first (count + more) (xs ++ ys)
  joined first count more xs ys low high = record {
    ascending = pairs_joined (λ (a b : FaultyPage). a.fault.page < b.fault.page) xs ys low.ascending high.ascending (λ k d lt j e within. let a = low.within k d lt in let b = high.from j e within in omega arith);
    from = All-append (λ (f : FaultyPage). first ≤ f.fault.page) xs ys low.from (All-weaker (λ (f : FaultyPage). first + count ≤ f.fault.page) (λ (f : FaultyPage). first ≤ f.fault.page) (λ f le. omega arith) ys high.from);
    within = All-append (λ (f : FaultyPage). f.fault.page < first + (count + more)) xs ys (All-weaker (λ (f : FaultyPage). f.fault.page < first + count) (λ (f : FaultyPage). f.fault.page < first + (count + more)) (λ f lt. omega arith) xs low.within) (All-weaker (λ (f : FaultyPage). f.fault.page < first + count + more) (λ (f : FaultyPage). f.fault.page < first + (count + more)) (λ f lt. omega arith) ys high.within);
    faulty = All-append (IsFaultyPage s) xs ys low.faulty high.faulty;
    others = λ page ge lt none. go page ge lt none (cases_lt page (first + count));
  }
    where
      go : (page : ℕ) → first ≤ page → page < first + (count + more) → All (λ (f : FaultyPage). f.fault.page ≢ page) (xs ++ ys) → (page < first + count) ⊎ (first + count ≤ page) → IsClean s page
      go page ge lt none (inl less) = low.others page ge less (all_left (λ (f : FaultyPage). f.fault.page ≢ page) xs ys none)
      go page ge lt none (inr more) = high.others page more (omega arith) (all_right (λ (f : FaultyPage). f.fault.page ≢ page) xs ys none)

  -- this one page has a fault
  one_faulty : (page : ℕ) (one : FaultyPage) → one.fault.page ≡ page → IsFaultyPage s one → AreFaultyFrom s page 1 (one ∷ [])
  one_faulty page one is_page first = record {
    ascending = λ i j d lt within. absurd (omega arith);
    from = All-cons (λ (f : FaultyPage). page ≤ f.fault.page) one [] (omega arith) (All-nil (λ (f : FaultyPage). page ≤ f.fault.page));
    within = All-cons (λ (f : FaultyPage). f.fault.page < page + 1) one [] (omega arith) (All-nil (λ (f : FaultyPage). f.fault.page < page + 1));
    faulty = All-cons (IsFaultyPage s) one [] first (All-nil (IsFaultyPage s));
    others = λ other ge lt none. absurd (All-head (λ (f : FaultyPage). f.fault.page ≢ other) one [] none (omega arith));
  }

  pub more_clean : (first count page : ℕ) (found : List FaultyPage) → page ≡ first + count → AreFaultyFrom s first count found → IsClean s page → AreFaultyFrom s first (count + 1) found
  more_clean first count page found here old clean = record {
    ascending = old.ascending;
    from = old.from;
    within = All-weaker (λ (f : FaultyPage). f.fault.page < first + count) (λ (f : FaultyPage). f.fault.page < first + (count + 1)) (λ f lt. omega arith) found old.within;
    faulty = old.faulty;
    others = λ other ge lt none. go other ge lt none (cases_lt other (first + count));
  }
    where
      go : (other : ℕ) → first ≤ other → other < first + (count + 1) → All (λ (f : FaultyPage). f.fault.page ≢ other) found → (other < first + count) ⊎ (first + count ≤ other) → IsClean s other
      go other ge lt none (inl less) = old.others other ge less none
      go other ge lt none (inr more) = let same : page ≡ other = omega arith in subst (λ (p : ℕ). IsClean s p) same clean

  pub more_faulty : (first count page : ℕ) (found : List FaultyPage) (one : FaultyPage) → page ≡ first + count → AreFaultyFrom s first count found → one.fault.page ≡ page → IsFaultyPage s one → AreFaultyFrom s first (count + 1) (found ++ one ∷ [])
  more_faulty first count page found one here old is_page is = joined first count 1 found (one ∷ []) old (subst (λ (p : ℕ). AreFaultyFrom s p 1 (one ∷ [])) here (one_faulty page one is_page is))

  -- from page 0 on
  pub from_zero : (n : ℕ) (found : List FaultyPage) → AreFaultyFrom s 0 n found → AreFaultyBelow s n found
  from_zero n found are = record {
    ascending = are.ascending;
    within = All-weaker (λ (f : FaultyPage). f.fault.page < 0 + n) (λ (f : FaultyPage). f.fault.page < n) (λ f lt. omega arith) found are.within;
    faulty = are.faulty;
    others = λ page lt none. are.others page (omega arith) (omega arith) none;
  }

  -- as many pages as have a fault are no more than there are
  pub few_from : (first count : ℕ) (found : List FaultyPage) → AreFaultyFrom s first count found → length found ≤ count
  few_from first count found are = omega (arith, few_between first (first + count) found (omega arith) are.ascending are.from are.within)

  -- ---- how many there are

  pub many_clean : (first count page many : ℕ) → page ≡ first + count → AreManyFrom s first count many → IsClean s page → AreManyFrom s first (count + 1) many
  many_clean first count page many here old clean = λ limits within. let so = old limits (omega (arith, within)) in (so.0, more_clean first count page so.0 here so.1 clean, so.2)

  abbrev one_of : PageFault → FaultyPage
  one_of fault = record { line = line_of s (fault.log, fault.place); fault = fault }

  -- a page's first fault is the first of its own page
  of_its_own : (page : ℕ) (fault : PageFault) → IsFirstFault s page fault → IsFirstFault s fault.page fault
  of_its_own page fault first = subst (λ (p : ℕ). IsFirstFault s p fault) (sym first.is_among) first

  pub many_faulty : (first count page many : ℕ) (fault : PageFault) (next : ℕ) → page ≡ first + count → AreManyFrom s first count many → IsFirstFault s page fault → (count < most_pages → many ≤ count → next ≡ many + 1) → AreManyFrom s first (count + 1) next
  many_faulty first count page many fault next here old first_fault is_next = λ limits within.
      let so = old limits (omega (arith, within)) in
      let fit : many ≤ count = omega (arith, few_from first count so.0 so.1, so.2) in
      (so.0 ++ one_of fault ∷ [], more_faulty first count page so.0 (one_of fault) here so.1 first_fault.is_among (record { is_line = refl; is_first = of_its_own page fault first_fault }), length-append so.0 (one_of fault ∷ []) ∙ omega (arith, so.2, is_next (omega (arith, within, limits.geometry.few_pages)) fit))

  pub many_joined : (first count more many others all : ℕ) → AreManyFrom s first count many → AreManyFrom s (first + count) more others → (count + more ≤ most_pages → many ≤ count → others ≤ more → all ≡ many + others) → AreManyFrom s first (count + more) all
  many_joined first count more many others all low high is_all = λ limits within.
      let a = low limits (omega (arith, within)) in
      let b = high limits (omega (arith, within)) in
      let few_a : many ≤ count = omega (arith, few_from first count a.0 a.1, a.2) in
      let few_b : others ≤ more = omega (arith, few_from (first + count) more b.0 b.1, b.2) in
      (a.0 ++ b.0, joined first count more a.0 b.0 a.1 b.1, length-append a.0 b.0 ∙ omega (arith, a.2, b.2, is_all (omega (arith, within, limits.geometry.few_pages)) few_a few_b))
