-- The tests of a page's records tell its faults, each by its reason.
use Rattle.std.proofs.Common.{◌≡◌, ℕ, suc, ◌+◌, ◌<◌, ◌≤◌, ◌⊎◌, inl, inr, Bool, true, false, cond, not, ◌&&◌, ◌||◌, List, map, length, Option, Some, None, refl, sym, ap, ◌∙◌, subst, arith, eq-eqb}
use Rattle.std.specs.Prelude.{◌↔◌, ◌==◌, is_some, nat_lt, slice_get}
use Rattle.std.specs.List.{range_with_len}
use Rattle.std.specs.Str.{bytes_eq}
use Rattle.std.proofs.lemmas.Bool.{and_from, and_parts, cases_lt, eqb-true, le-ltb, lt-ltb}
use Rattle.std.proofs.lemmas.Grind.{same_number_lists}
use Rattle.std.proofs.lemmas.List.FromFn.{get_or-map-range_with_len, length-map-range_with_len}
use Rattle.std.proofs.lemmas.Option.{slice_get_within}
use Rattle.migration_types.specs.declared.records.GuestRec.{GuestRec}
use Rattle.migration_types.specs.declared.records.GuestRec.TheVariants.{Read, Write, Release, Miss, Halt, Resume, See}
use Rattle.migration_types.specs.declared.records.LogName.TheVariants.{Pager, Source}
use Rattle.migration_types.specs.declared.records.SourceRec.{SourceRec}
use Rattle.migration_types.specs.declared.records.SourceRec.TheVariants.{Halted as SourceHalted, State, Send, Again, Ask, Done, Back}
use Rattle.migration_types.specs.declared.records.PagerRec.{PagerRec}
use Rattle.migration_types.specs.declared.records.PagerRec.TheVariants.{Got, Pull, Ready, Fault, Join, Want, Place, Zero, Skip, All}
use Rattle.migration_types.specs.Memory.{page_of}
use Rattle.migration_types.specs.Paged.{guest_page, is_page, of_page, pager_page, source_page}
use Rattle.migration_types.specs.Sessions.{Recorded}
use Rattle.audit_model.specs.declared.home.Home.{Home}
use Rattle.audit_model.specs.declared.home.Home.TheVariants.{AtSource, Nowhere, AtTarget}
use Rattle.audit_model.specs.declared.reasons.PageReason.{PageReason}
use Rattle.audit_model.specs.declared.reasons.PageReason.TheVariants as reason
use Rattle.audit_model.specs.Certificates.{is_access_of}
use Rattle.audit_model.specs.Faults.{IsOver, IsPageFault, PagerFault, if_fault, looks_at}
use Rattle.audit_model.specs.Flat.{at_halt, changed, flat, freed, freed_after, home, home_after, in_ledger, is_target, marked_late}
use Rattle.audit_model.specs.Names.{if_there}
use Rattle.audit_model.specs.Shape.{earlier, is_placement_of, passes}
use Rattle.audit_model.specs.inner.PageFaultTests.{fault_test, is_altered, is_early, is_early_of, is_flat_page, is_given, is_second, is_stale, is_unfit, is_wrong_read}
use Rattle.audit_model.proofs.PageFaultTests.{fault_Decides}
use Rattle.page_facts.specs.PageFaults.{page_at}
use Rattle.page_facts.specs.Tables.{first_before}
use Rattle.page_facts.specs.inner.Frontier.{is_before}
use Rattle.page_facts.specs.inner.OfFindings.{uncovered_of}
use Rattle.page_facts.proofs.Before.{first_none, first_some}
use Rattle.page_facts.proofs.Listing.{some_is_first}
use Rattle.page_facts.proofs.Looking.{earlier_some}
use Rattle.page_facts.proofs.Touching.{is_over, over, over_from}
use Rattle.session_story.specs.Kinds.{IsFaultFor, IsTally, log_of}
use Rattle.session_story.specs.Pages.{IsPageStory, below}
use Rattle.session_story.specs.declared.kinds.Halted.{Halted}
use Rattle.session_story.specs.declared.kinds.Tally.{Tally}
use Rattle.session_story.specs.declared.pages.PageStory.{PageStory}
use Rattle.session_story.specs.inner.Cells.{IsPage}
use Rattle.session_story.specs.inner.Kinds.{IsHalted, IsTallyBy, comes_over, freed_by, is_early_by, is_placed_fault, is_sent_fault, is_uncovered, late_after, reads_other}
use Rattle.session_story.proofs.Tallying.{all_are}

-- ---- a test of one log that tells the faults for a reason

module _ (s : Recorded) (page : ℕ) (why : PageReason) {A : Type 0} (log : List A) (page_by : A → Option ℕ) (is_at : (n : ℕ) → page_at s (log_of why, n) ≡ if_there page_by (slice_get log n)) (test : ℕ → A → Bool) where
  -- the test of a record tells whether it is of the page and a fault
  abbrev pub Tells : Type 0
  Tells = (n : ℕ) (r : A) → slice_get log n ≡ Some r → test n r ≡ true ↔ (IsPageFault s why (log_of why, n) × (of_page page_by page r ≡ true))

  of_its : (n : ℕ) (r : A) → slice_get log n ≡ Some r → of_page page_by page r ≡ true → page_at s (log_of why, n) ≡ Some page
  of_its n r is own = is_at n ∙ ap (λ o. if_there page_by o) is ∙ go (page_by r) own
    where
      go : (o : Option ℕ) → is_page o page ≡ true → o ≡ Some page
      go None e = absurd (cc)
      go (Some p) e = ap (λ k. Some k) (eqb-true p page e)

  is_its : (n : ℕ) (r : A) → slice_get log n ≡ Some r → page_at s (log_of why, n) ≡ Some page → of_page page_by page r ≡ true
  is_its n r is at = ap (λ o. is_page o page) (sym (is_at n ∙ ap (λ o. if_there page_by o) is) ∙ at) ∙ eq-eqb page page refl

  at_place : Tells → (n : ℕ) → passes (test n) (slice_get log n) ≡ true ↔ IsFaultFor s page why n
  at_place tells n = go (slice_get log n) refl
    where
      go : (o : Option A) → slice_get log n ≡ o → passes (test n) o ≡ true ↔ IsFaultFor s page why n
      go None is = (λ e. absurd (cc), λ f. let none = is_at n ∙ ap (λ o. if_there page_by o) is in let some = f.1 in absurd (cc))
      go (Some r) is = (
        λ e. let f = (tells n r is).0 e in (f.0, of_its n r is f.1),
        λ f. (tells n r is).1 (f.0, is_its n r is f.1),
      )

  pub tally_is : Tells → (t : Tally) → IsTallyBy test log (length log) t → IsTally s page why t
  tally_is tells t by =
      let all = all_are test log t by in
      record {
        places = all.places;
        faults = record {
          ascending = all.ascend;
          exactly = λ n. (λ h. (at_place tells n).0 ((all.exactly n).0 h), λ f. (all.exactly n).1 ((at_place tells n).1 f));
        };
        count = all.count;
        first = all.first;
      }

  -- by the test of the fault itself
  pub tells_by : (t : ℕ → A → Bool) → ((n : ℕ) → fault_test s why (log_of why, n) ≡ passes (t n) (slice_get log n)) → ((n : ℕ) (r : A) → slice_get log n ≡ Some r → test n r ≡ (of_page page_by page r && t n r)) → Tells
  tells_by t is_test same n r is =
      let at : fault_test s why (log_of why, n) ≡ t n r = is_test n ∙ ap (λ o. passes (t n) o) is in (
        λ e. let p = and_parts (of_page page_by page r) (t n r) (sym (same n r is) ∙ e) in ((fault_Decides s why (log_of why, n)).0 (at ∙ p.1), p.0),
        λ f. same n r is ∙ and_from (of_page page_by page r) (t n r) f.1 (sym at ∙ (fault_Decides s why (log_of why, n)).1 f.0),
      )

-- ---- records before another

below_is : (n : ℕ) (o : Option ℕ) → is_some (below n o) ≡ is_before o n
below_is n None = refl
below_is n (Some k) = go (nat_lt k n)
  where
    go : (b : Bool) → is_some (cond b (Some k) None) ≡ b
    go true = refl
    go false = refl

-- an earlier record passes exactly if the first of all that do comes before
pub earlier_is : {A : Type 0} (test : A → Bool) (log : List A) (first : Option ℕ) → first ≡ first_before (λ m. test) log (length log) → (n : ℕ) → n ≤ length log → earlier test log n ≡ is_some (below n first)
earlier_is {A} test log first e n within = earlier_some test log n ∙ some_is_first (λ m. test) log n ∙ go (first_before (λ m. test) log n) refl first (sym e) ∙ sym (below_is n first)
  where
    go : (o : Option ℕ) → first_before (λ m. test) log n ≡ o → (l : Option ℕ) → first_before (λ m. test) log (length log) ≡ l → is_some o ≡ is_before l n
    go None f None g = refl
    go None f (Some k) g = by (cases_lt k n)
      where
        by : (k < n) ⊎ (n ≤ k) → false ≡ nat_lt k n
        by (inr le) = sym (le-ltb k n le)
        by (inl lt) = let h = first_some (λ m. test) log (length log) k g in let no_one = first_none (λ m. test) log n f k h.by h.stands lt in let yes_one = h.passes_test in absurd (cc)
    go (Some j) f None g = let h = first_some (λ m. test) log n j f in let no_one = first_none (λ m. test) log (length log) g j h.by h.stands (slice_get_within log j h.by h.stands) in let yes_one = h.passes_test in absurd (cc)
    go (Some j) f (Some k) g = sym (lt-ltb k n (by (cases_lt j k)))
      where
        by : (j < k) ⊎ (k ≤ j) → k < n
        by (inr le) = let b = (first_some (λ m. test) log n j f).below in omega (arith, le, b)
        by (inl lt) =
            let one = first_some (λ m. test) log n j f in
            let h = first_some (λ m. test) log (length log) k g in
            let no_one = h.is_first j one.by one.stands lt in
            let yes_one = one.passes_test in
            absurd (cc)

-- what is the same of the page is the same of a record of it
on_page : (p page : ℕ) (a b : Bool) → (p ≡ page → a ≡ b) → ((p == page) && a) ≡ ((p == page) && b)
on_page p page a b same = go (p == page) refl
  where
    go : (c : Bool) → (p == page) ≡ c → (c && a) ≡ (c && b)
    go true e = same (eqb-true p page e)
    go false e = refl

never : (b : Bool) → (b && false) ≡ false
never true = refl
never false = refl

-- a page that has these values in its cells is the list of them
page_is : (cells : List ℕ) (values : ℕ → ℕ) (count : ℕ) → IsPage cells values count → cells ≡ map values (range_with_len 0 count)
page_is cells values count is = same_number_lists cells (map values (range_with_len 0 count)) (is.size ∙ sym (length-map-range_with_len values 0 count)) (λ i lt. is.same i (omega (arith, lt, is.size)) ∙ sym (get_or-map-range_with_len values 0 count i i 0 (omega (arith, lt, is.size)) (omega arith)))

-- ---- the guest's records

module _ (s : Recorded) (page : ℕ) where
  abbrev pub wrongly : ℕ → GuestRec → Bool
  wrongly n r = reads_other page (flat s n page) r

  wrongly_is : (n : ℕ) (r : GuestRec) → slice_get s.guest n ≡ Some r → wrongly n r ≡ (of_page guest_page page r && is_wrong_read s n r)
  wrongly_is n (Read v p c x) is = on_page p page (not (x == flat s n page c)) (not (x == flat s n p c)) (λ e. ap (λ q. not (x == flat s n q c)) (sym e))
  wrongly_is n (Write v p c x) is = sym (never (p == page))
  wrongly_is n (Release v p) is = sym (never (p == page))
  wrongly_is n (Miss v p) is = refl
  wrongly_is n Halt is = refl
  wrongly_is n (Resume i) is = refl
  wrongly_is n (See k) is = refl

  pub reads_are : (t : Tally) → IsTallyBy wrongly s.guest (length s.guest) t → IsTally s page reason.Read t
  reads_are t by = tally_is s page reason.Read s.guest guest_page (λ n. refl) wrongly (tells_by s page reason.Read s.guest guest_page (λ n. refl) wrongly (is_wrong_read s) (λ n. refl) wrongly_is) t by

  abbrev pub early : ℕ → GuestRec → Bool
  early n r = is_access_of page r && is_early_of s page n

  early_use_is : (n : ℕ) (r : GuestRec) → slice_get s.guest n ≡ Some r → early n r ≡ (of_page guest_page page r && is_early s n r)
  early_use_is n (Read v p c x) is = on_page p page (is_early_of s page n) (is_early_of s p n) (λ e. ap (λ q. is_early_of s q n) (sym e))
  early_use_is n (Write v p c x) is = on_page p page (is_early_of s page n) (is_early_of s p n) (λ e. ap (λ q. is_early_of s q n) (sym e))
  early_use_is n (Release v p) is = sym (never (p == page))
  early_use_is n (Miss v p) is = refl
  early_use_is n Halt is = refl
  early_use_is n (Resume i) is = refl
  early_use_is n (See k) is = refl

  pub early_are : (t : Tally) → IsTallyBy early s.guest (length s.guest) t → IsTally s page reason.Early t
  early_are t by = tally_is s page reason.Early s.guest guest_page (λ n. refl) early (tells_by s page reason.Early s.guest guest_page (λ n. refl) early (is_early s) (λ n. refl) early_use_is) t by

  -- one record more
  pub late_on : (n : ℕ) (r : GuestRec) (late : Bool) → slice_get s.guest n ≡ Some r → late ≡ is_target (home s n) → late_after r late ≡ is_target (home s (n + 1))
  late_on n r late is same = ap (λ b. late_after r b) same ∙ go r (home s n) ∙ ap (λ o. is_target (changed home_after o (home s n))) (sym is) ∙ ap (λ k. is_target (home s k)) up
    where
      up : suc n ≡ n + 1
      up = omega arith

      always : (b : Bool) → (false || (b && true)) ≡ b
      always true = refl
      always false = refl

      go : (r : GuestRec) (h : Home) → late_after r (is_target h) ≡ is_target (home_after r h)
      go (Read v p c x) h = always (is_target h)
      go (Write v p c x) h = always (is_target h)
      go (Release v p) h = always (is_target h)
      go (Miss v p) h = always (is_target h)
      go Halt h = never (is_target h)
      go (Resume i) h = refl
      go (See k) h = always (is_target h)

  pub freed_on : (n : ℕ) (r : GuestRec) (late old : Bool) → slice_get s.guest n ≡ Some r → late ≡ is_target (home s n) → old ≡ freed s n page → freed_by page r late old ≡ freed s (n + 1) page
  freed_on n r late old is same was = ap (λ b. freed_by page r b old) same ∙ ap (λ b. freed_by page r (is_target (home s n)) b) was ∙ go r ∙ ap (λ o. changed (freed_after (home s n) page) o (freed s n page)) (sym is) ∙ ap (λ k. freed s k page) up
    where
      up : suc n ≡ n + 1
      up = omega arith

      by : (h : Home) (here old : Bool) → (old || (is_target h && here)) ≡ marked_late h here old
      by AtTarget true true = refl
      by AtTarget true false = refl
      by AtTarget false true = refl
      by AtTarget false false = refl
      by AtSource here true = refl
      by AtSource here false = refl
      by Nowhere here true = refl
      by Nowhere here false = refl

      go : (r : GuestRec) → freed_by page r (is_target (home s n)) (freed s n page) ≡ freed_after (home s n) page r (freed s n page)
      go (Release v p) = by (home s n) (p == page) (freed s n page)
      go (Read v p c x) = refl
      go (Write v p c x) = refl
      go (Miss v p) = refl
      go Halt = refl
      go (Resume i) = refl
      go (See k) = refl

-- a page's record, by what the story has of it
module _ (s : Recorded) (t : PageStory) (are : IsPageStory s t.page t) where
  pub early_on : (n : ℕ) (r : GuestRec) (late old : Bool) → n ≤ length s.guest → late ≡ is_target (home s n) → old ≡ freed s n t.page → is_early_by t n late old r ≡ early s t.page n r
  early_on n r late old le same was =
      ap (λ b. is_early_by t n b old r) same
      ∙ ap (λ b. is_early_by t n (is_target (home s n)) b r) was
      ∙ ap (λ b. is_access_of t.page r && (not (freed s n t.page) && (is_target (home s n) && not b))) (sym (earlier_is (looks_at s t.page) s.guest t.found.look are.found.look n le))

-- ---- what is sent and placed of a page

module _ (s : Recorded) (h : Halted) (are : IsHalted s h) where
  -- the cells are the page's at the halt
  cells_are : h.cells.items ≡ page_of s.geometry.cells (flat s (at_halt s)) h.page
  cells_are = page_is h.cells.items (flat s (at_halt s) h.page) s.geometry.cells are.cells

  differs_is : (p : ℕ) (content : List ℕ) → p ≡ h.page → not (bytes_eq content h.cells.items) ≡ not (is_flat_page s (at_halt s) p content)
  differs_is p content e = ap (λ xs. not (bytes_eq content xs)) cells_are ∙ ap (λ q. not (is_flat_page s (at_halt s) q content)) (sym e)

  released_is : (p : ℕ) → p ≡ h.page → h.found.released ≡ in_ledger s (at_halt s) p
  released_is p e = are.found.released ∙ ap (λ q. in_ledger s (at_halt s) q) (sym e)

  abbrev pub sent : PageReason → ℕ → SourceRec → Bool
  sent why n r = is_sent_fault h why r

  given_is : (n : ℕ) (r : SourceRec) → slice_get s.source n ≡ Some r → sent reason.Given n r ≡ (of_page source_page h.page r && is_given s r)
  given_is n (Send p content) is = on_page p h.page h.found.released (in_ledger s (at_halt s) p) (released_is p)
  given_is n (SourceHalted i) is = refl
  given_is n State is = refl
  given_is n (Again i) is = refl
  given_is n (Ask i) is = refl
  given_is n Done is = refl
  given_is n Back is = refl

  stale_is : (n : ℕ) (r : SourceRec) → slice_get s.source n ≡ Some r → sent reason.Stale n r ≡ (of_page source_page h.page r && is_stale s r)
  stale_is n (Send p content) is = on_page p h.page (not (bytes_eq content h.cells.items)) (not (is_flat_page s (at_halt s) p content)) (differs_is p content)
  stale_is n (SourceHalted i) is = refl
  stale_is n State is = refl
  stale_is n (Again i) is = refl
  stale_is n (Ask i) is = refl
  stale_is n Done is = refl
  stale_is n Back is = refl

  pub sent_are : (why : PageReason) → log_of why ≡ Source → (t : Tally) → IsTallyBy (sent why) s.source (length s.source) t → IsTally s h.page why t
  sent_are reason.Given e t by = tally_is s h.page reason.Given s.source source_page (λ n. refl) (sent reason.Given) (tells_by s h.page reason.Given s.source source_page (λ n. refl) (sent reason.Given) (λ n. is_given s) (λ n. refl) given_is) t by
  sent_are reason.Stale e t by = tally_is s h.page reason.Stale s.source source_page (λ n. refl) (sent reason.Stale) (tells_by s h.page reason.Stale s.source source_page (λ n. refl) (sent reason.Stale) (λ n. is_stale s) (λ n. refl) stale_is) t by
  sent_are reason.Read e t by = absurd (cc)
  sent_are reason.Early e t by = absurd (cc)
  sent_are reason.Twice e t by = absurd (cc)
  sent_are reason.Altered e t by = absurd (cc)
  sent_are reason.Unfit e t by = absurd (cc)
  sent_are reason.Over e t by = absurd (cc)

  abbrev pub placed : PageReason → ℕ → PagerRec → Bool
  placed why n r = is_placed_fault h why n r

  -- whether an earlier record places the page
  was_placed : (n p : ℕ) → n ≤ length s.pager → p ≡ h.page → is_some (below n h.found.placement) ≡ earlier (is_placement_of p) s.pager n
  was_placed n p le e = sym (earlier_is (is_placement_of h.page) s.pager h.found.placement are.found.placement n le) ∙ ap (λ q. earlier (is_placement_of q) s.pager n) (sym e)

  within : (n : ℕ) (r : PagerRec) → slice_get s.pager n ≡ Some r → n ≤ length s.pager
  within n r is = let lt = slice_get_within s.pager n r is in omega (arith, lt)

  twice_is : (n : ℕ) (r : PagerRec) → slice_get s.pager n ≡ Some r → placed reason.Twice n r ≡ (of_page pager_page h.page r && is_second s n r)
  twice_is n (Place p got content) is = on_page p h.page (is_some (below n h.found.placement)) (earlier (is_placement_of p) s.pager n) (was_placed n p (within n (Place p got content) is))
  twice_is n (Zero p) is = on_page p h.page (is_some (below n h.found.placement)) (earlier (is_placement_of p) s.pager n) (was_placed n p (within n (Zero p) is))
  twice_is n (Got d) is = refl
  twice_is n (Pull d) is = refl
  twice_is n Ready is = refl
  twice_is n (Fault i) is = refl
  twice_is n (Join q) is = refl
  twice_is n (Want q) is = refl
  twice_is n (Skip k) is = refl
  twice_is n All is = refl

  altered_is : (n : ℕ) (r : PagerRec) → slice_get s.pager n ≡ Some r → placed reason.Altered n r ≡ (of_page pager_page h.page r && is_altered s r)
  altered_is n (Place p got content) is = on_page p h.page (not (bytes_eq content h.cells.items)) (not (is_flat_page s (at_halt s) p content)) (differs_is p content)
  altered_is n (Zero p) is = sym (never (p == h.page))
  altered_is n (Got d) is = refl
  altered_is n (Pull d) is = refl
  altered_is n Ready is = refl
  altered_is n (Fault i) is = refl
  altered_is n (Join q) is = refl
  altered_is n (Want q) is = refl
  altered_is n (Skip k) is = refl
  altered_is n All is = refl

  unfit_is : (n : ℕ) (r : PagerRec) → slice_get s.pager n ≡ Some r → placed reason.Unfit n r ≡ (of_page pager_page h.page r && is_unfit s r)
  unfit_is n (Zero p) is = on_page p h.page (not h.found.released) (not (in_ledger s (at_halt s) p)) (λ e. ap (λ b. not b) (released_is p e))
  unfit_is n (Place p got content) is = sym (never (p == h.page))
  unfit_is n (Got d) is = refl
  unfit_is n (Pull d) is = refl
  unfit_is n Ready is = refl
  unfit_is n (Fault i) is = refl
  unfit_is n (Join q) is = refl
  unfit_is n (Want q) is = refl
  unfit_is n (Skip k) is = refl
  unfit_is n All is = refl

  -- the first touch is a release that no look before it covers
  over_is : comes_over h.found ≡ over s h.page h.found are.found
  over_is = ap (λ b. h.found.releases && b) (go h.found.touch)
    where
      at : (b : Bool) (k : ℕ) → not b ≡ is_some (cond b None (Some k))
      at true k = refl
      at false k = refl

      go : (o : Option ℕ) → is_uncovered o h.found.look ≡ is_some (uncovered_of o h.found.look)
      go None = refl
      go (Some k) = ap (λ b. not b) (below_is k h.found.look) ∙ at _ k

  is_no : (b : Bool) → not b ≡ true → b ≡ false
  is_no false e = refl
  is_no true e = absurd (cc)

  -- what the fault says of a placement
  abbrev OverAt : ℕ → ℕ → Type 0
  OverAt n p = (earlier (is_placement_of p) s.pager n ≡ false) × IsOver s p

  over_at : (n p : ℕ) → n ≤ length s.pager → ((p == h.page) && (not (is_some (below n h.found.placement)) && comes_over h.found)) ≡ true ↔ (OverAt n p × ((p == h.page) ≡ true))
  over_at n p le = (to, from)
    where
      to : ((p == h.page) && (not (is_some (below n h.found.placement)) && comes_over h.found)) ≡ true → OverAt n p × ((p == h.page) ≡ true)
      to e =
          let q = and_parts (p == h.page) (not (is_some (below n h.found.placement)) && comes_over h.found) e in
          let r = and_parts (not (is_some (below n h.found.placement))) (comes_over h.found) q.1 in
          let same : p ≡ h.page = eqb-true p h.page q.0 in
          ((sym (was_placed n p le same) ∙ is_no _ r.0, subst (λ k. IsOver s k) (sym same) (is_over s h.page h.found are.found (sym over_is ∙ r.1))), q.0)

      from : OverAt n p × ((p == h.page) ≡ true) → ((p == h.page) && (not (is_some (below n h.found.placement)) && comes_over h.found)) ≡ true
      from f =
          let same : p ≡ h.page = eqb-true p h.page f.1 in
          and_from (p == h.page) (not (is_some (below n h.found.placement)) && comes_over h.found) f.1
          (and_from (not (is_some (below n h.found.placement))) (comes_over h.found) (ap (λ b. not b) (was_placed n p le same ∙ f.0.0)) (over_is ∙ over_from s h.page h.found are.found (subst (λ k. IsOver s k) same f.0.1)))

  over_tells : (n : ℕ) (r : PagerRec) → slice_get s.pager n ≡ Some r → placed reason.Over n r ≡ true ↔ (PagerFault s reason.Over n r × (of_page pager_page h.page r ≡ true))
  over_tells n (Place p got content) is = over_at n p (within n (Place p got content) is)
  over_tells n (Zero p) is = over_at n p (within n (Zero p) is)
  over_tells n (Got d) is = (λ e. absurd (cc), λ f. absurd f.0)
  over_tells n (Pull d) is = (λ e. absurd (cc), λ f. absurd f.0)
  over_tells n Ready is = (λ e. absurd (cc), λ f. absurd f.0)
  over_tells n (Fault i) is = (λ e. absurd (cc), λ f. absurd f.0)
  over_tells n (Join q) is = (λ e. absurd (cc), λ f. absurd f.0)
  over_tells n (Want q) is = (λ e. absurd (cc), λ f. absurd f.0)
  over_tells n (Skip k) is = (λ e. absurd (cc), λ f. absurd f.0)
  over_tells n All is = (λ e. absurd (cc), λ f. absurd f.0)

  over_tell : Tells s h.page reason.Over s.pager pager_page (λ n. refl) (placed reason.Over)
  over_tell n r is =
      let t = over_tells n r is in (
        λ e. let f = t.0 e in (subst (λ o. if_fault (PagerFault s reason.Over n) o) (sym is) f.0, f.1),
        λ f. t.1 (subst (λ o. if_fault (PagerFault s reason.Over n) o) is f.0, f.1),
      )

  pub placed_are : (why : PageReason) → log_of why ≡ Pager → (t : Tally) → IsTallyBy (placed why) s.pager (length s.pager) t → IsTally s h.page why t
  placed_are reason.Twice e t by = tally_is s h.page reason.Twice s.pager pager_page (λ n. refl) (placed reason.Twice) (tells_by s h.page reason.Twice s.pager pager_page (λ n. refl) (placed reason.Twice) (is_second s) (λ n. refl) twice_is) t by
  placed_are reason.Altered e t by = tally_is s h.page reason.Altered s.pager pager_page (λ n. refl) (placed reason.Altered) (tells_by s h.page reason.Altered s.pager pager_page (λ n. refl) (placed reason.Altered) (λ n. is_altered s) (λ n. refl) altered_is) t by
  placed_are reason.Unfit e t by = tally_is s h.page reason.Unfit s.pager pager_page (λ n. refl) (placed reason.Unfit) (tells_by s h.page reason.Unfit s.pager pager_page (λ n. refl) (placed reason.Unfit) (λ n. is_unfit s) (λ n. refl) unfit_is) t by
  placed_are reason.Over e t by = tally_is s h.page reason.Over s.pager pager_page (λ n. refl) (placed reason.Over) over_tell t by
  placed_are reason.Read e t by = absurd (cc)
  placed_are reason.Early e t by = absurd (cc)
  placed_are reason.Given e t by = absurd (cc)
  placed_are reason.Stale e t by = absurd (cc)
