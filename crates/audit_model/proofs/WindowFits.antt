-- A session that fits its machine fits the window's through a window.
use Rattle.std.proofs.Common.{◌≡◌, ℕ, zero, suc, ◌+◌, ◌-◌, ◌<◌, ◌≤◌, ◌⊎◌, inl, inr, Bool, true, false, ◌&&◌, List, [], ◌∷◌, length, map, Option, Some, None, refl, sym, ap, ◌∙◌, subst, arith}
use Rattle.std.specs.Prelude.{slice_get, slice_index, nat_lt, nat_le, if◌then◌else◌}
use Rattle.std.specs.List.{AllByRecursion}
use Rattle.std.specs.List.Sorted.{IsStrictlyIncreasing}
use Rattle.std.specs.Option.{option_map}
use Rattle.std.proofs.lemmas.Bool.{cases_lt, cases_order, leb-true, ltb-true, and_parts}
use Rattle.std.proofs.lemmas.List.Kept.{AllPairs-from_increasing}
use Rattle.migration_types.specs.declared.pages.InitPage.{InitPage}
use Rattle.migration_types.specs.declared.records.LogName.TheVariants.{Guest, Source, Link, Lane, Pager}
use Rattle.migration_types.specs.declared.records.GuestRec.{GuestRec}
use Rattle.migration_types.specs.declared.records.GuestRec.TheVariants.{Read, Write, Release, Miss, Halt, Resume, See}
use Rattle.migration_types.specs.declared.records.SourceRec.{SourceRec}
use Rattle.migration_types.specs.declared.records.SourceRec.TheVariants.{Halted, State, Send, Again, Ask, Done, Back}
use Rattle.migration_types.specs.declared.records.LinkRec.{LinkRec}
use Rattle.migration_types.specs.declared.records.LinkRec.TheVariants.{Down, Up}
use Rattle.migration_types.specs.declared.records.LaneRec.{LaneRec}
use Rattle.migration_types.specs.declared.records.LaneRec.TheVariants.{Down as LaneDown}
use Rattle.migration_types.specs.declared.records.PagerRec.{PagerRec}
use Rattle.migration_types.specs.declared.records.PagerRec.TheVariants.{Got, Pull, Ready, Fault, Join, Want, Place, Zero, Skip, All}
use Rattle.migration_types.specs.Extents.{Extent}
use Rattle.migration_types.specs.Contents.{IsContent}
use Rattle.migration_types.specs.Pages.{InitPageFits}
use Rattle.migration_types.specs.Receipts.{Name}
use Rattle.migration_types.specs.Rows.{Consists, row_of, guest_row, source_row, link_row, lane_row, pager_row, source_contents, pager_contents}
use Rattle.migration_types.specs.Sessions.{Recorded, HasLog, HasSourceRec}
use Rattle.audit_model.specs.Names.{if_there}
use Rattle.audit_model.specs.Fitting.{FieldIsOf, contents_of, Fits}
use Rattle.audit_model.specs.Windows.{Numbers, numbers_from, IsNumbering, IsWindow, is_seen, new_page, kept_in, rank, keeps_source, keeps_guest, keeps_pager, marks, new_guest, new_source, new_link, new_lane, new_pager, keeps_init, new_init, window}
use Rattle.audit_model.proofs.Lists.{each_at, each_from}
use Rattle.audit_model.proofs.Fits.{guest_fits, source_fits, pager_fits}
use Rattle.audit_model.proofs.Ranks.{came_from, mark_of, rank_up}
use Rattle.audit_model.proofs.WindowCells.{guest_marked}
use Rattle.audit_model.proofs.WindowFaults.{seen_at}

-- pages that follow one another are a window
numbered_from : (first count p q : ℕ) → numbers_from first count p ≡ Some q → (p ≡ first + q) × (q < count)
numbered_from first count p q = go (nat_le first p && nat_lt p (first + count)) refl
  where
    go : (b : Bool) → (nat_le first p && nat_lt p (first + count)) ≡ b → (if b then Some (p - first) else None) ≡ Some q → (p ≡ first + q) × (q < count)
    go false e is = absurd (cc)
    go true e is =
        let both = and_parts (nat_le first p) (nat_lt p (first + count)) e in
        let low : first ≤ p = leb-true first p both.0 in
        let high : p < first + count = ltb-true p (first + count) both.1 in
        let same : p - first ≡ q = cc in
        (omega (arith, low, same), omega (arith, low, high, same))

pub contiguous_is_window : (first count : ℕ) → IsWindow (numbers_from first count) count
contiguous_is_window first count = record {
  rising = λ p r q t e f lt. let a = (numbered_from first count p q e).0 in let b = (numbered_from first count r t f).0 in omega (arith, a, b, lt);
  below = λ p q e. (numbered_from first count p q e).1;
}

-- no two pages of a window have one number
pub window_numbers : (number : Numbers) (count : ℕ) → IsWindow number count → IsNumbering number
window_numbers number count is p r q e f = go (cases_order p r)
  where
    go : (p ≡ r) ⊎ ((p < r) ⊎ (r < p)) → p ≡ r
    go (inl same) = same
    go (inr (inl lt)) = let less = is.rising p r q q e f lt in absurd (omega (arith, less))
    go (inr (inr lt)) = let less = is.rising r p q q f e lt in absurd (omega (arith, less))

-- the pages of a list
page_is : (init : List InitPage) (k : ℕ) (x : InitPage) → slice_get init k ≡ Some x → (k < length (map (λ p. p.page) init)) × (slice_index (map (λ p. p.page) init) k ≡ x.page)
page_is [] k x is = absurd (cc)
page_is (y ∷ init) zero x is = let same : y ≡ x = cc in (omega arith, ap (λ z. z.page) same)
page_is (y ∷ init) (suc k) x is = let r = page_is init k x is in let lt = r.0 in (omega (arith, lt), r.1)

page_there : (init : List InitPage) (k : ℕ) → k < length (map (λ p. p.page) init) → (x : InitPage) × (slice_get init k ≡ Some x)
page_there [] k lt = absurd (omega (arith, lt))
page_there (x ∷ init) zero lt = (x, refl)
page_there (x ∷ init) (suc k) lt = page_there init k (omega (arith, lt))

-- a row of the window is that of a record that is kept
row_came : {A : Type 0} (row_by : A → Consists) (new : A → A) (marks : List Bool) (log : List A) (m : ℕ) (row : Consists) → option_map row_by (slice_get (map new (kept_in marks log)) m) ≡ Some row → (n : ℕ) × (x : A) × (slice_get log n ≡ Some x) × (slice_get marks n ≡ Some true) × (row_by (new x) ≡ row)
row_came {A} row_by new marks log m row is = go (slice_get (map new (kept_in marks log)) m) refl is
  where
    go : (o : Option A) → slice_get (map new (kept_in marks log)) m ≡ o → option_map row_by o ≡ Some row → (n : ℕ) × (x : A) × (slice_get log n ≡ Some x) × (slice_get marks n ≡ Some true) × (row_by (new x) ≡ row)
    go None at e = absurd (cc)
    go (Some y) at e =
        let f = came_from new marks log m y at in
        let same : row_by y ≡ row = cc in
        (f.0, f.1, f.2, f.3, ap row_by f.5 ∙ same)

contents_came : {A : Type 0} (contents_by : A → Option (List ℕ)) (new : A → A) → ((x : A) → contents_by (new x) ≡ contents_by x) → (marks : List Bool) (log : List A) (m : ℕ) (content : List ℕ) → if_there contents_by (slice_get (map new (kept_in marks log)) m) ≡ Some content → (n : ℕ) × (if_there contents_by (slice_get log n) ≡ Some content)
contents_came {A} contents_by new same marks log m content is = go (slice_get (map new (kept_in marks log)) m) refl is
  where
    go : (o : Option A) → slice_get (map new (kept_in marks log)) m ≡ o → if_there contents_by o ≡ Some content → (n : ℕ) × (if_there contents_by (slice_get log n) ≡ Some content)
    go None at e = absurd (cc)
    go (Some y) at e =
        let f = came_from new marks log m y at in
        (f.0, ap (if_there contents_by) f.2 ∙ sym (same f.1) ∙ ap contents_by f.5 ∙ e)

module _ (number : Numbers) (count : ℕ) (is : IsWindow number count) (s : Recorded) (fits : Fits s) where
  abbrev extent : Extent
  extent = record { size = s.geometry.size; pages = count; cells = s.geometry.cells }

  page_below : (p : ℕ) → is_seen (number p) ≡ true → new_page (number p) < count
  page_below p e = is.below p (new_page (number p)) (seen_at (number p) e)

  -- the pages that do not begin as zeros
  abbrev begun : List InitPage
  begun = map (new_init number) (kept_in (map (keeps_init number) s.init) s.init)

  begun_came : (k : ℕ) (y : InitPage) → slice_get begun k ≡ Some y → (n : ℕ) × (x : InitPage) × (slice_get s.init n ≡ Some x) × (is_seen (number x.page) ≡ true) × (rank (map (keeps_init number) s.init) n ≡ k) × (new_init number x ≡ y)
  begun_came k y at =
      let f = came_from (new_init number) (map (keeps_init number) s.init) s.init k y at in
      (f.0, f.1, f.2, mark_of (keeps_init number) s.init f.0 f.1 true f.2 f.3, f.4, f.5)

  begun_fits : (k : ℕ) (y : InitPage) → slice_get begun k ≡ Some y → InitPageFits extent y
  begun_fits k y at =
      let f = begun_came k y at in
      let old = each_at (InitPageFits s.geometry) s.init f.0 f.1 fits.init.each f.2 in
      subst (InitPageFits extent) f.5 (record { page = page_below f.1.page f.3; content = old.content; not_zeros = old.not_zeros })

  begun_rises : IsStrictlyIncreasing (map (λ p. p.page) begun)
  begun_rises k lt =
      let a = page_there begun k (omega (arith, lt)) in
      let b = page_there begun (k + 1) lt in
      let f = begun_came k a.0 a.1 in
      let g = begun_came (k + 1) b.0 b.1 in
      let old_a = page_is s.init f.0 f.1 f.2 in
      let old_b = page_is s.init g.0 g.1 g.2 in
      let less : f.0 < g.0 = later f.0 g.0 k f.4 g.4 in
      let rises = AllPairs-from_increasing (map (λ p. p.page) s.init) fits.init.rising f.0 g.0 0 less old_b.0 in
      let pages : f.1.page < g.1.page = subst (λ i. i < g.1.page) old_a.1 (subst (λ j. slice_index (map (λ p. p.page) s.init) f.0 < j) old_b.1 rises) in
      let new = is.rising f.1.page g.1.page (new_page (number f.1.page)) (new_page (number g.1.page)) (seen_at (number f.1.page) f.3) (seen_at (number g.1.page) g.3) pages in
      let one = ap (λ p. p.page) f.5 ∙ sym (page_is begun k a.0 a.1).1 in
      let two = ap (λ p. p.page) g.5 ∙ sym (page_is begun (k + 1) b.0 b.1).1 in
      subst (λ i. i < slice_index (map (λ p. p.page) begun) (k + 1)) one (subst (λ j. new_page (number f.1.page) < j) two new)
    where
      later : (m n k : ℕ) → rank (map (keeps_init number) s.init) m ≡ k → rank (map (keeps_init number) s.init) n ≡ k + 1 → m < n
      later m n k e f = go (cases_lt m n)
        where
          go : (m < n) ⊎ (n ≤ m) → m < n
          go (inl lt) = lt
          go (inr le) = let up = rank_up (map (keeps_init number) s.init) n m le in absurd (omega (arith, up, e, f))

  -- a record that is kept is of the window's machine
  abbrev Old : Consists → Type 0
  Old row = AllByRecursion (FieldIsOf s.version s.geometry) row.fields

  abbrev New : Consists → Type 0
  New row = AllByRecursion (FieldIsOf s.version extent) row.fields

  guest_new : (k : ℕ) (x : GuestRec) → keeps_guest s number k x ≡ true → Old (guest_row x) → New (guest_row (new_guest s number x))
  guest_new k (Read c p d y) e h = (h.0, (page_below p e, h.1.1))
  guest_new k (Write c p d y) e h = (h.0, (page_below p e, h.1.1))
  guest_new k (Release c p) e h = (h.0, (page_below p e, tt))
  guest_new k (Miss c p) e h = (h.0, (page_below p e, tt))
  guest_new k Halt e h = tt
  guest_new k (Resume i) e h = h
  guest_new k (See i) e h = h

  source_new : (x : SourceRec) → keeps_source s number x ≡ true → Old (source_row x) → New (source_row (new_source s number x))
  source_new (Send p content) e h = (page_below p e, tt)
  source_new (Halted i) e h = h
  source_new State e h = tt
  source_new (Again i) e h = h
  source_new (Ask i) e h = h
  source_new Done e h = tt
  source_new Back e h = tt

  link_new : (x : LinkRec) → Old (link_row x) → New (link_row (new_link s number x))
  link_new (Down i) h = h
  link_new (Up i) h = h

  lane_new : (x : LaneRec) → Old (lane_row x) → New (lane_row (new_lane s number x))
  lane_new (LaneDown i) h = h

  pager_new : (x : PagerRec) → keeps_pager s number x ≡ true → Old (pager_row x) → New (pager_row (new_pager s number x))
  pager_new (Want p) e h = (page_below p e, tt)
  pager_new (Place p i content) e h = (page_below p e, h.1)
  pager_new (Zero p) e h = (page_below p e, tt)
  pager_new (Got i) e h = h
  pager_new (Pull i) e h = h
  pager_new Ready e h = tt
  pager_new (Fault i) e h = h
  pager_new (Join i) e h = h
  pager_new (Skip i) e h = h
  pager_new All e h = tt

  source_same : (x : SourceRec) → source_contents (new_source s number x) ≡ source_contents x
  source_same (Send p content) = refl
  source_same (Halted i) = refl
  source_same State = refl
  source_same (Again i) = refl
  source_same (Ask i) = refl
  source_same Done = refl
  source_same Back = refl

  -- its size is the session's, which has each record of the source
  still_has : (x : SourceRec) → HasSourceRec s.geometry.size x → HasSourceRec s.geometry.size (new_source s number x)
  still_has (Send p content) h = tt
  still_has (Halted i) h = tt
  still_has State h = tt
  still_has (Again i) h = tt
  still_has (Ask i) h = tt
  still_has Done h = tt
  still_has Back h = h

  source_has : (m : ℕ) (y : SourceRec) → slice_get (window number count s).source m ≡ Some y → HasSourceRec s.geometry.size y
  source_has m y at =
      let f = came_from (new_source s number) (marks s number Source) s.source m y at in
      subst (HasSourceRec s.geometry.size) f.5 (still_has f.1 (fits.source f.0 f.1 f.2))

  pager_same : (x : PagerRec) → pager_contents (new_pager s number x) ≡ pager_contents x
  pager_same (Place p i content) = refl
  pager_same (Want p) = refl
  pager_same (Zero p) = refl
  pager_same (Got i) = refl
  pager_same (Pull i) = refl
  pager_same Ready = refl
  pager_same (Fault i) = refl
  pager_same (Join i) = refl
  pager_same (Skip i) = refl
  pager_same All = refl

  logs_new : (name : Name) (row : Consists) → row_of (window number count s) name ≡ Some row → HasLog s.version name.0
  logs_new (Guest, m) row at = tt
  logs_new (Source, m) row at = tt
  logs_new (Link, m) row at = tt
  logs_new (Lane, m) row at = let f = row_came lane_row (new_lane s number) (marks s number Lane) s.lane m row at in fits.logs (Lane, f.0) (lane_row f.1) (ap (option_map lane_row) f.2)
  logs_new (Pager, m) row at = tt

  fields_new : (name : Name) (row : Consists) → row_of (window number count s) name ≡ Some row → New row
  fields_new (Guest, m) row at =
      let f = row_came guest_row (new_guest s number) (marks s number Guest) s.guest m row at in
      let r = guest_marked s number f.0 f.1 true f.2 f.3 in
      subst New f.4 (guest_new f.0 f.1 r (guest_fits s fits f.0 f.1 f.2))
  fields_new (Source, m) row at =
      let f = row_came source_row (new_source s number) (marks s number Source) s.source m row at in
      subst New f.4 (source_new f.1 (mark_of (keeps_source s number) s.source f.0 f.1 true f.2 f.3) (source_fits s fits f.0 f.1 f.2))
  fields_new (Link, m) row at =
      let f = row_came link_row (new_link s number) (marks s number Link) s.link m row at in
      subst New f.4 (link_new f.1 (fits.fields (Link, f.0) (link_row f.1) (ap (option_map link_row) f.2)))
  fields_new (Lane, m) row at =
      let f = row_came lane_row (new_lane s number) (marks s number Lane) s.lane m row at in
      subst New f.4 (lane_new f.1 (fits.fields (Lane, f.0) (lane_row f.1) (ap (option_map lane_row) f.2)))
  fields_new (Pager, m) row at =
      let f = row_came pager_row (new_pager s number) (marks s number Pager) s.pager m row at in
      subst New f.4 (pager_new f.1 (mark_of (keeps_pager s number) s.pager f.0 f.1 true f.2 f.3) (pager_fits s fits f.0 f.1 f.2))

  contents_new : (name : Name) (content : List ℕ) → contents_of (window number count s) name ≡ Some content → IsContent s.geometry.cells content
  contents_new (Source, m) content at = let f = contents_came source_contents (new_source s number) source_same (marks s number Source) s.source m content at in fits.contents (Source, f.0) content f.1
  contents_new (Pager, m) content at = let f = contents_came pager_contents (new_pager s number) pager_same (marks s number Pager) s.pager m content at in fits.contents (Pager, f.0) content f.1
  contents_new (Guest, m) content at = absurd (cc)
  contents_new (Link, m) content at = absurd (cc)
  contents_new (Lane, m) content at = absurd (cc)

  pub fits_through : Fits (window number count s)
  fits_through = record {
    init = record { each = each_from (InitPageFits extent) begun begun_fits; rising = begun_rises };
    logs = logs_new;
    source = source_has;
    fields = fields_new;
    contents = contents_new;
  }
