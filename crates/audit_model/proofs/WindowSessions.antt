-- A session of the right shape names only records that it has; so through a window it is one within all limits.
use Rattle.std.proofs.Common.{◌≡◌, ℕ, ◌<◌, ◌≤◌, Bool, true, List, length, Option, Some, None, refl, sym, ap, ◌∙◌, subst, arith}
use Rattle.std.specs.Prelude.{slice_get, is_some, nat_lt}
use Rattle.std.specs.List.{AllByRecursion}
use Rattle.std.proofs.lemmas.Option.{slice_get_within}
use Rattle.std.proofs.lemmas.Bool.{ltb-true, and_parts}
use Rattle.migration_types.specs.declared.records.LogName.TheVariants.{Guest, Source, Link, Lane, Pager}
use Rattle.migration_types.specs.declared.records.GuestRec.{GuestRec}
use Rattle.migration_types.specs.declared.records.GuestRec.TheVariants.{Read, Write, Release, Miss, Halt, Resume, See}
use Rattle.migration_types.specs.declared.records.SourceRec.{SourceRec}
use Rattle.migration_types.specs.declared.records.SourceRec.TheVariants.{Halted, State, Send, Again, Ask, Done, Back}
use Rattle.migration_types.specs.declared.records.LinkRec.{LinkRec}
use Rattle.migration_types.specs.declared.records.LinkRec.TheVariants.{Down, Up}
use Rattle.migration_types.specs.declared.records.LaneRec.{LaneRec}
use Rattle.migration_types.specs.declared.records.LaneRec.TheVariants.{Down as LaneDown}
use Rattle.migration_types.specs.declared.records.PagerRec.{PagerRec}
use Rattle.migration_types.specs.declared.records.PagerRec.TheVariants.{Got, Pull, Ready, Fault, Join, Want, Place, Zero, Skip, All}
use Rattle.migration_types.specs.Limits.{limits}
use Rattle.migration_types.specs.Receipts.{Name}
use Rattle.migration_types.specs.Rows.{Consists, row_of, guest_row, source_row, link_row, lane_row, pager_row}
use Rattle.migration_types.specs.Sessions.{Recorded, IsSession, IsNumber}
use Rattle.audit_model.specs.declared.reasons.ShapeReason.TheVariants.{Named}
use Rattle.audit_model.specs.Fitting.{Fits, FitsSize, NamesInReach, IsWithinLimits}
use Rattle.audit_model.specs.Shape.{passes, delivers, is_halt, is_ready, is_placement, is_up, is_sending, goes_down, goes_up, is_down, is_miss, is_want, is_taking, is_send_of, keeps, guest_named, source_named, link_named, lane_named, pager_named, IsRightShape}
use Rattle.audit_model.specs.Windows.{Numbers, IsWindow, window}
use Rattle.audit_model.proofs.Fits.{of_record, is_session}
use Rattle.audit_model.proofs.WindowFits.{window_numbers, fits_through}
use Rattle.audit_model.proofs.WindowStarts.{right_through}

-- a record that passes a test is there
there_by : {A : Type 0} (test : A → Bool) (log : List A) (i : ℕ) → passes test (slice_get log i) ≡ true → i < length log
there_by {A} test log i e = go (slice_get log i) refl e
  where
    go : (o : Option A) → slice_get log i ≡ o → passes test o ≡ true → i < length log
    go None is e = absurd (cc)
    go (Some x) is e = slice_get_within log i x is

there_some : {A : Type 0} (log : List A) (i : ℕ) → is_some (slice_get log i) ≡ true → i < length log
there_some {A} log i e = go (slice_get log i) refl e
  where
    go : (o : Option A) → slice_get log i ≡ o → is_some o ≡ true → i < length log
    go None is e = absurd (cc)
    go (Some x) is e = slice_get_within log i x is

module _ (s : Recorded) (shape : IsRightShape s) (fitting : FitsSize s) where
  abbrev InReach : Consists → Type 0
  InReach row = AllByRecursion (NamesInReach s.geometry.size) row.fields

  in_reach : (i k : ℕ) → i < k → k ≤ (limits s.geometry.size).records → IsNumber s.geometry.size i
  in_reach i k lt le = omega (arith, lt, le)

  guest_reach : (x : GuestRec) → guest_named s x ≡ true → InReach (guest_row x)
  guest_reach (Read c p d y) e = (tt, (tt, (tt, (tt, tt))))
  guest_reach (Write c p d y) e = (tt, (tt, (tt, (tt, tt))))
  guest_reach (Release c p) e = (tt, (tt, tt))
  guest_reach (Miss c p) e = (tt, (tt, tt))
  guest_reach Halt e = tt
  guest_reach (Resume i) e = (in_reach i (length s.pager) (there_by is_ready s.pager i e) (fitting.few Pager), tt)
  guest_reach (See i) e = (in_reach i (length s.pager) (there_by is_placement s.pager i e) (fitting.few Pager), tt)

  source_reach : (n : ℕ) (x : SourceRec) → source_named s n x ≡ true → InReach (source_row x)
  source_reach n (Halted i) e = (in_reach i (length s.guest) (there_by is_halt s.guest i e) (fitting.few Guest), tt)
  source_reach n State e = tt
  source_reach n (Send p content) e = (tt, tt)
  source_reach n (Again i) e = (in_reach i (length s.source) (there_by is_sending s.source i (and_parts (nat_lt i n) (passes is_sending (slice_get s.source i)) e).1) (fitting.few Source), tt)
  source_reach n (Ask i) e = (in_reach i (length s.link) (there_by is_up s.link i e) (fitting.few Link), tt)
  source_reach n Done e = tt
  source_reach n Back e = tt

  link_reach : (x : LinkRec) → link_named s x ≡ true → InReach (link_row x)
  link_reach (Down i) e = (in_reach i (length s.source) (there_by goes_down s.source i e) (fitting.few Source), tt)
  link_reach (Up i) e = (in_reach i (length s.pager) (there_by goes_up s.pager i e) (fitting.few Pager), tt)

  lane_reach : (x : LaneRec) → lane_named s x ≡ true → InReach (lane_row x)
  lane_reach (LaneDown i) e = (in_reach i (length s.source) (there_by goes_down s.source i e) (fitting.few Source), tt)

  pager_reach : (n : ℕ) (x : PagerRec) → n < length s.pager → pager_named s n x ≡ true → InReach (pager_row x)
  pager_reach n (Got i) lt e = (in_reach i (length s.link) (there_by is_down s.link i e) (fitting.few Link), tt)
  pager_reach n (Pull i) lt e = (in_reach i (length s.lane) (there_some s.lane i e) (fitting.few Lane), tt)
  pager_reach n Ready lt e = tt
  pager_reach n (Fault i) lt e = (in_reach i (length s.guest) (there_by is_miss s.guest i e) (fitting.few Guest), tt)
  pager_reach n (Join i) lt e = (in_reach i (length s.pager) (there_by is_want s.pager i (and_parts (nat_lt i n) (passes is_want (slice_get s.pager i)) e).1) (fitting.few Pager), tt)
  pager_reach n (Want p) lt e = (tt, tt)
  pager_reach n (Place p i content) lt e =
      let less = ltb-true i n (and_parts (nat_lt i n) (delivers s (is_send_of p) i) e).0 in
      (tt, (in_reach i (length s.pager) (omega (arith, less, lt)) (fitting.few Pager), tt))
  pager_reach n (Zero p) lt e = (tt, tt)
  pager_reach n (Skip i) lt e = (in_reach i (length s.pager) (there_by is_taking s.pager i (and_parts (nat_lt i n) (passes is_taking (slice_get s.pager i)) e).1) (fitting.few Pager), tt)
  pager_reach n All lt e = tt

  numbers : (name : Name) (row : Consists) → row_of s name ≡ Some row → InReach row
  numbers (Guest, n) row is =
      let f = of_record guest_row s.guest n row is in
      subst InReach f.2 (guest_reach f.0 (sym (ap (keeps (guest_named s)) f.1) ∙ shape Named (Guest, n)))
  numbers (Source, n) row is =
      let f = of_record source_row s.source n row is in
      subst InReach f.2 (source_reach n f.0 (sym (ap (keeps (source_named s n)) f.1) ∙ shape Named (Source, n)))
  numbers (Link, n) row is =
      let f = of_record link_row s.link n row is in
      subst InReach f.2 (link_reach f.0 (sym (ap (keeps (link_named s)) f.1) ∙ shape Named (Link, n)))
  numbers (Lane, n) row is =
      let f = of_record lane_row s.lane n row is in
      subst InReach f.2 (lane_reach f.0 (sym (ap (keeps (lane_named s)) f.1) ∙ shape Named (Lane, n)))
  numbers (Pager, n) row is =
      let f = of_record pager_row s.pager n row is in
      subst InReach f.2 (pager_reach n f.0 (slice_get_within s.pager n f.0 f.1) (sym (ap (keeps (pager_named s n)) f.1) ∙ shape Named (Pager, n)))

  -- what is named is there, so where the logs are within their limits the numbers are
  pub right_within : IsWithinLimits s
  right_within = record { size = fitting; numbers = numbers }

-- a session of the right shape is, through a window, one within all limits, where what is kept is
pub session_through : (number : Numbers) (count : ℕ) → IsWindow number count → (s : Recorded) → Fits s → IsRightShape s → FitsSize (window number count s) → IsSession (window number count s)
session_through number count is s fits shape fitting =
    is_session (window number count s) (fits_through number count is s fits) (right_within (window number count s) (right_through number (window_numbers number count is) s count shape) fitting)
