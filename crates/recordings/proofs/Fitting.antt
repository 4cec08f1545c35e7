-- A session is a recording, and a recording fits its machine.
use Rattle.std.proofs.Common.{◌≡◌, ℕ, ◌≤◌, ◌^◌, List, [], ◌∷◌, Option, Some, None, refl, arith, subst}
use Rattle.std.specs.Prelude.{slice_get}
use Rattle.std.specs.List.{AllByRecursion}
use Rattle.std.specs.Option.{option_map}
use Rattle.migration_types.specs.declared.version.Version.{Version}
use Rattle.migration_types.specs.declared.records.LogName.TheVariants.{Guest, Source, Link, Lane, Pager}
use Rattle.migration_types.specs.declared.records.GuestRec.{GuestRec}
use Rattle.migration_types.specs.declared.records.GuestRec.TheVariants.{Read, Write, Release, Miss, Halt, Resume, See}
use Rattle.migration_types.specs.declared.records.SourceRec.{SourceRec}
use Rattle.migration_types.specs.declared.records.SourceRec.TheVariants.{Halted, State, Send, Again, Ask, Done, Back}
use Rattle.migration_types.specs.declared.records.LinkRec.{LinkRec}
use Rattle.migration_types.specs.declared.records.LinkRec.TheVariants.{Down, Up}
use Rattle.migration_types.specs.declared.records.LaneRec.{LaneRec}
use Rattle.migration_types.specs.declared.records.LaneRec.TheVariants.{Down as LaneDown}
use Rattle.migration_types.specs.declared.records.PagerRec.{PagerRec}
use Rattle.migration_types.specs.declared.records.PagerRec.TheVariants.{Got, Pull, Ready, Fault, Join, Want, Place, Zero, Skip, All}
use Rattle.migration_types.specs.Extents.{Extent}
use Rattle.migration_types.specs.Contents.{IsContent}
use Rattle.migration_types.specs.Limits.{limits, limits_at_most}
use Rattle.migration_types.specs.Receipts.{Name}
use Rattle.migration_types.specs.Rows.{Consists, row_of, guest_row, source_row, link_row, lane_row, pager_row, source_contents, pager_contents}
use Rattle.migration_types.specs.Sessions.{Recorded, IsSession, HasLog, HasSourceRec, GuestRecIn, SourceRecIn, LinkRecIn, LaneRecIn, PagerRecIn, GuestRecFits, SourceRecFits, LinkRecFits, LaneRecFits, PagerRecFits}
use Rattle.audit_model.specs.Names.{if_there}
use Rattle.audit_model.specs.Fitting.{FieldIsOf, contents_of, Fits}
use Rattle.audit_model.proofs.Lists.{each_at}
use Rattle.recordings.specs.Recordings.{IsRecording, IsGuestRecOf, IsSourceRecOf, IsLinkRecOf, IsLaneRecOf, IsPagerRecOf}

-- ---- sessions are recordings

each_is : {X : Type 0} (P Q : X → Type 0) → ((x : X) → P x → Q x) → (xs : List X) → AllByRecursion P xs → AllByRecursion Q xs
each_is P Q more [] h = tt
each_is P Q more (x ∷ xs) h = (more x h.0, each_is P Q more xs h.1)

module _ (past : ℕ) (few : past ≤ 2 ^ 63) where
  guest_is : (e : Extent) (r : GuestRec) → GuestRecIn past e r → IsGuestRecOf e r
  guest_is e (Read v p c x) h = h
  guest_is e (Write v p c x) h = h
  guest_is e (Release v p) h = h
  guest_is e (Miss v p) h = h
  guest_is e Halt h = h
  guest_is e (Resume n) h = omega (arith, h, few)
  guest_is e (See n) h = omega (arith, h, few)

  source_is : (e : Extent) (r : SourceRec) → SourceRecIn past e r → IsSourceRecOf e r
  source_is e (Halted n) h = omega (arith, h, few)
  source_is e State h = h
  source_is e (Send p xs) h = h
  source_is e (Again n) h = omega (arith, h, few)
  source_is e (Ask n) h = omega (arith, h, few)
  source_is e Done h = h
  source_is e Back h = h

  pager_is : (version : Version) (e : Extent) (r : PagerRec) → PagerRecIn past version e r → IsPagerRecOf version e r
  pager_is version e (Got n) h = omega (arith, h, few)
  pager_is version e (Pull n) h = (h.0, omega (arith, h.1, few))
  pager_is version e Ready h = h
  pager_is version e (Fault n) h = omega (arith, h, few)
  pager_is version e (Join n) h = omega (arith, h, few)
  pager_is version e (Want p) h = h
  pager_is version e (Place p n xs) h = (h.0, omega (arith, h.1, few), h.2)
  pager_is version e (Zero p) h = h
  pager_is version e (Skip n) h = omega (arith, h, few)
  pager_is version e All h = h

  link_is : (r : LinkRec) → LinkRecIn past r → IsLinkRecOf r
  link_is (Down n) h = omega (arith, h, few)
  link_is (Up n) h = omega (arith, h, few)

  lane_is : (version : Version) (r : LaneRec) → LaneRecIn past version r → IsLaneRecOf version r
  lane_is version (LaneDown n) h = (h.0, omega (arith, h.1, few))

pub is_recording : (s : Recorded) → IsSession s → IsRecording s
is_recording s h =
    let e = s.geometry in
    let past = (limits e.size).records in
    let few : past ≤ 2 ^ 63 = let most = (limits_at_most e.size).few_records in omega arith in
    let some_pages = h.geometry.some_pages in
    let few_pages = h.geometry.few_pages in
    record {
      size = h.size;
      machine = record { some_pages = some_pages; few_pages = omega (arith, few_pages); some_cells = h.geometry.some_cells; few_cells = h.geometry.few_cells };
      init = h.init;
      few_guest = omega (arith, h.few_guest);
      few_source = omega (arith, h.few_source);
      few_link = omega (arith, h.few_link);
      few_lane = omega (arith, h.few_lane);
      few_pager = omega (arith, h.few_pager);
      guest = each_is (GuestRecFits e) (IsGuestRecOf e) (guest_is past few e) s.guest h.guest;
      source = each_is (SourceRecFits e) (IsSourceRecOf e) (source_is past few e) s.source h.source;
      link = each_is (LinkRecFits e) IsLinkRecOf (link_is past few) s.link h.link;
      lane = each_is (LaneRecFits s.version e) (IsLaneRecOf s.version) (lane_is past few s.version) s.lane h.lane;
      pager = each_is (PagerRecFits s.version e) (IsPagerRecOf s.version e) (pager_is past few s.version e) s.pager h.pager;
    }

-- ---- recordings fit

-- a record's fields and its contents are of the machine
record RowIsOf (version : Version) (e : Extent) (row : Consists) (behind : Option (List ℕ)) : Type 0 where
  pub fields : AllByRecursion (FieldIsOf version e) row.fields
  pub contents : (content : List ℕ) → behind ≡ Some content → IsContent e.cells content

module _ (v : Version) (e : Extent) where
  bare : (row : Consists) → AllByRecursion (FieldIsOf v e) row.fields → RowIsOf v e row None
  bare row fields = record { fields = fields; contents = λ content is. absurd (cc) }

  content_is : (xs : List ℕ) → IsContent e.cells xs → (content : List ℕ) → Some xs ≡ Some content → IsContent e.cells content
  content_is xs h content is = let same : xs ≡ content = cc in subst (IsContent e.cells) same h

  guest_row_is : (r : GuestRec) → IsGuestRecOf e r → RowIsOf v e (guest_row r) None
  guest_row_is (Read c p d x) h = bare (guest_row (Read c p d x)) (h.0, (h.1, (h.2, (h.3, tt))))
  guest_row_is (Write c p d x) h = bare (guest_row (Write c p d x)) (h.0, (h.1, (h.2, (h.3, tt))))
  guest_row_is (Release c p) h = bare (guest_row (Release c p)) (h.0, (h.1, tt))
  guest_row_is (Miss c p) h = bare (guest_row (Miss c p)) (h.0, (h.1, tt))
  guest_row_is Halt h = bare (guest_row Halt) tt
  guest_row_is (Resume i) h = bare (guest_row (Resume i)) (tt, tt)
  guest_row_is (See i) h = bare (guest_row (See i)) (tt, tt)

  source_row_is : (r : SourceRec) → IsSourceRecOf e r → RowIsOf v e (source_row r) (source_contents r)
  source_row_is (Halted i) h = bare (source_row (Halted i)) (tt, tt)
  source_row_is State h = bare (source_row State) tt
  source_row_is (Send p xs) h = record { fields = (h.0, tt); contents = content_is xs h.1 }
  source_row_is (Again i) h = bare (source_row (Again i)) (tt, tt)
  source_row_is (Ask i) h = bare (source_row (Ask i)) (tt, tt)
  source_row_is Done h = bare (source_row Done) tt
  source_row_is Back h = bare (source_row Back) tt

  link_row_is : (r : LinkRec) → IsLinkRecOf r → RowIsOf v e (link_row r) None
  link_row_is (Down i) h = bare (link_row (Down i)) (tt, tt)
  link_row_is (Up i) h = bare (link_row (Up i)) (tt, tt)

  lane_row_is : (r : LaneRec) → IsLaneRecOf v r → RowIsOf v e (lane_row r) None
  lane_row_is (LaneDown i) h = bare (lane_row (LaneDown i)) (tt, tt)

  pager_row_is : (r : PagerRec) → IsPagerRecOf v e r → RowIsOf v e (pager_row r) (pager_contents r)
  pager_row_is (Got i) h = bare (pager_row (Got i)) (tt, tt)
  pager_row_is (Pull i) h = bare (pager_row (Pull i)) (h.0, tt)
  pager_row_is Ready h = bare (pager_row Ready) tt
  pager_row_is (Fault i) h = bare (pager_row (Fault i)) (tt, tt)
  pager_row_is (Join i) h = bare (pager_row (Join i)) (tt, tt)
  pager_row_is (Want p) h = bare (pager_row (Want p)) (h, tt)
  pager_row_is (Place p i xs) h = record { fields = (h.0, (tt, tt)); contents = content_is xs h.2 }
  pager_row_is (Zero p) h = bare (pager_row (Zero p)) (h, tt)
  pager_row_is (Skip i) h = bare (pager_row (Skip i)) (tt, tt)
  pager_row_is All h = bare (pager_row All) tt

-- what holds of what each record consists of, holds of what the record at a place consists of
row_at : {X : Type 0} (P : X → Type 0) (Q : Consists → Type 0) (row_by : X → Consists) → ((x : X) → P x → Q (row_by x)) → (log : List X) (n : ℕ) (row : Consists) → AllByRecursion P log → option_map row_by (slice_get log n) ≡ Some row → Q row
row_at {X} P Q row_by holds log n row all is = go (slice_get log n) refl is
  where
    go : (o : Option X) → slice_get log n ≡ o → option_map row_by o ≡ Some row → Q row
    go None at e = absurd (cc)
    go (Some x) at e = let same : row_by x ≡ row = cc in subst Q same (holds x (each_at P log n x all at))

contents_at : {X : Type 0} (P : X → Type 0) (Q : List ℕ → Type 0) (contents_by : X → Option (List ℕ)) → ((x : X) → P x → (content : List ℕ) → contents_by x ≡ Some content → Q content) → (log : List X) (n : ℕ) (content : List ℕ) → AllByRecursion P log → if_there contents_by (slice_get log n) ≡ Some content → Q content
contents_at {X} P Q contents_by holds log n content all is = go (slice_get log n) refl is
  where
    go : (o : Option X) → slice_get log n ≡ o → if_there contents_by o ≡ Some content → Q content
    go None at e = absurd (cc)
    go (Some x) at e = holds x (each_at P log n x all at) content e

-- a recording's size has the source's records
source_has : (e : Extent) (r : SourceRec) → IsSourceRecOf e r → HasSourceRec e.size r
source_has e (Halted i) h = tt
source_has e State h = tt
source_has e (Send p xs) h = tt
source_has e (Again i) h = tt
source_has e (Ask i) h = tt
source_has e Done h = tt
source_has e Back h = h

module _ (s : Recorded) (h : IsRecording s) where
  abbrev AreOf : Consists → Type 0
  AreOf row = AllByRecursion (FieldIsOf s.version s.geometry) row.fields

  -- the version has a lane where the lane's log has a record
  lane_has : (r : LaneRec) → IsLaneRecOf s.version r → HasLog s.version Lane
  lane_has (LaneDown i) is = is.0

  logs : (name : Name) (row : Consists) → row_of s name ≡ Some row → HasLog s.version name.0
  logs (Guest, n) row is = tt
  logs (Source, n) row is = tt
  logs (Link, n) row is = tt
  logs (Lane, n) row is = row_at (IsLaneRecOf s.version) (λ _. HasLog s.version Lane) lane_row lane_has s.lane n row h.lane is
  logs (Pager, n) row is = tt

  source : (n : ℕ) (r : SourceRec) → slice_get s.source n ≡ Some r → HasSourceRec s.geometry.size r
  source n r is = source_has s.geometry r (each_at (IsSourceRecOf s.geometry) s.source n r h.source is)

  fields : (name : Name) (row : Consists) → row_of s name ≡ Some row → AreOf row
  fields (Guest, n) row is = row_at (IsGuestRecOf s.geometry) AreOf guest_row (λ r of. (guest_row_is s.version s.geometry r of).fields) s.guest n row h.guest is
  fields (Source, n) row is = row_at (IsSourceRecOf s.geometry) AreOf source_row (λ r of. (source_row_is s.version s.geometry r of).fields) s.source n row h.source is
  fields (Link, n) row is = row_at IsLinkRecOf AreOf link_row (λ r of. (link_row_is s.version s.geometry r of).fields) s.link n row h.link is
  fields (Lane, n) row is = row_at (IsLaneRecOf s.version) AreOf lane_row (λ r of. (lane_row_is s.version s.geometry r of).fields) s.lane n row h.lane is
  fields (Pager, n) row is = row_at (IsPagerRecOf s.version s.geometry) AreOf pager_row (λ r of. (pager_row_is s.version s.geometry r of).fields) s.pager n row h.pager is

  contents : (name : Name) (content : List ℕ) → contents_of s name ≡ Some content → IsContent s.geometry.cells content
  contents (Source, n) content is = contents_at (IsSourceRecOf s.geometry) (IsContent s.geometry.cells) source_contents (λ r of. (source_row_is s.version s.geometry r of).contents) s.source n content h.source is
  contents (Pager, n) content is = contents_at (IsPagerRecOf s.version s.geometry) (IsContent s.geometry.cells) pager_contents (λ r of. (pager_row_is s.version s.geometry r of).contents) s.pager n content h.pager is
  contents (Guest, n) content is = absurd (cc)
  contents (Link, n) content is = absurd (cc)
  contents (Lane, n) content is = absurd (cc)

  pub recording_fits : Fits s
  recording_fits = record { init = h.init; logs = logs; source = source; fields = fields; contents = contents }
