-- A session is one that fits its machine and is within the limits of size.
use Rattle.std.proofs.Common.{◌≡◌, ◌↔◌, ℕ, ◌≤◌, List, Option, Some, None, refl, ap, ◌∙◌, subst, arith}
use Rattle.std.specs.Prelude.{slice_get}
use Rattle.std.specs.List.{AllByRecursion}
use Rattle.std.specs.Option.{option_map}
use Rattle.migration_types.specs.declared.version.Version.{Version}
use Rattle.migration_types.specs.declared.records.LogName.{LogName}
use Rattle.migration_types.specs.declared.records.LogName.TheVariants.{Guest, Source, Link, Lane, Pager}
use Rattle.migration_types.specs.declared.records.GuestRec.{GuestRec}
use Rattle.migration_types.specs.declared.records.GuestRec.TheVariants.{Read, Write, Release, Miss, Halt, Resume, See}
use Rattle.migration_types.specs.declared.records.SourceRec.{SourceRec}
use Rattle.migration_types.specs.declared.records.SourceRec.TheVariants.{Halted, State, Send, Again, Ask, Done, Back}
use Rattle.migration_types.specs.declared.records.LinkRec.{LinkRec}
use Rattle.migration_types.specs.declared.records.LinkRec.TheVariants.{Down, Up}
use Rattle.migration_types.specs.declared.records.LaneRec.{LaneRec}
use Rattle.migration_types.specs.declared.records.LaneRec.TheVariants.{Down as LaneDown}
use Rattle.migration_types.specs.declared.records.PagerRec.{PagerRec}
use Rattle.migration_types.specs.declared.records.PagerRec.TheVariants.{Got, Pull, Ready, Fault, Join, Want, Place, Zero, Skip, All}
use Rattle.migration_types.specs.declared.rows.Field.{Field}
use Rattle.migration_types.specs.Limits.{longest_log, limits_at_most}
use Rattle.migration_types.specs.Extents.{Extent}
use Rattle.migration_types.specs.Contents.{IsContent}
use Rattle.migration_types.specs.Receipts.{Name}
use Rattle.migration_types.specs.Rows.{Consists, row_of, guest_row, source_row, link_row, lane_row, pager_row, source_contents, pager_contents}
use Rattle.migration_types.specs.Sessions.{Recorded, IsSession, HasLog, HasLane, HasSourceRec, GuestRecFits, SourceRecFits, LinkRecFits, LaneRecFits, PagerRecFits, log_length}
use Rattle.audit_model.specs.Names.{if_there}
use Rattle.audit_model.specs.Fitting.{FieldIsOf, contents_of, Fits, NamesInReach, IsWithinLimits}
use Rattle.audit_model.proofs.Lists.{each_at, each_from}

-- what the fields of each record say, where the session fits
pub guest_fits : (s : Recorded) → Fits s → (n : ℕ) (r : GuestRec) → slice_get s.guest n ≡ Some r → AllByRecursion (FieldIsOf s.version s.geometry) (guest_row r).fields
guest_fits s fits n r is = fits.fields (Guest, n) (guest_row r) (ap (option_map guest_row) is)

pub source_fits : (s : Recorded) → Fits s → (n : ℕ) (r : SourceRec) → slice_get s.source n ≡ Some r → AllByRecursion (FieldIsOf s.version s.geometry) (source_row r).fields
source_fits s fits n r is = fits.fields (Source, n) (source_row r) (ap (option_map source_row) is)

pub pager_fits : (s : Recorded) → Fits s → (n : ℕ) (r : PagerRec) → slice_get s.pager n ≡ Some r → AllByRecursion (FieldIsOf s.version s.geometry) (pager_row r).fields
pager_fits s fits n r is = fits.fields (Pager, n) (pager_row r) (ap (option_map pager_row) is)

-- a record is within all limits where it fits, and the records that it names are in reach
record Splits (version : Version) (e : Extent) (row : Consists) (behind : Option (List ℕ)) : Type 0 where
  pub fields : AllByRecursion (FieldIsOf version e) row.fields
  pub numbers : AllByRecursion (NamesInReach e.size) row.fields
  pub contents : (content : List ℕ) → behind ≡ Some content → IsContent e.cells content

module _ (v : Version) (e : Extent) where
  bare : (row : Consists) → AllByRecursion (FieldIsOf v e) row.fields → AllByRecursion (NamesInReach e.size) row.fields → Splits v e row None
  bare row fields numbers = record { fields = fields; numbers = numbers; contents = λ content is. absurd (cc) }

  guest_splits : (r : GuestRec) → GuestRecFits e r ↔ Splits v e (guest_row r) None
  guest_splits (Read c p d x) = (λ h. bare (guest_row (Read c p d x)) (h.0, (h.1, (h.2, (h.3, tt)))) (tt, (tt, (tt, (tt, tt)))), λ h. (h.fields.0, h.fields.1.0, h.fields.1.1.0, h.fields.1.1.1.0))
  guest_splits (Write c p d x) = (λ h. bare (guest_row (Write c p d x)) (h.0, (h.1, (h.2, (h.3, tt)))) (tt, (tt, (tt, (tt, tt)))), λ h. (h.fields.0, h.fields.1.0, h.fields.1.1.0, h.fields.1.1.1.0))
  guest_splits (Release c p) = (λ h. bare (guest_row (Release c p)) (h.0, (h.1, tt)) (tt, (tt, tt)), λ h. (h.fields.0, h.fields.1.0))
  guest_splits (Miss c p) = (λ h. bare (guest_row (Miss c p)) (h.0, (h.1, tt)) (tt, (tt, tt)), λ h. (h.fields.0, h.fields.1.0))
  guest_splits Halt = (λ h. bare (guest_row Halt) tt tt, λ h. tt)
  guest_splits (Resume i) = (λ h. bare (guest_row (Resume i)) (tt, tt) (h, tt), λ h. h.numbers.0)
  guest_splits (See i) = (λ h. bare (guest_row (See i)) (tt, tt) (h, tt), λ h. h.numbers.0)

  content_is : (ys : List ℕ) → IsContent e.cells ys → (content : List ℕ) → Some ys ≡ Some content → IsContent e.cells content
  content_is ys h content is = let same : ys ≡ content = cc in subst (IsContent e.cells) same h

  source_splits : (r : SourceRec) → SourceRecFits e r ↔ (HasSourceRec e.size r × Splits v e (source_row r) (source_contents r))
  source_splits (Halted i) = (λ h. (tt, bare (source_row (Halted i)) (tt, tt) (h, tt)), λ h. h.1.numbers.0)
  source_splits State = (λ h. (tt, bare (source_row State) tt tt), λ h. tt)
  source_splits (Send p ys) = (λ h. (tt, record { fields = (h.0, tt); numbers = (tt, tt); contents = content_is ys h.1 }), λ h. (h.1.fields.0, h.1.contents ys refl))
  source_splits (Again i) = (λ h. (tt, bare (source_row (Again i)) (tt, tt) (h, tt)), λ h. h.1.numbers.0)
  source_splits (Ask i) = (λ h. (tt, bare (source_row (Ask i)) (tt, tt) (h, tt)), λ h. h.1.numbers.0)
  source_splits Done = (λ h. (tt, bare (source_row Done) tt tt), λ h. tt)
  source_splits Back = (λ h. (h, bare (source_row Back) tt tt), λ h. h.0)

  link_splits : (r : LinkRec) → LinkRecFits e r ↔ Splits v e (link_row r) None
  link_splits (Down i) = (λ h. bare (link_row (Down i)) (tt, tt) (h, tt), λ h. h.numbers.0)
  link_splits (Up i) = (λ h. bare (link_row (Up i)) (tt, tt) (h, tt), λ h. h.numbers.0)

  lane_splits : (r : LaneRec) → LaneRecFits v e r ↔ (HasLane v × Splits v e (lane_row r) None)
  lane_splits (LaneDown i) = (λ h. (h.0, bare (lane_row (LaneDown i)) (tt, tt) (h.1, tt)), λ h. (h.0, h.1.numbers.0))

  pager_splits : (r : PagerRec) → PagerRecFits v e r ↔ Splits v e (pager_row r) (pager_contents r)
  pager_splits (Got i) = (λ h. bare (pager_row (Got i)) (tt, tt) (h, tt), λ h. h.numbers.0)
  pager_splits (Pull i) = (λ h. bare (pager_row (Pull i)) (h.0, tt) (h.1, tt), λ h. (h.fields.0, h.numbers.0))
  pager_splits Ready = (λ h. bare (pager_row Ready) tt tt, λ h. tt)
  pager_splits (Fault i) = (λ h. bare (pager_row (Fault i)) (tt, tt) (h, tt), λ h. h.numbers.0)
  pager_splits (Join i) = (λ h. bare (pager_row (Join i)) (tt, tt) (h, tt), λ h. h.numbers.0)
  pager_splits (Want p) = (λ h. bare (pager_row (Want p)) (h, tt) (tt, tt), λ h. h.fields.0)
  pager_splits (Place p i ys) = (λ h. record { fields = (h.0, (tt, tt)); numbers = (tt, (h.1, tt)); contents = content_is ys h.2 }, λ h. (h.fields.0, h.numbers.1.0, h.contents ys refl))
  pager_splits (Zero p) = (λ h. bare (pager_row (Zero p)) (h, tt) (tt, tt), λ h. h.fields.0)
  pager_splits (Skip i) = (λ h. bare (pager_row (Skip i)) (tt, tt) (h, tt), λ h. h.numbers.0)
  pager_splits All = (λ h. bare (pager_row All) tt tt, λ h. tt)

-- the record that a row is of
pub of_record : {A : Type 0} (row_by : A → Consists) (log : List A) (n : ℕ) (row : Consists) → option_map row_by (slice_get log n) ≡ Some row → (x : A) × (slice_get log n ≡ Some x) × (row_by x ≡ row)
of_record {A} row_by log n row is = go (slice_get log n) refl is
  where
    go : (o : Option A) → slice_get log n ≡ o → option_map row_by o ≡ Some row → (x : A) × (slice_get log n ≡ Some x) × (row_by x ≡ row)
    go None at e = absurd (cc)
    go (Some x) at e = let same : row_by x ≡ row = cc in (x, at, same)

-- of which what holds of each record holds
row_from : {A : Type 0} (P : A → Type 0) (row_by : A → Consists) (log : List A) (n : ℕ) (row : Consists) → AllByRecursion P log → option_map row_by (slice_get log n) ≡ Some row → (r : A) × P r × (row_by r ≡ row)
row_from P row_by log n row all is = let f = of_record row_by log n row is in (f.0, each_at P log n f.0 all f.1, f.2)

contents_from : {A : Type 0} (P : A → Type 0) (contents_by : A → Option (List ℕ)) (log : List A) (n : ℕ) (content : List ℕ) → AllByRecursion P log → if_there contents_by (slice_get log n) ≡ Some content → (r : A) × P r × (contents_by r ≡ Some content)
contents_from {A} P contents_by log n content all is = go (slice_get log n) refl is
  where
    go : (o : Option A) → slice_get log n ≡ o → if_there contents_by o ≡ Some content → (r : A) × P r × (contents_by r ≡ Some content)
    go None at e = absurd (cc)
    go (Some r) at e = (r, each_at P log n r all at, e)

module _ (s : Recorded) where
  abbrev InFields : (Field → Type 0) → Consists → Type 0
  InFields P row = AllByRecursion P row.fields

  module _ (h : IsSession s) where
    pub session_fits : Fits s
    session_fits = record { init = h.init; logs = logs; source = source; fields = fields; contents = contents }
      where
        logs : (name : Name) (row : Consists) → row_of s name ≡ Some row → HasLog s.version name.0
        logs (Guest, n) row is = tt
        logs (Source, n) row is = tt
        logs (Link, n) row is = tt
        logs (Lane, n) row is = let f = row_from (LaneRecFits s.version s.geometry) lane_row s.lane n row h.lane is in ((lane_splits s.version s.geometry f.0).0 f.1).0
        logs (Pager, n) row is = tt

        source : (n : ℕ) (r : SourceRec) → slice_get s.source n ≡ Some r → HasSourceRec s.geometry.size r
        source n r is = ((source_splits s.version s.geometry r).0 (each_at (SourceRecFits s.geometry) s.source n r h.source is)).0

        fields : (name : Name) (row : Consists) → row_of s name ≡ Some row → InFields (FieldIsOf s.version s.geometry) row
        fields (Guest, n) row is = let f = row_from (GuestRecFits s.geometry) guest_row s.guest n row h.guest is in subst (InFields (FieldIsOf s.version s.geometry)) f.2 ((guest_splits s.version s.geometry f.0).0 f.1).fields
        fields (Source, n) row is = let f = row_from (SourceRecFits s.geometry) source_row s.source n row h.source is in subst (InFields (FieldIsOf s.version s.geometry)) f.2 ((source_splits s.version s.geometry f.0).0 f.1).1.fields
        fields (Link, n) row is = let f = row_from (LinkRecFits s.geometry) link_row s.link n row h.link is in subst (InFields (FieldIsOf s.version s.geometry)) f.2 ((link_splits s.version s.geometry f.0).0 f.1).fields
        fields (Lane, n) row is = let f = row_from (LaneRecFits s.version s.geometry) lane_row s.lane n row h.lane is in subst (InFields (FieldIsOf s.version s.geometry)) f.2 ((lane_splits s.version s.geometry f.0).0 f.1).1.fields
        fields (Pager, n) row is = let f = row_from (PagerRecFits s.version s.geometry) pager_row s.pager n row h.pager is in subst (InFields (FieldIsOf s.version s.geometry)) f.2 ((pager_splits s.version s.geometry f.0).0 f.1).fields

        contents : (name : Name) (content : List ℕ) → contents_of s name ≡ Some content → IsContent s.geometry.cells content
        contents (Source, n) content is = let f = contents_from (SourceRecFits s.geometry) source_contents s.source n content h.source is in ((source_splits s.version s.geometry f.0).0 f.1).1.contents content f.2
        contents (Pager, n) content is = let f = contents_from (PagerRecFits s.version s.geometry) pager_contents s.pager n content h.pager is in ((pager_splits s.version s.geometry f.0).0 f.1).contents content f.2
        contents (Guest, n) content is = absurd (cc)
        contents (Link, n) content is = absurd (cc)
        contents (Lane, n) content is = absurd (cc)

    session_within : IsWithinLimits s
    session_within = record { size = record { size = h.size; extent = h.geometry; few = h.own }; numbers = numbers }
      where
        numbers : (name : Name) (row : Consists) → row_of s name ≡ Some row → InFields (NamesInReach s.geometry.size) row
        numbers (Guest, n) row is = let f = row_from (GuestRecFits s.geometry) guest_row s.guest n row h.guest is in subst (InFields (NamesInReach s.geometry.size)) f.2 ((guest_splits s.version s.geometry f.0).0 f.1).numbers
        numbers (Source, n) row is = let f = row_from (SourceRecFits s.geometry) source_row s.source n row h.source is in subst (InFields (NamesInReach s.geometry.size)) f.2 ((source_splits s.version s.geometry f.0).0 f.1).1.numbers
        numbers (Link, n) row is = let f = row_from (LinkRecFits s.geometry) link_row s.link n row h.link is in subst (InFields (NamesInReach s.geometry.size)) f.2 ((link_splits s.version s.geometry f.0).0 f.1).numbers
        numbers (Lane, n) row is = let f = row_from (LaneRecFits s.version s.geometry) lane_row s.lane n row h.lane is in subst (InFields (NamesInReach s.geometry.size)) f.2 ((lane_splits s.version s.geometry f.0).0 f.1).1.numbers
        numbers (Pager, n) row is = let f = row_from (PagerRecFits s.version s.geometry) pager_row s.pager n row h.pager is in subst (InFields (NamesInReach s.geometry.size)) f.2 ((pager_splits s.version s.geometry f.0).0 f.1).numbers

  module _ (fits : Fits s) (within : IsWithinLimits s) where
    splits_at : (name : Name) (row : Consists) → row_of s name ≡ Some row → (contents : Option (List ℕ)) → ((content : List ℕ) → contents ≡ Some content → contents_of s name ≡ Some content) → Splits s.version s.geometry row contents
    splits_at name row is contents at = record { fields = fits.fields name row is; numbers = within.numbers name row is; contents = λ content e. fits.contents name content (at content e) }

    few_at_most : (log : LogName) → log_length s log ≤ longest_log
    few_at_most log = let few = within.size.few log in let most = (limits_at_most s.geometry.size).few_records in omega (arith, few, most)

    pub is_session : IsSession s
    is_session = record {
      size = within.size.size;
      geometry = within.size.extent;
      init = fits.init;
      few_guest = few_at_most Guest;
      few_source = few_at_most Source;
      few_link = few_at_most Link;
      few_lane = few_at_most Lane;
      few_pager = few_at_most Pager;
      own = within.size.few;
      guest = each_from (GuestRecFits s.geometry) s.guest (λ n r is. (guest_splits s.version s.geometry r).1 (splits_at (Guest, n) (guest_row r) (ap (option_map guest_row) is) None (λ content e. absurd (cc))));
      source = each_from (SourceRecFits s.geometry) s.source (λ n r is. (source_splits s.version s.geometry r).1 (fits.source n r is, splits_at (Source, n) (source_row r) (ap (option_map source_row) is) (source_contents r) (λ content e. ap (if_there source_contents) is ∙ e)));
      link = each_from (LinkRecFits s.geometry) s.link (λ n r is. (link_splits s.version s.geometry r).1 (splits_at (Link, n) (link_row r) (ap (option_map link_row) is) None (λ content e. absurd (cc))));
      lane = each_from (LaneRecFits s.version s.geometry) s.lane (λ n r is. let at = ap (option_map lane_row) is in (lane_splits s.version s.geometry r).1 (fits.logs (Lane, n) (lane_row r) at, splits_at (Lane, n) (lane_row r) at None (λ content e. absurd (cc))));
      pager = each_from (PagerRecFits s.version s.geometry) s.pager (λ n r is. (pager_splits s.version s.geometry r).1 (splits_at (Pager, n) (pager_row r) (ap (option_map pager_row) is) (pager_contents r) (λ content e. ap (if_there pager_contents) is ∙ e)));
    }

-- a session is one that fits, within the limits of size
pub session_is : (s : Recorded) → IsSession s ↔ (Fits s × IsWithinLimits s)
session_is s = (λ h. (session_fits s h, session_within s h), λ h. is_session s h.0 h.1)
