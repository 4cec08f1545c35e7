-- A session with thinned logs: some reads and writes of the guest are left out, and those that are kept have new numbers.
use Rattle.std.specs.Prelude.{◌≡◌, ◌≢◌, ℕ, ◌<◌, ◌≤◌, Bool, true, false, ◌==◌, ◌&&◌, ◌⊎◌, List, length, map, Some, slice_get}
use Rattle.migration_types.specs.declared.records.LogName.TheVariants.{Guest}
use Rattle.migration_types.specs.declared.records.GuestRec.{GuestRec}
use Rattle.migration_types.specs.declared.records.GuestRec.TheVariants.{Read, Write, Release, Halt}
use Rattle.migration_types.specs.declared.records.SourceRec.{SourceRec}
use Rattle.migration_types.specs.declared.records.SourceRec.TheVariants.{Halted}
use Rattle.migration_types.specs.declared.records.PagerRec.{PagerRec}
use Rattle.migration_types.specs.declared.records.PagerRec.TheVariants.{Fault}
use Rattle.migration_types.specs.Receipts.{Name}
use Rattle.migration_types.specs.Sessions.{Recorded}
use Rattle.audit_model.specs.Names.{receipt}
use Rattle.audit_model.specs.declared.home.Home.{Home}
use Rattle.audit_model.specs.declared.home.Home.TheVariants.{AtSource, Nowhere, AtTarget}
use Rattle.audit_model.specs.Flat.{flat, in_ledger, home, at_halt}
use Rattle.audit_model.specs.Worlds.{touched}
use Rattle.audit_model.specs.Windows.{kept_in, rank}

-- A record that names a record of the guest names it by its new number: how many before it are kept.
abbrev pub thin_source : List Bool → SourceRec → SourceRec
thin_source marks (Halted halt) = Halted (rank marks halt)
thin_source marks r = r

abbrev pub thin_pager : List Bool → PagerRec → PagerRec
thin_pager marks (Fault miss) = Fault (rank marks miss)
thin_pager marks r = r

-- the session with those of the guest's records that are marked, and with all records of the other logs
abbrev pub thinned : List Bool → Recorded → Recorded
thinned marks s = record {
  version = s.version;
  geometry = s.geometry;
  init = s.init;
  guest = kept_in marks s.guest;
  source = map (thin_source marks) s.source;
  link = s.link;
  lane = s.lane;
  pager = map (thin_pager marks) s.pager;
}

-- the name there of the record with this name
abbrev pub thin_name : List Bool → Name → Name
thin_name marks (Guest, n) = (Guest, rank marks n)
thin_name marks name = name

-- the record with this name is kept
abbrev pub IsKept : List Bool → Name → Type 0
IsKept marks (Guest, n) = slice_get marks n ≡ Some true
IsKept marks name = Unit {0}

-- the guest is at the source, or at the target, where it has used the page
abbrev pub HasUsed : Home → Bool → Type 0
HasUsed AtSource used = Unit {0}
HasUsed Nowhere used = ⊥
HasUsed AtTarget used = used ≡ true

-- a read of the page before guest record n gives another value than one machine that never moved would
pub record IsMisread (s : Recorded) (n page : ℕ) : Type 0 where
  pub place : ℕ
  pub vcpu : ℕ
  pub cell : ℕ
  pub value : ℕ
  pub is_earlier : place < n
  pub stands : slice_get s.guest place ≡ Some (Read vcpu page cell value)
  pub is_wrong : value ≢ flat s place page cell

-- whether it decides the value of the cell: a write to it, or a release of its page
abbrev pub decides : ℕ → ℕ → GuestRec → Bool
decides page cell (Write vcpu p c value) = (p == page) && (c == cell)
decides page cell (Release vcpu p) = p == page
decides page cell _ = false

-- whether it shows the value of the cell: a read of it, or the halt, at which pages are as the source sends them
abbrev pub shows : ℕ → ℕ → GuestRec → Bool
shows page cell (Read vcpu p c value) = (p == page) && (c == cell)
shows page cell Halt = true
shows page cell _ = false

-- A later record that is kept decides the value of the cell. No record between shows it.
pub record IsOverwritten (marks : List Bool) (s : Recorded) (n page cell : ℕ) : Type 0 where
  pub place : ℕ
  pub by : GuestRec
  pub is_later : n < place
  pub stands : slice_get s.guest place ≡ Some by
  pub is_kept : slice_get marks place ≡ Some true
  pub is_decided : decides page cell by ≡ true
  pub is_unseen : (k : ℕ) (r : GuestRec) → n < k → k < place → slice_get s.guest k ≡ Some r → shows page cell r ≡ false

-- guest record n is past the first halt, and no record after it shows the value of the cell
pub record IsUnseen (s : Recorded) (n page cell : ℕ) : Type 0 where
  pub is_past : at_halt s ≤ n
  pub is_hidden : (k : ℕ) (r : GuestRec) → n < k → slice_get s.guest k ≡ Some r → shows page cell r ≡ false

-- a write of the value that the cell has, to a page that is not released
pub record IsRepeated (s : Recorded) (n page cell value : ℕ) : Type 0 where
  pub is_flat : value ≡ flat s n page cell
  pub is_owed : in_ledger s n page ≡ false

-- Guest record n may be left out. It reads or writes what its cell has, or writes what is overwritten before it shows or
-- never shows, or its page was misread before. It is not its page's first use at the target.
abbrev pub MayGo : List Bool → Recorded → ℕ → GuestRec → Type 0
MayGo marks s n (Read vcpu p c value) = HasUsed (home s n) (touched s n p) × ((value ≡ flat s n p c) ⊎ IsMisread s n p)
MayGo marks s n (Write vcpu p c value) = HasUsed (home s n) (touched s n p) × (IsRepeated s n p c value ⊎ (IsOverwritten marks s n p c ⊎ (IsUnseen s n p c ⊎ IsMisread s n p)))
MayGo marks s n _ = ⊥

-- Each of the guest's records has a mark. A record that is not kept may be left out, and no record of another log is a
-- receipt for it.
pub record IsThinning (marks : List Bool) (s : Recorded) : Type 0 where
  pub has_marks : length marks ≡ length s.guest
  pub may_go : (n : ℕ) (r : GuestRec) → slice_get s.guest n ≡ Some r → slice_get marks n ≡ Some false → MayGo marks s n r
  pub is_unnamed : (name : Name) (n : ℕ) → receipt s name ≡ Some (Guest, n) → slice_get marks n ≢ Some false

-- a session with thinned logs, which may be thinned again
pub data IsThinned (whole : Recorded) : Recorded → Type 0 where
  itself : IsThinned whole whole
  again : {thin next : Recorded} → IsThinned whole thin → (marks : List Bool) → IsThinning marks thin → next ≡ thinned marks thin → IsThinned whole next
