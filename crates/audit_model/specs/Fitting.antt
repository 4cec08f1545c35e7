-- Sessions of any size whose records fit their machine, and the limits of size.
use Rattle.std.specs.Prelude.{◌≡◌, ℕ, ◌<◌, ◌≤◌, ◌^◌, List, Option, Some, None, slice_get}
use Rattle.std.specs.List.{AllByRecursion}
use Rattle.std.specs.Option.{IfSome}
use Rattle.migration_types.specs.declared.version.Version.{Version}
use Rattle.migration_types.specs.declared.records.LogName.{LogName}
use Rattle.migration_types.specs.declared.records.LogName.TheVariants.{Guest, Source, Link, Lane, Pager}
use Rattle.migration_types.specs.declared.records.SourceRec.{SourceRec}
use Rattle.migration_types.specs.declared.rows.Field.{Field}
use Rattle.migration_types.specs.declared.rows.Field.TheVariants.{Vcpu, Page, Cell, Value, Number, Handover}
use Rattle.migration_types.specs.declared.size.Size.{Size}
use Rattle.migration_types.specs.Limits.{HasSize, limits, vcpus}
use Rattle.migration_types.specs.Extents.{Extent, IsExtent}
use Rattle.migration_types.specs.Contents.{IsContent}
use Rattle.migration_types.specs.Pages.{AreInitPages}
use Rattle.migration_types.specs.Receipts.{Name}
use Rattle.migration_types.specs.Rows.{Consists, field_name, row_of, source_contents, pager_contents}
use Rattle.migration_types.specs.Sessions.{Recorded, IsNumber, HasLog, HasSourceRec, log_length}
use Rattle.audit_model.specs.Names.{if_there}

-- A field of a record is within a machine of this extent: its virtual processor, its page and its cell exist, its value
-- has 64 bits, and what it names is of a log that the version has.
abbrev pub FieldIsOf : Version → Extent → Field → Type 0
FieldIsOf version e (Vcpu n) = n < vcpus
FieldIsOf version e (Page n) = n < e.pages
FieldIsOf version e (Cell n) = n < e.cells
FieldIsOf version e (Value n) = n < 2 ^ 64
FieldIsOf version e (Number log n) = HasLog version log
FieldIsOf version e (Handover log n) = HasLog version log

-- the contents of the record with this name, if it exists and has any
abbrev pub contents_of : Recorded → Name → Option (List ℕ)
contents_of s (Source, n) = if_there source_contents (slice_get s.source n)
contents_of s (Pager, n) = if_there pager_contents (slice_get s.pager n)
contents_of s (Guest, n) = None
contents_of s (Link, n) = None
contents_of s (Lane, n) = None

-- A session of any size in which each record fits the machine: the version has the record's log, the size has the
-- source's record, its fields are within the machine, and its contents have one value for each cell of a page. Nothing
-- limits the machine or the number of records.
pub record Fits (s : Recorded) : Type 0 where
  pub init : AreInitPages s.geometry s.init
  pub logs : (name : Name) (row : Consists) → row_of s name ≡ Some row → HasLog s.version name.0
  pub source : (n : ℕ) (r : SourceRec) → slice_get s.source n ≡ Some r → HasSourceRec s.geometry.size r
  pub fields : (name : Name) (row : Consists) → row_of s name ≡ Some row → AllByRecursion (FieldIsOf s.version s.geometry) row.fields
  pub contents : (name : Name) (content : List ℕ) → contents_of s name ≡ Some content → IsContent s.geometry.cells content

-- the version has machines of this size, and the machine and the logs are within its limits
pub record FitsSize (s : Recorded) : Type 0 where
  pub size : HasSize s.version s.geometry.size
  pub extent : IsExtent s.geometry
  pub few : (log : LogName) → log_length s log ≤ (limits s.geometry.size).records

-- a field does not name a record with a number beyond the limit
abbrev pub NamesInReach : Size → Field → Type 0
NamesInReach size field = IfSome (field_name field) (λ named. IsNumber size named.1)

-- the limits of the size: for the machine, the logs, and the numbers by which records are named
pub record IsWithinLimits (s : Recorded) : Type 0 where
  pub size : FitsSize s
  pub numbers : (name : Name) (row : Consists) → row_of s name ≡ Some row → AllByRecursion (NamesInReach s.geometry.size) row.fields
