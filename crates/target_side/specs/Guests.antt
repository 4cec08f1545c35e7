-- The invariant of the guest's book.
use Rattle.std.specs.Prelude.{◌≡◌, ◌≤◌, List, [], length}
use Rattle.std.specs.List.{AllByRecursion}
use Rattle.migration_types.specs.declared.pages.InitPage.{InitPage}
use Rattle.migration_types.specs.declared.records.GuestRec.{GuestRec}
use Rattle.migration_types.specs.Extents.{Extent}
use Rattle.migration_types.specs.Limits.{most_records}
use Rattle.migration_types.specs.Sessions.{Recorded}
use Rattle.migration_types.specs.declared.version.Version.TheVariants.{One}
use Rattle.audit_model.specs.Flat.{flat, in_ledger}
use Rattle.page_store.specs.Frames.{Frames, memory_of}
use Rattle.balloon_ledger.specs.Released.{Marks, released}
use Rattle.target_side.specs.History.{IsBeforeHalt}
use Rattle.target_side.specs.GuestPart.{GuestPart}

-- the log, the frames and the released pages
pub record GuestKept : Type 0 where
  pub log : List GuestRec
  pub frames : Frames
  pub ledger : Marks

-- the part of the events that a book stands for
abbrev pub part_of : GuestKept → GuestPart
part_of b = record { geometry = b.frames.geometry; log = b.log; memory = memory_of b.frames; ledger = released b.ledger }

-- what is recorded, in the first version, of a machine if only the guest's log has records
abbrev pub guest_session : Extent → List InitPage → List GuestRec → Recorded
guest_session geometry init log = record { version = One; geometry = geometry; init = init; guest = log; source = []; link = []; lane = []; pager = [] }

-- The log has only reads, writes and releases, of pages and cells of the machine, and is within its limit. For some
-- initial pages, the frames are those of one machine that never moved, and the released pages are those of the log.
pub record IsGuestBook (b : GuestKept) : Type 0 where
  pub few : length b.log ≤ most_records
  pub own : AllByRecursion (IsBeforeHalt b.frames.geometry) b.log
  pub ledger : b.ledger.geometry ≡ b.frames.geometry
  pub init : List InitPage
  pub memory : memory_of b.frames ≡ flat (guest_session b.frames.geometry init b.log) (length b.log)
  pub released_are : released b.ledger ≡ in_ledger (guest_session b.frames.geometry init b.log) (length b.log)
