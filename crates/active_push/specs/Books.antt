-- The invariant of the source's book.
use Rattle.std.specs.Prelude.{◌≡◌, ℕ, ◌≤◌, Bool, true, false, List, length, Option, Some, slice_get}
use Rattle.std.specs.List.{list_any}
use Rattle.migration_types.specs.declared.records.SourceRec.{SourceRec}
use Rattle.migration_types.specs.declared.records.SourceRec.TheVariants.{Halted, State, Send, Ask, Done}
use Rattle.migration_types.specs.Limits.{most_records}
use Rattle.migration_types.specs.Memory.{page_of}
use Rattle.page_store.specs.Frames.{Frames, memory_of}
use Rattle.page_store.specs.Tables.{Values, values, pages_of}
use Rattle.balloon_ledger.specs.Released.{Marks, released, pages_below}
use Rattle.bubbling.specs.Bubbling.{Bubbling, unsent as unsent_in}
use Rattle.active_push.specs.SourcePart.{SourcePart, owes, unsent}

-- The log, the machine as the guest left it, the number of each page's `send`, the pages to be pushed, and the released
-- pages.
pub record SourceKept : Type 0 where
  pub log : List SourceRec
  pub frames : Frames
  pub ledger : Marks
  pub sent : Values (Option ℕ)
  pub bubbles : Bubbling
  pub was_asked : Bool
  pub is_done : Bool
  pub released : List ℕ

-- the part of the events that a book stands for
abbrev pub part_of : SourceKept → SourcePart
part_of b = record {
  geometry = b.frames.geometry;
  log = b.log;
  memory = memory_of b.frames;
  ledger = released b.ledger;
  sent = values b.sent;
  ring = b.bubbles.ring;
  was_asked = b.was_asked;
  is_done = b.is_done;
}

-- the page is owed, these are its contents, and the record of this number is its only `send`
pub record IsOnlySend (b : SourcePart) (page number : ℕ) (contents : List ℕ) : Type 0 where
  pub owed : owes b page ≡ true
  pub contents_are : contents ≡ page_of b.geometry.cells b.memory page
  pub is_only : b.sent page ≡ Some number

-- whether a record says that the source was asked for something, or was told that all pages are placed
abbrev pub is_ask : SourceRec → Bool
is_ask (Ask up) = true
is_ask _ = false

abbrev pub is_end : SourceRec → Bool
is_end Done = true
is_end _ = false

-- The log begins with the halt and the state, and has room for each of its records. The sent pages are those that have
-- a `send`; each has one, and it carries what the frames have. The source was asked, and was told that all pages are
-- placed, exactly when the log says so.
pub record IsSourceLog (b : SourcePart) : Type 0 where
  pub some : 2 ≤ length b.log
  pub few : length b.log ≤ most_records
  pub halted : (halt : ℕ) × (slice_get b.log 0 ≡ Some (Halted halt))
  pub state : slice_get b.log 1 ≡ Some State
  pub sent : (page number : ℕ) → b.sent page ≡ Some number → slice_get b.log number ≡ Some (Send page (page_of b.geometry.cells b.memory page))
  pub sends : (page number : ℕ) (contents : List ℕ) → slice_get b.log number ≡ Some (Send page contents) → IsOnlySend b page number contents
  pub asked : b.was_asked ≡ list_any is_ask b.log
  pub done : b.is_done ≡ list_any is_end b.log

-- All parts are of one machine. The pages to be pushed are those that are not sent. The list of released pages is the
-- ledger's.
pub record IsSourceBook (b : SourceKept) : Type 0 where
  pub ledger : b.ledger.geometry ≡ b.frames.geometry
  pub bubbles : b.bubbles.geometry ≡ b.frames.geometry
  pub table : pages_of b.sent ≡ b.frames.geometry.pages
  pub unsent_is : unsent_in b.bubbles ≡ unsent (part_of b)
  pub released_are : b.released ≡ pages_below b.frames.geometry.pages (released b.ledger)
  pub log : IsSourceLog (part_of b)
