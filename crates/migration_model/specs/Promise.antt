-- What is promised about a recording.
use Rattle.std.specs.Prelude.{◌≡◌, ℕ, ◌<◌, true, false, List, Some, slice_get}
use Rattle.migration_types.specs.declared.records.SourceRec.TheVariants.{Done}
use Rattle.migration_types.specs.Receipts.{Name}
use Rattle.migration_types.specs.Sessions.{Recorded}
use Rattle.audit_model.specs.Mergings.{IsMerging}
use Rattle.audit_model.specs.Flat.{in_ledger, at_halt}
use Rattle.audit_model.specs.World.{world_after, IsSafe}
use Rattle.audit_model.specs.Laws.{IsFaultless}
use Rattle.migration_model.specs.Books.{Recording, session_of, Scripted, IsScript}
use Rattle.migration_model.specs.Events.{start, run}
use Rattle.migration_events.specs.declared.events.Event.{Event}

-- each page that was not released at the halt is resident after these records
abbrev pub HasEachOwed : Recorded → List Name → Type 0
HasEachOwed s order = (page : ℕ) → page < s.geometry.pages → in_ledger s (at_halt s) page ≡ false → (world_after s order).resident page ≡ true

-- what was recorded, and its recorded order
pub record IsFaultlessSession (s : Recorded) (order : List Name) : Type 0 where
  pub faultless : IsFaultless s
  pub merging : IsMerging s order
  pub safe : IsSafe s
  pub done : (n : ℕ) → slice_get s.source n ≡ Some Done → HasEachOwed s order

abbrev pub IsFaultlessRecording : Recording → Type 0
IsFaultlessRecording core = IsFaultlessSession (session_of core.books) core.order

-- a core that some events reach from a script's start, none of them refused
pub record IsReached (core : Recording) : Type 0 where
  pub script : Scripted
  pub fits : IsScript script
  pub events : List Event
  pub runs : run events (start script) ≡ Some core

-- a reached core whose source was told that all pages are placed
pub record SomeRunIsDone : Type 0 where
  pub core : Recording
  pub is_reached : IsReached core
  pub place : ℕ
  pub done : slice_get (session_of core.books).source place ≡ Some Done
