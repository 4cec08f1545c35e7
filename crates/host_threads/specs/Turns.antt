-- What a thread reports on its turn under the locks.
use Rattle.std.specs.Prelude.{◌≡◌, Result, Ok, Err}
use Rattle.migration_events.specs.declared.events.Event.{Event}
use Rattle.migration_events.specs.declared.faults.EventFault.{EventFault}
use Rattle.migration_model.specs.Books.{BooksAfter}
use Rattle.book_events.specs.Parts.{IsMade, IsSame, IsOffered, IsDone}
use Rattle.book_events.specs.declared.effect.Effect.{Effect}
use Rattle.book_events.specs.declared.effect.Effect.TheVariants as effect
use Rattle.host_threads.specs.Reasons.{fault_by}
use Rattle.host_threads.specs.declared.turns.TurnReport.{TurnReport}
use Rattle.host_threads.specs.declared.turns.TurnReport.TheVariants.{Did, Offered, Served, Idle, Stops}

-- The turn carried out the event on the books: something has changed, and a packet of a page was offered exactly if the
-- report says so. If the turn found nothing to do, the event changes nothing, and nothing has changed. If the run
-- stops, nothing has changed either.
abbrev pub IsTurn : TurnReport → Event → (BooksAfter → BooksAfter) → (BooksAfter → BooksAfter) → Type 0
IsTurn Did e old new = IsMade e old new × IsDone old new
IsTurn (Offered page) e old new = IsMade e old new × IsOffered page old new
IsTurn Served e old new = IsMade e old new × IsDone old new
IsTurn Idle e old new = IsMade e old new × IsSame old new
IsTurn (Stops fault) e old new = IsSame old new

-- an event that the thread does not try: it reports that there was nothing to do, and nothing has changed
abbrev pub IsUntried : TurnReport → (BooksAfter → BooksAfter) → (BooksAfter → BooksAfter) → Type 0
IsUntried turn old new = (turn ≡ Idle) × IsSame old new

-- the report on an event that was not refused, and on one that may have been
abbrev pub turn_by : Effect → TurnReport
turn_by effect.Nothing = Idle
turn_by effect.Made = Did
turn_by (effect.Offered page) = Offered page

abbrev pub turn_of : Result Effect EventFault → TurnReport
turn_of (Ok c) = turn_by c
turn_of (Err fault) = Stops (fault_by fault)

-- an event on the pager's and the target's books concerns the virtual processors
abbrev pub to_all : TurnReport → TurnReport
to_all Did = Served
to_all turn = turn
