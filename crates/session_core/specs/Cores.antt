-- The core: what it holds, and what that is in the events.
use Rattle.std.specs.Prelude.{◌≡◌, false, List, [], Some}
use Rattle.migration_events.specs.declared.events.Event.{Event}
use Rattle.migration_types.specs.Receipts.{Name}
use Rattle.migration_types.specs.declared.size.Size.TheVariants.{Small}
use Rattle.migration_types.specs.declared.version.Version.TheVariants.{One}
use Rattle.session_core.specs.States.{home_of, away_of}
use Rattle.migration_model.specs.Books.{Books, Before, After, Recording}
use Rattle.migration_model.specs.Events.{start, run}
use Rattle.session_core.specs.declared.phase.Phase.{Phase}
use Rattle.session_core.specs.declared.phase.Phase.TheVariants.{Before as BeforeHalt, After as AfterHalt, Halting}

-- no books at all
abbrev pub no_books : Books
no_books = (start (record { version = One; geometry = record { size = Small; pages = 0; cells = 0 }; init = []; pivots = 0; window = 0; has_lane = false; vcpus = [] })).books

-- the books; inside a halt, nothing is held, which no caller of a core sees
abbrev pub books_of : Phase → Books
books_of (BeforeHalt h) = Before (home_of h)
books_of (AfterHalt a) = After (away_of a)
books_of Halting = no_books

abbrev pub IsHeld : Phase → Type 0
IsHeld (BeforeHalt h) = Unit {0}
IsHeld (AfterHalt a) = Unit {0}
IsHeld Halting = ⊥

abbrev pub machine : Phase → List Name → Recording
machine phase order = record { books = books_of phase; order = order }

-- the books as they are held, and the recorded order
pub record Cored : Type 0 where
  pub phase : Phase
  pub order : List Name

abbrev pub machine_of : Cored → Recording
machine_of core = machine core.phase core.order

-- events that come to these books, none of them refused, and their recorded order
pub record RunsTo (events : List Event) (first : Recording) (books : Books) : Type 0 where
  pub order : List Name
  pub runs : run events first ≡ Some (record { books = books; order = order })
