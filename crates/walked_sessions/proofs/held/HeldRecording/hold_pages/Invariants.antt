use Rattle.std.proofs.Common.{map}
use Rattle.migration_types.specs.Sessions.{Recorded}
use Rattle.recordings.specs.Wide.{init_of}
use Rattle.walked_sessions.specs.Held.{IsHeld}
use Rattle.walked_sessions.specs.inner.Fitting.{with_pages}
use Rattle.walked_sessions.proofs.held.HeldRecording.hold_pages.Given as goal

abbrev pub invariant-loop-page : goal.invariant-loop-page
invariant-loop-page l = (d : Recorded) → IsHeld l.fn.self d → IsHeld l.self (with_pages (map init_of l.yielded) d)
