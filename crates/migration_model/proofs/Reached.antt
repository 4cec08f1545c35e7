-- What is reached from a script's start stays so.
use Rattle.migration_model.proofs.Whole.{MachineKept, run_is_faultless, run_kept}
use Rattle.migration_model.specs.Events.{if_taken, run, start, step}
use Rattle.migration_model.specs.Books.{IsScript, Recording, Scripted}
use Rattle.migration_model.specs.Promise.{IsFaultlessRecording, IsReached}
use Rattle.migration_events.specs.declared.events.Event.{Event}
use Rattle.std.proofs.Common.{List, None, Option, Some, [], ap, refl, ◌++◌, ◌∙◌, ◌∷◌, ◌≡◌}

taken_none : (q : Option Recording) → if_taken (run []) q ≡ q
taken_none None = refl
taken_none (Some core) = refl

-- one event more
run_more : (es : List Event) (e : Event) (core : Recording) → run (es ++ e ∷ []) core ≡ if_taken (step e) (run es core)
run_more [] e core = taken_none (step e core)
run_more (x ∷ es) e core = go (step x core) (λ next. run_more es e next)
  where
    go : (q : Option Recording) → ((next : Recording) → run (es ++ e ∷ []) next ≡ if_taken (step e) (run es next)) → if_taken (run (es ++ e ∷ [])) q ≡ if_taken (step e) (if_taken (run es) q)
    go None rec = refl
    go (Some next) rec = rec next

pub start_reached : (script : Scripted) → IsScript script → IsReached (start script)
start_reached script fits = record { script = script; fits = fits; events = []; runs = refl }

pub step_reached : (e : Event) (core next : Recording) → IsReached core → step e core ≡ Some next → IsReached next
step_reached e core next k is = record {
  script = k.script;
  fits = k.fits;
  events = k.events ++ e ∷ [];
  runs = run_more k.events e (start k.script) ∙ ap (λ q. if_taken (step e) q) k.runs ∙ is;
}

-- the invariant of the events
pub reached_kept : (core : Recording) → IsReached core → MachineKept core
reached_kept core k = run_kept k.script k.events core k.fits k.runs

pub reached_faultless : (core : Recording) → IsReached core → IsFaultlessRecording core
reached_faultless core k = run_is_faultless k.script k.events core k.fits k.runs
