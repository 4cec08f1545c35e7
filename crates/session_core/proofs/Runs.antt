-- Runs of events, event by event.
use Rattle.migration_events.specs.declared.events.Event.{Event}
use Rattle.migration_model.specs.Events.{if_taken, run, start, step}
use Rattle.migration_model.specs.Books.{Books, IsScript, Recording, Scripted, session_of}
use Rattle.migration_model.specs.Promise.{IsReached}
use Rattle.migration_model.proofs.Reached.{start_reached, step_reached}
use Rattle.session_core.proofs.Promised.{reached_promised}
use Rattle.session_core.specs.Cores.{RunsTo}
use Rattle.session_core.specs.Promised.{IsPromised}
use Rattle.std.proofs.Common.{List, None, Option, Some, [], ap, drop, get_or, length, refl, subst, sym, take, ℕ, ◌+◌, ◌++◌, ◌<◌, ◌∙◌, ◌∷◌, ◌≡◌}
use Rattle.std.proofs.lemmas.List.{take-append-drop, take_more}

-- a run goes on after its first events
pub run_append : (es fs : List Event) (core : Recording) → run (es ++ fs) core ≡ if_taken (run fs) (run es core)
run_append [] fs core = refl
run_append (e ∷ es) fs core = go (step e core) (λ next. run_append es fs next)
  where
    go : (q : Option Recording) → ((next : Recording) → run (es ++ fs) next ≡ if_taken (run fs) (run es next)) → if_taken (run (es ++ fs)) q ≡ if_taken (run fs) (if_taken (run es) q)
    go None rec = refl
    go (Some next) rec = rec next

-- one event more was taken
pub run_next : (es : List Event) (i : ℕ) (d : Event) (first core next : Recording) → i < length es → run (take i es) first ≡ Some core → step (get_or es i d) core ≡ Some next → run (take (i + 1) es) first ≡ Some next
run_next es i d first core next lt so_far taken =
    ap (λ xs. run xs first) (take_more es i d lt)
    ∙ run_append (take i es) (get_or es i d ∷ []) first
    ∙ ap (λ q. if_taken (run (get_or es i d ∷ [])) q) so_far
    ∙ ap (λ q. if_taken (run []) q) taken

-- an event was refused
pub run_refused : (es : List Event) (i : ℕ) (d : Event) (first core : Recording) → i < length es → run (take i es) first ≡ Some core → step (get_or es i d) core ≡ None → run es first ≡ None
run_refused es i d first core lt so_far refused =
    let none : run (take (i + 1) es) first ≡ None =
    ap (λ xs. run xs first) (take_more es i d lt)
    ∙ run_append (take i es) (get_or es i d ∷ []) first
    ∙ ap (λ q. if_taken (run (get_or es i d ∷ [])) q) so_far
    ∙ ap (λ q. if_taken (run []) q) refused in
    ap (λ xs. run xs first) (sym (take-append-drop (i + 1) es))
    ∙ run_append (take (i + 1) es) (drop (i + 1) es) first
    ∙ ap (λ q. if_taken (run (drop (i + 1) es)) q) none

-- what events reach from a reached core is reached
pub run_reached : (es : List Event) (first core : Recording) → IsReached first → run es first ≡ Some core → IsReached core
run_reached [] first core k is = let same : first ≡ core = cc in subst IsReached same k
run_reached (e ∷ es) first core k is = go (step e first) refl is (λ next. run_reached es next core)
  where
    go : (q : Option Recording) → step e first ≡ q → if_taken (run es) q ≡ Some core → ((next : Recording) → IsReached next → run es next ≡ Some core → IsReached core) → IsReached core
    go None taken is rec = absurd cc
    go (Some next) taken is rec = rec next (step_reached e first next k taken) is

-- the books of a script before its first event
pub from_start : (script : Scripted) (books : Books) → books ≡ (start script).books → (record { books = books; order = [] }) ≡ start script
from_start script books is = ap (λ (b : Books). let core : Recording = record { books = b; order = [] } in core) is

pub started : (script : Scripted) (books : Books) → IsScript script → books ≡ (start script).books → IsReached (record { books = books; order = [] })
started script books fits is = subst IsReached (sym (from_start script books is)) (start_reached script fits)

-- what is promised of all that events come to from there
pub run_promised : (script : Scripted) (books : Books) → IsScript script → books ≡ (start script).books → (events : List Event) (new : Books) (runs : RunsTo events (record { books = books; order = [] }) new) → IsPromised (session_of new) runs.order
run_promised script books fits is events new runs =
    let core : Recording = record { books = new; order = runs.order } in
    reached_promised core (run_reached events (record { books = books; order = [] }) core (started script books fits is) runs.runs)
