-- The result of several events under one hold of the locks, one after another.
use Rattle.std.specs.Prelude.{◌≡◌, ◌≢◌, ◌⊎◌, ℕ, zero, suc, Bool, true, false, MatchBool, List, [], ◌∷◌}
use Rattle.migration_events.specs.declared.events.Event.{Event}
use Rattle.host_threads.specs.declared.turns.TurnReport.{TurnReport}
use Rattle.host_threads.specs.declared.turns.TurnReport.TheVariants.{Idle, Stops}

-- A round: the first of these events that finds something to do is carried out, and reported. Each event before it
-- found nothing to do.
abbrev pub MakesFirst : {S : Type 0} → (Event → TurnReport → S → S → Type 0) → List Event → TurnReport → S → S → Type 0
MakesFirst makes [] turn old new = (turn ≡ Idle) × (new ≡ old)
MakesFirst {S} makes (event ∷ events) turn old new =
    ((turn ≢ Idle) × makes event turn old new) ⊎ ((mid : S) × makes event Idle old mid × MakesFirst makes events turn mid new)

-- whether there was something to do, and the run goes on
abbrev pub goes_on : TurnReport → Bool
goes_on Idle = false
goes_on (Stops fault) = false
goes_on turn = true

-- The report on all rounds, given the last one and the report before it: that the run stops, or else the report before.
abbrev pub told_last : TurnReport → TurnReport → TurnReport
told_last (Stops fault) before = Stops fault
told_last turn before = before

-- Rounds, as long as there is something to do and the run goes on, at most this many more.
abbrev pub MakesOften : {S : Type 0} → (TurnReport → S → S → Type 0) → ℕ → TurnReport → TurnReport → S → S → Type 0
MakesOften round zero before turn old new = (turn ≡ before) × (new ≡ old)
MakesOften {S} round (suc n) before turn old new =
    (t : TurnReport) × (mid : S) × round t old mid × MatchBool (goes_on t) (MakesOften round n t turn mid new) ((turn ≡ told_last t before) × (new ≡ mid))

-- Rounds of these events, from the first on.
abbrev pub MakesAll : {S : Type 0} → (Event → TurnReport → S → S → Type 0) → List Event → ℕ → TurnReport → S → S → Type 0
MakesAll makes events most turn old new = MakesOften (MakesFirst makes events) most Idle turn old new
