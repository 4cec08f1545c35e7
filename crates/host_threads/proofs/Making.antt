-- Events and rounds of them, one after another.
use Rattle.std.proofs.Common.{◌≡◌, ◌≢◌, inr, ℕ, zero, suc, ◌+◌, ◌<◌, true, false, List, ◌∷◌, length, drop, get_or, refl, arith}
use Rattle.std.proofs.lemmas.List.{at_drop_more}
use Rattle.migration_events.specs.declared.events.Event.{Event}
use Rattle.host_threads.specs.declared.stop_reason.StopReason.{StopReason}
use Rattle.host_threads.specs.declared.turns.TurnReport.{TurnReport}
use Rattle.host_threads.specs.declared.turns.TurnReport.TheVariants.{Did, Offered, Served, Idle, Stops}
use Rattle.host_threads.specs.Rounds.{MakesFirst, MakesOften, goes_on, told_last}

-- one event for which there was nothing to do, and then the others
pub passes_one : {S : Type 0} (makes : Event → TurnReport → S → S → Type 0) (events : List Event) (i : ℕ) (d : Event) (t turn : TurnReport) (old mid new : S) → i < length events → makes (get_or events i d) t old mid → t ≡ Idle → MakesFirst makes (drop (i + 1) events) turn mid new → MakesFirst makes (drop i events) turn old new
passes_one makes events i d t turn old mid new within made idle more =
    let is : drop i events ≡ get_or events i d ∷ drop (i + 1) events = at_drop_more (λ (es : List Event). es) events i d within in
    rw is (inr (mid, rw idle at made, more))

-- the last round of those that are left
pub ends_with : {S : Type 0} (round : TurnReport → S → S → Type 0) (n : ℕ) (before t turn : TurnReport) (old new : S) → 0 < n → round t old new → goes_on t ≡ false → turn ≡ told_last t before → MakesOften round n before turn old new
ends_with round zero before t turn old new some made ends told = absurd (omega (arith, some))
ends_with round (suc n) before t turn old new some made ends told = (t, new, made, rw ends (told, refl))

-- another round
pub goes_with : {S : Type 0} (round : TurnReport → S → S → Type 0) (n : ℕ) (before t turn : TurnReport) (old mid new : S) → round t old mid → goes_on t ≡ true → MakesOften round n t turn mid new → MakesOften round (suc n) before turn old new
goes_with round n before t turn old mid new made goes more = (t, mid, made, rw goes more)

pub other_goes : (t : TurnReport) → t ≢ Idle → ((fault : StopReason) → t ≢ Stops fault) → goes_on t ≡ true
other_goes Did i s = refl
other_goes (Offered page) i s = refl
other_goes Served i s = refl
other_goes Idle i s = absurd (i refl)
other_goes (Stops fault) i s = absurd (s fault refl)
