-- A queue as a map in order of arrival.
use Rattle.std.specs.Prelude.{ℕ, List, map, Vec}
use Rattle.indexmap.specs.IndexMap.{IndexMap}
use Rattle.fault_queue.specs.Waiting.{Waiting}

-- the entries that a map from pages to their waiters holds
abbrev pub entries_of : {A S : Type 0} → IndexMap ℕ (Vec ℕ A) S → List Waiting
entries_of m = map (λ e. record { page = e.0; vcpus = e.1.items }) m.entries
