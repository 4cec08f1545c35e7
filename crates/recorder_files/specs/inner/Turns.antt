-- Files that wait for their turn.
use Rattle.std.specs.Prelude.{◌≡◌, ◌≤◌, ◌⊎◌, ℕ, List, Option, Some, slice_get}
use Rattle.std.specs.BinaryHeap.{IsHeap, heap_items}
use Rattle.std.specs.Int.RustNames.{bit_and}
use Rattle.std.specs.List.{Contains}
use Rattle.std.specs.Ordering.{nat_cmp, ordering_then}
use Rattle.std.specs.declared.cmp.Reverse.{Reverse}
use Rattle.recorder_files.specs.declared.turns.Turn.{Turn}
use Rattle.recorder_files.specs.declared.turns.Turn.TheVariants.{Of, Twice, Missing, End}
use Rattle.recorder_files.specs.declared.turns.Turns.{Turns}
use Rattle.recorder_files.specs.declared.turns.Waiting.{Waiting}
use Rattle.recorder_files.specs.Gathered.{Has}

-- a heap with the least number first
abbrev pub IsInOrder : List (Reverse (ℕ × ℕ)) → Type 0
IsInOrder queue = IsHeap (λ x y. ordering_then (nat_cmp y.0.0 x.0.0) (nat_cmp y.0.1 x.0.1)) queue

-- this file is in the queue behind this number
abbrev pub IsQueued : List (Reverse (ℕ × ℕ)) → ℕ → ℕ → Type 0
IsQueued queue n j = (e : Reverse (ℕ × ℕ)) × Contains queue e × (e.0.0 ≡ n) × (e.0.1 ≡ j)

abbrev pub place_of : Waiting → ℕ → ℕ
place_of w n = bit_and n w.mask

-- this file is at the place of this number
abbrev pub IsPlaced : Waiting → ℕ → ℕ → Type 0
IsPlaced w n j = slice_get w.table.items (place_of w n) ≡ Some j

-- this file waits behind this number
abbrev pub Waits : Waiting → ℕ → ℕ → Type 0
Waits w n j = IsPlaced w n j ⊎ IsQueued (heap_items w.queue) n j

pub record AreKept (w : Waiting) : Type 0 where
  pub order : IsInOrder (heap_items w.queue)
  pub least : (n j : ℕ) → IsQueued (heap_items w.queue) n j → w.queued ≤ n

-- each file but the one whose record came last waits, if it has a next record
pub record AreTurns (heads : List (Option ℕ)) (t : Turns) : Type 0 where
  pub kept : AreKept t.waiting
  pub wait : (j n : ℕ) → Has heads j n → (j ≡ t.last → ⊥) → Waits t.waiting n j

-- if it is a file's turn, it is this file's
abbrev pub IsOfLast : ℕ → Turn → Type 0
IsOfLast last (Of i) = i ≡ last
IsOfLast last (Twice i j) = Unit {0}
IsOfLast last (Missing n) = Unit {0}
IsOfLast last End = Unit {0}
