-- Marks for a log's records, one for each, which say which are kept; made from the places of those that are.
use Rattle.std.specs.Prelude.{ℕ, suc, ◌≤◌, ◌<◌, ◌==◌, Bool, List, [], ◌∷◌, map, Option, Some, None, slice_get}
use Rattle.std.specs.List.{list_any, range_with_len}
use Rattle.audit_model.specs.Windows.{is_marked}

-- whether a place is one of these
abbrev pub is_in : List ℕ → ℕ → Bool
is_in places n = list_any (λ p. p == n) places

-- this many marks, of which those at these places say to keep
abbrev pub marks_of : List ℕ → ℕ → List Bool
marks_of places count = map (is_in places) (range_with_len 0 count)

-- the places rise, from one on, and are below an end
abbrev pub Rises : ℕ → ℕ → List ℕ → Type 0
Rises low end [] = Unit {0}
Rises low end (p ∷ places) = (low ≤ p) × (p < end) × Rises (suc p) end places

-- whether there is a mark there, and it says to keep
abbrev pub has_mark : List Bool → ℕ → Bool
has_mark marks n = is_marked (slice_get marks n)

-- a mark for itself
abbrev pub is_mark : Bool → Bool
is_mark mark = mark

-- one more than a place, or 0 if there is none
abbrev pub past : Option ℕ → ℕ
past None = 0
past (Some n) = suc n
