-- The history, stored as two lists.
use Rattle.std.specs.Prelude.{ℕ, suc, ◌==◌, ◌≤◌, List, [], ◌∷◌, ◌++◌, length, if◌then◌else◌}
use Rattle.std.specs.List.{AllByRecursion}
use Rattle.migration_types.specs.declared.records.GuestRec.{GuestRec}
use Rattle.target_side.specs.declared.target.Placement.{Placement}
use Rattle.target_side.specs.History.{Happening, Did, Placed, IsHistoryOf}
use Rattle.target_side.specs.Kept.{Held, part_held, IsSized}

-- the placements that came after this many records of the guest
abbrev pub placed_after : ℕ → List Placement → List Happening
placed_after n [] = []
placed_after n (p ∷ rest) = if p.after == n then Placed p.page p.number p.contents ∷ placed_after n rest else placed_after n rest

-- the guest's records, the first of which has number n, and the placements between them
abbrev pub woven : ℕ → List GuestRec → List Placement → List Happening
woven n [] placements = placed_after n placements
woven n (r ∷ log) placements = placed_after n placements ++ Did r ∷ woven (suc n) log placements

-- a placement came after no more records than these
abbrev pub IsWithin : ℕ → Placement → Type 0
IsWithin n p = p.after ≤ n

-- the invariant of a book
pub record IsBook (h : Held) (placements : List Placement) : Type 0 where
  pub sized : IsSized h.frames.geometry h
  pub within : AllByRecursion (IsWithin (length h.log)) placements
  pub history : IsHistoryOf (part_held h) (woven 0 h.log placements)
