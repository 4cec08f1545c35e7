-- The values of stored contents.
use Rattle.std.specs.Prelude.{◌≤◌, ◌+◌, ℕ, ⊤, List, drop, length, take}
use Rattle.std.specs.Arc.{arc_slice_items}
use Rattle.migration_types.specs.declared.contents.Stored.{Stored}
use Rattle.migration_types.specs.declared.contents.Stored.TheVariants.{One, Many, Shared, Part}

abbrev pub values : Stored → List ℕ
values (One value) = value
values (Many items) = items.items
values (Shared items) = arc_slice_items items
values (Part part) = take part.count (drop part.from part.all)

-- a part lies within its list
abbrev pub IsWithin : Stored → Type 0
IsWithin (Part part) = part.from + part.count ≤ length part.all
IsWithin stored = ⊤
