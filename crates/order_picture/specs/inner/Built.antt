-- Rows while they are built.
use Rattle.std.specs.Prelude.{◌≡◌, ℕ, ◌+◌, ◌<◌, nat_lt, true, List, [], ◌∷◌, ◌++◌, Option, Some, None, length, slice_get, if◌then◌else◌}
use Rattle.std.specs.List.{list_any}
use Rattle.migration_types.specs.Receipts.{Name}
use Rattle.audit_model.specs.Mergings.{at_start}
use Rattle.audit_model.specs.Walks.{cursors_from}
use Rattle.merge_runs.specs.Taken.{cursors_of}
use Rattle.order_picture.specs.declared.focus.Mark.{Mark}
use Rattle.order_picture.specs.declared.picture.PictureRow.{PictureRow}
use Rattle.order_picture.specs.declared.picture.PictureRow.TheVariants.{Fold}
use Rattle.order_picture.specs.declared.rows.Building.{Building}
use Rattle.order_picture.specs.Rows.{Covers, has_row, is_certain, is_faulty, shows_fault}

-- the rows, with the records that came after the last one folded into a row of their own, if there are any
abbrev pub closed_rows : Building → List PictureRow
closed_rows b = if nat_lt 0 b.folded then b.rows.items ++ Fold b.since ∷ [] else b.rows.items

-- these names have come: the rows cover the first of them, and the others are folded
pub record IsBuilt (mark : Name → Mark) (b : Building) (names : List Name) : Type 0 where
  pub covered : List Name
  pub folded : List Name
  pub parts : names ≡ covered ++ folded
  pub covers : Covers mark b.rows.items covered
  pub counts : cursors_of b.since ≡ cursors_from at_start folded
  pub count : b.folded ≡ length folded
  pub shown : shows_fault b.rows.items ≡ list_any (λ name. is_faulty (mark name)) names
  pub spent : b.fault_left ≡ 0 → shows_fault b.rows.items ≡ true

-- rows, and more after them
abbrev pub Extends : List PictureRow → List PictureRow → Type 0
Extends before after = (more : List PictureRow) × (after ≡ before ++ more)

-- of the first places of an order, this many, those that are certain have rows
abbrev pub HasCertainBelow : (fault cause against : Option ℕ) → List PictureRow → List Name → ℕ → Type 0
HasCertainBelow fault cause against rows order k = (n : ℕ) → n < k → (name : Name) → is_certain fault cause against n ≡ true → slice_get order n ≡ Some name → has_row rows name ≡ true

abbrev pub next_left : Option ℕ → ℕ → ℕ
next_left None n = 0
next_left (Some at) n = (if nat_lt n at then 1 else 0) + (if nat_lt n (at + 2) then 1 else 0)

abbrev pub at_left : Option ℕ → ℕ → ℕ
at_left None n = 0
at_left (Some at) n = if nat_lt n (at + 1) then 1 else 0

-- from this place on, at most this many places are certain
abbrev pub certain_left : (fault cause against : Option ℕ) → ℕ → ℕ
certain_left fault cause against n = next_left fault n + (at_left cause n + at_left against n)
