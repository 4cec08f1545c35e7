-- The rows of a picture as shapes: the boxes of records, and the folded records.
use Rattle.std.specs.Prelude.{ℕ, ◌+◌, List, Option, Some, length, map, nat_lt, if◌then◌else◌}
use Rattle.std.specs.List.{enumerate_from}
use Rattle.migration_types.specs.Receipts.{Name}
use Rattle.migration_types.specs.Sessions.{Recorded, line_of}
use Rattle.audit_model.specs.Names.{log_length}
use Rattle.session_story.specs.declared.amends.Amended.{Amended}
use Rattle.order_picture.specs.declared.boxes.BoxKind.{BoxKind}
use Rattle.order_picture.specs.declared.boxes.BoxKind.TheVariants as kind
use Rattle.order_picture.specs.declared.behind.Obstacle.TheVariants.{Nothing}
use Rattle.order_picture.specs.declared.boxes.Label.{Label}
use Rattle.order_picture.specs.declared.boxes.Label.TheVariants as label
use Rattle.order_picture.specs.declared.focus.Mark.{Mark}
use Rattle.order_picture.specs.declared.focus.Mark.TheVariants as mark
use Rattle.order_picture.specs.declared.picture.Picture.{Picture}
use Rattle.order_picture.specs.declared.picture.PictureRow.{PictureRow}
use Rattle.order_picture.specs.declared.picture.PictureRow.TheVariants as row
use Rattle.order_picture.specs.declared.shapes.Shape.{Shape}
use Rattle.order_picture.specs.declared.shapes.Shape.TheVariants as shape
use Rattle.order_picture.specs.Behind.{kind_behind, obstacle_of}

-- the line of a record in the session's text, from 1, or 0 if the session has no such record
abbrev pub line_in : Recorded → Name → ℕ
line_in s name = if nat_lt name.1 (log_length s name.0) then line_of s name else 0

-- what the label of a box shows: for the faulty record, its wrong value and the right one, if they are known
abbrev pub label_in : Option Amended → BoxKind → Label
label_in (Some amended) kind.Faulty = label.Amended
label_in (Some amended) kind.OwnCause = label.Amended
label_in amended kind = label.Recorded

-- what the box of a record of the order with this mark says
abbrev pub kind_of : Mark → BoxKind
kind_of mark.Faulty = kind.Faulty
kind_of mark.OwnCause = kind.OwnCause
kind_of mark.Cause = kind.Cause
kind_of mark.Against = kind.Against
kind_of mark.OfPage = kind.OfPage
kind_of mark.Plain = kind.Plain

abbrev pub shape_of_row : Recorded → Option Amended → ℕ → PictureRow → Shape
shape_of_row s amended n (row.Record log place m) = shape.Record n log place (kind_of m) (line_in s (log, place)) (label_in amended (kind_of m)) Nothing
shape_of_row s amended n (row.Fold counts) = shape.Fold n counts

-- the shape of a row of the order
abbrev pub row_shape : Recorded → Option Amended → ℕ × PictureRow → Shape
row_shape s amended at = shape_of_row s amended at.0 at.1

-- the rows of the order
abbrev pub row_shapes : Recorded → Option Amended → List PictureRow → List Shape
row_shapes s amended rows = map (row_shape s amended) (enumerate_from 0 rows)

-- the box of a record after the order, in this row, with why the order does not take it
abbrev pub behind_box : Recorded → Option Amended → Picture → ℕ → Name → Shape
behind_box s amended p n name = shape.Record n name.0 name.1 (kind_behind p name) (line_in s name) (label_in amended (kind_behind p name)) (obstacle_of s p name)

abbrev pub behind_shape : Recorded → Option Amended → Picture → ℕ × Name → Shape
behind_shape s amended p at = behind_box s amended p (length p.rows.items + at.0) at.1

-- the rows of the records after the order, below those of the order
abbrev pub behind_shapes : Recorded → Option Amended → Picture → List Name → List Shape
behind_shapes s amended p behind = map (behind_shape s amended p) (enumerate_from 0 behind)
