-- What a picture shows, as a list of shapes.
use Rattle.std.specs.Prelude.{Bool, true, List, [], ◌∷◌, ◌++◌, filter, length, map, nat_lt}
use Rattle.migration_types.specs.declared.records.LogName.{LogName}
use Rattle.migration_types.specs.declared.records.LogName.TheVariants.{Lane}
use Rattle.migration_types.specs.Receipts.{Name, logs}
use Rattle.migration_types.specs.Sessions.{Recorded}
use Rattle.audit_report.specs.declared.report.Report.{Report}
use Rattle.session_story.specs.Amended.{amended_by}
use Rattle.order_picture.specs.declared.shown.Shown.{Shown}
use Rattle.order_picture.specs.declared.picture.Picture.{Picture}
use Rattle.order_picture.specs.declared.shapes.Shape.{Shape}
use Rattle.order_picture.specs.declared.shapes.Shape.TheVariants.{Title, Summary, Order, Facts, Column, Legend}
use Rattle.order_picture.specs.declared.signs.Sign.{Sign}
use Rattle.order_picture.specs.Arrows.{arrows, ties}
use Rattle.order_picture.specs.Behind.{names_behind}
use Rattle.order_picture.specs.Boxes.{behind_shapes, row_shapes}
use Rattle.order_picture.specs.Shown.{order_shown}
use Rattle.order_picture.specs.Signs.{signs_in}

-- the report's first line, the first sentences of the story, which order is shown, and the description of the session
abbrev pub heading : Report → Picture → Shown → List Shape
heading r p shown = Title ∷ Summary ∷ Order (order_shown r p shown) ∷ Facts ∷ []

-- whether a log has a column: the lane has one only if it has records
abbrev pub has_column : Recorded → LogName → Bool
has_column s Lane = nat_lt 0 (length s.lane)
has_column s log = true

abbrev pub columns : Recorded → List Shape
columns s = map Column (filter (has_column s) logs)

-- the columns, the arrows between the rows of the order, these rows, the arrows between the rows after the order, and
-- those rows
abbrev pub body_shapes : Recorded → Picture → List Name → List Shape
body_shapes s p behind = columns s ++ arrows s p ++ row_shapes s (amended_by s p.told) p.rows.items ++ ties p behind ++ behind_shapes s (amended_by s p.told) p behind

-- all shapes but the legend, with these records after the order
abbrev pub drawn_shapes : Recorded → Report → Picture → Shown → List Name → List Shape
drawn_shapes s r p shown behind = heading r p shown ++ body_shapes s p behind

-- an entry of the legend for each of these signs
abbrev pub legend : List Sign → List Shape
legend found = map Legend found

-- shapes, and a legend of the signs that occur among them
abbrev pub with_legend : List Shape → List Shape
with_legend shapes = shapes ++ legend (signs_in shapes)

-- what a picture of a session shows
abbrev pub picture_shapes : Recorded → Report → Picture → Shown → List Shape
picture_shapes s r p shown = with_legend (drawn_shapes s r p shown (names_behind s p))
