-- The arrows of a picture as shapes.
use Rattle.std.specs.Prelude.{ℕ, ◌+◌, ◌==◌, ◌&&◌, Bool, true, false, List, [], ◌∷◌, Option, Some, None, flat_map, get_or, length, position, slice_get, if◌then◌else◌}
use Rattle.std.specs.List.{enumerate_from}
use Rattle.migration_types.specs.declared.records.LogName.{LogName}
use Rattle.migration_types.specs.Receipts.{Name}
use Rattle.migration_types.specs.Sessions.{Recorded}
use Rattle.order_picture.specs.declared.arrows.ArrowKind.{ArrowKind}
use Rattle.order_picture.specs.declared.arrows.ArrowKind.TheVariants.{Received, OfPage, Tied, TiedBehind}
use Rattle.order_picture.specs.declared.arrows.Seat.{Seat}
use Rattle.order_picture.specs.declared.behind.Tie.{Tie}
use Rattle.order_picture.specs.declared.focus.Mark.{Mark}
use Rattle.order_picture.specs.declared.focus.Mark.TheVariants as mark
use Rattle.order_picture.specs.declared.picture.Picture.{Picture}
use Rattle.order_picture.specs.declared.picture.PictureRow.{PictureRow}
use Rattle.order_picture.specs.declared.picture.PictureRow.TheVariants.{Record, Fold}
use Rattle.order_picture.specs.declared.shapes.Shape.{Shape}
use Rattle.order_picture.specs.declared.shapes.Shape.TheVariants.{Arrow, Stub}
use Rattle.order_picture.specs.Behind.{tie_of}
use Rattle.order_picture.specs.Marks.{is_one}
use Rattle.order_picture.specs.Rows.{row_receipt}

abbrev pub is_plain : Mark → Bool
is_plain mark.Plain = true
is_plain m = false

-- whether a row has a marked record
abbrev pub is_marked : Option PictureRow → Bool
is_marked None = false
is_marked (Some (Record log place m)) = if is_plain m then false else true
is_marked (Some (Fold counts)) = false

-- what the arrow from the row at this place to the record of a row says: whether both are marked
abbrev pub received_kind : List PictureRow → PictureRow → ℕ → ArrowKind
received_kind rows row from = if is_marked (Some row) && is_marked (slice_get rows from) then OfPage else Received

-- the place of the row whose record a row's record receives, if there is one
abbrev pub sender_at : List (Option ℕ) → ℕ → Option ℕ
sender_at senders n = get_or senders n None

abbrev pub received_from : Picture → Seat → PictureRow → LogName → Option ℕ → Shape
received_from p to row sender (Some from) = Arrow from sender to.row to.log (received_kind p.rows.items row from)
received_from p to row sender None = Stub to.row to.log sender

-- the arrow to the record of a row, which receives a record of this log: from that record's row, or from nowhere if it
-- has none
abbrev pub received_shape : Picture → Seat → PictureRow → LogName → Shape
received_shape p to row sender = received_from p to row sender (sender_at p.senders.items to.row)

abbrev pub arrow_by : Picture → ℕ → PictureRow → Option Name → Option Shape
arrow_by p n (Record log place m) (Some sent) = Some (received_shape p (record { row = n; log = log }) (Record log place m) sent.0)
arrow_by p n row sent = None

-- the arrow to the record of a row, if it receives one
abbrev pub arrow_to : Recorded → Picture → ℕ × PictureRow → Option Shape
arrow_to s p at = arrow_by p at.0 at.1 (row_receipt s at.1)

abbrev pub listed : Option Shape → List Shape
listed None = []
listed (Some shape) = shape ∷ []

abbrev pub arrows_to : Recorded → Picture → ℕ × PictureRow → List Shape
arrows_to s p at = listed (arrow_to s p at)

-- the arrows between the rows of the order
abbrev pub arrows : Recorded → Picture → List Shape
arrows s p = flat_map (arrows_to s p) (enumerate_from 0 p.rows.items)

-- whether a waiting record receives the other record itself; otherwise it receives a later one of the same log
abbrev pub is_direct : Tie → Bool
is_direct t = t.waiting.sent_place == t.next.place

abbrev pub tie_kind : Tie → ArrowKind
tie_kind t = if is_direct t then Tied else TiedBehind

abbrev pub seat_at : ℕ → Name → Option ℕ → Option Seat
seat_at rows name None = None
seat_at rows name (Some n) = Some (record { row = rows + n; log = name.0 })

-- the place of the box of a record after this many rows of the order, if it has one
abbrev pub seat_behind : ℕ → List Name → Name → Option Seat
seat_behind rows behind name = seat_at rows name (position (is_one (Some name)) behind)

abbrev pub tie_between : ArrowKind → Option Seat → Option Seat → Option Shape
tie_between kind (Some from) (Some to) = Some (Arrow from.row from.log to.row to.log kind)
tie_between kind from to = None

abbrev pub tie_by : Picture → List Name → Name → Option Tie → Option Shape
tie_by p behind name None = None
tie_by p behind name (Some t) = tie_between (tie_kind t) (seat_behind (length p.rows.items) behind (t.next.log, t.next.place)) (seat_behind (length p.rows.items) behind name)

-- the arrow to a waiting record from the waiting record that it waits for
abbrev pub tie_to : Picture → List Name → Name → Option Shape
tie_to p behind name = tie_by p behind name (tie_of p.told name)

abbrev pub ties_to : Picture → List Name → Name → List Shape
ties_to p behind name = listed (tie_to p behind name)

-- the arrows between the records after the order
abbrev pub ties : Picture → List Name → List Shape
ties p behind = flat_map (ties_to p behind) behind
