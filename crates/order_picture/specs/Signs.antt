-- The signs that a legend explains: those that occur among the shapes.
use Rattle.std.specs.Prelude.{ℕ, ◌==◌, Bool, false, List, [], ◌∷◌, Option, Some, None, filter}
use Rattle.std.specs.List.{list_any}
use Rattle.order_picture.specs.declared.arrows.ArrowKind.{ArrowKind}
use Rattle.order_picture.specs.declared.arrows.ArrowKind.TheVariants as arrow
use Rattle.order_picture.specs.declared.boxes.BoxKind.{BoxKind}
use Rattle.order_picture.specs.declared.boxes.BoxKind.TheVariants as kind
use Rattle.order_picture.specs.declared.shapes.Shape.{Shape}
use Rattle.order_picture.specs.declared.shapes.Shape.TheVariants as shape
use Rattle.order_picture.specs.declared.signs.Sign.{Sign}
use Rattle.order_picture.specs.declared.signs.Sign.TheVariants.{Faulty, OwnCause, Cause, Tied, Tie, TieBehind, Against, OfPage, Plain, Stuck, Arrow, Stub}

-- the signs, in the order of a legend
abbrev pub signs : List Sign
signs = Faulty ∷ OwnCause ∷ Cause ∷ Tied ∷ Tie ∷ TieBehind ∷ Against ∷ OfPage ∷ Plain ∷ Stuck ∷ Arrow ∷ Stub ∷ []

-- the sign for a box
abbrev pub box_sign : BoxKind → Sign
box_sign kind.Faulty = Faulty
box_sign kind.OwnCause = OwnCause
box_sign kind.Cause = Cause
box_sign kind.Against = Against
box_sign kind.OfPage = OfPage
box_sign kind.Plain = Plain
box_sign kind.Tied = Tied
box_sign kind.Stuck = Stuck

-- the sign for an arrow
abbrev pub arrow_sign : ArrowKind → Sign
arrow_sign arrow.Received = Arrow
arrow_sign arrow.OfPage = Arrow
arrow_sign arrow.Tied = Tie
arrow_sign arrow.TiedBehind = TieBehind

-- the sign for a shape, if a legend explains it
abbrev pub sign_of : Shape → Option Sign
sign_of (shape.Record row log place kind line label obstacle) = Some (box_sign kind)
sign_of (shape.Arrow from from_log to to_log kind) = Some (arrow_sign kind)
sign_of (shape.Stub row log sender) = Some Stub
sign_of other = None

-- a sign's place in a legend
abbrev pub number_of : Sign → ℕ
number_of Faulty = 0
number_of OwnCause = 1
number_of Cause = 2
number_of Tied = 3
number_of Tie = 4
number_of TieBehind = 5
number_of Against = 6
number_of OfPage = 7
number_of Plain = 8
number_of Stuck = 9
number_of Arrow = 10
number_of Stub = 11

abbrev pub is_sign : Sign → Option Sign → Bool
is_sign sign None = false
is_sign sign (Some other) = number_of other == number_of sign

-- whether a shape has this sign
abbrev pub shows : Sign → Shape → Bool
shows sign shape = is_sign sign (sign_of shape)

-- whether one of the shapes has this sign
abbrev pub occurs : List Shape → Sign → Bool
occurs shapes sign = list_any (shows sign) shapes

-- the signs that occur among shapes
abbrev pub signs_in : List Shape → List Sign
signs_in shapes = filter (occurs shapes) signs
