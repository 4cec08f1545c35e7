-- The rows of a picture.
use Rattle.std.specs.Prelude.{◌≡◌, ℕ, ◌+◌, ◌==◌, ◌||◌, Bool, true, false, List, [], ◌∷◌, ◌++◌, Option, Some, None, option_and_then, position, slice_get}
use Rattle.std.specs.List.{list_any}
use Rattle.migration_types.specs.Receipts.{Name}
use Rattle.migration_types.specs.Sessions.{Recorded}
use Rattle.audit_model.specs.Names.{receipt}
use Rattle.audit_model.specs.Mergings.{at_start}
use Rattle.audit_model.specs.Walks.{cursors_from}
use Rattle.merge_runs.specs.Taken.{cursors_of}
use Rattle.order_picture.specs.declared.focus.Mark.{Mark}
use Rattle.order_picture.specs.declared.focus.Mark.TheVariants.{Faulty, OwnCause, Cause, Against, OfPage, Plain}
use Rattle.order_picture.specs.declared.picture.PictureRow.{PictureRow}
use Rattle.order_picture.specs.declared.picture.PictureRow.TheVariants.{Record, Fold}
use Rattle.order_picture.specs.Marks.{is_one}

-- The rows have the records of the order, in its sequence, each in one row. A row has one record with its mark, or it
-- folds the next few records into their count for each log.
abbrev pub Covers : (Name → Mark) → List PictureRow → List Name → Type 0
Covers mark [] order = order ≡ []
Covers mark (Record log place m ∷ rows) order = (rest : List Name) × (order ≡ (log, place) ∷ rest) × (m ≡ mark (log, place)) × Covers mark rows rest
Covers mark (Fold counts ∷ rows) order = (folded rest : List Name) × (order ≡ folded ++ rest) × (cursors_of counts ≡ cursors_from at_start folded) × Covers mark rows rest

-- whether this is the mark of the faulty record
abbrev pub is_faulty : Mark → Bool
is_faulty Faulty = true
is_faulty OwnCause = true
is_faulty Cause = false
is_faulty Against = false
is_faulty OfPage = false
is_faulty Plain = false

abbrev pub row_is_faulty : PictureRow → Bool
row_is_faulty (Record log place mark) = is_faulty mark
row_is_faulty (Fold counts) = false

-- whether a row has the faulty record
abbrev pub shows_fault : List PictureRow → Bool
shows_fault rows = list_any row_is_faulty rows

-- whether it is the row of this record
abbrev pub is_row_of : Name → PictureRow → Bool
is_row_of name (Record log place mark) = is_one (Some name) (log, place)
is_row_of name (Fold counts) = false

-- the record that the row's record is a receipt for
abbrev pub row_receipt : Recorded → PictureRow → Option Name
row_receipt s (Record log place mark) = receipt s (log, place)
row_receipt s (Fold counts) = None

-- the place of the row whose record the row's record receives
abbrev pub sender_of : Recorded → List PictureRow → PictureRow → Option ℕ
sender_of s rows row = option_and_then (λ name. position (is_row_of name) rows) (row_receipt s row)

-- whether a record has a row of its own
abbrev pub has_row : List PictureRow → Name → Bool
has_row rows name = list_any (is_row_of name) rows

-- whether a place is right before or right after another, if there is another
abbrev pub is_next_to : Option ℕ → ℕ → Bool
is_next_to None n = false
is_next_to (Some at) n = at == n + 1 || n == at + 1

-- whether a place is the other one, if there is another
abbrev pub is_at : Option ℕ → ℕ → Bool
is_at None n = false
is_at (Some at) n = at == n

-- whether a place of an order is next to that of the faulty record, or is that of the cause or of what it is set against
abbrev pub is_certain : (fault cause against : Option ℕ) → ℕ → Bool
is_certain fault cause against n = is_next_to fault n || (is_at cause n || is_at against n)

-- The records next to the faulty one have rows of their own, and so have the cause and the record that it is set
-- against, wherever they are in the order.
abbrev pub HasCertain : (fault cause against : Option ℕ) → List PictureRow → List Name → Type 0
HasCertain fault cause against rows order = (n : ℕ) (name : Name) → is_certain fault cause against n ≡ true → slice_get order n ≡ Some name → has_row rows name ≡ true
