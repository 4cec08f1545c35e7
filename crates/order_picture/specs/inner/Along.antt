-- The rows of the records along runs.
use Rattle.std.specs.Prelude.{◌≡◌, ◌≤◌, List, length, map, position}
use Rattle.std.specs.List.{list_any}
use Rattle.migration_types.specs.declared.cert.Run.{Run}
use Rattle.migration_types.specs.Receipts.{Name}
use Rattle.migration_types.specs.Sessions.{Recorded}
use Rattle.audit_model.specs.Mergings.{at_start}
use Rattle.audit_model.specs.Walks.{cursors_from}
use Rattle.merge_runs.specs.Taken.{cursors_of}
use Rattle.order_picture.specs.declared.focus.Focus.{Focus}
use Rattle.order_picture.specs.declared.picture.RowsAlong.{RowsAlong}
use Rattle.order_picture.specs.Marks.{is_one, mark_of}
use Rattle.order_picture.specs.OrderParts.{IsOrderPart}
use Rattle.order_picture.specs.Rows.{Covers, HasCertain, shows_fault, sender_of}

-- the rows of a picture that is about this, along these runs
pub record AreRowsAlong (s : Recorded) (focus : Focus) (runs : List Run) (a : RowsAlong) : Type 0 where
  pub order : List Name
  pub part : IsOrderPart s runs order a.bad
  pub covers : Covers (mark_of s focus) a.rows.items order
  pub few : length a.rows.items ≤ 205
  pub shown : shows_fault a.rows.items ≡ list_any (is_one focus.fault) order
  pub certain : HasCertain (position (is_one focus.fault) order) (position (is_one focus.cause) order) (position (is_one focus.against) order) a.rows.items order
  pub senders : a.senders.items ≡ map (sender_of s a.rows.items) a.rows.items
  pub taken : cursors_of a.taken ≡ cursors_from at_start order
