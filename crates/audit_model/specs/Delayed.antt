-- Delayed orders, in which a placement and all that depends on it come as late as possible.
use Rattle.std.specs.Prelude.{◌≡◌, ℕ, ◌<◌, ◌≤◌, Bool, true, false, not, nat_lt, List, ◌++◌, Some, slice_get}
use Rattle.std.specs.List.{filter}
use Rattle.migration_types.specs.declared.records.PagerRec.{PagerRec}
use Rattle.migration_types.specs.Sessions.{Recorded}
use Rattle.migration_types.specs.Receipts.{Name}
use Rattle.audit_model.specs.Names.{log_length, receipt}
use Rattle.audit_model.specs.Mergings.{Cursors}
use Rattle.audit_model.specs.Shape.{is_placement_of, earlier}

-- The delayed records: a placement and its dependents. Those are the later records in the log of a delayed record, and
-- the receipts for a delayed record.
pub data IsDelayed (s : Recorded) (placement : Name) : Name → Type 0 where
  itself : IsDelayed s placement placement
  later : {a b : Name} → IsDelayed s placement a → b.0 ≡ a.0 → a.1 < b.1 → IsDelayed s placement b
  receives : {a b : Name} → IsDelayed s placement a → receipt s b ≡ Some a → IsDelayed s placement b

-- whether the record with this name is below the cut
abbrev pub is_below : Cursors → Name → Bool
is_below c name = nat_lt name.1 (c name.0)

-- the part of an order below a cut, and then the rest, each in the order's own order
abbrev pub rearranged : Cursors → List Name → List Name
rearranged cut order = filter (is_below cut) order ++ filter (λ name. not (is_below cut name)) order

-- the order without the delayed records, followed by these; they are the records above a cut
pub record IsDelayedOrder (s : Recorded) (order : List Name) (placement : Name) (delayed : List Name) : Type 0 where
  pub cut : Cursors
  pub is_above : (name : Name) → IsDelayed s placement name → cut name.0 ≤ name.1
  pub is_delayed : (name : Name) → name.1 < log_length s name.0 → cut name.0 ≤ name.1 → IsDelayed s placement name
  pub is : delayed ≡ rearranged cut order

-- pager record `place` is the first placement of the page
pub record IsFirstPlacement (s : Recorded) (page place : ℕ) : Type 0 where
  pub by : PagerRec
  pub stands : slice_get s.pager place ≡ Some by
  pub places : is_placement_of page by ≡ true
  pub is_first : earlier (is_placement_of page) s.pager place ≡ false
