-- What windows keep of a session, and what they show about it.
use Rattle.std.specs.Prelude.{◌≡◌, ◌↔◌, ℕ, ◌<◌, true, false, List, [], ◌∷◌, slice_get, if◌then◌else◌}
use Rattle.migration_types.specs.Receipts.{Name}
use Rattle.migration_types.specs.Sessions.{Recorded}
use Rattle.migration_types.specs.declared.records.LogName.TheVariants.{Source}
use Rattle.audit_model.specs.declared.reasons.PageReason.{PageReason}
use Rattle.audit_model.specs.declared.reasons.ShapeReason.{ShapeReason}
use Rattle.audit_model.specs.declared.reasons.ShapeReason.TheVariants.{Start, Both}
use Rattle.audit_model.specs.Mergings.{IsMerging}
use Rattle.audit_model.specs.Faults.{IsPageFault, HasNoPageFault}
use Rattle.audit_model.specs.Shape.{is_right}
use Rattle.audit_model.specs.Windows.{Numbers, IsNumbering, is_seen, marks, is_marked, IsInWindow, new_name, window}

-- a record in the window has a fault of its page exactly when it has that fault in the session, for the same reason
abbrev pub KeepsPageFaults : Recorded → Numbers → ℕ → Type 0
KeepsPageFaults s number count =
    (reason : PageReason) (name : Name) → IsInWindow s number name →
    IsPageFault s reason name ↔ IsPageFault (window number count s) reason (new_name s number name)

-- if the guest started again on both sides, it did so in the window too, at the same record
abbrev pub KeepsBoth : Recorded → Numbers → ℕ → Type 0
KeepsBoth s number count =
    (n : ℕ) → is_right s Both (Source, n) ≡ false → is_right (window number count s) Both (new_name s number (Source, n)) ≡ false

-- the session starts as it must
abbrev pub StartsRight : Recorded → Type 0
StartsRight s = (name : Name) → is_right s Start name ≡ true

-- each record that is in the window has the right shape in the session
abbrev pub IsRightWithin : Recorded → Numbers → Type 0
IsRightWithin s number = (reason : ShapeReason) (name : Name) → IsInWindow s number name → is_right s reason name ≡ true

-- the order of a session's records in a window: those that are kept, by their new names
abbrev pub order_through : Recorded → Numbers → List Name → List Name
order_through s number [] = []
order_through s number (name ∷ names) =
    if is_marked (slice_get (marks s number name.0) name.1) then new_name s number name ∷ order_through s number names else order_through s number names

-- a merging of the session becomes a merging of the window
abbrev pub MergesThrough : Recorded → Numbers → ℕ → Type 0
MergesThrough s number count = (order : List Name) → IsMerging s order → IsMerging (window number count s) (order_through s number order)

-- a window with this page in which no page has a fault
pub record HasCleanWindow (s : Recorded) (page : ℕ) : Type 0 where
  pub number : Numbers
  pub count : ℕ
  pub is_numbering : IsNumbering number
  pub has_page : is_seen (number page) ≡ true
  pub is_clean : HasNoPageFault (window number count s)

-- each page of the machine is in a clean window
abbrev pub IsCleanThroughWindows : Recorded → Type 0
IsCleanThroughWindows s = (page : ℕ) → page < s.geometry.pages → HasCleanWindow s page
