-- The first fault of a session: the least line, and then the least reason.
use Rattle.std.specs.Prelude.{◌≡◌, ◌<◌, ◌≤◌, false, ◌⊎◌}
use Rattle.migration_types.specs.Receipts.{Name}
use Rattle.migration_types.specs.Sessions.{Recorded, line_of}
use Rattle.audit_model.specs.declared.reasons.ShapeReason.{ShapeReason}
use Rattle.audit_model.specs.declared.reasons.PageReason.{PageReason}
use Rattle.audit_model.specs.Reasons.{rank, page_rank}
use Rattle.audit_model.specs.Shape.{is_right}
use Rattle.audit_model.specs.Faults.{IsPageFault}

-- a fault of shape, and no other has a lesser line, or this line and a lesser reason
pub record IsFirstFault (s : Recorded) (reason : ShapeReason) (name : Name) : Type 0 where
  pub is_wrong : is_right s reason name ≡ false
  pub is_first : (other_reason : ShapeReason) (other : Name) → is_right s other_reason other ≡ false →
      (line_of s name < line_of s other) ⊎ ((line_of s name ≡ line_of s other) × (rank reason ≤ rank other_reason))

-- a fault of a page, and no other has a lesser line, or this line and a lesser reason
pub record IsFirstPageFault (s : Recorded) (reason : PageReason) (name : Name) : Type 0 where
  pub is_fault : IsPageFault s reason name
  pub is_first : (other_reason : PageReason) (other : Name) → IsPageFault s other_reason other →
      (line_of s name < line_of s other) ⊎ ((line_of s name ≡ line_of s other) × (page_rank reason ≤ page_rank other_reason))
