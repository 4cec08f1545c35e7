-- The misshapen records of a session.
use Rattle.std.specs.Prelude.{◌≡◌, ◌<◌, ◌≤◌, false, List, Contains}
use Rattle.std.specs.List.{All, AllPairs}
use Rattle.migration_types.specs.Receipts.{Name}
use Rattle.migration_types.specs.Sessions.{Recorded, line_of}
use Rattle.audit_model.specs.declared.reasons.ShapeReason.{ShapeReason}
use Rattle.audit_model.specs.Reasons.{rank}
use Rattle.audit_model.specs.Shape.{is_right}
use Rattle.cert_check.specs.declared.verdict.ShapeFault.{ShapeFault}

-- the record of a fault
abbrev pub name_of : ShapeFault → Name
name_of fault = (fault.log, fault.place)

-- a misshapen record, with its line and the least of its reasons
pub record IsMisshapen (s : Recorded) (fault : ShapeFault) : Type 0 where
  pub is_line : fault.line ≡ line_of s (name_of fault)
  pub is_wrong : is_right s fault.reason (name_of fault) ≡ false
  pub is_least : (other : ShapeReason) → is_right s other (name_of fault) ≡ false → rank fault.reason ≤ rank other

-- a fault of this record is among them
abbrev pub Names : List ShapeFault → Name → Type 0
Names found name = (fault : ShapeFault) × Contains found fault × (name_of fault ≡ name)

-- all misshapen records of a session, in the order of their lines, each once
pub record AreShapeFaults (s : Recorded) (found : List ShapeFault) : Type 0 where
  pub ascending : AllPairs (λ a b. a.line < b.line) found
  pub misshapen : All (IsMisshapen s) found
  pub all : (reason : ShapeReason) (name : Name) → is_right s reason name ≡ false → Names found name
