-- The next operation of a virtual processor, with what is left after it.
use Rattle.std.specs.Prelude.{ℕ, slice_set, List, [], ◌∷◌, Option, Some, None}
use Rattle.migration_events.specs.declared.ops.Op.{Op}
use Rattle.target_side.specs.declared.access.Access.{Access}
use Rattle.target_side.specs.declared.access.Access.TheVariants.{Done, Missed, Waiting}
use Rattle.target_side.specs.TargetPart.{Accessed}
use Rattle.migration_model.specs.Books.{Vcpu, BooksAfter}

pub record Next : Type 0 where
  pub op : Op
  pub left : Vcpu

abbrev pub next : Op → Vcpu → Next
next op left = record { op = op; left = left }

-- before its move
abbrev pub early_by : Vcpu → List Op → Option Next
early_by vcpu [] = None
early_by vcpu (op ∷ ops) = Some (record { op = op; left = record vcpu { before_move = ops } })

abbrev pub early : Vcpu → Option Next
early vcpu = early_by vcpu vcpu.before_move

-- after its move
abbrev pub late_by : Vcpu → List Op → Option Next
late_by vcpu [] = None
late_by vcpu (op ∷ ops) = Some (record { op = op; left = record vcpu { after_move = ops } })

abbrev pub late : Vcpu → Option Next
late vcpu = late_by vcpu vcpu.after_move

-- which virtual processor goes on after an access, with what is left after it
abbrev pub left_after : ℕ → Vcpu → Access → List Vcpu → List Vcpu
left_after v left (Done answer) vcpus = slice_set vcpus v left
left_after v left Missed vcpus = vcpus
left_after v left Waiting vcpus = vcpus

abbrev pub went_on : ℕ → Vcpu → Accessed → BooksAfter → BooksAfter
went_on v left r a = record a { target = r.book; vcpus = left_after v left r.access a.vcpus }
