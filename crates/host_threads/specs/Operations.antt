-- The result of a virtual processor's operation.
use Rattle.std.specs.Prelude.{◌≡◌, ℕ, List, [], ◌∷◌, ◌++◌}
use Rattle.migration_events.specs.Ops.{answer_of}
use Rattle.migration_events.specs.declared.ops.Op.{Op}
use Rattle.guest_script.specs.declared.transcript.Answered.{Answered as AnsweredOp}
use Rattle.target_side.specs.GuestPart.{GuestPart, guest_access}
use Rattle.target_side.specs.TargetPart.{TargetPart, Accessed, target_access}
use Rattle.target_side.specs.declared.access.Access.{Access}
use Rattle.target_side.specs.declared.access.Access.TheVariants.{Done, Missed as Misses, Waiting}
use Rattle.host_threads.specs.declared.vcpu.OpResult.{OpResult}
use Rattle.host_threads.specs.declared.vcpu.OpResult.TheVariants.{Answered, Missed, Waits, Stops}

-- at the source, the operation is done and answered, or nothing has changed
abbrev pub IsGuestStep : OpResult → ℕ → Op → GuestPart → GuestPart → Type 0
IsGuestStep (Answered x) v op old new = (new ≡ guest_access v op old) × (x ≡ answer_of op old.memory)
IsGuestStep Missed v op old new = new ≡ old
IsGuestStep Waits v op old new = new ≡ old
IsGuestStep (Stops fault) v op old new = new ≡ old

abbrev pub came_to : TargetPart → Access → Accessed
came_to book access = record { book = book; access = access }

-- At the target, the operation is done and answered, misses its page or waits, as the event says. Or the run stops, and
-- nothing has changed.
abbrev pub IsTargetStep : OpResult → ℕ → Op → TargetPart → TargetPart → Type 0
IsTargetStep (Answered x) v op old new = came_to new (Done x) ≡ target_access v op old
IsTargetStep Missed v op old new = came_to new Misses ≡ target_access v op old
IsTargetStep Waits v op old new = came_to new Waiting ≡ target_access v op old
IsTargetStep (Stops fault) v op old new = new ≡ old

-- the guest's book after operations of a virtual processor at the source, and their answers
abbrev pub guest_after : ℕ → List Op → GuestPart → GuestPart
guest_after v [] part = part
guest_after v (op ∷ ops) part = guest_after v ops (guest_access v op part)

abbrev pub answers_to : ℕ → List Op → GuestPart → List AnsweredOp
answers_to v [] part = []
answers_to v (op ∷ ops) part = (record { op = op; answer = answer_of op part.memory }) ∷ answers_to v ops (guest_access v op part)

-- these operations are done at the source, and each is appended with its answer
pub record HasDone (v : ℕ) (ops : List Op) (old new : GuestPart) (before answers : List AnsweredOp) : Type 0 where
  pub part : new ≡ guest_after v ops old
  pub told : answers ≡ before ++ answers_to v ops old
