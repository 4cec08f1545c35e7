-- How far the records that were looked at account for the transcripts.
use Rattle.std.specs.Prelude.{◌≡◌, ℕ, ◌≤◌, List, [], length, slice_index_or, take}
use Rattle.migration_types.specs.declared.records.GuestRec.{GuestRec}
use Rattle.guest_script.specs.declared.transcript.Answered.{Answered}
use Rattle.host_checks.specs.Outcomes.{part_of}

-- This many answers of each transcript, which has them, are those of these records, and the records have operations of
-- no other virtual processor.
pub record AreTold (transcripts : List (List Answered)) (told : List ℕ) (log : List GuestRec) : Type 0 where
  pub within : (vcpu : ℕ) → slice_index_or told vcpu 0 ≤ length (slice_index_or transcripts vcpu [])
  pub answers : (vcpu : ℕ) → take (slice_index_or told vcpu 0) (slice_index_or transcripts vcpu []) ≡ part_of vcpu log
