-- One operation at the source more.
use Rattle.std.proofs.Common.{◌≡◌, ℕ, List, [], ◌∷◌, ◌++◌, refl, sym, ap, ◌∙◌, append_assoc}
use Rattle.migration_events.specs.Ops.{answer_of}
use Rattle.migration_events.specs.declared.ops.Op.{Op}
use Rattle.target_side.specs.GuestPart.{GuestPart, guest_access}
use Rattle.guest_script.specs.declared.transcript.Answered.{Answered}
use Rattle.host_threads.specs.Operations.{guest_after, answers_to, HasDone}

after_more : (v : ℕ) (ops : List Op) (op : Op) (part : GuestPart) → guest_after v (ops ++ op ∷ []) part ≡ guest_access v op (guest_after v ops part)
after_more v [] op part = refl
after_more v (o ∷ ops) op part = after_more v ops op (guest_access v o part)

answers_more : (v : ℕ) (ops : List Op) (op : Op) (part : GuestPart) → answers_to v (ops ++ op ∷ []) part ≡ answers_to v ops part ++ (record { op = op; answer = answer_of op (guest_after v ops part).memory }) ∷ []
answers_more v [] op part = refl
answers_more v (o ∷ ops) op part = ap (λ (xs : List Answered). (record { op = o; answer = answer_of o part.memory }) ∷ xs) (answers_more v ops op (guest_access v o part))

pub done_more : (v : ℕ) (ops : List Op) (op : Op) (old mid new : GuestPart) (before answers : List Answered) (x : ℕ) →
    HasDone v ops old mid before answers → new ≡ guest_access v op mid → x ≡ answer_of op mid.memory →
    HasDone v (ops ++ op ∷ []) old new before (answers ++ (record { op = op; answer = x }) ∷ [])
done_more v ops op old mid new before answers x done is says = record {
  part = is ∙ ap (λ (p : GuestPart). guest_access v op p) done.part ∙ sym (after_more v ops op old);
  told =
      ap (λ (y : ℕ). answers ++ (record { op = op; answer = y }) ∷ []) (says ∙ ap (λ (p : GuestPart). answer_of op p.memory) done.part)
      ∙ ap (λ (xs : List Answered). xs ++ (record { op = op; answer = answer_of op (guest_after v ops old).memory }) ∷ []) done.told
      ∙ append_assoc before (answers_to v ops old) ((record { op = op; answer = answer_of op (guest_after v ops old).memory }) ∷ [])
      ∙ ap (λ (xs : List Answered). before ++ xs) (sym (answers_more v ops op old));
}
