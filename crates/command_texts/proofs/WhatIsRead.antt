-- What was read of a text.
use Rattle.std.proofs.Common.{◌≡◌, ◌≢◌, ℕ, List, ◌++◌, refl, subst, append_assoc}
use Rattle.std.specs.Prelude.{Option, Some, None, Result, Ok, Err, IfOk, OnOk, MatchResult}
use Rattle.text_lines.specs.declared.FaultKind.{FaultKind}
use Rattle.text_lines.specs.declared.FaultKind.TheVariants.{Form, Range, Ended, Memory}
use Rattle.std.specs.declared.alloc.AllocError.{AllocError}
use Rattle.text_lines.specs.declared.wanted.Refusal.{Refusal}
use Rattle.text_lines.specs.Answer.{IsRead, Refused}
use Rattle.text_lines.specs.Text.{IsRefusalLine, IsSpelling}
use Rattle.command_texts.specs.Reasons.{IsRefusedAt, line_of}

-- a text that is refused, and not because there is no memory for it, is refused at that line
pub refused_at : {V : Type 0} (Spells : V → List (List ℕ) → Type 0) (text : List ℕ) (line : ℕ) (kind : FaultKind) → Refused Spells text line kind → kind ≢ Memory → IsRefusalLine Spells text line
refused_at Spells text line Form h ne = h
refused_at Spells text line Range h ne = h
refused_at Spells text line Ended h ne = h
refused_at Spells text line Memory h ne = absurd (ne refl)

-- one piece more
pub more_taken : {T : Type 0} (Came : T → List ℕ → Type 0) (start mid new : T) (bytes piece : List ℕ) → ((before : List ℕ) → Came start before → Came mid (before ++ bytes)) → ((text : List ℕ) → Came mid text → Came new (text ++ piece)) → (before : List ℕ) → Came start before → Came new (before ++ (bytes ++ piece))
more_taken Came start mid new bytes piece yet more before came = subst (Came new) (append_assoc before bytes piece) (more (before ++ bytes) (yet before came))

pub ok_then : {V E : Type 0} (r : Result V E) (P Q : Type 0) → OnOk r P → (P → Q) → OnOk r Q
ok_then (Ok v) P Q h f = f h
ok_then (Err e) P Q h f = tt

-- what is told of a text that was read
pub told_read : {V : Type 0} (Spells : V → List (List ℕ) → Type 0) (text : List ℕ) (read : Result V Refusal) (told : Result (Result V ℕ × Option Refusal) AllocError)
    → MatchResult read (λ v. IsSpelling Spells v text) (λ why. Refused Spells text why.fault.line why.fault.kind)
    → MatchResult read (λ v. told ≡ Ok (Ok v, None)) (λ why. MatchResult told (λ t. (t ≡ (Err why.fault.line, Some why)) × (why.fault.kind ≢ Memory)) (λ _. why.fault.kind ≡ Memory))
    → IfOk told (λ t. IsRead Spells text t.0 × IsRefusedAt Spells text (line_of t.1))
told_read Spells text (Ok v) told is same = rw same (is, (v, is))
told_read Spells text (Err why) (Ok t) is same = let refused = refused_at Spells text why.fault.line why.fault.kind is same.1 in rw same.0 (refused, refused)
told_read Spells text (Err why) (Err e) is same = tt
