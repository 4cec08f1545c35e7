use Rattle.std.proofs.Common.{◌≡◌, ◌≢◌, ℕ, ◌+◌, ◌<◌, ◌++◌, List, [], ◌∷◌, length, get_or, set, Option, Some, None, refl, sym, ap, ◌∙◌, subst, arith}
use Rattle.std.specs.Prelude.{slice_get}
use Rattle.std.proofs.lemmas.List.{get_or_read}
use Rattle.std.proofs.lemmas.Option.{slice_get_read, slice_get_past, get_or_from_slice_get}
use Rattle.guest_script.specs.declared.transcript.Answered.{Answered}
use Rattle.host_checks.specs.Outcomes.{told_by}
use Rattle.host_checks.specs.inner.Told.{AreTold}
use Rattle.host_checks.proofs.Telling.{told_none, told_next, differs_past, differs_here}
use Rattle.host_checks.proofs.told.takes.Goals as goal
use Rattle.host_checks.proofs.told.takes.Goals.{then-at-transcript-via-then-at-transcript, then-at-transcript-via-else-at-transcript+then-not-is_answer}

pub returns-in_default-clause-told : goal.returns-in_default-clause-told
returns-in_default-clause-told c = λ log was. told_none c.args.transcripts.now c.args.told.now.items log c.args.rec.now (sym c.told_by.ensures ∙ c.in_default.is) was

none_some : (x : Answered) → None ≡ Some x → ⊥
none_some x is = absurd (cc)

other_some : (x y : Answered) → x ≢ y → Some x ≡ Some y → ⊥
other_some x y other is = other (cc)

-- the record tells of a virtual processor that has no transcript
pub returns-then-vcpu-transcripts-clause-told : goal.returns-then-vcpu-transcripts-clause-told
returns-then-vcpu-transcripts-clause-told c = λ log rest was.
    let says : told_by c.args.rec.now ≡ Some (c.from-vcpu.result, c.in-Some.answered) = sym c.told_by.ensures ∙ c.in-Some.is ∙ ap (λ (k : ℕ). Some (k, c.in-Some.answered)) (sym c.from-vcpu.ensures) in
    differs_past c.args.transcripts.now log rest c.args.rec.now c.from-vcpu.result c.in-Some.answered says c.if-vcpu-transcripts.true

pub returns-then-at-transcript-clause-told : goal.returns-then-at-transcript-clause-told
returns-then-at-transcript-clause-told c = λ log rest was.
    let u = c.from-vcpu.result in
    let told = c.args.told.now.items in
    let all = c.args.transcripts.now in
    let one = c.index-transcripts-vcpu.result in
    let answered = c.in-Some.answered in
    let ts = c.as_slice-transcript.result.now in
    let at = c.index-at.result.now in
    let within : u < length all = omega (arith, c.if-vcpu-transcripts.false) in
    let under : u < length told = omega (arith, within, c.requires) in
    let place : at ≡ get_or told u 0 = get_or_read told u at under c.index-at.ensures 0 in
    let says : told_by c.args.rec.now ≡ Some (u, answered) = sym c.told_by.ensures ∙ c.in-Some.is ∙ ap (λ (k : ℕ). Some (k, answered)) (sym c.from-vcpu.ensures) in
    let mine : get_or all u [] ≡ one = get_or_from_slice_get all u one [] (slice_get_read all (length all) u one refl within c.index-transcripts-vcpu.is) in
    let there : slice_get (get_or all u []) (get_or told u 0) ≡ slice_get ts at =
    ap (λ (xs : List Answered). slice_get xs (get_or told u 0)) (mine ∙ sym c.as_slice-transcript.ensures) ∙ ap (λ (k : ℕ). slice_get ts k) (sym place) in
    differs_here all told log rest c.args.rec.now u answered says was
    (elim c.then-at-transcript.branch [
      | then-at-transcript-via-then-at-transcript w ↦ λ is. none_some answered (sym (slice_get_past ts at w.if-at-transcript.true) ∙ sym there ∙ is)
      | then-at-transcript-via-else-at-transcript+then-not-is_answer w ↦ λ is.
          other_some w.index-transcript-at.result answered w.if-not-is_answer.ensures
          (sym (slice_get_read ts (length ts) at w.index-transcript-at.result refl (omega (arith, w.if-at-transcript.false)) w.index-transcript-at.is) ∙ sym there ∙ is)
    ])

pub returns-clause-told : goal.returns-clause-told
returns-clause-told c = λ log was.
    let u = c.from-vcpu.result in
    let told = c.args.told.now.items in
    let all = c.args.transcripts.now in
    let one = c.index-transcripts-vcpu.result in
    let answered = c.in-Some.answered in
    let within : u < length all = omega (arith, c.if-vcpu-transcripts.false) in
    let under : u < length told = omega (arith, within, c.requires) in
    let at : c.index-at.result.now ≡ get_or told u 0 = get_or_read told u c.index-at.result.now under c.index-at.ensures 0 in
    let says : told_by c.args.rec.now ≡ Some (u, answered) = sym c.told_by.ensures ∙ c.in-Some.is ∙ ap (λ (k : ℕ). Some (k, answered)) (sym c.from-vcpu.ensures) in
    let stands : slice_get all u ≡ Some one = slice_get_read all (length all) u one refl within c.index-transcripts-vcpu.is in
    let mine : get_or all u [] ≡ one = get_or_from_slice_get all u one [] stands in
    let same = c.as_slice-transcript.ensures in
    let read : slice_get c.as_slice-transcript.result.now c.index-at.result.now ≡ Some c.index-transcript-at.result =
    slice_get_read c.as_slice-transcript.result.now (length c.as_slice-transcript.result.now) c.index-at.result.now c.index-transcript-at.result refl (omega (arith, c.if-at-transcript.false)) c.index-transcript-at.is in
    let next : slice_get (get_or all u []) (get_or told u 0) ≡ Some answered =
    ap (λ (xs : List Answered). slice_get xs (get_or told u 0)) (mine ∙ sym same) ∙ ap (λ (k : ℕ). slice_get c.as_slice-transcript.result.now k) (sym at) ∙ read ∙ ap (λ (x : Answered). Some x) c.if-not-is_answer.ensures in
    subst (λ (k : ℕ). AreTold all (set told u (k + 1)) (log ++ c.args.rec.now ∷ [])) (sym at) (told_next all told log c.args.rec.now u answered says under next was)
