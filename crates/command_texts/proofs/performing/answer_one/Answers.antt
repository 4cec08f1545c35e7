use Rattle.std.proofs.Common.{ℕ, List, Ok, Option, refl, subst}
use Rattle.std.specs.declared.alloc.AllocError.{AllocError}
use Rattle.std.proofs.lemmas.Result.{err_from_is_err_and}
use Rattle.command_texts.specs.declared.why.Telling.{Telling}
use Rattle.command_texts.specs.Reasons.{Place, TellsWhy, place_of}
use Rattle.command_texts.proofs.Endings.{no_memory, not_written, output_stops, written_whole}
use Rattle.command_texts.proofs.Beside.{note_told, why_gains}
use Rattle.text_access.proofs.Fronts.{both_gain, front_gains, same_gains, told_gains}
use Rattle.command_texts.proofs.Objects.{some_place}
use Rattle.command_texts.proofs.performing.answer_one.Goals as goal

pub returns-in_err-answer-clause-told : goal.returns-in_err-answer-clause-told
returns-in_err-answer-clause-told g c = λ text found why.
    let p = err_from_is_err_and c.from_residual.result c.from_residual.ensures.1 in
    rw (p.1, p.2) (no_memory _ _ _ _ _ c.in_err-answer.ensures.fault tt)

pub returns-in_err-answer-clause-gains : goal.returns-in_err-answer-clause-gains
returns-in_err-answer-clause-gains g c = (same_gains _, same_gains _)

pub returns-in_err-status-clause-told : goal.returns-in_err-status-clause-told
returns-in_err-status-clause-told g c = λ text found why.
    let p = err_from_is_err_and c.from_residual-in_err-status.result c.from_residual-in_err-status.ensures.1 in
    let told = c.in_ok-answer.ensures.told text why.0 found why.1 (some_place c.args.read.now.1 c.args.name.now why.0 why.2) in
    rw (p.1, p.2) (not_written _ _ _ text c.in_ok-answer.answer.text.items c.in_ok-answer.answer.status _ _ _ _ c.in_err-status.ensures.fault (output_stops _ c.in_err-status.ensures.fault) refl told c.in_err-status.ensures.front)

pub returns-in_err-status-clause-gains : goal.returns-in_err-status-clause-gains
returns-in_err-status-clause-gains g c = (front_gains _ _ _ c.in_err-status.ensures.front, same_gains _)

pub returns-clause-few : goal.returns-clause-few
returns-clause-few g c = λ text found. rw c.in_ok-status.ensures.status (c.in_ok-answer.ensures.few text found)

pub returns-clause-told : goal.returns-clause-told
returns-clause-told g c = λ text found why.
    let old = g.E.Write.contents c.args.errors.now in
    let new = g.E.Write.contents c.tell_why.new.errors in
    written_whole _ _ _ text c.in_ok-answer.answer _ _ _ c.in_ok-status.ensures.status refl (c.in_ok-answer.ensures.told text why.0 found why.1 (some_place c.args.read.now.1 c.args.name.now why.0 why.2)) c.in_ok-status.ensures.text
    (record {
      line = why.0;
      is_line = why.1;
      between = new;
      told = subst (λ (t : Telling). TellsWhy t (place_of c.args.name.now why.0) old new) c.telling.ensures (subst (λ (place : Option Place). TellsWhy c.telling.result place old new) why.2 c.tell_why.ensures);
      noted = note_told {E = AllocError} (g.C.OnOne.has_note c.args.command.now text) (Ok c.in_ok-answer.noted) c.in_ok-answer.noted c.args.name.now c.in_ok-status.status c.in_ok-answer.answer.status new (g.E.Write.contents c.tell_note.new.errors) refl c.in_ok-status.ensures.status (c.in_ok-answer.ensures.noted text found) c.tell_note.ensures;
    })

pub returns-clause-gains : goal.returns-clause-gains
returns-clause-gains g c = (front_gains _ _ _ c.in_ok-status.ensures.front, both_gain _ _ _ (why_gains c.telling.result _ _ _ c.tell_why.ensures) (told_gains _ _ _ c.tell_note.ensures))
