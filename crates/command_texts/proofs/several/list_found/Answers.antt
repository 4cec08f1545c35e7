use Rattle.std.proofs.Common.{ℕ, List, Option, Ok, Some, refl, subst}
use Rattle.std.proofs.lemmas.Result.{err_from_is_err_and}
use Rattle.std.specs.declared.alloc.AllocError.{AllocError}
use Rattle.command_texts.specs.declared.why.Telling.TheVariants.{Short}
use Rattle.command_texts.specs.Reasons.{Place, TellsWhy}
use Rattle.command_texts.proofs.Beside.{note_told, why_gains}
use Rattle.text_access.proofs.Fronts.{both_gain, same_gains, told_gains}
use Rattle.command_texts.proofs.Objects.{some_place}
use Rattle.command_texts.proofs.several.list_found.Goals as goal

pub returns-in_err-answer-clause-stop : goal.returns-in_err-answer-clause-stop
returns-in_err-answer-clause-stop g c = let p = err_from_is_err_and c.from_residual.result c.from_residual.ensures.1 in rw (p.1, p.2, c.in_err-answer.ensures.fault) tt

pub returns-in_err-answer-clause-gains : goal.returns-in_err-answer-clause-gains
returns-in_err-answer-clause-gains g c = (same_gains _, same_gains _)

pub returns-in_err-status-clause-stop : goal.returns-in_err-status-clause-stop
returns-in_err-status-clause-stop g c = let p = err_from_is_err_and c.from_residual-in_err-status.result c.from_residual-in_err-status.ensures.1 in rw (p.1, p.2) c.in_err-status.ensures.stop

pub returns-in_err-status-clause-gains : goal.returns-in_err-status-clause-gains
returns-in_err-status-clause-gains g c = (c.in_err-status.ensures.gains, same_gains _)

pub returns-clause-few : goal.returns-clause-few
returns-clause-few g c = λ text found. rw c.in_ok-status.ensures.status (c.in_ok-answer.ensures.few text found)

pub returns-clause-listed : goal.returns-clause-listed
returns-clause-listed g c = λ text line named found refused place.
    let answer = c.in_ok-answer.answer in
    let before = g.E.Write.contents c.args.console.now.errors in
    let between = g.E.Write.contents c.tell_why.new.errors in
    let after = g.E.Write.contents c.tell_note.new.errors in
    record {
      entry = record { name = c.args.name.now; said = Some (record { text = text; answer = answer.text.items; status = answer.status; line = line }) };
      is_name = refl;
      is_right = record { is_named = named; is_answer = c.in_ok-answer.ensures.told text line found refused (some_place c.args.why.now c.args.name.now line place); is_line = refused };
      written = c.in_ok-status.ensures.text;
      beside = record {
        between = between;
        why = subst (λ (p : Option Place). TellsWhy Short p before between) place c.tell_why.ensures;
        noted = note_told {E = AllocError} (g.C.OnOne.has_note c.args.command.now text) (Ok c.in_ok-answer.noted) c.in_ok-answer.noted c.args.name.now answer.status answer.status between after refl refl (c.in_ok-answer.ensures.noted text found) c.tell_note.ensures;
      };
      is_status = c.in_ok-status.ensures.status;
    }

pub returns-clause-gains : goal.returns-clause-gains
returns-clause-gains g c = (c.in_ok-status.ensures.gains, both_gain _ _ _ (why_gains Short _ _ _ c.tell_why.ensures) (told_gains _ _ _ c.tell_note.ensures))
