use Rattle.std.proofs.Common.{◌∙◌, Ok, Option, ap, ap₂, refl, subst}
use Rattle.std.specs.declared.alloc.AllocError.{AllocError}
use Rattle.std.specs.Option.{option_map, option_or}
use Rattle.std.proofs.lemmas.Result.{err_from_is_err_and}
use Rattle.command_texts.specs.declared.why.Telling.TheVariants.{Short}
use Rattle.command_texts.specs.Reasons.{Place, TellsWhy, told_place}
use Rattle.command_texts.proofs.Endings.{no_memory, not_written, output_stops, written_whole}
use Rattle.command_texts.proofs.Beside.{note_told, why_gains}
use Rattle.text_access.proofs.Fronts.{both_gain, front_gains, same_gains, told_gains}
use Rattle.command_texts.proofs.Names.{map_or}
use Rattle.command_texts.proofs.Objects.{some_of_two}
use Rattle.command_texts.proofs.performing.answer_two.Goals as goal

pub returns-in_err-answer-clause-told : goal.returns-in_err-answer-clause-told
returns-in_err-answer-clause-told g c = λ texts found other why later.
    let p = err_from_is_err_and c.from_residual.result c.from_residual.ensures.1 in
    rw (p.1, p.2) (no_memory _ _ _ _ _ c.in_err-answer.ensures.fault tt)

pub returns-in_err-answer-clause-gains : goal.returns-in_err-answer-clause-gains
returns-in_err-answer-clause-gains g c = λ texts found other. (same_gains _, same_gains _)

pub returns-in_err-status-clause-told : goal.returns-in_err-status-clause-told
returns-in_err-status-clause-told g c = λ texts found other why later.
    let p = err_from_is_err_and c.from_residual-in_err-status.result c.from_residual-in_err-status.ensures.1 in
    let told = c.in_ok-answer.ensures.told texts (option_or why.0 later.0) found other (record { one = why.0; other = later.0; is_one = why.1; is_other = later.1; first = refl }) (some_of_two _ _ _ _ c.args.first.now c.args.second.now why.0 later.0 c.told-about.ensures why.2 later.2) in
    rw (p.1, p.2) (not_written _ _ _ texts c.in_ok-answer.answer.text.items c.in_ok-answer.answer.status _ _ _ _ c.in_err-status.ensures.fault (output_stops _ c.in_err-status.ensures.fault) refl told c.in_err-status.ensures.front)

pub returns-in_err-status-clause-gains : goal.returns-in_err-status-clause-gains
returns-in_err-status-clause-gains g c = λ texts found other. (front_gains _ _ _ c.in_err-status.ensures.front, same_gains _)

pub returns-clause-few : goal.returns-clause-few
returns-clause-few g c = λ texts found other.
    rw c.in_ok-status.ensures.status (c.in_ok-answer.ensures.few texts found other)

pub returns-clause-told : goal.returns-clause-told
returns-clause-told g c = λ texts found other why later.
    let place = ap (option_map told_place) c.earliest.ensures ∙ (map_or told_place _ _ ∙ ap₂ option_or why.2 later.2) in
    let told = c.tell_more.ensures texts found other (c.in_ok-answer.ensures.said texts found other) in
    written_whole _ _ _ texts c.in_ok-answer.answer _ _ _ c.in_ok-status.ensures.status refl (c.in_ok-answer.ensures.told texts (option_or why.0 later.0) found other (record { one = why.0; other = later.0; is_one = why.1; is_other = later.1; first = refl }) (some_of_two _ _ _ _ c.args.first.now c.args.second.now why.0 later.0 c.told-about.ensures why.2 later.2)) c.in_ok-status.ensures.text
    (record {
      one = why.0;
      other = later.0;
      is_one = why.1;
      is_other = later.1;
      between = g.E.Write.contents c.tell_why.new.errors;
      why = subst (λ (p : Option Place). TellsWhy Short p (g.E.Write.contents c.args.errors.now) (g.E.Write.contents c.tell_why.new.errors)) place c.tell_why.ensures;
      behind = g.E.Write.contents c.tell_more.new.errors;
      more = told;
      noted = note_told {E = AllocError} (g.C.OnTwo.has_note c.args.command.now texts) (Ok c.in_ok-answer.noted) c.in_ok-answer.noted c.args.first.now c.in_ok-status.status c.in_ok-answer.answer.status (g.E.Write.contents c.tell_more.new.errors) (g.E.Write.contents c.tell_note.new.errors) refl c.in_ok-status.ensures.status (c.in_ok-answer.ensures.noted texts found other) c.tell_note.ensures;
    })

pub returns-clause-gains : goal.returns-clause-gains
returns-clause-gains g c = λ texts found other.
    let told = c.tell_more.ensures texts found other (c.in_ok-answer.ensures.said texts found other) in
    (front_gains _ _ _ c.in_ok-status.ensures.front, both_gain _ _ _ (both_gain _ _ _ (why_gains Short _ _ _ c.tell_why.ensures) (told_gains _ _ _ told)) (told_gains _ _ _ c.tell_note.ensures))
