use Rattle.std.proofs.Common.{◌∙◌, ℕ, Option, Result, IfOk, subst, sym}
use Rattle.std.specs.Prelude.{IfSome}
use Rattle.std.specs.Global.{Vec}
use Rattle.std.specs.declared.alloc.AllocError.{AllocError}
use Rattle.std.proofs.lemmas.Result.{err_from_is_err_and}
use Rattle.command_texts.proofs.Objects.{answer_told}
use Rattle.command_texts.proofs.performing.noted_answer.Goals as goal

pub returns-in_err-found_answer-clause-fault : goal.returns-in_err-found_answer-clause-fault
returns-in_err-found_answer-clause-fault g c = let p = err_from_is_err_and c.from_residual.result c.from_residual.ensures.1 in rw (p.1, p.2) c.in_err-found_answer.ensures.fault

pub returns-in_err-answer-clause-fault : goal.returns-in_err-answer-clause-fault
returns-in_err-answer-clause-fault g c = let p = err_from_is_err_and c.from_residual-in_err-answer.result c.from_residual-in_err-answer.ensures.1 in rw (p.1, p.2) c.in_err-answer.ensures.fault

pub returns-in_err-noted-clause-fault : goal.returns-in_err-noted-clause-fault
returns-in_err-noted-clause-fault g c = let p = err_from_is_err_and c.from_residual-in_err-noted.result c.from_residual-in_err-noted.ensures.1 in rw (p.1, p.2) c.in_err-noted.ensures.fault

pub returns-clause-few : goal.returns-clause-few
returns-clause-few g c = λ text found. rw c.in_ok-answer.ensures.status (c.in_ok-found_answer.ensures.few text found)

pub returns-clause-told : goal.returns-clause-told
returns-clause-told g c = λ text line found refused same.
    answer_told _ (g.C.OnOne.is_answer c.args.command.now) text line c.in_ok-found_answer.found_answer.text.items c.in_ok-answer.answer.text.items c.in_ok-answer.answer.status c.telling.result (g.C.OnOne.how_much c.args.command.now) _ (λ e. sym c.telling.ensures ∙ e) same refused (rw c.in_ok-answer.ensures.status (c.in_ok-found_answer.ensures.told text found)) c.in_ok-answer.ensures.text

pub returns-clause-noted : goal.returns-clause-noted
returns-clause-noted g c = λ text found.
    subst (λ (r : Result (Option (Vec ℕ)) AllocError). IfOk r (λ note. IfSome note (λ words. g.C.OnOne.has_note c.args.command.now text c.in_ok-answer.answer.status words.items))) c.in_ok-noted.ensures.given (c.note.ensures.told text found)
