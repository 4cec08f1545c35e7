use Rattle.std.proofs.Common.{◌≡◌, ◌∙◌, Ok, sym, ap, subst}
use Rattle.std.proofs.lemmas.Result.{err_from_is_err_and}
use Rattle.command_texts.specs.declared.why.Telling.TheVariants.{Short}
use Rattle.command_texts.specs.declared.answer.Fault.{Fault}
use Rattle.command_texts.specs.Answers.{IsReadFault}
use Rattle.command_texts.proofs.Beside.{why_gains}
use Rattle.text_access.specs.Names.{files_of}
use Rattle.text_access.proofs.Fronts.{both_gain, front_gains, same_gains, told_gains}
use Rattle.session_commands.proofs.Answered.{few_written, lines_kept, lines_told, lines_unasked, window_unread, window_unwritten, window_written}
use Rattle.session_commands.proofs.windowing.perform_window.Goals as goal

pub returns-in_err-found-clause-told : goal.returns-in_err-found-clause-told
returns-in_err-found-clause-told g c =
    let t = g.S.TextSource in
    let texts = c.args.console.now.texts.now in
    let p = err_from_is_err_and c.from_residual.result c.from_residual.ensures.1 in
    rw (p.1, p.2) (window_unread c.args.window c.args.name.now (files_of (t.bytes_of texts) (t.names_in texts)) (t.text_in texts) _ _ _ _ _ c.cut_under.ensures.gains c.in_err-found.ensures.fault)

pub returns-in_err-found-clause-gains : goal.returns-in_err-found-clause-gains
returns-in_err-found-clause-gains g c = (same_gains _, c.cut_under.ensures.gains)

pub returns-in_err-answer-clause-told : goal.returns-in_err-answer-clause-told
returns-in_err-answer-clause-told g c =
    let t = g.S.TextSource in
    let texts = c.args.console.now.texts.now in
    let p = err_from_is_err_and c.from_residual-in_err-answer.result c.from_residual-in_err-answer.ensures.1 in
    rw (p.1, p.2) (window_unread c.args.window c.args.name.now (files_of (t.bytes_of texts) (t.names_in texts)) (t.text_in texts) _ _ _ _ _ c.cut_under.ensures.gains (subst (IsReadFault (λ n. n ≡ c.args.name.now)) (sym c.in_err-answer.ensures.fault) tt))

pub returns-in_err-answer-clause-gains : goal.returns-in_err-answer-clause-gains
returns-in_err-answer-clause-gains g c = (same_gains _, c.cut_under.ensures.gains)

pub returns-in_err-status-clause-told : goal.returns-in_err-status-clause-told
returns-in_err-status-clause-told g c =
    let p = err_from_is_err_and c.from_residual-in_err-status.result c.from_residual-in_err-status.ensures.1 in
    rw (p.1, p.2) (window_unwritten c.args.lined c.in_ok-found.ensures.cut c.answer_for.ensures c.in_ok-answer.ensures.given _ _ _ _ _ c.cut_under.ensures.gains c.in_err-status.ensures.fault c.in_err-status.ensures.front)

pub returns-in_err-status-clause-gains : goal.returns-in_err-status-clause-gains
returns-in_err-status-clause-gains g c = (front_gains _ _ _ c.in_err-status.ensures.front, c.cut_under.ensures.gains)

pub returns-clause-few : goal.returns-clause-few
returns-clause-few g c = few_written c.args.lined c.in_ok-found.ensures.cut c.answer_for.ensures c.in_ok-answer.ensures.given c.in_ok-status.status c.in_ok-status.ensures.status

pub returns-clause-told : goal.returns-clause-told
returns-clause-told g c = window_written c.args.lined c.in_ok-found.ensures.cut c.answer_for.ensures c.in_ok-answer.ensures.given c.is_outside-outside.result _ _ _ _ _ _ c.in_ok-status.status c.cut_under.ensures.gains c.is_outside-outside.ensures c.in_ok-status.ensures.status c.in_ok-status.ensures.text c.tell_why.ensures c.tell_outside.ensures

pub returns-clause-gains : goal.returns-clause-gains
returns-clause-gains g c = (front_gains _ _ _ c.in_ok-status.ensures.front, both_gain _ _ _ c.cut_under.ensures.gains (both_gain _ _ _ (why_gains Short _ _ _ c.tell_why.ensures) (told_gains _ _ _ c.tell_outside.ensures)))

pub returns-clause-lines : goal.returns-clause-lines
returns-clause-lines g c = λ lined well.
    let zero : c.in_ok-status.status ≡ 0 = cc in
    lines_told c.args.lined c.in_ok-found.ensures.cut c.answer_for.ensures c.in_ok-answer.ensures.given _ _ c.args.lines.now c.put.new.lines lined c.in_ok-status.ensures.text c.put.ensures (sym c.in_ok-status.ensures.status ∙ zero)

pub returns-clause-unlined : goal.returns-clause-unlined
returns-clause-unlined g c = λ unlined. lines_unasked c.args.lined c.in_ok-found.ensures.cut c.answer_for.ensures c.in_ok-answer.ensures.given c.args.lines.now c.put.new.lines unlined c.put.ensures

pub returns-clause-kept : goal.returns-clause-kept
returns-clause-kept g c = λ other. lines_kept c.args.lined c.in_ok-found.ensures.cut c.answer_for.ensures c.in_ok-answer.ensures.given c.args.lines.now c.put.new.lines c.put.ensures (λ zero. other (ap Ok (c.in_ok-status.ensures.status ∙ zero)))
