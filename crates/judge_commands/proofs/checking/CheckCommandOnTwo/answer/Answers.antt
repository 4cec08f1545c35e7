use Rattle.std.proofs.Common.{◌<◌}
use Rattle.std.proofs.lemmas.Result.{IfOk-weaker}
use Rattle.judged_texts.specs.Checked.{IsTextVerdict}
use Rattle.command_texts.proofs.Said.{given_holds}
use Rattle.judge_commands.specs.Completed.{IsChecked}
use Rattle.judge_commands.proofs.Statuses.{checked_few}
use Rattle.judge_commands.proofs.checking.CheckCommandOnTwo.answer.Goals as goal

pub returns-clause-few : goal.returns-clause-few
returns-clause-few g c = λ texts session cert. given_holds (λ judged. judged.0.status < 2) c.checked.result c.given.result (IfOk-weaker c.checked.result _ _ (λ judged is. checked_few c.args.self.now.form c.args.self.now.complete texts judged.0.text.items judged.0.status is) (c.checked.ensures.told texts.0 texts.1 session cert)) c.given.ensures.given

pub returns-clause-told : goal.returns-clause-told
returns-clause-told g c = λ texts session cert. given_holds (λ judged. IsChecked c.args.self.now.form c.args.self.now.complete texts judged.0.text.items judged.0.status) c.checked.result c.given.result (c.checked.ensures.told texts.0 texts.1 session cert) c.given.ensures.given

pub returns-clause-said : goal.returns-clause-said
returns-clause-said g c = λ texts session cert. given_holds (λ judged. IsTextVerdict texts.0 texts.1 judged.1) c.checked.result c.given.result (c.checked.ensures.right texts.0 texts.1 session cert) c.given.ensures.given
