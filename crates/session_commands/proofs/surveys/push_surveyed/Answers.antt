use Rattle.std.proofs.Common.{◌∙◌, None, refl}
use Rattle.std.proofs.lemmas.Option.{MatchOption-at_none, MatchOption-at_some}
use Rattle.std.proofs.lemmas.Result.{on_ok_weaker}
use Rattle.recorder_files.specs.Said.{Says}
use Rattle.recorder_files.specs.Surveys.{IsSurveyOf}
use Rattle.session_commands.proofs.Surveying.{gets_headless, gets_surveyed}
use Rattle.session_commands.proofs.surveys.push_surveyed.Goals as goal

pub returns-in-Some : goal.returns-in-Some
returns-in-Some c = on_ok_weaker c.push_read.result (λ pushed bytes_of name party read. gets_surveyed bytes_of name party c.args.path.now c.args.log.now _ _ _ _ (pushed.3 ∙ c.in_ok-add.ensures) c.in_ok-name.ensures.ok c.in_ok-again.ensures.ok pushed.0 pushed.1 pushed.2 (MatchOption-at_some (Says party (bytes_of c.args.path.now) None) (IsSurveyOf party (bytes_of c.args.path.now) name) c.in-Some.surveyed c.in-Some.is read)) c.push_read.ensures

pub returns-in-None : goal.returns-in-None
returns-in-None c = on_ok_weaker c.add-in-None.result (λ pushed bytes_of name party read. gets_headless bytes_of name party c.args.path.now c.args.log.now _ _ _ c.in_ok-add.ensures c.in_ok-name.ensures.ok c.in_ok-again.ensures.ok pushed refl refl (MatchOption-at_none (Says party (bytes_of c.args.path.now) None) (IsSurveyOf party (bytes_of c.args.path.now) name) c.in-None.is read)) c.add-in-None.ensures
