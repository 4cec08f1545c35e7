use Rattle.std.proofs.Common.{None, subst, sym, ◌∙◌}
use Rattle.std.proofs.lemmas.Option.{MatchOption-at_none, MatchOption-at_some}
use Rattle.recorder_files.specs.Surveys.{IsSurveyOf}
use Rattle.session_commands.proofs.OpenedFile.{came_known}
use Rattle.session_commands.proofs.Surveying.{says_known}
use Rattle.session_commands.proofs.surveys.survey_text.Goals as goal

pub returns-in_ok-found-in-Ok-Some : goal.returns-in_ok-found-in-Ok-Some
returns-in_ok-found-in-Ok-Some g c =
    let known = g.S.TextSource.bytes_of c.args.texts.now c.args.path.now in
    let surveyed = c.in_ok-found-in-Ok-Some.ensures known (came_known c.args.party known _ _ c.in_ok-text.ensures (MatchOption-at_some _ _ c.in-Ok-Some.reader c.in-Ok-Some.field-0-is c.in-Ok-Some.ensures.opened)) in
    λ name named.
    let under = c.in_ok-take_name-in-Ok-Some.ensures name named in
    (under.0, subst (λ held. IsSurveyOf c.args.party known held c.in_ok-found-in-Ok-Some.found) (sym c.name.ensures ∙ under.1) surveyed)

pub returns-in-Ok-None : goal.returns-in-Ok-None
returns-in-Ok-None g c = λ name named. (named, says_known c.args.party (g.S.TextSource.bytes_of c.args.texts.now c.args.path.now) _ None c.in_ok-text.ensures (MatchOption-at_none _ _ c.in-Ok-None.field-0-is c.in-Ok-None.ensures.opened))
