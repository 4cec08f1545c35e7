use Rattle.std.proofs.Common.{◌≡◌, refl}
use Rattle.clap.specs.Words.{kind_of}
use Rattle.command_words.proofs.Clashes.{not_refused}
use Rattle.commands.proofs.Clean.{carried}
use Rattle.commands.proofs.Ran.{granted, turned_away}
use Rattle.commands.proofs.program.run.Goals as goal

pub returns-in-Ok-clause-done : goal.returns-in-Ok-clause-done
returns-in-Ok-clause-done g c =
    let is = c.in-Ok.ensures in
    granted _ _ _ _ _ _ _ _ c.grant.result c.in-Ok.intent (record { job = is.job; several = is.several; folders = is.folders }) (λ few. let none = c.intent.ensures.bare few in cc) is.accepted is.alike c.grant.ensures

pub returns-in-Err-clause-done : goal.returns-in-Err-clause-done
returns-in-Err-clause-done g c = turned_away _ _ _ _ _ _ _ _ c.refuse.result (kind_of c.in-Err.error) (λ few. let none = c.intent.ensures.bare few in absurd cc) c.in-Err.ensures.kind c.refuse.ensures refl

pub returns-in-Ok-clause-untouched : goal.returns-in-Ok-clause-untouched
returns-in-Ok-clause-untouched g c = not_refused c.args.reading _ c.in-Ok.ensures.accepted c.in-Ok.ensures.alike

pub returns-in-Ok-clause-headlines : goal.returns-in-Ok-clause-headlines
returns-in-Ok-clause-headlines g c = carried c.headline_holds_at_yes.ensures c.clean_sessions_are_migrated.ensures _ _ _ _ _ _ _ _ c.grant.result (returns-in-Ok-clause-done g c)

pub returns-in-Err-clause-headlines : goal.returns-in-Err-clause-headlines
returns-in-Err-clause-headlines g c = carried c.headline_holds_at_yes.ensures c.clean_sessions_are_migrated.ensures _ _ _ _ _ _ _ _ c.refuse.result (returns-in-Err-clause-done g c)
