use Rattle.std.proofs.Common.{refl}
use Rattle.guest_script.specs.inner.ScriptDraft.{draft_of}
use Rattle.guest_script.specs.inner.ScriptHeld.{script_held}
use Rattle.guest_script.proofs.ScriptGoes.{live_found, live_not_whole}
use Rattle.guest_script.proofs.script_reader.ScriptPartsStages.text.Goals as goal

pub returns-in-Done-clause-found : goal.returns-in-Done-clause-found
returns-in-Done-clause-found c =
    let d = draft_of c.args.self in
    live_found c.args.stage d (script_held c.args.stage d) c.into_script.result refl c.in-Done.is c.requires c.into_script.ensures

pub returns-in_default : goal.returns-in_default
returns-in_default c =
    let d = draft_of c.args.self in
    record { found = tt; none = live_not_whole c.args.stage d (script_held c.args.stage d) refl c.requires c.in_default.not-Done }
