use Rattle.guest_script.specs.inner.ScriptDraft.{draft_of}
use Rattle.guest_script.proofs.ScriptGoes.{taken, refused, still_live, still_held}
use Rattle.guest_script.proofs.script_reader.ScriptPartsStages.take.Goals as goal

pub returns-clause-ok : goal.returns-clause-ok
returns-clause-ok c = taken c.args.stage (draft_of c.args.self.now) (draft_of c.step.new.self) c.args.line.now c.step.result c.step.ensures

pub returns-clause-refused : goal.returns-clause-refused
returns-clause-refused c = refused c.args.stage (draft_of c.args.self.now) (draft_of c.step.new.self) c.args.line.now c.step.result c.requires c.step.ensures

pub returns-clause-err_live : goal.returns-clause-err_live
returns-clause-err_live c = still_live c.args.stage (draft_of c.args.self.now) (draft_of c.step.new.self) c.args.line.now c.step.result c.requires c.step.ensures

pub returns-clause-err : goal.returns-clause-err
returns-clause-err c = still_held c.args.stage (draft_of c.args.self.now) (draft_of c.step.new.self) c.args.line.now c.step.result c.step.ensures
