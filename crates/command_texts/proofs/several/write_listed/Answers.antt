use Rattle.command_texts.proofs.Endings.{outputs_stop}
use Rattle.text_access.proofs.Fronts.{front_gains, same_gains}
use Rattle.command_texts.proofs.several.write_listed.Goals as goal

pub returns-clause-stop : goal.returns-clause-stop
returns-clause-stop g c = outputs_stop c.written.result c.written.ensures.fault

pub returns-clause-gains : goal.returns-clause-gains
returns-clause-gains g c = front_gains _ _ _ c.written.ensures.front

pub returns-in_err-given-clause-gains : goal.returns-in_err-given-clause-gains
returns-in_err-given-clause-gains g c = same_gains _
