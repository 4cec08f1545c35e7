use Rattle.std.proofs.Common.{◌∙◌, sym}
use Rattle.std.proofs.KnownBytes.{Keeps-refl}
use Rattle.text_access.proofs.Fronts.{same_gains}
use Rattle.session_commands.proofs.Settled.{written_few, written_fit, written_not_refused, written_told}
use Rattle.session_commands.proofs.making.settle.Goals as goal

pub returns-then-not-say_lacking-clause-refused : goal.returns-then-not-say_lacking-clause-refused
returns-then-not-say_lacking-clause-refused g c = λ one. Keeps-refl _

pub returns-then-not-say_lacking-clause-gains : goal.returns-then-not-say_lacking-clause-gains
returns-then-not-say_lacking-clause-gains g c = (same_gains _, c.say_lacking.ensures.gains)

pub write-requires-clause-asked : goal.write-requires-clause-asked
write-requires-clause-asked g c = λ refused. sym c.as_slice.ensures.value ∙ c.say_lacking.ensures.asked c.if-not-say_lacking.false refused

pub returns-clause-few : goal.returns-clause-few
returns-clause-few g c = written_few c.write.result c.write.ensures.status

pub returns-clause-written : goal.returns-clause-written
returns-clause-written g c = written_told c.write.result _ c.write.ensures.written

pub returns-clause-refused : goal.returns-clause-refused
returns-clause-refused g c = written_not_refused c.write.result _ c.write.ensures.status

pub returns-clause-unfit : goal.returns-clause-unfit
returns-clause-unfit g c = written_fit c.write.result _ c.write.ensures.fit

pub returns-clause-gains : goal.returns-clause-gains
returns-clause-gains g c = (c.write.ensures.gains, c.say_lacking.ensures.gains)
