use Rattle.cert_text.proofs.RunGoes.{live_begins}
use Rattle.cert_text.proofs.run_lines.RunLines.goes_on.Goals as goal

pub returns : goal.returns
returns c = rw (← c.self.view_is) (live_begins c.self.inside.form.version c.self.inside.form.size c.self.inside.stage c.self.inside.runs c.self.invariant)
