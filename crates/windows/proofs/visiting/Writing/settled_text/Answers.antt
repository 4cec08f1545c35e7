use Rattle.windows.proofs.Windowed.{window_of}
use Rattle.windows.proofs.visiting.Writing.settled_text.Goals as goal

pub returns : goal.returns
returns g c = λ s met by same of. window_of c.args.self.now c.args.window s (record { text = c.in_ok-text.text; lines = c.in_ok-lines.lines }) met by same of c.in_ok-text.ensures c.in_ok-lines.ensures
