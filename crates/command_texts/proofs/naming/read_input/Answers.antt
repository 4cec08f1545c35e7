use Rattle.command_texts.specs.Reasons.{line_of}
use Rattle.command_texts.proofs.naming.read_input.Goals as goal

pub returns-in-Ok-clause-named : goal.returns-in-Ok-clause-named
returns-in-Ok-clause-named g c =
    let h = c.in-Ok.ensures in
    (h.0, h.1, h.2, h.3, (line_of c.in-Ok.refusals.0, h.4, c.both_under.ensures.first), (line_of c.in-Ok.refusals.1, h.5, c.both_under.ensures.second))
