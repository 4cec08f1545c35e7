use Rattle.command_texts.specs.Reasons.{line_of}
use Rattle.command_texts.proofs.naming.read_named.Goals as goal

pub returns-clause-named : goal.returns-clause-named
returns-clause-named g c =
    let n = c.in_ok-found.ensures.named in
    (n.0, n.1, n.2, (line_of c.in_ok-found.refusal, n.3, c.under.ensures))
