use Rattle.std.proofs.lemmas.Option.{MatchOption-at_none}
use Rattle.audit_model.specs.Mergings.{IsMerging, spelled}
use Rattle.audit_model.specs.Shape.{IsRightShape}
use Rattle.cert_check.specs.Verdicts.{IsVerdict}
use Rattle.cert_check.proofs.entry_judges.settled.Goals as goal

pub by_entries-requires-clause-right : goal.by_entries-requires-clause-right
by_entries-requires-clause-right c =
    let s = c.args.session.now in
    let cert = c.args.cert.now in
    MatchOption-at_none (IsRightShape s × IsMerging s (spelled cert.runs)) (IsVerdict s cert) c.in-None.is c.requires.first
