use Rattle.std.proofs.lemmas.Option.{MatchOption-at_some, MatchOption-at_none}
use Rattle.cert_maker.specs.Made.{AreMadeFrom, HasBarePage}
use Rattle.cert_maker.proofs.Certifying.{bare_refused}
use Rattle.cert_maker.proofs.maker.make.Goals as goal

pub returns-in_default-made : goal.returns-in_default-made
returns-in_default-made c =
    let s = c.args.session.now in
    bare_refused s c.args.runs (MatchOption-at_none (HasBarePage s) (λ made. AreMadeFrom s 0 s.geometry.pages made.items) c.in_default-made.is c.in-Ok.ensures)

pub make_over-requires-clause-entries : goal.make_over-requires-clause-entries
make_over-requires-clause-entries c =
    let s = c.args.session.now in
    MatchOption-at_some (HasBarePage s) (λ made. AreMadeFrom s 0 s.geometry.pages made.items) c.in-Some.entries c.in-Some.is c.in-Ok.ensures
