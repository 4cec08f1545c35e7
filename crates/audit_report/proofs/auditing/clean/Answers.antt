use Rattle.std.proofs.lemmas.Option.{MatchOption-at_some, MatchOption-at_none}
use Rattle.audit_model.specs.Laws.{IsFaultless}
use Rattle.cert_maker.specs.Made.{AreMadeFrom, HasBarePage}
use Rattle.cert_maker.proofs.Certifying.{bare_refused}
use Rattle.audit_report.proofs.auditing.clean.Goals as goal

pub make_over-requires-clause-entries : goal.make_over-requires-clause-entries
make_over-requires-clause-entries c =
    let s = c.args.session.now in
    MatchOption-at_some (HasBarePage s) (λ made. AreMadeFrom s 0 s.geometry.pages made.items) c.in-Some.entries c.in-Some.is c.requires.entries

pub unreachable-requires : goal.unreachable-requires
unreachable-requires c =
    let s = c.args.session.now in
    let faultless : IsFaultless s = record { is_session = c.requires.limits; shape = c.requires.shape; clean = c.requires.no_fault } in
    let certified = c.clean_is_certified.ensures s faultless c.args.found c.requires.found.is_found.is_merging in
    let bare = MatchOption-at_none (HasBarePage s) (λ made. AreMadeFrom s 0 s.geometry.pages made.items) c.in-None.is c.requires.entries in
    bare_refused s c.args.found bare s.version s.geometry.size certified.0 certified.1
