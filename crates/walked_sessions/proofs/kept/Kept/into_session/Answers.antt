use Rattle.std.proofs.Common.{subst, sym}
use Rattle.migration_types.specs.Sessions.{IsSession, Recorded}
use Rattle.walked_sessions.proofs.Making.{fits_session, made_is, session_fits}
use Rattle.walked_sessions.proofs.kept.Kept.into_session.Goals as goal

pub returns-in_default : goal.returns-in_default
returns-in_default c = λ d kept session. c.in_default.ensures d kept (session_fits d c.args.version c.args.size session)

pub new-requires : goal.new-requires
new-requires c =
    let d = c.requires.0 in
    let made = c.in-Some.ensures d c.requires.1 in
    subst (λ (s : Recorded). IsSession s) (sym (made_is c.args.self d c.args.version c.args.size c.in-Some.machine c.into_pages.result c.into_records.result c.into_records-2.result c.into_records-3.result c.into_records-4.result c.into_records-5.result c.requires.1 made.0 c.into_pages.ensures c.into_records.ensures c.into_records-2.ensures c.into_records-3.ensures c.into_records-4.ensures c.into_records-5.ensures)) (fits_session d c.args.version c.args.size made.1)
