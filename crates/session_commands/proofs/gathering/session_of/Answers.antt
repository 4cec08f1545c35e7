use Rattle.session_commands.proofs.Held.{found_is, text_of_session}
use Rattle.session_commands.proofs.gathering.session_of.Goals as goal

pub returns-in-Some : goal.returns-in-Some
returns-in-Some c = λ files logs known.
    text_of_session files logs c.args.known c.in-Some.session known.0 c.requires.whole c.keeps_limits.ensures (found_is c.in_ok-session.field-0 c.in-Some.session _ _ c.in-Some.is (c.in_ok-session.ensures known.0.chosen.seen known.1))

pub into_session-requires : goal.into_session-requires
into_session-requires c = c.requires.met
