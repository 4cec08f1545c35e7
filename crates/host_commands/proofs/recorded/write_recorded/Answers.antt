use Rattle.std.proofs.Common.{◌++◌, refl}
use Rattle.std.proofs.KnownBytes.{Keeps-refl}
use Rattle.text_lines.specs.Text.{ended}
use Rattle.session_log.specs.Grammar.{session_lines}
use Rattle.host_commands.proofs.recorded.write_recorded.Goals as goal

pub returns-in_default : goal.returns-in_default
returns-in_default g c = (tt, Keeps-refl _)

pub returns-in-Ok-write_both : goal.returns-in-Ok-write_both
returns-in-Ok-write_both g c = record { text = ended (session_lines c.args.session.now) ++ c.args.behind.now; is_answer = (refl, refl); written = c.in-Ok-write_both.ensures.whole }

pub returns : goal.returns
returns g c = (tt, record { text = ended (session_lines c.args.session.now) ++ c.args.behind.now; status = 0; is_answer = (refl, refl); written = c.in-Err.ensures.front })
