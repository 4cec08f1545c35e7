use Rattle.std.proofs.Common.{sym, ◌∙◌}
use Rattle.std.specs.Prelude.{string_bytes}
use Rattle.session_commands.proofs.Compressing.{none_in_folders}
use Rattle.session_commands.proofs.Held.{found_in_words}
use Rattle.session_commands.proofs.gathering.gather.Goals as goal

pub returns : goal.returns
returns g c =
    found_in_words c.gather_files-session.result _ _ (λ session has. (has.0, record { logs = c.in_ok-logs.logs; found = c.in_ok-logs.ensures c.requires.found; whole = λ refused. none_in_folders string_bytes _ _ c.args.found.now.compressed.items (sym c.as_slice.ensures.value ∙ c.in_ok-goes_on.ensures.asked c.if-not-goes_on.false refused) c.requires.compressed; is = has.1 }, has.2)) c.gather_files-session.ensures
