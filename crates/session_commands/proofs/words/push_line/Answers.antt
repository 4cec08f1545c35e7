use Rattle.std.proofs.Common.{◌∙◌, sym}
use Rattle.session_commands.proofs.Extended.{extends_more}
use Rattle.session_commands.proofs.Pushed.{not_empty}
use Rattle.session_commands.proofs.words.push_line.Goals as goal

pub returns-clause-some : goal.returns-clause-some
returns-clause-some c = λ none. not_empty _ _ (sym c.in_ok-add.ensures ∙ none)

pub returns-clause-front : goal.returns-clause-front
returns-clause-front c = extends_more _ _ _ (extends_more _ _ _ (_, c.in_ok-extend_from_slice.ensures.items) c.in_ok-push_text.ensures) (_, c.in_ok-add.ensures)
