use Rattle.std.proofs.Common.{◌≡◌, ◌++◌, take}
use Rattle.text_lines.specs.Text.{ended}
use Rattle.cert_text.specs.Grammar.{entry_lines}
use Rattle.cert_text.proofs.entry_lines.push_entries.Given as goal

abbrev pub invariant-loop-page : goal.invariant-loop-page
invariant-loop-page l = l.out.items ≡ l.fn.out.items ++ ended (entry_lines 0 (take l.page l.entries))
