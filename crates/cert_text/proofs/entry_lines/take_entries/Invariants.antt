use Rattle.std.proofs.Common.{◌≡◌, ◌+◌, length}
use Rattle.cert_text.specs.inner.Taken.{TakesEntries}
use Rattle.cert_text.proofs.entry_lines.take_entries.Given as goal

abbrev pub invariant-loop-at : goal.invariant-loop-at
invariant-loop-at l = record {
  taken : TakesEntries l.version l.size l.fn.entries.items l.entries.items l.bytes l.rest l.at;
  count : length l.entries.items ≡ length l.fn.entries.items + l.at;
}
