use Rattle.std.proofs.Common.{◌≡◌, ◌+◌, ◌-◌, length, take}
use Rattle.text_lines.proofs.rewinding.back_to.Given as goal

abbrev pub invariant-loop : goal.invariant-loop
invariant-loop g l =
    let held = g.R.LineReader.held l.reader in
    record {
      short : length held + (l.counter - l.lines) ≡ l.count;
      front : take l.lines held ≡ take l.lines (g.R.LineReader.held l.fn.reader);
    }
