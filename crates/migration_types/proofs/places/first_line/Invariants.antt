use Rattle.std.proofs.Common.{◌≡◌, ◌+◌, ◌*◌, ◌≤◌, length}
use Rattle.migration_types.specs.Limits.{most_pages, longest_log}
use Rattle.migration_types.specs.Receipts.{logs}
use Rattle.migration_types.specs.inner.Places.{lines_before}
use Rattle.migration_types.proofs.places.first_line.Given as goal

abbrev pub invariant-loop-n : goal.invariant-loop-n
invariant-loop-n l = record {
  all : l.all ≡ logs;
  line : l.line ≡ 6 + length l.session.init + lines_before l.session l.n;
  few : l.line ≤ 6 + most_pages + l.n * (longest_log + 1);
}
