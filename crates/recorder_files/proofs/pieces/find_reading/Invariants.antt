use Rattle.std.proofs.Common.{◌≡◌, ◌≤◌, length, take}
use Rattle.std.specs.Prelude.{slice_range}
use Rattle.recorder_files.specs.Said.{IsWritten}
use Rattle.recorder_files.specs.inner.Finding.{SameBytes}
use Rattle.recorder_files.proofs.pieces.find_reading.Given as goal

abbrev pub invariant-loop : goal.invariant-loop
invariant-loop g l =
    let remaining = g.R.Read.remaining in
    record {
      len : length l.buffer ≡ length l.fn.buffer;
      written : IsWritten (take l.kept l.buffer);
      same : SameBytes (remaining l.fn.reader) (slice_range l.fn.buffer l.fn.start l.fn.end) (remaining l.reader) (take l.kept l.buffer);
      within : l.kept ≤ length l.buffer;
    }
