use Rattle.std.proofs.Common.{◌≡◌, length, take}
use Rattle.std.specs.Io.KnownBytes.{Keeps}
use Rattle.recorder_files.proofs.buffers.read_behind.Given as goal

abbrev pub invariant-loop : goal.invariant-loop
invariant-loop g l = record {
  same : Keeps (g.R.Read.remaining l.fn.reader) (g.R.Read.remaining l.reader);
  front : take l.fn.kept l.buffer ≡ take l.fn.kept l.fn.buffer;
  whole : length l.buffer ≡ length l.fn.buffer;
}
