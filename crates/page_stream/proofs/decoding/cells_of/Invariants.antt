use Rattle.std.proofs.Common.{◌≡◌, ◌++◌, ◌+◌, ◌*◌, ◌<◌, ◌^◌, length}
use Rattle.std.specs.List.{flat_map, AllByRecursion}
use Rattle.page_stream.specs.Bytes.{cell_bytes}
use Rattle.page_stream.proofs.decoding.cells_of.Given as goal

abbrev pub invariant-loop-cell : goal.invariant-loop-cell
invariant-loop-cell l =
    record {
      whole : l.bytes ≡ flat_map cell_bytes l.cells.items ++ l.rest;
      count : 8 * length l.cells.items + length l.rest ≡ length l.bytes;
      each : AllByRecursion (λ x. x < 2 ^ 64) l.cells.items;
    }

abbrev pub decreases-loop-cell : goal.decreases-loop-cell
decreases-loop-cell l = length l.rest
