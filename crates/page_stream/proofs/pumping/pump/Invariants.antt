use Rattle.std.proofs.Common.{◌≡◌, ◌+◌, ◌-◌, ◌*◌, ◌≤◌, false, length, vec_len}
use Rattle.page_stream.proofs.Turns.{SoFar, known}
use Rattle.page_stream.proofs.pumping.pump.Given as goal

abbrev pub invariant-loop-turn : goal.invariant-loop-turn
invariant-loop-turn g l = record {
  room : vec_len l.buffer ≡ 65536;
  few : l.count + length l.stream.rest ≤ 65536 * l.turn;
  within : l.turn ≤ l.turns;
  going : l.stream.is_broken ≡ false;
  geometry : l.stream.geometry ≡ l.fn.geometry;
  so_far : SoFar l.fn.geometry (known (g.R.Read.remaining l.fn.reader) (g.R.Read.remaining l.reader)) (known (g.W.Write.contents l.fn.writer) (g.W.Write.contents l.writer)) l.stream.rest l.count l.turn;
}

abbrev pub decreases-loop-turn : goal.decreases-loop-turn
decreases-loop-turn g l = l.turns - l.turn
