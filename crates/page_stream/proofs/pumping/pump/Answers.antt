use Rattle.std.proofs.Common.{rules, ◌≡◌, ◌≤◌, length, take, drop, arith, sym, ◌∙◌, refl, inl}
use Rattle.std.proofs.lemmas.Result.{err_from_is_err_and}
use Rattle.page_stream.proofs.Turns.{so_far_begins, so_far_goes, so_far_stops, read_piece, until_memory, until_turns, until_read}
use Rattle.page_stream.proofs.pumping.pump.Goals as goal

pub returns-in_default-clause-until : goal.returns-in_default-clause-until
returns-in_default-clause-until g c =
    until_memory c.args.geometry (g.R.Read.remaining c.args.reader.now) (g.W.Write.contents c.args.writer.now) c.args.turns

pub loop-turn-init : goal.loop-turn-init
loop-turn-init g c = rw c.new-stream.ensures (record {
  room = c.in-Ok.ensures;
  few = omega arith;
  within = omega arith;
  going = refl;
  geometry = refl;
  so_far = so_far_begins c.args.geometry (g.R.Read.remaining c.args.reader.now) (g.W.Write.contents c.args.writer.now);
})

pub returns-in-Err-clause-until : goal.returns-in-Err-clause-until
returns-in-Err-clause-until g c =
    until_read c.args.geometry _ _ _ _ _ c.loop-turn.stream.rest c.loop-turn.count c.loop-turn.turn c.args.turns c.fault_of.result c.loop-turn.invariant.so_far c.in-Err.ensures.bytes (c.fault_of.ensures.reading (inl refl))

pub returns-in_err-count-clause-until : goal.returns-in_err-count-clause-until
returns-in_err-count-clause-until g c =
    let p = err_from_is_err_and c.from_residual.result c.from_residual.ensures.1 in
    let n = c.in-Ok-read.length in
    let piece : take n c.deref.result.now ≡ take n c.read.new.buf = read_piece c.loop-turn.buffer.len n c.read.new.buf (drop (length c.read.new.buf) c.loop-turn.buffer.items) c.deref.result.now c.deref.ensures.value c.in-Ok-read.ensures.bound.0 (search rules) in
    rw (p.1, p.2) (so_far_stops c.args.geometry _ _ _ _ _ _ c.loop-turn.stream.rest (take n c.read.new.buf) c.loop-turn.count c.loop-turn.turn c.args.turns c.in_err-count.field-0.0 c.loop-turn.invariant.so_far c.in-Ok-read.ensures.bytes.0
    (rw (c.loop-turn.invariant.geometry, piece) at c.in_err-count.ensures.err))

pub loop-turn-preserved : goal.loop-turn-preserved
loop-turn-preserved g c =
    let n = c.in-Ok-read.length in
    let piece : take n c.deref.result.now ≡ take n c.read.new.buf = read_piece c.loop-turn.buffer.len n c.read.new.buf (drop (length c.read.new.buf) c.loop-turn.buffer.items) c.deref.result.now c.deref.ensures.value c.in-Ok-read.ensures.bound.0 (search rules) in
    let long : length (take n c.read.new.buf) ≡ n = sym c.in-Ok-read.ensures.bound.1 in
    let within : n ≤ c.loop-turn.buffer.len = search rules in
    let passes = rw piece at c.in_ok-count.ensures.ok in
    let few = rw piece at c.in_ok-count.ensures.few in
    record {
      room = search rules;
      few = omega (arith, few, long, within, c.loop-turn.invariant.room, c.loop-turn.invariant.few);
      within = omega (arith, c.loop-turn-test.true);
      going = passes.going;
      geometry = passes.takes.geometry ∙ c.loop-turn.invariant.geometry;
      so_far = so_far_goes c.args.geometry _ _ _ _ _ _ c.loop-turn.stream c.pass_on.new.stream (take n c.read.new.buf) c.loop-turn.count c.loop-turn.turn c.in_ok-count.field-0 c.loop-turn.invariant.so_far c.in-Ok-read.ensures.bytes.0 (omega (arith, long, c.if-length-eq0.false)) c.loop-turn.invariant.geometry passes;
    }

pub returns-clause-until : goal.returns-clause-until
returns-clause-until g c =
    until_turns c.args.geometry _ _ _ _ c.loop-turn.stream.rest c.loop-turn.count c.loop-turn.turn c.args.turns c.loop-turn.invariant.so_far (omega (arith, c.loop-turn-test.false, c.loop-turn.invariant.within))
