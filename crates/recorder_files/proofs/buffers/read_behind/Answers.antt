use Rattle.std.proofs.Common.{◌≡◌, ◌-◌, length, arith, rules}
use Rattle.recorder_files.proofs.Behind.{reads_behind}
use Rattle.recorder_files.proofs.buffers.read_behind.Goals as goal

pub returns-in-Ok-clause-found : goal.returns-in-Ok-clause-found
returns-in-Ok-clause-found g c =
    let remaining = g.R.Read.remaining in
    let i = c.loop.invariant in
    let now = c.loop.buffer in
    let kept = c.args.kept in
    let full : length c.read.new.buf ≡ length now - kept = search rules in
    reads_behind (remaining c.args.reader.now) (remaining c.loop.reader) (remaining c.read.new.self) c.args.buffer.now now c.read.new.buf kept (length now - kept) c.in-Ok.count i.same i.front (omega (arith, i.whole, c.requires)) full c.in-Ok.ensures.bound.0 c.in-Ok.ensures.bytes.0 (λ none. c.in-Ok.ensures.bytes.1 none (omega (arith, full, i.whole, c.requires)))
