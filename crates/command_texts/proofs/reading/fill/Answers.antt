use Rattle.std.proofs.Common.{◌-◌, length, rules}
use Rattle.command_texts.proofs.Filling.{read_behind, read_nothing}
use Rattle.command_texts.proofs.reading.fill.Goals.{in-Ok, in-Err+else-ne}
use Rattle.command_texts.proofs.reading.fill.Goals as goal

pub loop-made-preserved : goal.loop-made-preserved
loop-made-preserved g c =
    let i = c.loop-made.invariant in
    let remaining = g.R.Read.remaining in
    let xs = c.loop-made.buffer in
    let at = c.loop-made.count in
    elim c.match-read.branch [
      | in-Ok w ↦ record {
        whole = search rules;
        within = rw w.count-is (search rules);
        consumed = rw w.count-is (read_behind (remaining c.args.reader.now) (remaining c.loop-made.reader) (remaining c.read.new.self) at (length xs - at) w.in-Ok.more xs c.read.new.buf i.within w.in-Ok.ensures.bound.0 i.consumed w.in-Ok.ensures.bytes.0);
      }
      | in-Err+else-ne w ↦ record {
        whole = search rules;
        within = rw w.count-is (search rules);
        consumed = rw w.count-is (read_nothing (remaining c.args.reader.now) (remaining c.loop-made.reader) (remaining c.read.new.self) at (length xs - at) xs c.read.new.buf i.within i.consumed w.in-Err.ensures.bytes);
      }
    ]
