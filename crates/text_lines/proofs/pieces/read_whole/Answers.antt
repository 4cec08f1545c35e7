use Rattle.std.proofs.Common.{[], refl}
use Rattle.text_lines.proofs.FaultLines.{refused_by, failed_line}
use Rattle.text_lines.proofs.pieces.read_whole.Goals as goal

pub returns-in-Ok : goal.returns-in-Ok
returns-in-Ok g c = c.finish.ensures.reads c.args.bytes.now (c.in-Ok.ensures.came refl [] c.new-reader.ensures.came)

pub returns-in-Err : goal.returns-in-Err
returns-in-Err g c =
    let m = g.R.LineReader in
    refused_by m.spells c.args.bytes.now c.in-Err.fault
    (λ memory. (c.in-Err.ensures.memory memory).0)
    (λ other. let r = c.in-Err.ensures.refused other in failed_line m.spells c.args.bytes.now c.feed.new.self c.in-Err.fault r.0 (r.1 [] c.new-reader.ensures.came))
