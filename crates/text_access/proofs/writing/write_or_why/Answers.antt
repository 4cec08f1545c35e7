use Rattle.std.proofs.Common.{rules, ◌+◌, take}
use Rattle.std.proofs.KnownBytes.{Appends-kept, Appends-nil}
use Rattle.text_access.proofs.Fronts.{failed, part_of, some_more, some_of}
use Rattle.text_access.proofs.writing.write_or_why.Goals.{in-Ok+else-count-bytes, in-Err+else-ne}
use Rattle.text_access.proofs.writing.write_or_why.Goals as goal

pub loop-init : goal.loop-init
loop-init g c = record { within = search rules; written = Appends-nil _ }

pub loop-preserved : goal.loop-preserved
loop-preserved g c =
    let i = c.loop.invariant in
    let contents = g.W.Write.contents in
    let bytes = c.args.bytes.now in
    elim c.match-write.branch [
      | in-Ok+else-count-bytes w ↦ record {
        within = rw w.count-is (search rules);
        written = rw w.count-is (some_more (contents c.args.output.now) (contents c.loop.output) (contents c.write.new.self) c.loop.count w.in-Ok.more bytes i.written w.in-Ok.ensures.bytes);
      }
      | in-Err+else-ne w ↦ record {
        within = rw w.count-is (search rules);
        written = rw w.count-is (Appends-kept (contents c.args.output.now) (contents c.loop.output) (contents c.write.new.self) (take c.loop.count bytes) i.written w.in-Err.ensures.bytes);
      }
    ]

pub returns-in-Ok-eq0-clause-front : goal.returns-in-Ok-eq0-clause-front
returns-in-Ok-eq0-clause-front g c = some_of _ _ _ c.args.bytes.now (some_more _ _ _ c.loop.count c.in-Ok-eq0.field-0 c.args.bytes.now c.loop.invariant.written c.in-Ok-eq0.ensures.bytes)

pub returns-then-ne-clause-front : goal.returns-then-ne-clause-front
returns-then-ne-clause-front g c = failed _ _ _ c.loop.count c.args.bytes.now c.loop.invariant.written c.in-Err.ensures.bytes

pub returns-clause-front : goal.returns-clause-front
returns-clause-front g c = some_of _ _ c.loop.count c.args.bytes.now c.loop.invariant.written

pub returns-then-count-bytes-clause-front : goal.returns-then-count-bytes-clause-front
returns-then-count-bytes-clause-front g c = some_of _ _ (c.loop.count + c.in-Ok.more) c.args.bytes.now (some_more _ _ _ c.loop.count c.in-Ok.more c.args.bytes.now c.loop.invariant.written c.in-Ok.ensures.bytes)

pub returns-in-Ok-eq0-clause-part : goal.returns-in-Ok-eq0-clause-part
returns-in-Ok-eq0-clause-part g c = part_of _ _ (c.loop.count + c.in-Ok-eq0.field-0) c.args.bytes.now (search rules) (some_more _ _ _ c.loop.count c.in-Ok-eq0.field-0 c.args.bytes.now c.loop.invariant.written c.in-Ok-eq0.ensures.bytes)

pub returns-then-ne-clause-part : goal.returns-then-ne-clause-part
returns-then-ne-clause-part g c = part_of _ _ c.loop.count c.args.bytes.now c.loop.invariant.within (Appends-kept _ _ _ (take c.loop.count c.args.bytes.now) c.loop.invariant.written c.in-Err.ensures.bytes)

pub returns-clause-part : goal.returns-clause-part
returns-clause-part g c = part_of _ _ c.loop.count c.args.bytes.now c.loop.invariant.within c.loop.invariant.written
