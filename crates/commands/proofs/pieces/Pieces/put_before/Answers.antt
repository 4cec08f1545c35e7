use Rattle.std.proofs.Common.{rules, ◌≡◌, None}
use Rattle.commands.specs.Saving.{name_of, under}
use Rattle.commands.proofs.Named.{both_kept, ok_told}
use Rattle.commands.proofs.pieces.Pieces.put_before.Goals as goal

pub returns-in-Ok-clause-named : goal.returns-in-Ok-clause-named
returns-in-Ok-clause-named g c = λ known text saved start bytes table ended.
    let sound : c.args.table.now.fault ≡ None = search rules in
    ok_told _ c.or_fault.result c.keep.result c.or_fault.ensures.done
    (both_kept c.keep.result c.args.table.now.draft (under (name_of c.args.name) text) (under (name_of c.args.table.now.name) bytes) start (g.S.TextSink.named c.args.sink.now) (g.S.TextSink.named c.put_answer.new.sink) (g.S.TextSink.named c.keep.new.sink)
    (ended sound) (c.in-Ok.ensures.named known text saved) (c.keep.ensures.ok known bytes (table sound) (c.requires.out sound)))
