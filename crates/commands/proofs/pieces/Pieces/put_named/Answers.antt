use Rattle.std.proofs.Common.{rules, ◌≡◌, ◌++◌, None, ap, subst, OnOk}
use Rattle.commands.specs.Saving.{name_of, under}
use Rattle.commands.proofs.Named.{ok_told, once_kept}
use Rattle.commands.proofs.pieces.Pieces.put_named.Goals as goal

pub returns-clause-ok : goal.returns-clause-ok
returns-clause-ok g c = λ known text saved.
    let sound : c.end.new.self.fault ≡ None = search rules in
    ok_told _ c.or_fault.result c.keep.result c.or_fault.ensures.done
    (subst (λ name. OnOk c.keep.result (g.S.TextSink.named c.keep.new.sink ≡ g.S.TextSink.named c.args.sink.now ++ under name text)) (ap name_of c.end.ensures.name)
    (once_kept c.keep.result c.end.new.self.draft (under (name_of c.end.new.self.name) text) (g.S.TextSink.named c.args.sink.now) (g.S.TextSink.named c.end.new.sink) (g.S.TextSink.named c.keep.new.sink)
    (c.end.ensures.named known text saved sound)
    (c.keep.ensures.ok known text (c.end.ensures.saved known text saved sound) (c.end.ensures.out sound))))
