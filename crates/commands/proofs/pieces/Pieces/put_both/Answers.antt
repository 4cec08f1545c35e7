use Rattle.std.proofs.Common.{◌≡◌, ◌∙◌, [], Some, ap, subst, OnErr, OnOk}
use Rattle.commands.specs.Puts.{AreBothNamed, IsOneNamed}
use Rattle.commands.specs.Saving.{name_of, under}
use Rattle.commands.proofs.pieces.Pieces.put_both.Goals as goal

pub returns-clause-named : goal.returns-clause-named
returns-clause-named g c = λ known text whole.
    let name_is : name_of c.end.new.self.name ≡ Some c.args.lines.now = ap name_of (c.end.ensures.name ∙ c.add.ensures.name ∙ c.new-saved.ensures.name) in
    let table = c.add.ensures.saved known [] (λ _. c.new-saved.ensures.saved known) in
    subst (λ name. OnOk c.put_before-put.result (AreBothNamed (under (name_of c.args.name) text) (under name c.args.table.now) (g.S.TextSink.named c.args.sink.now) (g.S.TextSink.named c.put_before-put.new.sink))) name_is
    (c.put_before-put.ensures.named known text whole (g.S.TextSink.named c.args.sink.now) c.args.table.now (c.end.ensures.saved known c.args.table.now table) (c.end.ensures.named known c.args.table.now table))

pub returns-clause-err : goal.returns-clause-err
returns-clause-err g c = λ known text whole.
    let name_is : name_of c.end.new.self.name ≡ Some c.args.lines.now = ap name_of (c.end.ensures.name ∙ c.add.ensures.name ∙ c.new-saved.ensures.name) in
    let table = c.add.ensures.saved known [] (λ _. c.new-saved.ensures.saved known) in
    subst (λ name. OnErr c.put_before-put.result (IsOneNamed (under (name_of c.args.name) text) (under name c.args.table.now) (g.S.TextSink.named c.args.sink.now) (g.S.TextSink.named c.put_before-put.new.sink))) name_is
    (c.put_before-put.ensures.err known text whole (g.S.TextSink.named c.args.sink.now) c.args.table.now (c.end.ensures.named known c.args.table.now table) (c.end.ensures.err known))
