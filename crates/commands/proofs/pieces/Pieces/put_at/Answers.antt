use Rattle.std.proofs.Common.{rules, ◌≡◌, [], ◌∷◌, option_map}
use Rattle.command_words.specs.Words.{target_names}
use Rattle.commands.specs.Puts.{under_if}
use Rattle.commands.specs.Saving.{name_of, under}
use Rattle.commands.proofs.Named.{ok_alone, put_is}
use Rattle.commands.proofs.pieces.Pieces.put_at.Goals.{in_default-via-in-Some+in_default, in_default-via-in_default}
use Rattle.commands.proofs.pieces.Pieces.put_at.Goals as goal

pub returns-in-Some-Some-clause-ok : goal.returns-in-Some-Some-clause-ok
returns-in-Some-Some-clause-ok g c = λ known text whole.
    let table_is : under_if (target_names c.at-due.result).0 (option_map (λ table. table.items) c.args.table.now) ≡ (c.in-Some-Some.lines.now, c.as_slice.result.now) ∷ [] = search rules in
    put_is c.put_both.result c.args.kind c.args.status (name_of c.args.lines) (name_of c.args.self.now.name) (target_names c.at-due.result) (option_map (λ table. table.items) c.args.table.now) text _ (g.S.TextSink.named c.args.sink.now, g.O.Write.contents c.args.output.now) (g.S.TextSink.named c.put_both.new.sink, g.O.Write.contents c.put_both.new.output)
    c.at-due.ensures (search rules) table_is (c.put_both.ensures.named known text whole) (c.put_both.ensures.written known text whole)

pub returns-in_default-clause-ok : goal.returns-in_default-clause-ok
returns-in_default-clause-ok g c = λ known text whole.
    let table_is : under_if (target_names c.at-due.result).0 (option_map (λ table. table.items) c.args.table.now) ≡ [] = elim c.in_default.branch [ in_default-via-in-Some+in_default w ↦ search rules | in_default-via-in_default w ↦ search rules ] in
    put_is c.put_answer.result c.args.kind c.args.status (name_of c.args.lines) (name_of c.args.self.now.name) (target_names c.at-due.result) (option_map (λ table. table.items) c.args.table.now) text [] (g.S.TextSink.named c.args.sink.now, g.O.Write.contents c.args.output.now) (g.S.TextSink.named c.put_answer.new.sink, g.O.Write.contents c.put_answer.new.output)
    c.at-due.ensures (search rules) table_is (ok_alone c.put_answer.result (under (name_of c.at-due.result.output) text) _ _ (c.put_answer.ensures.named known text whole)) (c.put_answer.ensures.written known text whole)
