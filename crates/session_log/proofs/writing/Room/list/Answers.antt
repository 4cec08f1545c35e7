use Rattle.std.proofs.Common.{rules, ◌≤◌, ◌+◌, [], ◌∷◌, ◌++◌, length, map, take, refl, subst}
use Rattle.std.specs.Fmt.{decimal}
use Rattle.text_lines.specs.Text.{ended}
use Rattle.text_lines.proofs.Counting.{written_item}
use Rattle.text_access.specs.Written.{AppendsPart}
use Rattle.session_log.specs.inner.Rooms.{AreBehind}
use Rattle.session_log.proofs.Rooms.{cut, goes_on, if_err, list_part, list_whole, some_line}
use Rattle.session_log.proofs.writing.Room.list.Goals as goal

pub loop-item-init : goal.loop-item-init
loop-item-init g c = c.in_ok-settle.ensures.ok c.args.self.now.bytes.items (c.args.key.now ++ decimal (length c.args.items.now) ++ 10 ∷ []) c.push_keyed-pushed.ensures

pub returns-in_err-settle-clause-err : goal.returns-in_err-settle-clause-err
returns-in_err-settle-clause-err g c =
    let line = c.args.key.now ++ decimal (length c.args.items.now) in
    if_err _
    (list_part (g.W.Write.contents c.args.output.now) (g.W.Write.contents c.settle.new.output) c.args.self.now.bytes.items c.args.key.now g.F.LineForm.spell c.args.items.now 0
    (c.in_err-settle.ensures.err c.args.self.now.bytes.items (line ++ 10 ∷ []) (some_line line) c.push_keyed-pushed.ensures))

pub returns-in_err-settle-2-clause-err : goal.returns-in_err-settle-2-clause-err
returns-in_err-settle-2-clause-err g c =
    let spell = g.F.LineForm.spell in
    let start = g.W.Write.contents c.args.output.now in
    let end = g.W.Write.contents c.settle-in-loop-item.new.output in
    let text = c.args.self.now.bytes.items in
    let line = c.args.key.now ++ decimal (length c.args.items.now) in
    let now = text ++ ended (line ∷ map spell (take c.loop-item.item-index c.args.items.now)) in
    let more = spell c.item-item.result ++ 10 ∷ [] in
    let written = written_item spell text line c.args.items.now c.loop-item.item-index now (now ++ more) c.item-item.result c.loop-item-test.true refl c.item-item.is refl in
    if_err _
    (list_part start end text c.args.key.now spell c.args.items.now (c.loop-item.item-index + 1)
    (subst (AppendsPart start end) written
    (cut start (g.W.Write.contents c.loop-item.output) end c.loop-item.self.bytes.items now more c.loop-item.invariant
    (c.in_err-settle-2.ensures.err c.loop-item.self.bytes.items more (some_line (spell c.item-item.result)) c.push-pushed.ensures))))

pub loop-item-preserved : goal.loop-item-preserved
loop-item-preserved g c =
    let spell = g.F.LineForm.spell in
    let start = g.W.Write.contents c.args.output.now in
    let end = g.W.Write.contents c.settle-in-loop-item.new.output in
    let text = c.args.self.now.bytes.items in
    let line = c.args.key.now ++ decimal (length c.args.items.now) in
    let now = text ++ ended (line ∷ map spell (take c.loop-item.item-index c.args.items.now)) in
    let more = spell c.item-item.result ++ 10 ∷ [] in
    let left = c.settle-in-loop-item.new.self.bytes.items in
    let written = written_item spell text line c.args.items.now c.loop-item.item-index now (now ++ more) c.item-item.result c.loop-item-test.true refl c.item-item.is refl in
    subst (AreBehind start end left) written
    (goes_on start (g.W.Write.contents c.loop-item.output) end c.loop-item.self.bytes.items now left more c.loop-item.invariant
    (c.in_ok-settle-2.ensures.ok c.loop-item.self.bytes.items more c.push-pushed.ensures))

pub returns-clause-ok : goal.returns-clause-ok
returns-clause-ok g c =
    let le : length c.args.items.now ≤ c.loop-item.item-index = search rules in
    subst (λ t. AreBehind (g.W.Write.contents c.args.output.now) (g.W.Write.contents c.loop-item.output) c.loop-item.self.bytes.items (c.args.self.now.bytes.items ++ t))
    (list_whole c.args.key.now g.F.LineForm.spell c.args.items.now c.loop-item.item-index le) c.loop-item.invariant
