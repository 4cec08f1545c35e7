use Rattle.std.proofs.Common.{◌≡◌, codes, true}
use Rattle.command_texts.specs.Shown.{line_on}
use Rattle.text_access.proofs.Fronts.{front_before, front_behind}
use Rattle.command_texts.proofs.answer.tell_output.Goals as goal

pub returns-then-write_whole : goal.returns-then-write_whole
returns-then-write_whole g c =
    let first : c.write_whole.result ≡ true = cc in
    front_behind _ _ _ (codes "output\n") (line_on c.args.name.now c.args.why.now) (c.write_whole.ensures.whole first) c.write_line_on.ensures.front

pub returns-else-write_whole : goal.returns-else-write_whole
returns-else-write_whole g c = front_before _ _ (codes "output\n") (line_on c.args.name.now c.args.why.now) c.write_whole.ensures.front
