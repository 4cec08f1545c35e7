use Rattle.std.proofs.Common.{◌≡◌, true}
use Rattle.command_texts.specs.Answers.{file_line}
use Rattle.command_texts.specs.Shown.{line_on}
use Rattle.text_access.proofs.Fronts.{front_before, front_behind}
use Rattle.command_texts.proofs.answer.tell_file.Goals as goal

pub returns-then-write_file_line : goal.returns-then-write_file_line
returns-then-write_file_line g c =
    let first : c.write_file_line.result ≡ true = cc in
    front_behind _ _ _ (file_line c.args.name.now) (line_on c.args.name.now c.args.why.now) (c.write_file_line.ensures.whole first) c.write_line_on.ensures.front

pub returns-else-write_file_line : goal.returns-else-write_file_line
returns-else-write_file_line g c = front_before _ _ (file_line c.args.name.now) (line_on c.args.name.now c.args.why.now) c.write_file_line.ensures.front
