use Rattle.session_answers.specs.Forms.{TellsStory}
use Rattle.session_answers.specs.Judged.{IsJudgedTold}
use Rattle.session_answers.specs.Lacks.{story_lack}
use Rattle.judge_commands.proofs.Lacking.{held_all}
use Rattle.judge_commands.proofs.explaining.explained.Goals as goal

pub returns : goal.returns
returns g c = λ text read.
    let tell = g.L.Lines.tell c.args.lines.now in
    held_all tell (story_lack c.args.story) (IsJudgedTold (TellsStory tell c.args.story) text) c.session_texts_are_unambiguous.ensures text c.args.complete c.args.session.now c.in_ok-answer.answer c.held.result read (c.in_ok-answer.ensures text read) (rw c.of_lack.ensures at c.held.ensures)
