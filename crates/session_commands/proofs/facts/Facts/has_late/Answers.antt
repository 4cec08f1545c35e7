use Rattle.session_commands.proofs.Late.{before_late, late_before}
use Rattle.session_commands.proofs.facts.Facts.has_late.Goals as goal

pub returns : goal.returns
returns c = λ s facts.
    let late = c.args.self.now.late in
    let count = c.args.front.guest in (
      λ before. before_late late s.guest count facts.late (c.is_before.ensures.0 before),
      λ some. c.is_before.ensures.1 (late_before late s.guest count facts.late some),
    )
