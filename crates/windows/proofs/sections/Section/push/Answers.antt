use Rattle.recordings.specs.Wide.{wide_line}
use Rattle.windows.proofs.Lists.{section_more}
use Rattle.windows.proofs.sections.Section.push.Goals as goal

pub returns : goal.returns
returns c = λ lines is. section_more c.args.self.now lines (wide_line c.args.rec.now) c.in_ok-self.field-0 c.push.new.out is c.in_ok-self.ensures c.in_ok-push.ensures
