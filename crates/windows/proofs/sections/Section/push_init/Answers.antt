use Rattle.session_grammar.specs.Grammar.{page_line}
use Rattle.recordings.specs.Wide.{init_of}
use Rattle.windows.proofs.Lists.{section_more}
use Rattle.windows.proofs.sections.Section.push_init.Goals as goal

pub returns : goal.returns
returns c = λ lines is. section_more c.args.self.now lines (page_line (init_of c.args.given.now)) c.in_ok-self.field-0 c.push.new.out is c.in_ok-self.ensures c.in_ok-push.ensures
