use Rattle.command_texts.proofs.WhatIsRead.{told_read}
use Rattle.command_texts.proofs.taking.TextReaderTaker.end.Goals as goal

pub returns : goal.returns
returns g c = λ text came. told_read g.R.LineReader.spells text c.finish_or_why.result c.told.result (c.finish_or_why.ensures.reads text came) c.told.ensures
