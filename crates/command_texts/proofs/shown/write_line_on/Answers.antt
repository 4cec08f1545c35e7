use Rattle.command_texts.proofs.shown.write_line_on.Goals as goal

pub returns-clause-front : goal.returns-clause-front
returns-clause-front g c = rw c.as_bytes.ensures.value at c.write_line_of.ensures.front

pub returns-clause-whole : goal.returns-clause-whole
returns-clause-whole g c = rw c.as_bytes.ensures.value at c.write_line_of.ensures.whole
