use Rattle.cert_text.proofs.FirstLines.{not_this, no_form}
use Rattle.cert_text.proofs.first_lines.form_of.Goals as goal

pub returns-in-None-clause-none : goal.returns-in-None-clause-none
returns-in-None-clause-none c = no_form c.args.line.now
    (not_this c.is_line.result c.if-is_line.false c.is_line.ensures)
    (not_this c.is_cert_header.result c.if-is_cert_header.false c.is_cert_header.ensures)
    (not_this c.is_line-2.result c.if-is_line-2.false c.is_line-2.ensures)
    c.in-None.ensures.none
