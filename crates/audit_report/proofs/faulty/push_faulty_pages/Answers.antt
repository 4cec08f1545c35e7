use Rattle.std.proofs.Common.{◌++◌, codes, length}
use Rattle.std.specs.Fmt.{decimal}
use Rattle.text_lines.proofs.Counting.{written_item}
use Rattle.audit_report.specs.FaultyPagesText.{faulty_page_line}
use Rattle.audit_report.proofs.faulty.push_faulty_pages.Goals as goal

pub loop-faulty-preserved : goal.loop-faulty-preserved
loop-faulty-preserved c = written_item faulty_page_line c.args.out.now.items (codes "faulty-pages " ++ decimal (length c.args.pages.now)) c.args.pages.now c.loop-faulty.faulty-index c.loop-faulty.out.items c.push_faulty_page.new.out.items c.faulty-item.result c.loop-faulty-test.true c.loop-faulty.invariant c.faulty-item.is c.in_ok-push_faulty_page.ensures
