use Rattle.std.proofs.Common.{◌++◌, length, codes}
use Rattle.std.specs.Fmt.{decimal}
use Rattle.text_lines.proofs.Counting.{Written}
use Rattle.audit_report.specs.FaultyPagesText.{faulty_page_line}
use Rattle.audit_report.proofs.faulty.push_faulty_pages.Given as goal

abbrev pub invariant-loop-faulty : goal.invariant-loop-faulty
invariant-loop-faulty l = Written faulty_page_line l.fn.out.items (codes "faulty-pages " ++ decimal (length l.pages)) l.pages l.faulty-index l.out.items
