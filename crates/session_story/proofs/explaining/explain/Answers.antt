use Rattle.std.proofs.Common.{sym, subst}
use Rattle.audit_report.specs.declared.report.Report.{Report}
use Rattle.audit_report.specs.Reports.{IsReport}
use Rattle.session_story.specs.declared.explanations.Explanation.TheVariants as told
use Rattle.session_story.specs.Explained.{IsExplanation}
use Rattle.session_story.proofs.explaining.explain.Goals as goal

pub returns-in_ok-story-in-Faulty : goal.returns-in_ok-story-in-Faulty
returns-in_ok-story-in-Faulty c =
    let s = c.args.session.now in
    let at = c.in_ok-story-in-Faulty in
    let more = c.more_faulty-more in
    subst (λ (r : Report). IsReport s r → IsExplanation s r (told.Faulty at.story more.result)) (sym c.in-Faulty.is) (λ is. (record { is_line = is.1.is_line; is_fault = at.ensures.fault; is_first = is.1.is_first; story = at.ensures.story }, more.ensures)) c.requires
