use Rattle.std.proofs.lemmas.Option.{MatchOption-at_none}
use Rattle.audit_model.specs.Faults.{HasNoPageFault}
use Rattle.audit_model.specs.FirstFault.{IsFirstPageFault}
use Rattle.audit_model.specs.Laws.{IsFaultless}
use Rattle.audit_model.specs.Mergings.{spelled}
use Rattle.page_facts.specs.declared.page_fault.PageFault.{PageFault}
use Rattle.judged_texts.proofs.Holding.{replays_safely}
use Rattle.judged_texts.proofs.replaying.by_pages.Goals as goal

pub returns-in-None : goal.returns-in-None
returns-in-None c =
    let s = c.args.session.now in
    let runs = c.args.runs.now in
    let clean = MatchOption-at_none (HasNoPageFault s) (λ (f : PageFault). IsFirstPageFault s f.reason (f.log, f.place)) c.in-None.is (c.first_of_pages_is_first.ensures s c.args.fault c.keeps_limits.ensures c.requires.fault) in
    let faultless : IsFaultless s = record { is_session = c.keeps_limits.ensures; shape = c.requires.shape; clean = clean } in
    let safe = c.faults_are_unsafe.ensures.clean s faultless (spelled runs) c.requires.merging in
    (c.requires.shape, replays_safely s runs c.keeps_limits.ensures c.requires.merging safe)
