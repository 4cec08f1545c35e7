use Rattle.std.proofs.Common.{List, length, subst}
use Rattle.migration_types.specs.declared.records.SourceRec.{SourceRec}
use Rattle.session_story.specs.inner.Kinds.{IsTallyBy}
use Rattle.session_story.proofs.Faulting.{sent, sent_are}
use Rattle.session_story.proofs.kinds.sent_faults.Goals as goal

pub returns : goal.returns
returns c =
    let s = c.args.session.now in
    let h = c.args.halted.now in
    let why = c.args.reason in
    sent_are s h c.requires.halted why c.requires.reason c.tally_of.result (subst (λ (log : List SourceRec). IsTallyBy (sent s h c.requires.halted why) log (length log) c.tally_of.result) c.source.ensures c.tally_of.ensures)
