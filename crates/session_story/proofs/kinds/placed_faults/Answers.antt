use Rattle.std.proofs.Common.{List, length, subst}
use Rattle.migration_types.specs.declared.records.PagerRec.{PagerRec}
use Rattle.session_story.specs.inner.Kinds.{IsTallyBy}
use Rattle.session_story.proofs.Faulting.{placed, placed_are}
use Rattle.session_story.proofs.kinds.placed_faults.Goals as goal

pub returns : goal.returns
returns c =
    let s = c.args.session.now in
    let h = c.args.halted.now in
    let why = c.args.reason in
    placed_are s h c.requires.halted why c.requires.reason c.tally_of.result (subst (λ (log : List PagerRec). IsTallyBy (placed s h c.requires.halted why) log (length log) c.tally_of.result) c.pager.ensures c.tally_of.ensures)
