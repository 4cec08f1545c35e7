use Rattle.std.proofs.Common.{◌∙◌}
use Rattle.balloon_ledger.proofs.Marking.{count_marks}
use Rattle.balloon_ledger.proofs.Ledger.owed_count.Goals as goal

pub returns : goal.returns
returns c =
    let i = c.self.inside in
    rw (← c.self.view_is) (c.self.invariant.1 ∙ count_marks (record { geometry = i.geometry; marks = i.marks.items }) c.self.invariant.0)
