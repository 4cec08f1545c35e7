use Rattle.std.proofs.Common.{rules}
use Rattle.completeness.proofs.searching.first_missing.Goals as goal

pub returns-in-Pages : goal.returns-in-Pages
returns-in-Pages c = rw c.in-Pages.is (record { halted = search rules; resumed = search rules; pages = search rules })

pub returns : goal.returns
returns c = rw c.in-Whole.is c.missing_behind.ensures
