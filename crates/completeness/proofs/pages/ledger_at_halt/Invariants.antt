use Rattle.completeness.specs.inner.Walks.{IsLedger}
use Rattle.completeness.proofs.pages.ledger_at_halt.Given as goal

abbrev pub invariant-loop-n : goal.invariant-loop-n
invariant-loop-n l = IsLedger l.session l.n l.ledger
