use Rattle.std.proofs.Common.{◌≡◌, ap, refl, ◌++◌, ◌∷◌, []}
use Rattle.migration_types.specs.declared.records.GuestRec.TheVariants.{Halt}
use Rattle.target_side.specs.TargetPart.{TargetPart}
use Rattle.target_side.specs.inner.States.{held}
use Rattle.target_side.proofs.Parts.{sized_own}
use Rattle.target_side.proofs.Weaves.{woven_alone}
use Rattle.target_side.proofs.Targets.{halted_book}
use Rattle.target_side.proofs.target.TargetBook.halted.Goals as goal

pub invariant_of-result : goal.invariant_of-result
invariant_of-result c =
    let s = c.in_ok-state.state in
    let e = c.in_ok-state.ensures in
    rw c.new.ensures.items (halted_book c.args.geometry (held s) c.args.log.items (sized_own c.args.geometry (held s) e.sized) e.part c.requires.own)

pub returns-clause-history : goal.returns-clause-history
returns-clause-history c =
    let log : c.in_ok-state.state.log.items ≡ c.args.log.items ++ Halt ∷ [] = ap (λ (b : TargetPart). b.log) c.in_ok-state.ensures.part in
    rw (c.new.ensures.items, woven_alone, log) refl
