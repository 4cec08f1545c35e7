use Rattle.std.proofs.Common.{◌≡◌, ◌∙◌, sym, ap, subst, arith}
use Rattle.std.proofs.lemmas.Grind.{common_steps}
use Rattle.target_side.specs.TargetPart.{TargetPart}
use Rattle.target_side.specs.Guests.{IsGuestBook}
use Rattle.target_side.proofs.guest.GuestBook.halt.Goals as goal

pub invariant_of-result-in-Err-halted : goal.invariant_of-result-in-Err-halted
invariant_of-result-in-Err-halted c =
    let halted = c.into_parts-log.ensures.log ∙ ap (λ (b : TargetPart). b.log) c.in-Ok.ensures.part in
    let log : c.pop.new.self.items ≡ c.self.inside.log.items = grind (arith, common_steps, halted) in
    let err = c.in-Err-halted.ensures.err in
    subst IsGuestBook (λ i. record { log = sym log i; frames = sym err.0 i; ledger = sym err.1 i }) c.self.invariant
