use Rattle.std.proofs.Common.{◌∙◌, List, [], sym, subst, arith}
use Rattle.migration_types.specs.declared.records.GuestRec.{GuestRec}
use Rattle.target_side.specs.Guests.{IsGuestBook}
use Rattle.target_side.proofs.guest.GuestBook.new.Goals as goal

pub invariant_of-result : goal.invariant_of-result
invariant_of-result c =
    let empty : IsGuestBook (record { log = []; frames = c.in_ok-frames.frames; ledger = c.in_ok-ledger.ledger }) = record {
      few = omega arith;
      own = tt;
      ledger = c.in_ok-ledger.ensures.geometry ∙ sym c.in_ok-frames.ensures.geometry;
      init = c.args.init.now;
      memory = c.in_ok-frames.ensures.memory;
      released_are = c.in_ok-ledger.ensures.set;
    } in
    subst (λ (xs : List GuestRec). IsGuestBook (record { log = xs; frames = c.in_ok-frames.frames; ledger = c.in_ok-ledger.ledger })) (sym c.new-2.ensures.items) empty
