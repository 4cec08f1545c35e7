use Rattle.std.proofs.Common.{◌≡◌, ◌∙◌, List, [], ◌∷◌, ◌++◌, sym, ap, subst, arith}
use Rattle.migration_types.specs.declared.records.GuestRec.{GuestRec}
use Rattle.migration_events.specs.Ops.{OpFits}
use Rattle.target_side.specs.GuestPart.{guest_access}
use Rattle.target_side.specs.Guests.{GuestKept, part_of}
use Rattle.target_side.specs.contracts.guest.GuestBook.{the_view}
use Rattle.target_side.proofs.GuestKeeping.{access_part, access_keeps}
use Rattle.target_side.proofs.guest.GuestBook.access.Goals as goal

pub invariant_of-self-2 : goal.invariant_of-self-2
invariant_of-self-2 c =
    let k : GuestKept = the_view c.self.inside in
    let done = c.perform-done in
    let grown = c.push_reserved.ensures.items ∙ ap (λ (xs : List GuestRec). xs ++ done.result.rec ∷ []) c.make_room.ensures.items ∙ ap (λ (r : GuestRec). k.log ++ r ∷ []) done.ensures.rec in
    let fits = subst (λ (o : GuestKept). OpFits o.frames.geometry c.args.op) (sym c.self.view_is) c.requires in
    access_keeps k c.args.v c.args.op done.new.machine c.push_reserved.new.self.items done.ensures.machine grown fits (omega (arith, c.in_ok-make_room.ensures.fits)) c.self.invariant

pub returns-clause-part : goal.returns-clause-part
returns-clause-part c =
    let k : GuestKept = the_view c.self.inside in
    let done = c.perform-done in
    let grown = c.push_reserved.ensures.items ∙ ap (λ (xs : List GuestRec). xs ++ done.result.rec ∷ []) c.make_room.ensures.items ∙ ap (λ (r : GuestRec). k.log ++ r ∷ []) done.ensures.rec in
    let n : GuestKept = the_view (record c.self.inside { log = c.push_reserved.new.self; machine = done.new.machine }) in
    subst (λ (o : GuestKept). part_of n ≡ guest_access c.args.v c.args.op (part_of o)) c.self.view_is
    (access_part k c.args.v c.args.op done.new.machine c.push_reserved.new.self.items done.ensures.machine grown)
