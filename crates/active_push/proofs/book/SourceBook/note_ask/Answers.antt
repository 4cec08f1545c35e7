use Rattle.std.proofs.Common.{◌∙◌, ap, List, ◌++◌, ◌∷◌, [], true, arith}
use Rattle.migration_types.specs.declared.records.SourceRec.{SourceRec}
use Rattle.migration_types.specs.declared.records.SourceRec.TheVariants.{Ask}
use Rattle.active_push.specs.SourcePart.{SourcePart}
use Rattle.active_push.specs.Books.{part_of}
use Rattle.active_push.specs.contracts.book.SourceBook.{the_view}
use Rattle.active_push.proofs.Logs.{with_none, with_one}
use Rattle.active_push.proofs.Keeping.{logged, logged_keeps}
use Rattle.active_push.proofs.Calls.{book_is}
use Rattle.active_push.proofs.book.SourceBook.note_ask.Goals as goal

pub invariant_of-self-2 : goal.invariant_of-self-2
invariant_of-self-2 c =
    let b : SourcePart = part_of (the_view c.self.inside) in
    let log = c.push_reserved.ensures.items ∙ ap (λ (xs : List SourceRec). xs ++ Ask c.args.up ∷ []) c.make_room.ensures.items in
    book_is _ (logged (Ask c.args.up) b.ring true b.is_done b) (λ i. record b { log = log i; was_asked = true })
    c.self.invariant.ledger c.self.invariant.bubbles c.self.invariant.table c.self.invariant.released_are c.self.invariant.unsent_is
    (logged_keeps (Ask c.args.up) b.ring true b.is_done b (λ page contents e. absurd (cc)) (with_one b.was_asked) (with_none b.is_done) (omega (arith, c.in_ok-look_for_room.ensures.room)) c.self.invariant.log)
