use Rattle.std.proofs.Common.{refl, ◌∙◌, ap, List, ◌++◌, ◌∷◌, [], true, arith}
use Rattle.migration_types.specs.declared.records.SourceRec.{SourceRec}
use Rattle.migration_types.specs.declared.records.SourceRec.TheVariants.{Ask, Done}
use Rattle.active_push.specs.SourcePart.{SourcePart}
use Rattle.active_push.specs.Books.{part_of}
use Rattle.active_push.specs.contracts.book.SourceBook.{the_view}
use Rattle.active_push.proofs.Logs.{length_suc, with_none, with_one}
use Rattle.active_push.proofs.Keeping.{logged, logged_keeps}
use Rattle.active_push.proofs.Calls.{book_is}
use Rattle.active_push.proofs.book.SourceBook.serve_all.Goals as goal

pub invariant_of-self-2 : goal.invariant_of-self-2
invariant_of-self-2 c =
    let b : SourcePart = part_of (the_view c.self.inside) in
    let up = c.args.up in
    let asked : SourcePart = logged (Ask up) b.ring true b.is_done b in
    let log = c.push_reserved-2.ensures.items ∙ ap (λ (xs : List SourceRec). xs ++ Done ∷ []) (c.push_reserved.ensures.items ∙ ap (λ (xs : List SourceRec). xs ++ Ask up ∷ []) c.make_room.ensures.items) in
    let room = c.in_ok-look_for_room.ensures.room in
    book_is _ (logged Done b.ring true true asked) (λ i. record b { log = log i; was_asked = true; is_done = true })
    c.self.invariant.ledger c.self.invariant.bubbles c.self.invariant.table c.self.invariant.released_are c.self.invariant.unsent_is
    (logged_keeps Done b.ring true true asked (λ page contents e. absurd (cc)) refl (with_one b.is_done) (omega (arith, room, length_suc b.log (Ask up)))
    (logged_keeps (Ask up) b.ring true b.is_done b (λ page contents e. absurd (cc)) (with_one b.was_asked) (with_none b.is_done) (omega (arith, room)) c.self.invariant.log))
