use Rattle.std.proofs.Common.{refl, ◌≡◌, ◌∙◌, sym, ap, List, ◌++◌, ◌∷◌, [], length, true, Some, subst, arith}
use Rattle.migration_types.specs.declared.records.SourceRec.{SourceRec}
use Rattle.migration_types.specs.declared.records.SourceRec.TheVariants.{Ask, Again}
use Rattle.page_stream.specs.declared.Packet.TheVariants.{Page as PagePacket}
use Rattle.bubbling.specs.Bubbling.{Bubbling, unsent as unsent_in}
use Rattle.active_push.specs.SourcePart.{SourcePart, Offer, with_pivot}
use Rattle.active_push.specs.Books.{SourceKept, part_of}
use Rattle.active_push.specs.inner.Wanted.{wanted_again}
use Rattle.active_push.specs.contracts.book.SourceBook.{the_view}
use Rattle.active_push.proofs.Logs.{length_suc, with_none, with_one}
use Rattle.active_push.proofs.Keeping.{contents_of, logged, logged_keeps}
use Rattle.active_push.proofs.Calls.{book_is, pivot_is, sent_there}
use Rattle.active_push.proofs.book.SourceBook.send_again.Goals as goal

pub invariant_of-self-2 : goal.invariant_of-self-2
invariant_of-self-2 c =
    let i = c.self.inside in
    let b : SourcePart = part_of (the_view c.self.inside) in
    let up = c.args.up in
    let ring = with_pivot c.args.page b.ring in
    let asked : SourcePart = logged (Ask up) b.ring true b.is_done b in
    let log = c.push_reserved-2.ensures.items ∙ ap (λ (xs : List SourceRec). xs ++ Again c.args.sending ∷ []) (c.push_reserved.ensures.items ∙ ap (λ (xs : List SourceRec). xs ++ Ask up ∷ []) (c.make_room.ensures.items ∙ c.sent_again.ensures.same)) in
    let pivot = pivot_is c.args.page i.bubbles c.fault_at.new.self c.fault_at.ensures.of_pivot c.fault_at.ensures.of_other in
    let room = c.in_ok-look_for_room.ensures.room in
    book_is _ (logged (Again c.args.sending) ring true b.is_done asked) (λ j. record b { log = log j; ring = (pivot j).ring; was_asked = true })
    c.self.invariant.ledger (ap (λ (x : Bubbling). x.geometry) pivot ∙ c.self.invariant.bubbles) c.self.invariant.table c.self.invariant.released_are (ap unsent_in pivot ∙ c.self.invariant.unsent_is)
    (logged_keeps (Again c.args.sending) ring true b.is_done asked (λ page contents e. absurd (cc)) refl (with_none b.is_done) (omega (arith, room, length_suc b.log (Ask up)))
    (logged_keeps (Ask up) b.ring true b.is_done b (λ page contents e. absurd (cc)) (with_one b.was_asked) (with_none b.is_done) (omega (arith, room)) c.self.invariant.log))

pub returns-clause-ok : goal.returns-clause-ok
returns-clause-ok c =
    let i = c.self.inside in
    let b : SourcePart = part_of (the_view c.self.inside) in
    let up = c.args.up in
    let noted = c.push_reserved.ensures.items ∙ ap (λ (xs : List SourceRec). xs ++ Ask up ∷ []) (c.make_room.ensures.items ∙ c.sent_again.ensures.same) in
    let log = c.push_reserved-2.ensures.items ∙ ap (λ (xs : List SourceRec). xs ++ Again c.args.sending ∷ []) noted in
    let pivot = pivot_is c.args.page i.bubbles c.fault_at.new.self c.fault_at.ensures.of_pivot c.fault_at.ensures.of_other in
    let number : c.len-number.result ≡ length (b.log ++ Ask up ∷ []) = c.len-number.ensures ∙ c.push_reserved.new.self.ok.0 ∙ ap (λ (xs : List SourceRec). length xs) noted in
    let h = subst (λ (k : SourceKept). (part_of k).sent c.args.page ≡ Some c.args.sending) (sym c.self.view_is) c.requires.sent in
    let found = sent_there b c.args.page c.args.sending _ c.self.invariant.log h c.in-Ok-Some.ensures.ok in
    let contents : c.in-Ok-Some.contents ≡ contents_of b c.args.page = cc in
    let n : SourceKept = the_view (record c.self.inside { log = c.push_reserved-2.new.self; bubbles = c.fault_at.new.self; was_asked = true }) in
    subst (λ (k : SourceKept). ◌≡◌ {A = Offer} (record { book = part_of n; packet = Some (PagePacket c.len-number.result c.args.page c.in-Ok-Some.contents) }) (wanted_again up c.args.sending c.args.page (part_of k))) c.self.view_is
    (λ j. record { book = record b { log = log j; ring = (pivot j).ring; was_asked = true }; packet = Some (PagePacket (number j) c.args.page (contents j)) })

pub unreachable-requires : goal.unreachable-requires
unreachable-requires c =
    let b : SourcePart = part_of (the_view c.self.inside) in
    let h = subst (λ (k : SourceKept). (part_of k).sent c.args.page ≡ Some c.args.sending) (sym c.self.view_is) c.requires.sent in
    let e = sent_there b c.args.page c.args.sending _ c.self.invariant.log h c.in-Ok-None.ensures.ok in
    let none = c.in-Ok-None.field-0-is in
    absurd (cc)
