use Rattle.std.proofs.Common.{◌≡◌, ◌∙◌, sym, ap, refl, List, ◌++◌, ◌∷◌, [], length, true, Some, None, subst, arith}
use Rattle.migration_types.specs.declared.records.SourceRec.{SourceRec}
use Rattle.migration_types.specs.declared.records.SourceRec.TheVariants.{Ask, Send}
use Rattle.migration_types.specs.PageSets.{without_page}
use Rattle.page_store.specs.Tables.{values, with_value}
use Rattle.bubbling.specs.Bubbling.{Bubbling, unsent as unsent_in}
use Rattle.active_push.specs.SourcePart.{SourcePart, Offer, with_pivot, asks, owes}
use Rattle.active_push.specs.Books.{SourceKept, part_of}
use Rattle.active_push.specs.inner.Wanted.{wanted_first}
use Rattle.active_push.specs.contracts.book.SourceBook.{the_view}
use Rattle.active_push.proofs.Logs.{length_suc, with_none, with_one}
use Rattle.active_push.proofs.Keeping.{logged_keeps}
use Rattle.active_push.proofs.Calls.{pivot_is, sent_book, sent_part, sent_offer}
use Rattle.active_push.proofs.book.SourceBook.send_wanted.Goals as goal

pub invariant_of-self-2 : goal.invariant_of-self-2
invariant_of-self-2 c =
    let i = c.self.inside in
    let b : SourcePart = part_of (the_view c.self.inside) in
    let up = c.args.up in
    let page = c.args.page in
    let ring = with_pivot page b.ring in
    let asked : SourcePart = asks up b in
    let room = c.in_ok-look_for_room.ensures.room in
    let owed = subst (λ (k : SourceKept). owes (part_of k) page ≡ true) (sym c.self.view_is) c.requires.owed in
    let fresh = subst (λ (k : SourceKept). values k.sent page ≡ None) (sym c.self.view_is) c.requires.unsent in
    let noted = c.push_reserved.ensures.items ∙ ap (λ (xs : List SourceRec). xs ++ Ask up ∷ []) c.make_room.ensures.items in
    let log = c.send.ensures.log ∙ ap (λ (xs : List SourceRec). xs ++ Send page c.in-Ok.contents.record ∷ []) noted in
    let pivot = pivot_is page i.bubbles c.fault_at.new.self c.fault_at.ensures.of_pivot c.fault_at.ensures.of_other in
    let marked = c.mark_sent.ensures.state in
    let sent = c.send.ensures.sent.values_are ∙ ap (λ (xs : List SourceRec). with_value page (Some (length xs)) b.sent) noted in
    let k : SourceKept = the_view (record c.self.inside { log = c.send.new.log; sent = c.send.new.sent; bubbles = c.mark_sent.new.self; was_asked = true }) in
    let e = sent_part k asked page ring true c.in-Ok.contents.record refl log (c.in-Ok.ensures.record ∙ c.page.ensures) sent (marked.ring_is ∙ ap (λ (x : Bubbling). x.ring) pivot) refl in
    sent_book k asked page ring true e c.self.invariant.ledger
    (marked.geometry ∙ ap (λ (x : Bubbling). x.geometry) pivot ∙ c.self.invariant.bubbles)
    (c.send.ensures.sent.pages ∙ c.self.invariant.table)
    c.self.invariant.released_are
    (marked.unsent_is ∙ ap (λ (x : Bubbling). without_page page (unsent_in x)) pivot ∙ ap (without_page page) c.self.invariant.unsent_is)
    owed fresh refl (omega (arith, room, length_suc b.log (Ask up)))
    (logged_keeps (Ask up) b.ring true b.is_done b (λ page contents e. absurd (cc)) (with_one b.was_asked) (with_none b.is_done) (omega (arith, room)) c.self.invariant.log)

pub returns-clause-ok : goal.returns-clause-ok
returns-clause-ok c =
    let i = c.self.inside in
    let b : SourcePart = part_of (the_view c.self.inside) in
    let up = c.args.up in
    let page = c.args.page in
    let ring = with_pivot page b.ring in
    let asked : SourcePart = asks up b in
    let noted = c.push_reserved.ensures.items ∙ ap (λ (xs : List SourceRec). xs ++ Ask up ∷ []) c.make_room.ensures.items in
    let log = c.send.ensures.log ∙ ap (λ (xs : List SourceRec). xs ++ Send page c.in-Ok.contents.record ∷ []) noted in
    let pivot = pivot_is page i.bubbles c.fault_at.new.self c.fault_at.ensures.of_pivot c.fault_at.ensures.of_other in
    let marked = c.mark_sent.ensures.state in
    let sent = c.send.ensures.sent.values_are ∙ ap (λ (xs : List SourceRec). with_value page (Some (length xs)) b.sent) noted in
    let k : SourceKept = the_view (record c.self.inside { log = c.send.new.log; sent = c.send.new.sent; bubbles = c.mark_sent.new.self; was_asked = true }) in
    let e = sent_part k asked page ring true c.in-Ok.contents.record refl log (c.in-Ok.ensures.record ∙ c.page.ensures) sent (marked.ring_is ∙ ap (λ (x : Bubbling). x.ring) pivot) refl in
    subst (λ (o : SourceKept). ◌≡◌ {A = Offer} (record { book = part_of k; packet = Some c.send.result }) (wanted_first up page (part_of o))) c.self.view_is
    (sent_offer k asked page ring true c.send.result _ c.in-Ok.contents.packet e c.send.ensures.packet (ap (λ (xs : List SourceRec). length xs) noted) (c.in-Ok.ensures.packet ∙ c.page.ensures))
