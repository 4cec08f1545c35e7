use Rattle.std.proofs.Common.{◌≡◌, ◌∙◌, sym, ap, refl, List, ◌++◌, ◌∷◌, [], length, Some, subst, arith}
use Rattle.migration_types.specs.declared.records.SourceRec.{SourceRec}
use Rattle.migration_types.specs.declared.records.SourceRec.TheVariants.{Send}
use Rattle.migration_types.specs.Extents.{Extent}
use Rattle.migration_types.specs.PageSets.{without_page}
use Rattle.page_store.specs.Tables.{with_value}
use Rattle.page_store.specs.Frames.{memory_of}
use Rattle.bubbling.specs.Bubbling.{turned, unsent as unsent_in}
use Rattle.active_push.specs.SourcePart.{SourcePart, Offer, source_push}
use Rattle.active_push.specs.Books.{SourceKept, part_of}
use Rattle.active_push.specs.inner.Wanted.{HasNext}
use Rattle.active_push.specs.contracts.book.SourceBook.{the_view}
use Rattle.active_push.proofs.Calls.{sent_book, sent_part, sent_offer, unsent_parts, push_is, push_not_none, blank_fits}
use Rattle.active_push.proofs.book.SourceBook.push.Goals as goal

pub filled-requires : goal.filled-requires
filled-requires c = blank_fits _ c.self.inside.frames.geometry.cells (memory_of c.self.inside.frames) c.in-Some.page _ _ c.page-values.ensures (c.cells-cells.ensures ∙ ap (λ (e : Extent). e.cells) c.geometry.ensures) c.in-Ok.ensures

pub filled-requires-2 : goal.filled-requires-2
filled-requires-2 c = blank_fits _ c.self.inside.frames.geometry.cells (memory_of c.self.inside.frames) c.in-Some.page _ _ c.page-values.ensures (c.cells-cells.ensures ∙ ap (λ (e : Extent). e.cells) c.geometry.ensures) c.in-Ok-blank.ensures

pub returns-in_default-next-clause-ok : goal.returns-in_default-next-clause-ok
returns-in_default-next-clause-ok c =
    let b : SourcePart = part_of (the_view c.self.inside) in
    let h = subst (λ (k : SourceKept). HasNext (part_of k)) (sym c.self.view_is) c.if-has_nothing_to_push.ensures in
    absurd (push_not_none b (unsent_in c.self.inside.bubbles) c.self.invariant.unsent_is h c.in_default-next.ensures.page)

pub invariant_of-self-2 : goal.invariant_of-self-2
invariant_of-self-2 c =
    let i = c.self.inside in
    let b : SourcePart = part_of (the_view c.self.inside) in
    let page = c.in-Some.page in
    let room = c.in_ok-look_for_room.ensures.room in
    let state = c.in-Some.ensures.state in
    let parts = unsent_parts b (unsent_in i.bubbles) page c.self.invariant.unsent_is c.in-Some.ensures.page.is_unsent in
    let log = c.send.ensures.log ∙ ap (λ (xs : List SourceRec). xs ++ Send page c.filled.result ∷ []) c.make_room.ensures.items in
    let sent = c.send.ensures.sent.values_are ∙ ap (λ (xs : List SourceRec). with_value page (Some (length xs)) b.sent) c.make_room.ensures.items in
    let k : SourceKept = the_view (record c.self.inside { log = c.send.new.log; sent = c.send.new.sent; bubbles = c.next.new.self }) in
    let e = sent_part k b page (turned b.ring) b.was_asked c.filled.result refl log (c.filled.ensures ∙ c.page-values.ensures) sent state.ring_is refl in
    sent_book k b page (turned b.ring) b.was_asked e c.self.invariant.ledger
    (state.geometry ∙ c.self.invariant.bubbles)
    (c.send.ensures.sent.pages ∙ c.self.invariant.table)
    c.self.invariant.released_are
    (state.unsent_is ∙ ap (without_page page) c.self.invariant.unsent_is)
    parts.0 parts.1 refl (omega (arith, room)) c.self.invariant.log

pub returns-clause-ok : goal.returns-clause-ok
returns-clause-ok c =
    let i = c.self.inside in
    let b : SourcePart = part_of (the_view c.self.inside) in
    let page = c.in-Some.page in
    let state = c.in-Some.ensures.state in
    let h = subst (λ (k : SourceKept). HasNext (part_of k)) (sym c.self.view_is) c.if-has_nothing_to_push.ensures in
    let log = c.send.ensures.log ∙ ap (λ (xs : List SourceRec). xs ++ Send page c.filled.result ∷ []) c.make_room.ensures.items in
    let sent = c.send.ensures.sent.values_are ∙ ap (λ (xs : List SourceRec). with_value page (Some (length xs)) b.sent) c.make_room.ensures.items in
    let k : SourceKept = the_view (record c.self.inside { log = c.send.new.log; sent = c.send.new.sent; bubbles = c.next.new.self }) in
    let e = sent_part k b page (turned b.ring) b.was_asked c.filled.result refl log (c.filled.ensures ∙ c.page-values.ensures) sent state.ring_is refl in
    let is = push_is b (unsent_in i.bubbles) page c.self.invariant.unsent_is h c.in-Some.ensures.page in
    subst (λ (o : SourceKept). ◌≡◌ {A = Offer} (record { book = part_of k; packet = Some c.send.result }) (source_push (part_of o))) c.self.view_is
    (sent_offer k b page (turned b.ring) b.was_asked c.send.result _ c.filled-2.result e c.send.ensures.packet (ap (λ (xs : List SourceRec). length xs) c.make_room.ensures.items) (c.filled-2.ensures ∙ c.page-values.ensures) ∙ sym is)
