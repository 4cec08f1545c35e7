-- Which events have changed something, and offered no page.
use Rattle.std.proofs.Common.{◌≡◌, ◌≢◌, ℕ, ◌+◌, ◌<◌, Bool, true, false, List, [], ◌∷◌, ◌++◌, length, drop, Option, Some, None, is_some, inl, inr, ◌⊎◌, refl, sym, ap, ◌∙◌, subst, arith, length-append}
use Rattle.std.specs.Prelude.{slice_get}
use Rattle.page_stream.specs.declared.Packet.{Packet}
use Rattle.page_stream.specs.declared.Packet.TheVariants.{State as StatePacket, Page as PagePacket, Want as WantPacket, All as AllPacket}
use Rattle.link_book.specs.LinkPart.{LinkPart, with_back, with_front, with_lane, with_up}
use Rattle.link_book.specs.declared.Arrival.{Arrival}
use Rattle.active_push.specs.SourcePart.{SourcePart}
use Rattle.target_side.specs.TargetPart.{TargetPart}
use Rattle.target_side.specs.PagerPart.{PagerPart, Paged, next_fault, deliver}
use Rattle.migration_model.specs.Books.{BooksAfter}
use Rattle.book_events.specs.Parts.{pushing, sending, receiving, placing, HasGained, Gains, IsOffered, IsDone, Tells}
use Rattle.book_events.specs.inner.Offers.{is_page, Carries, HasMore, IsOffer}
use Rattle.book_events.specs.inner.Work.{HasFault, HasDelivery}
use Rattle.book_events.specs.declared.effect.Effect.{Effect}
use Rattle.book_events.specs.declared.effect.Effect.TheVariants.{Nothing, Made, Offered}
use Rattle.book_events.proofs.Branches.{fault_settles, fault_takes, deliver_settles, deliver_brings}

-- ---- lines that have gained no page

abbrev one_if : Bool → ℕ
one_if true = 1
one_if false = 0

abbrev pages_in : List Packet → ℕ
pages_in [] = 0
pages_in (p ∷ ps) = one_if (is_page p) + pages_in ps

pages_behind : (ps : List Packet) (p : Packet) → pages_in (ps ++ p ∷ []) ≡ one_if (is_page p) + pages_in ps
pages_behind [] p = refl
pages_behind (q ∷ ps) p = let e = pages_behind ps p in omega (arith, e)

more : (p : Packet) (old new : List Packet) → HasMore p old new → (pages_in new ≡ one_if (is_page p) + pages_in old) × (length new ≡ length old + 1)
more p old new (inl e) = (ap pages_in e ∙ pages_behind old p, ap length e ∙ length-append old (p ∷ []))
more p old new (inr e) = (ap pages_in e, let l = ap length e in omega (arith, l))

no_gain : (page : ℕ) (old new : List Packet) → pages_in new ≡ pages_in old → HasGained page old new → ⊥
no_gain page old new same gained =
    let e = (more (PagePacket gained.number page gained.contents) old new gained.gained).0 in
    omega (arith, e, same)

none_gained : (page : ℕ) (l m : LinkPart) → pages_in m.down ≡ pages_in l.down → pages_in m.lane ≡ pages_in l.lane → Gains page l m → ⊥
none_gained page l m down lane (inl g) = no_gain page l.down m.down down g
none_gained page l m down lane (inr g) = no_gain page l.lane m.lane lane g

-- ---- a packet that is offered to the target

-- what is told of it, by the lines alone
abbrev OnLines : Effect → LinkPart → LinkPart → Type 0
OnLines Nothing l m = ⊥
OnLines Made l m = (m.down ≢ l.down ⊎ m.lane ≢ l.lane) × ((page : ℕ) → Gains page l m → ⊥)
OnLines (Offered page) l m = Gains page l m

longer : (old new : List Packet) → length new ≡ length old + 1 → new ≢ old
longer old new more same = let e = ap length same in omega (arith, e, more)

on_lines : (effect : Effect) (l m : LinkPart) → IsOffer effect l m → OnLines effect l m
on_lines Nothing l m o = o.carries
on_lines Made l m o = go o.line
  where
    go : (HasMore o.packet l.down m.down × (m.lane ≡ l.lane)) ⊎ ((m.down ≡ l.down) × HasMore o.packet l.lane m.lane) → OnLines Made l m
    go (inl w) =
        let e = more o.packet l.down m.down w.0 in
        let none = ap (λ c. one_if c + pages_in l.down) o.carries in
        (inl (longer l.down m.down e.1), λ page. none_gained page l m (omega (arith, e.0, none)) (ap pages_in w.1))
    go (inr w) =
        let e = more o.packet l.lane m.lane w.1 in
        let none = ap (λ c. one_if c + pages_in l.lane) o.carries in
        (inr (longer l.lane m.lane e.1), λ page. none_gained page l m (ap pages_in w.0) (omega (arith, e.0, none)))
on_lines (Offered page) l m o = go o.line
  where
    gained : (old new : List Packet) → HasMore o.packet old new → HasGained page old new
    gained old new (inl e) = record { number = o.carries.number; contents = o.carries.contents; gained = inl (e ∙ ap (λ p. old ++ p ∷ []) o.carries.packet_is) }
    gained old new (inr e) = record { number = o.carries.number; contents = o.carries.contents; gained = inr (e ∙ ap (λ p. p ∷ old) o.carries.packet_is) }

    go : (HasMore o.packet l.down m.down × (m.lane ≡ l.lane)) ⊎ ((m.down ≡ l.down) × HasMore o.packet l.lane m.lane) → Gains page l m
    go (inl w) = inl (gained l.down m.down w.0)
    go (inr w) = inr (gained l.lane m.lane w.1)

apart : (l m : LinkPart) → m.down ≢ l.down ⊎ m.lane ≢ l.lane → m ≢ l
apart l m (inl d) same = d (ap (λ (x : LinkPart). x.down) same)
apart l m (inr d) same = d (ap (λ (x : LinkPart). x.lane) same)

-- and so of the books
pub push_told : (effect : Effect) (w : ℕ) (h : Bool) (s t : SourcePart) (l k m : LinkPart) → k ≡ l → IsOffer effect k m → Tells effect (pushing w h s l) (pushing w h t m)
push_told effect w h s t l k m is offer = go effect (subst (λ (n : LinkPart). OnLines effect n m) is (on_lines effect k m offer))
  where
    go : (effect : Effect) → OnLines effect l m → Tells effect (pushing w h s l) (pushing w h t m)
    go Nothing on = absurd (on)
    go Made on = record { changed = λ a same. apart l m on.0 (ap (λ (x : BooksAfter). x.link) same); no_page = λ a. on.1 }
    go (Offered page) on = record { offered = λ a. on }

pub send_told : (effect : Effect) (s t : SourcePart) (l k m : LinkPart) → k ≡ l → IsOffer effect k m → Tells effect (sending s l) (sending t m)
send_told effect s t l k m is offer = go effect (subst (λ (n : LinkPart). OnLines effect n m) is (on_lines effect k m offer))
  where
    go : (effect : Effect) → OnLines effect l m → Tells effect (sending s l) (sending t m)
    go Nothing on = absurd (on)
    go Made on = record { changed = λ a same. apart l m on.0 (ap (λ (x : BooksAfter). x.link) same); no_page = λ a. on.1 }
    go (Offered page) on = record { offered = λ a. on }

-- where a packet was taken before that came up
abbrev TookUp : LinkPart → LinkPart → Type 0
TookUp l m = m ≡ record l { up_arrivals = drop 1 l.up_arrivals }

pub serve_told : (effect : Effect) (s t : SourcePart) (l k j m : LinkPart) → k ≡ l → TookUp k j → IsOffer effect j m → Tells effect (sending s l) (sending t m)
serve_told effect s t l k j m is took offer = send_told effect s t l k m is (record {
  packet = offer.packet;
  carries = offer.carries;
  line = subst (λ (n : LinkPart). (HasMore offer.packet n.down m.down × (m.lane ≡ n.lane)) ⊎ ((m.down ≡ n.down) × HasMore offer.packet n.lane m.lane)) took offer.line;
})

-- ---- a packet that is taken

fewer : (xs : List Arrival) (x : Arrival) → Some x ≡ slice_get xs 0 → drop 1 xs ≢ xs
fewer [] x some = absurd (cc)
fewer (y ∷ ys) x some = λ same. let e = ap length same in omega (arith, e)

pub serve_done : (s t : SourcePart) (l k m : LinkPart) (x : Arrival) → k ≡ l → Some x ≡ slice_get k.up_arrivals 0 → TookUp k m → IsDone (sending s l) (sending t m)
serve_done s t l k m x same some is = subst (λ (n : LinkPart). IsDone (sending s n) (sending t m)) same (record {
  changed = λ a still. fewer k.up_arrivals x some (sym (ap (λ (n : LinkPart). n.up_arrivals) is) ∙ ap (λ (b : BooksAfter). b.link.up_arrivals) still);
  no_page = λ a page. none_gained page k m (ap (λ (n : LinkPart). pages_in n.down) is) (ap (λ (n : LinkPart). pages_in n.lane) is);
})

pub pop_done : (l m : LinkPart) (b c : PagerPart) (x : Arrival) → Some x ≡ slice_get l.down_arrivals 0 → m ≡ record l { down_arrivals = drop 1 l.down_arrivals } → IsDone (receiving l b) (receiving m c)
pop_done l m b c x some is = record {
  changed = λ a same. fewer l.down_arrivals x some (sym (ap (λ (n : LinkPart). n.down_arrivals) is) ∙ ap (λ (b : BooksAfter). b.link.down_arrivals) same);
  no_page = λ a page. none_gained page l m (ap (λ (n : LinkPart). pages_in n.down) is) (ap (λ (n : LinkPart). pages_in n.lane) is);
}

pub pull_done : (l m : LinkPart) (b c : PagerPart) (x : Arrival) → Some x ≡ slice_get l.lane_arrivals 0 → m ≡ record l { lane_arrivals = drop 1 l.lane_arrivals } → IsDone (receiving l b) (receiving m c)
pull_done l m b c x some is = record {
  changed = λ a same. fewer l.lane_arrivals x some (sym (ap (λ (n : LinkPart). n.lane_arrivals) is) ∙ ap (λ (b : BooksAfter). b.link.lane_arrivals) same);
  no_page = λ a page. none_gained page l m (ap (λ (n : LinkPart). pages_in n.down) is) (ap (λ (n : LinkPart). pages_in n.lane) is);
}

-- ---- a packet that is offered to the source

pub up_done : (l m : LinkPart) (b c : PagerPart) (p : Packet) → m ≡ with_up p l → IsDone (receiving l b) (receiving m c)
up_done l m b c p is = record {
  changed = λ a same. longer l.up m.up (ap (λ (n : LinkPart). length n.up) is ∙ length-append l.up (p ∷ [])) (ap (λ (b : BooksAfter). b.link.up) same);
  no_page = λ a page. none_gained page l m (ap (λ (n : LinkPart). pages_in n.down) is) (ap (λ (n : LinkPart). pages_in n.lane) is);
}

-- ---- the pager's and the target's books

pages_apart : (b c : PagerPart) (t u : TargetPart) → (c ≡ b → u ≡ t → ⊥) → IsDone (placing b t) (placing c u)
pages_apart b c t u differ = record {
  changed = λ a same. differ (ap (λ (x : BooksAfter). x.pager) same) (ap (λ (x : BooksAfter). x.target) same);
  no_page = λ a page. none_gained page a.link a.link refl refl;
}

none_settled : (t u : TargetPart) → 0 < length t.unsettled → u.unsettled ≡ [] → u ≡ t → ⊥
none_settled t u some none same = let e = ap (λ (x : TargetPart). length x.unsettled) same in let z = ap length none in omega (arith, e, z, some)

pub fault_done : (b c : PagerPart) (t u : TargetPart) → record { pager = c; target = u; woken = [] } ≡ next_fault b t → HasFault b t → IsDone (placing b t) (placing c u)
fault_done b c t u is has = pages_apart b c t u (λ one other. go has other)
  where
    target : u ≡ (next_fault b t).target
    target = ap (λ (r : Paged). r.target) is

    go : HasFault b t → u ≡ t → ⊥
    go (inl some) same = none_settled t u some (ap (λ (x : TargetPart). x.unsettled) target ∙ fault_settles b t) same
    go (inr w) same =
        let e = ap (λ (x : TargetPart). length x.misses) (sym same ∙ target) in
        let f = fault_takes b t w.0 w.1 in
        omega (arith, e, f)

pub deliver_done : (b c : PagerPart) (t u : TargetPart) (woken : List ℕ) → record { pager = c; target = u; woken = woken } ≡ deliver b t → HasDelivery b t → IsDone (placing b t) (placing c u)
deliver_done b c t u woken is has = pages_apart b c t u (λ one other. go has one other)
  where
    pager : c ≡ (deliver b t).pager
    pager = ap (λ (r : Paged). r.pager) is

    target : u ≡ (deliver b t).target
    target = ap (λ (r : Paged). r.target) is

    brings : (runs : Bool) → t.is_resumed ≡ runs → ((runs ≡ false) × ((deliver b t).target.is_resumed ≡ true)) ⊎ (length (deliver b t).pager.inbox < length b.inbox) → c ≡ b → u ≡ t → ⊥
    brings runs at (inl w) one other = let e : true ≡ false = sym w.1 ∙ sym (ap (λ (x : TargetPart). x.is_resumed) target) ∙ ap (λ (x : TargetPart). x.is_resumed) other ∙ at ∙ w.0 in absurd (cc)
    brings runs at (inr less) one other = let e = ap (λ (x : PagerPart). length x.inbox) (sym one ∙ pager) in omega (arith, e, less)

    go : HasDelivery b t → c ≡ b → u ≡ t → ⊥
    go (inl some) one other = none_settled t u some (ap (λ (x : TargetPart). x.unsettled) target ∙ deliver_settles b t) other
    go (inr w) one other = brings t.is_resumed refl (deliver_brings b t w.0 w.1) one other
