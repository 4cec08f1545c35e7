-- What the calls of the source's book leave, and what they offer.
use Rattle.std.proofs.Common.{◌≡◌, ◌≢◌, ℕ, ◌+◌, ◌<◌, ◌≤◌, ◌⊎◌, inl, inr, Bool, true, false, cond, not, List, [], ◌∷◌, ◌++◌, length, take, Option, Some, None, refl, sym, ap, ◌∙◌, subst, arith}
use Rattle.std.specs.Prelude.{count_by, is_some, option_and_then, slice_get, ◌==◌, Contains}
use Rattle.std.specs.List.{range_with_len, list_any}
use Rattle.std.proofs.lemmas.Bool.{and_parts, ltb-true, eqb-true}
use Rattle.migration_types.specs.declared.records.SourceRec.TheVariants.{Send}
use Rattle.migration_types.specs.Limits.{most_records}
use Rattle.migration_types.specs.PageSets.{Pages, no_page, size_below, without_page}
use Rattle.migration_types.specs.Memory.{Memory, page_of}
use Rattle.page_stream.specs.declared.Packet.{Packet}
use Rattle.page_stream.specs.declared.Packet.TheVariants.{Page as PagePacket}
use Rattle.std.proofs.lemmas.List.FromFn.{length-map-range_with_len}
use Rattle.std.specs.Cmp.{IsEquivalence}
use Rattle.std.proofs.lemmas.Cmp.{nat_eq_equiv}
use Rattle.std.proofs.lemmas.List.Recursion.{is_count_by}
use Rattle.std.proofs.lemmas.Map.Views.{Contains-from_any, list_any-from_Contains}
use Rattle.page_store.specs.Tables.{values, pages_of, with_value}
use Rattle.balloon_ledger.specs.Released.{released, pages_below}
use Rattle.bubbling.specs.Edges.{at_page}
use Rattle.bubbling.specs.Bubbling.{Ring, Bubbling, IsNextPushed, in_turn, turned, faulted, unsent as unsent_in}
use Rattle.active_push.specs.SourcePart.{SourcePart, Offer, silent, owes, unsent, nearer, nearest, pushes, sends, source_push, with_pivot}
use Rattle.active_push.specs.Books.{SourceKept, part_of, IsSourceLog, IsSourceBook}
use Rattle.active_push.specs.inner.Sent.{contents_in}
use Rattle.active_push.specs.inner.Wanted.{HasNext}
use Rattle.active_push.proofs.Logs.{length_suc}
use Rattle.active_push.proofs.Keeping.{contents_of, sent_at, sends_keeps, sends_unsent}
use Rattle.active_push.proofs.Nearest.{choice_is}

-- what stands for a part that is kept is kept
pub book_is : (k : SourceKept) (b : SourcePart) → part_of k ≡ b → k.ledger.geometry ≡ k.frames.geometry → k.bubbles.geometry ≡ k.frames.geometry → pages_of k.sent ≡ k.frames.geometry.pages → k.released ≡ pages_below k.frames.geometry.pages (released k.ledger) → unsent_in k.bubbles ≡ unsent b → IsSourceLog b → IsSourceBook k
book_is k b e ledger bubbles table kept set log = record {
  ledger = ledger;
  bubbles = bubbles;
  table = table;
  released_are = kept;
  unsent_is = set ∙ ap unsent (sym e);
  log = subst IsSourceLog (sym e) log;
}

pub owed_there : (b : SourcePart) (page : ℕ) → owes b page ≡ true → page < b.geometry.pages
owed_there b page e = ltb-true page b.geometry.pages (and_parts _ _ e).0

unsent_there : (b : SourcePart) (page : ℕ) → unsent b page ≡ true → page < b.geometry.pages
unsent_there b page e = owed_there b page (and_parts _ _ e).0

-- where no page is of the set, none is chosen, and the other way round
abbrev tally : Pages → List ℕ → ℕ
tally set [] = 0
tally set (p ∷ ps) = cond (set p) (1 + tally set ps) (tally set ps)

tally_is : (set : Pages) (pages : List ℕ) → tally set pages ≡ count_by set pages
tally_is set pages = is_count_by (tally set) set refl (λ p ps. refl) pages

none_chosen : (pivot : ℕ) (set : Pages) (pages : List ℕ) → tally set pages ≡ 0 → nearest pivot set pages ≡ None
none_chosen pivot set [] e = refl
none_chosen pivot set (p ∷ ps) e = go (set p) e (none_chosen pivot set ps)
  where
    go : (t : Bool) → cond t (1 + tally set ps) (tally set ps) ≡ 0 → (tally set ps ≡ 0 → nearest pivot set ps ≡ None) → cond t (Some (nearer pivot p (nearest pivot set ps))) (nearest pivot set ps) ≡ None
    go true e rec = absurd (omega (arith, e))
    go false e rec = rec e

some_chosen : (pivot : ℕ) (set : Pages) (pages : List ℕ) → nearest pivot set pages ≡ None → tally set pages ≡ 0
some_chosen pivot set [] e = refl
some_chosen pivot set (p ∷ ps) e = go (set p) e (some_chosen pivot set ps)
  where
    go : (t : Bool) → cond t (Some (nearer pivot p (nearest pivot set ps))) (nearest pivot set ps) ≡ None → (nearest pivot set ps ≡ None → tally set ps ≡ 0) → cond t (1 + tally set ps) (tally set ps) ≡ 0
    go true e rec = absurd (cc)
    go false e rec = rec e

-- the page that a push chooses
abbrev chosen : SourcePart → Option ℕ
chosen b = nearest (in_turn b.ring) (unsent b) (range_with_len 0 b.geometry.pages)

pub push_done : (b : SourcePart) → b.is_done ≡ true → source_push b ≡ silent b
push_done b done = ap (λ (t : Bool). cond t (silent b) (pushes (chosen b) b)) done

push_by : (b : SourcePart) (o : Option ℕ) → b.is_done ≡ false → chosen b ≡ o → source_push b ≡ pushes o b
push_by b o done e = ap (λ (t : Bool). cond t (silent b) (pushes (chosen b) b)) done ∙ ap (λ (o : Option ℕ). pushes o b) e

-- no page is left, or there is one
pub push_none : (b : SourcePart) → b.is_done ≡ false → size_below b.geometry.pages (unsent b) ≡ 0 → source_push b ≡ silent b
push_none b done e = push_by b None done (none_chosen (in_turn b.ring) (unsent b) (range_with_len 0 b.geometry.pages) (tally_is (unsent b) (range_with_len 0 b.geometry.pages) ∙ e))

pub push_some : (b : SourcePart) → b.is_done ≡ false → size_below b.geometry.pages (unsent b) ≢ 0 → HasNext b
push_some b done e = go (chosen b) refl
  where
    go : (o : Option ℕ) → chosen b ≡ o → HasNext b
    go None is = absurd (e (sym (tally_is (unsent b) (range_with_len 0 b.geometry.pages)) ∙ some_chosen (in_turn b.ring) (unsent b) (range_with_len 0 b.geometry.pages) is))
    go (Some page) is = record { is_not_done = done; page = page; is_next = is }

-- the log is full
pub push_full : (b : SourcePart) → HasNext b → most_records < length b.log + 1 → most_records < length (source_push b).book.log
push_full b h long =
    let e : length (source_push b).book.log ≡ length (b.log ++ Send h.page (page_of b.geometry.cells b.memory h.page) ∷ []) = ap (λ (o : Offer). length o.book.log) (push_by b (Some h.page) h.is_not_done h.is_next) in
    omega (arith, e, length_suc b.log (Send h.page (page_of b.geometry.cells b.memory h.page)), long)

-- the log has room
pub push_fits : (b : SourcePart) → HasNext b → length b.log + 1 ≤ most_records → length (source_push b).book.log ≤ most_records
push_fits b h room =
    let e : length (source_push b).book.log ≡ length (b.log ++ Send h.page (page_of b.geometry.cells b.memory h.page) ∷ []) = ap (λ (o : Offer). length o.book.log) (push_by b (Some h.page) h.is_not_done h.is_next) in
    omega (arith, e, length_suc b.log (Send h.page (page_of b.geometry.cells b.memory h.page)), room)

-- the page that bubbling hands out is the one that is pushed
pub push_is : (b : SourcePart) (set : Pages) (page : ℕ) → set ≡ unsent b → HasNext b → IsNextPushed set (in_turn b.ring) page → source_push b ≡ sends page (record b { ring = turned b.ring })
push_is b set page e h next = push_by b (Some page) h.is_not_done ((choice_is b.geometry.pages (in_turn b.ring) (unsent b) (unsent_there b)).is_the page (subst (λ (s : Pages). IsNextPushed s (in_turn b.ring) page) e next))

-- it hands one out
pub push_not_none : (b : SourcePart) (set : Pages) → set ≡ unsent b → HasNext b → set ≡ no_page → ⊥
push_not_none b set e h none =
    let next = (choice_is b.geometry.pages (in_turn b.ring) (unsent b) (unsent_there b)).is_next h.page h.is_next in
    let is = next.is_unsent in
    let not = ap (λ (s : Pages). s h.page) (sym e ∙ none) in
    absurd (cc)

flipped : IsEquivalence (λ q k. k == q)
flipped = record {
  refl = λ x. nat_eq_equiv.refl x;
  symm = λ x y. nat_eq_equiv.symm y x;
  congr = λ x y z e. ap (λ k. z == k) (sym (eqb-true y x e));
}

-- a page that bubbling takes in is a pivot then
pub pivot_is : (page : ℕ) (old new : Bubbling) → (Contains old.ring.pivots page → new ≡ old) → (¬ (Contains old.ring.pivots page) → new ≡ record old { ring = faulted page old.ring; edges = take old.ring.most (at_page page ∷ old.edges) }) → new ≡ record old { ring = with_pivot page old.ring; edges = new.edges }
pivot_is page old new of_pivot of_other = go (list_any (λ pivot. pivot == page) old.ring.pivots) refl
  where
    go : (t : Bool) → list_any (λ pivot. pivot == page) old.ring.pivots ≡ t → new ≡ record old { ring = cond t old.ring (faulted page old.ring); edges = new.edges }
    go true t =
        let same = of_pivot (Contains-from_any {eq = λ q k. k == q} (λ q k e. sym (eqb-true k q e)) page old.ring.pivots t) in
        same ∙ ap (λ edges. record old { edges = edges }) (ap (λ (b : Bubbling). b.edges) (sym same))
    go false t =
        let grown = of_other (λ has. let e = list_any-from_Contains flipped page old.ring.pivots has in absurd (cc)) in
        grown ∙ ap (λ edges. record old { ring = faulted page old.ring; edges = edges }) (ap (λ (b : Bubbling). b.edges) (sym grown))

pub unsent_parts : (b : SourcePart) (set : Pages) (page : ℕ) → set ≡ unsent b → set page ≡ true → (owes b page ≡ true) × (b.sent page ≡ None)
unsent_parts b set page e is =
    let both = and_parts (owes b page) (not (is_some (b.sent page))) (sym (ap (λ (s : Pages). s page) e) ∙ is) in
    (both.0, go (b.sent page) both.1)
  where
    go : (o : Option ℕ) → not (is_some o) ≡ true → o ≡ None
    go None e = refl
    go (Some n) e = absurd (cc)

-- what stands for a part with a `send` is kept
pub sent_book : (k : SourceKept) (b : SourcePart) (page : ℕ) (ring : Ring) (was_asked : Bool) → part_of k ≡ sent_at page ring was_asked b → k.ledger.geometry ≡ k.frames.geometry → k.bubbles.geometry ≡ k.frames.geometry → pages_of k.sent ≡ k.frames.geometry.pages → k.released ≡ pages_below k.frames.geometry.pages (released k.ledger) → unsent_in k.bubbles ≡ without_page page (unsent b) → owes b page ≡ true → b.sent page ≡ None → was_asked ≡ b.was_asked → length b.log < most_records → IsSourceLog b → IsSourceBook k
sent_book k b page ring was_asked e ledger bubbles table kept set owed fresh asked room log =
    book_is k (sent_at page ring was_asked b) e ledger bubbles table kept (set ∙ sym (sends_unsent page ring was_asked b owed fresh asked room log)) (sends_keeps page ring was_asked b owed fresh asked room log)

-- the part with a `send`
pub sent_part : (k : SourceKept) (b : SourcePart) (page : ℕ) (ring : Ring) (was_asked : Bool) (contents : List ℕ) → part_of k ≡ record b { log = k.log; sent = values k.sent; ring = k.bubbles.ring; was_asked = k.was_asked } → k.log ≡ b.log ++ Send page contents ∷ [] → contents ≡ contents_of b page → values k.sent ≡ with_value page (Some (length b.log)) b.sent → k.bubbles.ring ≡ ring → k.was_asked ≡ was_asked → part_of k ≡ sent_at page ring was_asked b
sent_part k b page ring was_asked contents e log is sent rings asked =
    let whole : k.log ≡ b.log ++ Send page (contents_of b page) ∷ [] = log ∙ ap (λ (xs : List ℕ). b.log ++ Send page xs ∷ []) is in
    e ∙ (λ i. record b { log = whole i; sent = sent i; ring = rings i; was_asked = asked i })

-- and its packet
pub sent_offer : (k : SourceKept) (b : SourcePart) (page : ℕ) (ring : Ring) (was_asked : Bool) (packet : Packet) (number : ℕ) (contents : List ℕ) → part_of k ≡ sent_at page ring was_asked b → packet ≡ PagePacket number page contents → number ≡ length b.log → contents ≡ contents_of b page → ◌≡◌ {A = Offer} (record { book = part_of k; packet = Some packet }) (sends page (record b { ring = ring; was_asked = was_asked }))
sent_offer k b page ring was_asked packet number contents e is at has =
    let whole : packet ≡ PagePacket (length b.log) page (contents_of b page) = is ∙ (λ i. PagePacket (at i) page (has i)) in
    λ i. record { book = e i; packet = Some (whole i) }

-- memory for a page's contents is as long as they are
pub blank_fits : (n cells : ℕ) (memory : Memory) (page : ℕ) (xs ys : List ℕ) → ys ≡ page_of cells memory page → n ≡ cells → (n ≡ 1) ⊎ (length xs ≡ n) → (length ys ≡ 1) ⊎ (length xs ≡ length ys)
blank_fits n cells memory page xs ys is same fits = go (ap length is ∙ length-map-range_with_len (memory page) 0 cells) fits
  where
    go : length ys ≡ cells → (n ≡ 1) ⊎ (length xs ≡ n) → (length ys ≡ 1) ⊎ (length xs ≡ length ys)
    go len (inl one) = inl (omega arith)
    go len (inr long) = inr (omega arith)

-- what a page's `send` carries is what its frames have
pub sent_there : (b : SourcePart) (page sending : ℕ) (found : Option (List ℕ)) → IsSourceLog b → b.sent page ≡ Some sending → found ≡ option_and_then contents_in (slice_get b.log sending) → found ≡ Some (contents_of b page)
sent_there b page sending found k e is = is ∙ ap (option_and_then contents_in) (k.sent page sending e)
