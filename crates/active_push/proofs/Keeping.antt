-- What each record leaves of what the source's book keeps.
use Rattle.std.proofs.Common.{◌≡◌, ℕ, zero, suc, ◌<◌, ◌⊎◌, inl, inr, Bool, true, false, cond, not, ◌&&◌, ◌||◌, List, [], ◌∷◌, ◌++◌, length, Some, None, refl, sym, ap, ◌∙◌, subst, arith}
use Rattle.std.specs.Prelude.{slice_get, is_some, ◌==◌}
use Rattle.std.specs.List.{list_any}
use Rattle.std.proofs.lemmas.Bool.{eqb-true, eq-eqb, and_right}
use Rattle.migration_types.specs.declared.records.SourceRec.{SourceRec}
use Rattle.migration_types.specs.declared.records.SourceRec.TheVariants.{Halted, State, Send}
use Rattle.migration_types.specs.Extents.{Extent}
use Rattle.migration_types.specs.Limits.{most_records}
use Rattle.migration_types.specs.Memory.{Memory, page_of}
use Rattle.migration_types.specs.PageSets.{Pages, without_page}
use Rattle.bubbling.specs.Bubbling.{Ring, rest_of}
use Rattle.active_push.specs.SourcePart.{SourcePart, halted_source, owes, unsent, sends}
use Rattle.active_push.specs.Books.{IsOnlySend, is_ask, is_end, IsSourceLog}
use Rattle.active_push.proofs.Logs.{length_suc, any_push, with_none, get_old, get_new, get_push}

-- a page's contents, as the frames have it
abbrev pub contents_of : SourcePart → ℕ → List ℕ
contents_of b page = page_of b.geometry.cells b.memory page

-- the book with one record more, which is no `send`
abbrev pub logged : SourceRec → Ring → Bool → Bool → SourcePart → SourcePart
logged r ring was_asked is_done b = record b { log = b.log ++ r ∷ []; ring = ring; was_asked = was_asked; is_done = is_done }

-- the book with a `send`
abbrev pub sent_at : ℕ → Ring → Bool → SourcePart → SourcePart
sent_at page ring was_asked b = (sends page (record b { ring = ring; was_asked = was_asked })).book

pub logged_keeps : (r : SourceRec) (ring : Ring) (was_asked is_done : Bool) (b : SourcePart) → ((page : ℕ) (contents : List ℕ) → r ≡ Send page contents → ⊥) → was_asked ≡ (b.was_asked || is_ask r) → is_done ≡ (b.is_done || is_end r) → length b.log < most_records → IsSourceLog b → IsSourceLog (logged r ring was_asked is_done b)
logged_keeps r ring was_asked is_done b other asked done room k = record {
  some = omega (arith, length_suc b.log r, k.some);
  few = omega (arith, length_suc b.log r, room);
  halted = (k.halted.0, get_old b.log (r ∷ []) 0 _ k.halted.1);
  state = get_old b.log (r ∷ []) 1 _ k.state;
  sent = λ page number e. get_old b.log (r ∷ []) number _ (k.sent page number e);
  sends = λ page number contents e. go page number contents (get_push b.log r number (Send page contents) e);
  asked = asked ∙ ap (λ t. t || is_ask r) k.asked ∙ sym (any_push is_ask b.log r);
  done = done ∙ ap (λ t. t || is_end r) k.done ∙ sym (any_push is_end b.log r);
}
  where
    go : (page number : ℕ) (contents : List ℕ) → (slice_get b.log number ≡ Some (Send page contents)) ⊎ ((number ≡ length b.log) × (r ≡ Send page contents)) → IsOnlySend (logged r ring was_asked is_done b) page number contents
    go page number contents (inl e) = let only = k.sends page number contents e in record { owed = only.owed; contents_are = only.contents_are; is_only = only.is_only }
    go page number contents (inr e) = absurd (other page contents e.1)

same_send : (p q : ℕ) (x y : List ℕ) → Send p x ≡ Send q y → (p ≡ q) × (x ≡ y)
same_send p q x y e = ((let e = e in cc), (let e = e in cc))

module _ (page : ℕ) (ring : Ring) (was_asked : Bool) (b : SourcePart) (owed : owes b page ≡ true) (fresh : b.sent page ≡ None) (asked : was_asked ≡ b.was_asked) (room : length b.log < most_records) (k : IsSourceLog b) where
  new : SourceRec
  new = Send page (contents_of b page)

  entry : (p number : ℕ) (t : Bool) → (page == p) ≡ t → cond t (Some (length b.log)) (b.sent p) ≡ Some number → slice_get (b.log ++ Send page (contents_of b page) ∷ []) number ≡ Some (Send p (contents_of b p))
  entry p number true t e =
      let same : page ≡ p = eqb-true page p t in
      let at : length b.log ≡ number = cc in
      subst (λ (n : ℕ). slice_get (b.log ++ Send page (contents_of b page) ∷ []) n ≡ Some (Send p (contents_of b p))) at
      (get_new b.log (Send page (contents_of b page)) ∙ ap (λ (q : ℕ). Some (Send q (contents_of b q))) same)
  entry p number false t e = get_old b.log (Send page (contents_of b page) ∷ []) number _ (k.sent p number e)

  still : (p number : ℕ) (t : Bool) → (page == p) ≡ t → b.sent p ≡ Some number → cond t (Some (length b.log)) (b.sent p) ≡ Some number
  still p number true t e = absurd (let same : page ≡ p = eqb-true page p t in let none : b.sent p ≡ None = ap b.sent (sym same) ∙ fresh in cc)
  still p number false t e = e

  here : (t : Bool) → (page == page) ≡ t → cond t (Some (length b.log)) (b.sent page) ≡ Some (length b.log)
  here true t = refl
  here false t = absurd (let same = eq-eqb page page refl in cc)

  go : (p number : ℕ) (contents : List ℕ) → (slice_get b.log number ≡ Some (Send p contents)) ⊎ ((number ≡ length b.log) × (Send page (contents_of b page) ≡ Send p contents)) → IsOnlySend (sent_at page ring was_asked b) p number contents
  go p number contents (inl e) = let only = k.sends p number contents e in record { owed = only.owed; contents_are = only.contents_are; is_only = still p number (page == p) refl only.is_only }
  go p number contents (inr e) =
      let same = same_send page p (contents_of b page) contents e.1 in
      subst (λ (q : ℕ). IsOnlySend (sent_at page ring was_asked b) q number contents) same.0
      (subst (λ (xs : List ℕ). IsOnlySend (sent_at page ring was_asked b) page number xs) same.1
      (subst (λ (n : ℕ). IsOnlySend (sent_at page ring was_asked b) page n (contents_of b page)) (sym e.0)
      (record { owed = owed; contents_are = refl; is_only = here (page == page) refl })))

  pub sends_keeps : IsSourceLog (sent_at page ring was_asked b)
  sends_keeps = record {
    some = omega (arith, length_suc b.log (Send page (contents_of b page)), k.some);
    few = omega (arith, length_suc b.log (Send page (contents_of b page)), room);
    halted = (k.halted.0, get_old b.log _ 0 _ k.halted.1);
    state = get_old b.log _ 1 _ k.state;
    sent = λ p number e. entry p number (page == p) refl e;
    sends = λ p number contents e. go p number contents (get_push b.log _ number (Send p contents) e);
    asked = asked ∙ k.asked ∙ with_none (list_any is_ask b.log) ∙ sym (any_push is_ask b.log (Send page (contents_of b page)));
    done = k.done ∙ with_none (list_any is_end b.log) ∙ sym (any_push is_end b.log (Send page (contents_of b page)));
  }

  -- the page is no longer to be pushed
  pub sends_unsent : unsent (sent_at page ring was_asked b) ≡ without_page page (unsent b)
  sends_unsent = λ i p. each p (page == p) i
    where
      each : (p : ℕ) (t : Bool) → (owes b p && not (is_some (cond t (Some (length b.log)) (b.sent p)))) ≡ cond t false (unsent b p)
      each p true = and_right _ _ refl
      each p false = refl

-- the book after the halt
pub halted_keeps : (geometry : Extent) (memory : Memory) (ledger : Pages) (most halt : ℕ) → IsSourceLog (halted_source geometry memory ledger most halt)
halted_keeps geometry memory ledger most halt = record {
  some = omega arith;
  few = omega arith;
  halted = (halt, refl);
  state = refl;
  sent = λ page number e. absurd (cc);
  sends = λ page number contents e. none page number contents e;
  asked = refl;
  done = refl;
}
  where
    none : (page number : ℕ) (contents : List ℕ) → slice_get (Halted halt ∷ State ∷ []) number ≡ Some (Send page contents) → IsOnlySend (halted_source geometry memory ledger most halt) page number contents
    none page zero contents e = absurd (cc)
    none page (suc zero) contents e = absurd (cc)
    none page (suc (suc n)) contents e = absurd (cc)

-- and all owed pages are to be pushed
pub halted_unsent : (geometry : Extent) (memory : Memory) (ledger : Pages) (most halt : ℕ) → rest_of geometry.pages ledger ≡ unsent (halted_source geometry memory ledger most halt)
halted_unsent geometry memory ledger most halt = λ i p. each (rest_of geometry.pages ledger p) i
  where
    each : (t : Bool) → t ≡ (t && true)
    each true = refl
    each false = refl
