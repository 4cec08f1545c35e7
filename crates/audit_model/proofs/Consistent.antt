-- A consistent cut: with each receipt that was taken, the record that it names was taken.
use Rattle.std.proofs.Common.{◌≡◌, ◌≢◌, ℕ, zero, suc, ◌<◌, ◌≤◌, ◌⊎◌, inl, inr, Bool, true, false, cond, List, [], ◌∷◌, length, Option, Some, None, refl, sym, ap, ◌∙◌, subst, arith}
use Rattle.std.specs.Prelude.{slice_get, is_some}
use Rattle.std.proofs.lemmas.Bool.{cases_lt}
use Rattle.migration_types.specs.declared.records.LogName.{LogName}
use Rattle.migration_types.specs.declared.records.LogName.TheVariants.{Guest, Source, Link, Lane, Pager}
use Rattle.migration_types.specs.declared.records.GuestRec.{GuestRec}
use Rattle.migration_types.specs.declared.records.GuestRec.TheVariants.{Read, Write, Release, Miss, Halt, Resume, See}
use Rattle.migration_types.specs.declared.records.SourceRec.{SourceRec}
use Rattle.migration_types.specs.declared.records.SourceRec.TheVariants.{Halted, State, Send, Again, Ask, Done, Back}
use Rattle.migration_types.specs.declared.records.LinkRec.{LinkRec}
use Rattle.migration_types.specs.declared.records.LinkRec.TheVariants.{Down, Up}
use Rattle.migration_types.specs.declared.records.LaneRec.{LaneRec}
use Rattle.migration_types.specs.declared.records.LaneRec.TheVariants.{Down as LaneDown}
use Rattle.migration_types.specs.declared.records.PagerRec.{PagerRec}
use Rattle.migration_types.specs.declared.records.PagerRec.TheVariants.{Got, Pull, Ready, Fault, Join, Want, Place, Zero, Skip, All}
use Rattle.migration_types.specs.Sessions.{Recorded}
use Rattle.migration_types.specs.Receipts.{Name, guest_receipt, source_receipt, link_receipt, lane_receipt, pager_receipt}
use Rattle.audit_model.specs.Names.{log_length, receipt, same_log, if_there}
use Rattle.audit_model.specs.Mergings.{Cursors, at_start}
use Rattle.audit_model.specs.Flat.{AtSource, home}
use Rattle.audit_model.specs.declared.reasons.ShapeReason.TheVariants.{Named, Start}
use Rattle.audit_model.specs.Shape.{IsRightShape, keeps, passes, source_start, pager_start, source_named, pager_named, is_halt, is_down}
use Rattle.audit_model.proofs.History.{home_past_halt}
use Rattle.audit_model.specs.Walks.{next, MayFollow}
use Rattle.audit_model.specs.Worlds.{IsConsistentCut}
use Rattle.audit_model.proofs.Cuts.{cursor_next, same_from_test}

-- a record that is there
pub there : {A : Type 0} (log : List A) (n m : ℕ) → n < m → m ≤ length log → (r : A) × (slice_get log n ≡ Some r)
there [] n m lt le = absurd (omega arith)
there (x ∷ log) zero m lt le = (x, refl)
there (x ∷ log) (suc n) zero lt le = absurd (omega arith)
there (x ∷ log) (suc n) (suc m) lt le = there log n m (omega arith) (omega arith)

pub start_is_cut : (s : Recorded) → IsConsistentCut s at_start
start_is_cut s = record {
  within = λ l. omega arith;
  sent_taken = λ name sent lt is. absurd (omega arith);
}

cond_rises : (b : Bool) (k : ℕ) → k ≤ cond b (suc k) k
cond_rises true k = omega arith
cond_rises false k = omega arith

pub next_rises : (c : Cursors) (l m : LogName) → c m ≤ next c l m
next_rises c l m = subst (λ k. c m ≤ k) (sym (cursor_next c l m)) (cond_rises (same_log l m) (c m))

-- below the next is below this one, or the one record that was taken
below_next : (c : Cursors) (l : LogName) (name : Name) → name.1 < next c l name.0 → (name.1 < c name.0) ⊎ ((l ≡ name.0) × (name.1 ≡ c name.0))
below_next c l name lt = go (same_log l name.0) refl (subst (λ k. name.1 < k) (cursor_next c l name.0) lt)
  where
    go : (b : Bool) → same_log l name.0 ≡ b → name.1 < cond b (suc (c name.0)) (c name.0) → (name.1 < c name.0) ⊎ ((l ≡ name.0) × (name.1 ≡ c name.0))
    go false e lt = inl lt
    go true e lt = last (cases_lt name.1 (c name.0))
      where
        last : (name.1 < c name.0) ⊎ (c name.0 ≤ name.1) → (name.1 < c name.0) ⊎ ((l ≡ name.0) × (name.1 ≡ c name.0))
        last (inl lt) = inl lt
        last (inr le) = inr (same_from_test l name.0 e, omega arith)

pub next_is_cut : (s : Recorded) (c : Cursors) (taken : Name) → IsConsistentCut s c → MayFollow s c taken → IsConsistentCut s (next c taken.0)
next_is_cut s c taken cut may = record {
  within = λ l. within_at l (same_log taken.0 l) refl;
  sent_taken = λ name sent lt is. omega (arith, next_rises c taken.0 sent.0, sent_at name sent is (below_next c taken.0 name lt));
}
  where
    within_at : (l : LogName) (b : Bool) → same_log taken.0 l ≡ b → next c taken.0 l ≤ log_length s l
    within_at l true e =
        let same = same_from_test taken.0 l e in
        let room : c l < log_length s l = subst (λ m. c m < log_length s m) same (omega (arith, may.is_next, may.is_there)) in
        omega (arith, cursor_next c taken.0 l, ap (λ b. cond b (suc (c l)) (c l)) e)
    within_at l false e = omega (arith, cut.within l, cursor_next c taken.0 l, ap (λ b. cond b (suc (c l)) (c l)) e)

    sent_at : (name sent : Name) → receipt s name ≡ Some sent → (name.1 < c name.0) ⊎ ((taken.0 ≡ name.0) × (name.1 ≡ c name.0)) → sent.1 < c sent.0
    sent_at name sent is (inl lt) = cut.sent_taken name sent lt is
    sent_at name sent is (inr both) =
        let place : taken.1 ≡ name.1 = may.is_next ∙ ap (λ l. c l) both.0 ∙ sym both.1 in
        let same : taken ≡ name = λ i. (both.0 i, place i) in
        may.sent_before sent (ap (λ (n : Name). receipt s n) same ∙ is)

passes_halt : (o : Option GuestRec) → passes is_halt o ≡ true → o ≡ Some Halt
passes_halt None e = absurd (cc)
passes_halt (Some Halt) e = refl
passes_halt (Some (Resume i)) e = absurd (cc)
passes_halt (Some (Read v p c x)) e = absurd (cc)
passes_halt (Some (Write v p c x)) e = absurd (cc)
passes_halt (Some (Release v p)) e = absurd (cc)
passes_halt (Some (Miss v p)) e = absurd (cc)
passes_halt (Some (See k)) e = absurd (cc)

passes_down : (o : Option LinkRec) → passes is_down o ≡ true → (n : ℕ) × (o ≡ Some (Down n))
passes_down None e = absurd (cc)
passes_down (Some (Down n)) e = (n, refl)
passes_down (Some (Up n)) e = absurd (cc)

some_down : (o : Option LaneRec) → is_some o ≡ true → (n : ℕ) × (o ≡ Some (LaneDown n))
some_down None e = absurd (cc)
some_down (Some (LaneDown n)) e = (n, refl)

module _ (s : Recorded) (shape : IsRightShape s) (c : Cursors) (cut : IsConsistentCut s c) where
  -- once a record of the source was taken, the guest has left the source
  pub left_by_source : 0 < c Source → home s (c Guest) ≢ AtSource
  left_by_source lt = let r = there s.source 0 (c Source) lt (cut.within Source) in go r.0 r.1
    where
      starts : (r : SourceRec) → slice_get s.source 0 ≡ Some r → source_start s 0 r ≡ true
      starts r is = sym (ap (λ o. keeps (source_start s 0) o) is) ∙ shape Start (Source, 0)

      go : (r : SourceRec) → slice_get s.source 0 ≡ Some r → home s (c Guest) ≢ AtSource
      go (Halted h) is =
          let named : passes is_halt (slice_get s.guest h) ≡ true = sym (ap (λ o. keeps (source_named s 0) o) is) ∙ shape Named (Source, 0) in
          let below : h < (c Guest) = cut.sent_taken (Source, 0) (Guest, h) lt (ap (λ o. if_there source_receipt o) is) in
          home_past_halt s shape h (c Guest) (passes_halt _ named) below
      go State is = let e = starts State is in absurd (cc)
      go (Send p content) is = let e = starts (Send p content) is in absurd (cc)
      go (Again i) is = let e = starts (Again i) is in absurd (cc)
      go (Ask i) is = let e = starts (Ask i) is in absurd (cc)
      go Done is = let e = starts Done is in absurd (cc)
      go Back is = let e = starts Back is in absurd (cc)

  -- and so once a record of the pager was
  pub left_by_pager : 0 < c Pager → home s (c Guest) ≢ AtSource
  left_by_pager lt = let r = there s.pager 0 (c Pager) lt (cut.within Pager) in go r.0 r.1
    where
      starts : (r : PagerRec) → slice_get s.pager 0 ≡ Some r → pager_start s 0 r ≡ true
      starts r is = sym (ap (λ o. keeps (pager_start s 0) o) is) ∙ shape Start (Pager, 0)

      names : (r : PagerRec) → slice_get s.pager 0 ≡ Some r → pager_named s 0 r ≡ true
      names r is = sym (ap (λ o. keeps (pager_named s 0) o) is) ∙ shape Named (Pager, 0)

      receives : (r : PagerRec) (sent : Name) → slice_get s.pager 0 ≡ Some r → pager_receipt r ≡ Some sent → sent.1 < c sent.0
      receives r sent is of = cut.sent_taken (Pager, 0) sent lt (ap (λ o. if_there pager_receipt o) is ∙ of)

      delivered : (sending : ℕ) → sending < c Source → home s (c Guest) ≢ AtSource
      delivered sending taken = left_by_source (omega (arith, taken))

      go : (r : PagerRec) → slice_get s.pager 0 ≡ Some r → home s (c Guest) ≢ AtSource
      go (Got d) is =
          let down = passes_down (slice_get s.link d) (names (Got d) is) in
          delivered down.0 (cut.sent_taken (Link, d) (Source, down.0) (receives (Got d) (Link, d) is refl) (ap (λ o. if_there link_receipt o) down.1))
      go (Pull d) is =
          let down = some_down (slice_get s.lane d) (names (Pull d) is) in
          delivered down.0 (cut.sent_taken (Lane, d) (Source, down.0) (receives (Pull d) (Lane, d) is refl) (ap (λ o. if_there lane_receipt o) down.1))
      go Ready is = let e = starts Ready is in absurd (cc)
      go (Fault i) is = let e = starts (Fault i) is in absurd (cc)
      go (Join i) is = let e = starts (Join i) is in absurd (cc)
      go (Want p) is = let e = starts (Want p) is in absurd (cc)
      go (Place p i content) is = let e = starts (Place p i content) is in absurd (cc)
      go (Zero p) is = let e = starts (Zero p) is in absurd (cc)
      go (Skip i) is = let e = starts (Skip i) is in absurd (cc)
      go All is = let e = starts All is in absurd (cc)

  -- past `see k` the pager is past record k
  pub seen : (n k : ℕ) → slice_get s.guest n ≡ Some (See k) → n < c Guest → k < c Pager
  seen n k is lt = cut.sent_taken (Guest, n) (Pager, k) lt (ap (λ o. if_there guest_receipt o) is)
