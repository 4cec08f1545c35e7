-- Looks at placements, through a window.
use Rattle.std.proofs.Common.{◌≡◌, ℕ, zero, suc, ◌-◌, ◌<◌, ◌≤◌, ◌||◌, ◌⊎◌, inl, inr, max, Bool, true, false, cond, List, Option, Some, None, refl, sym, ap, ◌∙◌, subst, arith}
use Rattle.std.specs.Prelude.{slice_get}
use Rattle.std.specs.Option.{option_map}
use Rattle.std.proofs.lemmas.Option.{slice_get-map}
use Rattle.std.proofs.lemmas.Bool.{cases_lt, ltb-true, ltb-false}
use Rattle.std.proofs.Math.Nat.{max-eq_left, max-eq_right}
use Rattle.migration_types.specs.declared.records.LogName.TheVariants.{Guest, Pager}
use Rattle.migration_types.specs.declared.records.GuestRec.{GuestRec}
use Rattle.migration_types.specs.declared.records.GuestRec.TheVariants.{Read, Write, Release, Miss, Halt, Resume, See}
use Rattle.migration_types.specs.declared.records.PagerRec.{PagerRec}
use Rattle.migration_types.specs.declared.records.PagerRec.TheVariants.{Got, Pull, Ready, Fault, Join, Want, Place, Zero, Skip, All}
use Rattle.migration_types.specs.Sessions.{Recorded}
use Rattle.audit_model.specs.Flat.{changed}
use Rattle.audit_model.specs.Shape.{passes, is_placement_of, earlier}
use Rattle.audit_model.specs.Faults.{looks_at, has_looked}
use Rattle.audit_model.specs.Windows.{Numbers, IsNumbering, newest, keeps_placement, keeps_pager, reach, keeps_guest, further, furthest, marks, moved_to, new_guest, window}
use Rattle.audit_model.proofs.History.{earlier_true, earlier_witness}
use Rattle.audit_model.proofs.Ranks.{rank_next, fold_kept_at}
use Rattle.audit_model.proofs.WindowCells.{guest_aligned, guest_marked, other_page}
use Rattle.audit_model.proofs.WindowFolds.{same_placed}

-- past the newest that passes one test, none passes a test that says less
newest_same : {A : Type 0} (test wide : A → Bool) (log : List A) → ((x : A) → wide x ≡ false → test x ≡ false) → (n : ℕ) → earlier test log n ≡ earlier test log (newest wide log n)
newest_same test wide log narrow zero = refl
newest_same {A} test wide log narrow (suc n) = go (newest_same test wide log narrow n) (passes wide (slice_get log n)) refl
  where
    no_more : (o : Option A) → passes wide o ≡ false → (v : Bool) → changed (λ x found. test x || found) o v ≡ v
    no_more None e v = refl
    no_more (Some x) e v = ap (λ b. b || v) (narrow x e)

    go : earlier test log n ≡ earlier test log (newest wide log n) → (b : Bool) → passes wide (slice_get log n) ≡ b → earlier test log (suc n) ≡ earlier test log (cond b (suc n) (newest wide log n))
    go rec true e = refl
    go rec false e = no_more (slice_get log n) e (earlier test log n) ∙ rec

-- the newest that passes does
pub newest_at : {A : Type 0} (test : A → Bool) (log : List A) (n j : ℕ) → newest test log n ≡ suc j → passes test (slice_get log j) ≡ true
newest_at test log zero j e = absurd (omega (arith, e))
newest_at test log (suc n) j e = go (newest_at test log n j) (passes test (slice_get log n)) refl e
  where
    go : (newest test log n ≡ suc j → passes test (slice_get log j) ≡ true) → (b : Bool) → passes test (slice_get log n) ≡ b → cond b (suc n) (newest test log n) ≡ suc j → passes test (slice_get log j) ≡ true
    go rec true is e = let same : n ≡ j = omega (arith, e) in subst (λ k. passes test (slice_get log k) ≡ true) same is
    go rec false is e = rec e

-- of two places the later one says what both say
or_later : {A : Type 0} (test : A → Bool) (log : List A) (m n : ℕ) → m ≤ n → (earlier test log m || earlier test log n) ≡ earlier test log n
or_later test log m n le = go (earlier test log m) refl
  where
    go : (b : Bool) → earlier test log m ≡ b → (b || earlier test log n) ≡ earlier test log n
    go false e = refl
    go true e = let r = earlier_witness test log m e in sym (earlier_true test log r.0 n r.1 r.3 r.4 (omega (arith, r.2)))

or_flip : (a b : Bool) → (a || b) ≡ (b || a)
or_flip true true = refl
or_flip true false = refl
or_flip false true = refl
or_flip false false = refl

-- a placement of the window is kept
placement_is_kept : (s : Recorded) (number : Numbers) (x : PagerRec) → keeps_placement number x ≡ true → keeps_pager s number x ≡ true
placement_is_kept s number (Place r got content) e = e
placement_is_kept s number (Zero r) e = e
placement_is_kept s number (Got i) e = absurd (cc)
placement_is_kept s number (Pull i) e = absurd (cc)
placement_is_kept s number Ready e = refl
placement_is_kept s number (Fault i) e = absurd (cc)
placement_is_kept s number (Join i) e = absurd (cc)
placement_is_kept s number (Want r) e = absurd (cc)
placement_is_kept s number (Skip i) e = absurd (cc)
placement_is_kept s number All e = refl

pub placement_mark : (s : Recorded) (number : Numbers) (j : ℕ) → passes (keeps_placement number) (slice_get s.pager j) ≡ true → slice_get (marks s number Pager) j ≡ Some true
placement_mark s number j e = go (slice_get s.pager j) refl e
  where
    go : (o : Option PagerRec) → slice_get s.pager j ≡ o → passes (keeps_placement number) o ≡ true → slice_get (marks s number Pager) j ≡ Some true
    go None is e = absurd (cc)
    go (Some x) is e = slice_get-map (keeps_pager s number) s.pager j ∙ ap (option_map (keeps_pager s number)) is ∙ ap Some (placement_is_kept s number x e)

module _ (number : Numbers) (ours : IsNumbering number) (p q : ℕ) (at : number p ≡ Some q) (s : Recorded) (count : ℕ) where
  narrow : (x : PagerRec) → keeps_placement number x ≡ false → is_placement_of p x ≡ false
  narrow (Place r got content) e = other_page number ours p q at r e
  narrow (Zero r) e = other_page number ours p q at r e
  narrow (Got i) e = refl
  narrow (Pull i) e = refl
  narrow Ready e = refl
  narrow (Fault i) e = refl
  narrow (Join i) e = refl
  narrow (Want r) e = refl
  narrow (Skip i) e = refl
  narrow All e = refl

  abbrev placed : ℕ → Bool
  placed n = earlier (is_placement_of p) s.pager n

  reach_same : (k : ℕ) → placed (suc k) ≡ placed (reach s number k)
  reach_same k = newest_same (is_placement_of p) (keeps_placement number) s.pager narrow (suc k)

  looked : (k r : ℕ) → (placed (suc k) || placed r) ≡ placed (further s number (See k) r)
  looked k r = ap (λ b. b || placed r) (reach_same k) ∙ go (cases_lt r (reach s number k))
    where
      go : (r < reach s number k) ⊎ (reach s number k ≤ r) → (placed (reach s number k) || placed r) ≡ placed (max r (reach s number k))
      go (inl lt) =
          or_flip (placed (reach s number k)) (placed r)
          ∙ or_later (is_placement_of p) s.pager r (reach s number k) (omega (arith, lt))
          ∙ ap placed (sym (max-eq_right {n = r} {m = reach s number k} (omega (arith, lt))))
      go (inr le) = or_later (is_placement_of p) s.pager (reach s number k) r le ∙ ap placed (sym (max-eq_left {n = r} {m = reach s number k} le))

  -- a page was looked at where it was placed as far as looks had reached
  covered : (n : ℕ) → has_looked s p n ≡ placed (furthest s number n)
  covered zero = refl
  covered (suc n) = go (slice_get s.guest n) (covered n)
    where
      go : (o : Option GuestRec) → has_looked s p n ≡ placed (furthest s number n) → changed (λ x found. looks_at s p x || found) o (has_looked s p n) ≡ placed (changed (further s number) o (furthest s number n))
      go None e = e
      go (Some (See k)) e = ap (λ b. placed (suc k) || b) e ∙ looked k (furthest s number n)
      go (Some (Read v c d y)) e = e
      go (Some (Write v c d y)) e = e
      go (Some (Release v c)) e = e
      go (Some (Miss v c)) e = e
      go (Some Halt) e = e
      go (Some (Resume i)) e = e

  -- a look that is kept says of the page what it said
  same_look : (r k : ℕ) → r < reach s number k → looks_at (window number count s) q (new_guest s number (See k)) ≡ placed (suc k)
  same_look r k lt = go (reach s number k) refl lt ∙ sym (reach_same k)
    where
      go : (far : ℕ) → reach s number k ≡ far → r < far → earlier (is_placement_of q) (window number count s).pager (suc (moved_to s number Pager (far - 1))) ≡ placed far
      go zero e l = absurd (omega arith)
      go (suc j) e l =
          let one : suc j - 1 ≡ j = omega arith in
          let mark = placement_mark s number j (newest_at (keeps_placement number) s.pager (suc k) j e) in
          ap (λ i. earlier (is_placement_of q) (window number count s).pager (suc (moved_to s number Pager i))) one
          ∙ ap (earlier (is_placement_of q) (window number count s).pager) (sym (rank_next (marks s number Pager) j mark))
          ∙ same_placed number ours p q at s count (suc j)

  kept_look : (r : ℕ) (x : GuestRec) (v : Bool) → keeps_guest s number r x ≡ true → (looks_at (window number count s) q (new_guest s number x) || v) ≡ (looks_at s p x || v)
  kept_look r (See k) v e = ap (λ b. b || v) (same_look (furthest s number r) k (ltb-true (furthest s number r) (reach s number k) e))
  kept_look r (Read c d y z) v e = refl
  kept_look r (Write c d y z) v e = refl
  kept_look r (Release c d) v e = refl
  kept_look r (Miss c d) v e = refl
  kept_look r Halt v e = refl
  kept_look r (Resume i) v e = refl

  gone_look : (n : ℕ) (x : GuestRec) → keeps_guest s number n x ≡ false → has_looked s p n ≡ (looks_at s p x || has_looked s p n)
  gone_look n (See k) e =
      let le = ltb-false (furthest s number n) (reach s number k) e in
      covered n
      ∙ sym (or_later (is_placement_of p) s.pager (reach s number k) (furthest s number n) le)
      ∙ sym (ap (λ b. b || placed (furthest s number n)) (reach_same k))
      ∙ sym (ap (λ b. placed (suc k) || b) (covered n))
  gone_look n (Read c d y z) e = refl
  gone_look n (Write c d y z) e = refl
  gone_look n (Release c d) e = refl
  gone_look n (Miss c d) e = refl
  gone_look n Halt e = refl
  gone_look n (Resume i) e = refl

  -- whether the page was looked at
  pub same_looked : (n : ℕ) → has_looked (window number count s) q (moved_to s number Guest n) ≡ has_looked s p n
  same_looked n =
      fold_kept_at (new_guest s number) (marks s number Guest) s.guest (λ x found. looks_at s p x || found) (λ x found. looks_at (window number count s) q x || found) false (guest_aligned s number)
      (λ m x is mark. kept_look m x (has_looked s p m) (guest_marked s number m x true is mark))
      (λ m x is mark. gone_look m x (guest_marked s number m x false is mark))
      n
