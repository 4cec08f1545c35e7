-- The first records of the source and of the pager through a window.
use Rattle.std.proofs.Common.{◌≡◌, ℕ, zero, suc, ◌-◌, ◌<◌, ◌≤◌, Bool, true, List, [], ◌∷◌, length, Some, refl, sym, ap, ◌∙◌, subst, arith, eqb-true, eq-eqb}
use Rattle.std.specs.Prelude.{slice_get, nat_lt}
use Rattle.std.proofs.lemmas.Option.{slice_get_within}
use Rattle.std.proofs.lemmas.List.{length-map}
use Rattle.std.proofs.lemmas.Bool.{ltb-true, lt-ltb}
use Rattle.migration_types.specs.declared.records.LogName.TheVariants.{Guest, Source, Link, Lane, Pager}
use Rattle.migration_types.specs.declared.records.SourceRec.{SourceRec}
use Rattle.migration_types.specs.declared.records.SourceRec.TheVariants.{Halted, State, Send, Again, Ask, Done, Back}
use Rattle.migration_types.specs.declared.records.PagerRec.{PagerRec}
use Rattle.migration_types.specs.declared.records.PagerRec.TheVariants.{Got, Pull, Ready, Fault, Join, Want, Place, Zero, Skip, All}
use Rattle.migration_types.specs.Sessions.{Recorded}
use Rattle.audit_model.specs.declared.reasons.ShapeReason.TheVariants.{Phases, Named, Start, SecondSend, Both}
use Rattle.audit_model.specs.Shape.{delivers, is_state, source_start, pager_start, keeps, is_right, IsRightShape}
use Rattle.audit_model.specs.Windows.{Numbers, IsNumbering, kept_in, rank, keeps_sending, keeps_source, keeps_pager, marks, moved_to, new_source, new_pager, window}
use Rattle.audit_model.specs.WindowLaws.{StartsRight, IsRightWithin}
use Rattle.audit_model.proofs.Consistent.{there}
use Rattle.audit_model.proofs.Ranks.{rank_next, rank_up, new_at, mark_is, aligned_map, kept_length}
use Rattle.audit_model.proofs.WindowShape.{keeps_through, phase_right, guest_named_right, source_named_right, link_named_right, lane_named_right, second_right, both_right}
use Rattle.audit_model.proofs.WindowPlaces.{delivers_through, pager_named_right}

-- where a record stands, one stands at each place before it
lower_there : {A : Type 0} (log : List A) (m n : ℕ) (x : A) → slice_get log n ≡ Some x → m ≤ n → (y : A) × (slice_get log m ≡ Some y)
lower_there [] m n x is le = absurd (cc)
lower_there (y ∷ log) zero n x is le = (y, refl)
lower_there (y ∷ log) (suc m) zero x is le = absurd (omega arith)
lower_there (y ∷ log) (suc m) (suc n) x is le = lower_there log m n x is (omega arith)

-- the first two records are kept, so these have their places still
first_rank : (marks : List Bool) → slice_get marks 0 ≡ Some true → rank marks 1 ≡ 1
first_rank marks mark = rank_next marks 0 mark

second_rank : (marks : List Bool) → slice_get marks 0 ≡ Some true → slice_get marks 1 ≡ Some true → rank marks 2 ≡ 2
second_rank marks zeroth first = rank_next marks 1 first ∙ ap suc (first_rank marks zeroth)

later : (k : ℕ) → 2 ≤ k → (j : ℕ) × (k ≡ suc (suc j))
later k le = (k - 2, omega arith)

module _ (number : Numbers) (s : Recorded) (count : ℕ) (starts : StartsRight s) where
  start_at : (n : ℕ) (x : SourceRec) → slice_get s.source n ≡ Some x → source_start s n x ≡ true
  start_at n x is = sym (ap (keeps (source_start s n)) is) ∙ starts (Source, n)

  zeroth_mark : (n : ℕ) (x : SourceRec) → slice_get s.source n ≡ Some x → slice_get (marks s number Source) 0 ≡ Some true
  zeroth_mark n x is = let r = lower_there s.source 0 n x is (omega arith) in go r.0 r.1 (start_at 0 r.0 r.1)
    where
      go : (y : SourceRec) → slice_get s.source 0 ≡ Some y → source_start s 0 y ≡ true → slice_get (marks s number Source) 0 ≡ Some true
      go (Halted i) at e = mark_is (keeps_source s number) s.source 0 (Halted i) at refl
      go y at e = absurd (cc)

  first_mark : (n : ℕ) (x : SourceRec) → slice_get s.source n ≡ Some x → 1 ≤ n → slice_get (marks s number Source) 1 ≡ Some true
  first_mark n x is le = let r = lower_there s.source 1 n x is le in go r.0 r.1 (start_at 1 r.0 r.1)
    where
      go : (y : SourceRec) → slice_get s.source 1 ≡ Some y → source_start s 1 y ≡ true → slice_get (marks s number Source) 1 ≡ Some true
      go State at e = mark_is (keeps_source s number) s.source 1 State at refl
      go y at e = absurd (cc)

  long : nat_lt 1 (length s.source) ≡ true → nat_lt 1 (length (window number count s).source) ≡ true
  long e =
      let r = there s.source 1 (length s.source) (ltb-true 1 (length s.source) e) (omega arith) in
      let mark = first_mark 1 r.0 r.1 (omega arith) in
      let one = first_rank (marks s number Source) (zeroth_mark 1 r.0 r.1) in
      let there = new_at (new_source s number) (marks s number Source) s.source 1 r.0 r.1 mark in
      lt-ltb 1 _ (subst (λ k. k < length (window number count s).source) one (slice_get_within _ _ _ there))

  -- a `back` that ends the log ends it through the window
  ends : (n : ℕ) → slice_get s.source n ≡ Some Back → length s.source ≡ suc n → length (window number count s).source ≡ suc (moved_to s number Source n)
  ends n is last =
      length-map (kept_in (marks s number Source) s.source) (new_source s number)
      ∙ kept_length (marks s number Source) s.source (aligned_map (keeps_source s number) s.source)
      ∙ ap (rank (marks s number Source)) last
      ∙ rank_next (marks s number Source) n (mark_is (keeps_source s number) s.source n Back is refl)

  source_later : (n : ℕ) (x : SourceRec) → slice_get s.source (suc (suc n)) ≡ Some x → source_start s (suc (suc n)) x ≡ true → (j : ℕ) → moved_to s number Source (suc (suc n)) ≡ suc (suc j) → source_start (window number count s) (suc (suc j)) (new_source s number x) ≡ true
  source_later n (Halted i) is e j at = absurd (cc)
  source_later n State is e j at = absurd (cc)
  source_later n (Send p content) is e j at = refl
  source_later n (Again i) is e j at = refl
  source_later n (Ask i) is e j at = refl
  source_later n Done is e j at = refl
  source_later n Back is e j at = eq-eqb _ _ (ends (suc (suc n)) is (eqb-true (length s.source) (suc (suc (suc n))) e) ∙ ap suc at)

  source_start_at : (n : ℕ) (x : SourceRec) → slice_get s.source n ≡ Some x → source_start s n x ≡ true → source_start (window number count s) (moved_to s number Source n) (new_source s number x) ≡ true
  source_start_at zero (Halted i) is e = long e
  source_start_at zero x is e = absurd (cc)
  source_start_at (suc zero) State is e = ap (λ k. source_start (window number count s) k State) (first_rank (marks s number Source) (zeroth_mark 1 State is))
  source_start_at (suc zero) x is e = absurd (cc)
  source_start_at (suc (suc n)) x is e =
      let two = second_rank (marks s number Source) (zeroth_mark (suc (suc n)) x is) (first_mark (suc (suc n)) x is (omega arith)) in
      let up = rank_up (marks s number Source) 2 (suc (suc n)) (omega arith) in
      let far = later (moved_to s number Source (suc (suc n))) (subst (λ k. k ≤ moved_to s number Source (suc (suc n))) two up) in
      ap (λ k. source_start (window number count s) k (new_source s number x)) far.1 ∙ source_later n x is e far.0 far.1

  pub source_start_right : (n : ℕ) → is_right (window number count s) Start (Source, n) ≡ true
  source_start_right =
      keeps_through (new_source s number) (marks s number Source) s.source (source_start (window number count s))
      (λ n x is mark. source_start_at n x is (start_at n x is))

  pager_start_of : (n : ℕ) (x : PagerRec) → slice_get s.pager n ≡ Some x → pager_start s n x ≡ true
  pager_start_of n x is = sym (ap (keeps (pager_start s n)) is) ∙ starts (Pager, n)

  state_through : delivers s is_state 0 ≡ true → (slice_get (marks s number Pager) 0 ≡ Some true) × (delivers (window number count s) is_state 0 ≡ true)
  state_through e = delivers_through number s count is_state is_state narrow renews 0 e
    where
      narrow : (x : SourceRec) → is_state x ≡ true → keeps_sending number x ≡ true
      narrow State e = refl
      narrow x e = absurd (cc)

      renews : (x : SourceRec) → is_state x ≡ true → is_state (new_source s number x) ≡ true
      renews State e = refl
      renews x e = absurd (cc)

  zeroth_taken : (n : ℕ) (x : PagerRec) → slice_get s.pager n ≡ Some x → slice_get (marks s number Pager) 0 ≡ Some true
  zeroth_taken n x is = let r = lower_there s.pager 0 n x is (omega arith) in go r.0 (pager_start_of 0 r.0 r.1)
    where
      go : (y : PagerRec) → pager_start s 0 y ≡ true → slice_get (marks s number Pager) 0 ≡ Some true
      go (Got i) e = (state_through e).0
      go (Pull i) e = (state_through e).0
      go y e = absurd (cc)

  first_ready : (n : ℕ) (x : PagerRec) → slice_get s.pager n ≡ Some x → 1 ≤ n → slice_get (marks s number Pager) 1 ≡ Some true
  first_ready n x is le = let r = lower_there s.pager 1 n x is le in go r.0 r.1 (pager_start_of 1 r.0 r.1)
    where
      go : (y : PagerRec) → slice_get s.pager 1 ≡ Some y → pager_start s 1 y ≡ true → slice_get (marks s number Pager) 1 ≡ Some true
      go Ready at e = mark_is (keeps_pager s number) s.pager 1 Ready at refl
      go y at e = absurd (cc)

  pager_later : (n : ℕ) (x : PagerRec) → pager_start s (suc (suc n)) x ≡ true → (j : ℕ) → pager_start (window number count s) (suc (suc j)) (new_pager s number x) ≡ true
  pager_later n Ready e j = absurd (cc)
  pager_later n (Got i) e j = refl
  pager_later n (Pull i) e j = refl
  pager_later n (Fault i) e j = refl
  pager_later n (Join i) e j = refl
  pager_later n (Want p) e j = refl
  pager_later n (Place p got content) e j = refl
  pager_later n (Zero p) e j = refl
  pager_later n (Skip i) e j = refl
  pager_later n All e j = refl

  pager_start_at : (n : ℕ) (x : PagerRec) → slice_get s.pager n ≡ Some x → pager_start s n x ≡ true → pager_start (window number count s) (moved_to s number Pager n) (new_pager s number x) ≡ true
  pager_start_at zero (Got i) is e = (state_through e).1
  pager_start_at zero (Pull i) is e = (state_through e).1
  pager_start_at zero x is e = absurd (cc)
  pager_start_at (suc zero) Ready is e = ap (λ k. pager_start (window number count s) k Ready) (first_rank (marks s number Pager) (zeroth_taken 1 Ready is))
  pager_start_at (suc zero) x is e = absurd (cc)
  pager_start_at (suc (suc n)) x is e =
      let two = second_rank (marks s number Pager) (zeroth_taken (suc (suc n)) x is) (first_ready (suc (suc n)) x is (omega arith)) in
      let up = rank_up (marks s number Pager) 2 (suc (suc n)) (omega arith) in
      let far = later (moved_to s number Pager (suc (suc n))) (subst (λ k. k ≤ moved_to s number Pager (suc (suc n))) two up) in
      ap (λ k. pager_start (window number count s) k (new_pager s number x)) far.1 ∙ pager_later n x e far.0

  pub pager_start_right : (n : ℕ) → is_right (window number count s) Start (Pager, n) ≡ true
  pager_start_right =
      keeps_through (new_pager s number) (marks s number Pager) s.pager (pager_start (window number count s))
      (λ n x is mark. pager_start_at n x is (pager_start_of n x is))

-- Only what is in the window has to be right, and how the session starts.
pub right_by_kept : (number : Numbers) → IsNumbering number → (s : Recorded) (count : ℕ) → StartsRight s → IsRightWithin s number → IsRightShape (window number count s)
right_by_kept number ours s count starts right Phases (Guest, n) = phase_right number s count right n
right_by_kept number ours s count starts right Named (Guest, n) = guest_named_right number s count right n
right_by_kept number ours s count starts right Named (Source, n) = source_named_right number s count right n
right_by_kept number ours s count starts right Named (Link, n) = link_named_right number s count right n
right_by_kept number ours s count starts right Named (Lane, n) = lane_named_right number s count right n
right_by_kept number ours s count starts right Named (Pager, n) = pager_named_right number s count right ours n
right_by_kept number ours s count starts right Start (Source, n) = source_start_right number s count starts n
right_by_kept number ours s count starts right Start (Pager, n) = pager_start_right number s count starts n
right_by_kept number ours s count starts right SecondSend (Source, n) = second_right number s count right ours n
right_by_kept number ours s count starts right Both (Source, n) = both_right number s count right n
right_by_kept number ours s count starts right reason name = refl

pub right_through : (number : Numbers) → IsNumbering number → (s : Recorded) (count : ℕ) → IsRightShape s → IsRightShape (window number count s)
right_through number ours s count shape = right_by_kept number ours s count (shape Start) (λ reason name kept. shape reason name)
