-- A merging through a window.
use Rattle.std.proofs.Common.{◌≡◌, ℕ, zero, suc, ◌-◌, ◌<◌, ◌≤◌, Bool, true, false, cond, List, [], ◌∷◌, length, map, Option, Some, None, refl, sym, ap, ◌∙◌, subst, arith}
use Rattle.std.specs.Prelude.{slice_get}
use Rattle.std.specs.Option.{option_map}
use Rattle.std.proofs.lemmas.Option.{slice_get-map, slice_get_within}
use Rattle.std.proofs.lemmas.Bool.{ltb-true}
use Rattle.migration_types.specs.declared.records.LogName.{LogName}
use Rattle.migration_types.specs.declared.records.LogName.TheVariants.{Guest, Source, Link, Lane, Pager}
use Rattle.migration_types.specs.declared.records.GuestRec.{GuestRec}
use Rattle.migration_types.specs.declared.records.GuestRec.TheVariants.{Read, Write, Release, Miss, Halt, Resume, See}
use Rattle.migration_types.specs.declared.records.SourceRec.{SourceRec}
use Rattle.migration_types.specs.declared.records.SourceRec.TheVariants.{Halted, State, Send, Again, Ask, Done, Back}
use Rattle.migration_types.specs.declared.records.LinkRec.{LinkRec}
use Rattle.migration_types.specs.declared.records.LinkRec.TheVariants.{Down, Up}
use Rattle.migration_types.specs.declared.records.LaneRec.{LaneRec}
use Rattle.migration_types.specs.declared.records.LaneRec.TheVariants.{Down as LaneDown}
use Rattle.migration_types.specs.declared.records.PagerRec.{PagerRec}
use Rattle.migration_types.specs.declared.records.PagerRec.TheVariants.{Got, Pull, Ready, Fault, Want, All}
use Rattle.migration_types.specs.Sessions.{Recorded}
use Rattle.migration_types.specs.Receipts.{Name, guest_receipt, source_receipt, link_receipt, lane_receipt, pager_receipt}
use Rattle.audit_model.specs.Names.{log_length, receipt, same_log, if_there}
use Rattle.audit_model.specs.Mergings.{Cursors, at_start}
use Rattle.audit_model.specs.Walks.{next, cursors_from, MayFollow, Walks}
use Rattle.audit_model.specs.Shape.{passes, is_or_repeats, is_halt, is_ready, keeps, guest_named, source_named, IsRightShape}
use Rattle.audit_model.specs.declared.reasons.ShapeReason.TheVariants.{Named}
use Rattle.audit_model.specs.Windows.{Numbers, kept_in, rank, tallied, newest, reach, furthest, keeps_sending, keeps_asking, keeps_miss, keeps_placement, keeps_source, keeps_guest, keeps_link, keeps_lane, keeps_pager, marks, moved_to, new_guest, new_source, new_link, new_lane, new_pager, new_name, is_marked, window}
use Rattle.audit_model.specs.WindowLaws.{order_through, MergesThrough}
use Rattle.audit_model.proofs.Ranks.{Aligned, aligned_map, rank_cons, rank_next, rank_less, new_at, mark_of}
use Rattle.audit_model.proofs.WindowCells.{guest_aligned, guest_mark, guest_marked}
use Rattle.audit_model.proofs.WindowLooks.{newest_at, placement_mark}
use Rattle.audit_model.proofs.WindowFaults.{is_there, marked_true}
use Rattle.audit_model.proofs.Cuts.{same_from_test}
use Rattle.audit_model.proofs.Walked.{merging_is_walk, walk_is_merging}

no_rank : (n : ℕ) → rank [] n ≡ 0
no_rank zero = refl
no_rank (suc n) = no_rank n

-- how many are kept
kept_length : {A B : Type 0} (new : A → B) (marks : List Bool) (log : List A) → rank marks (length log) ≡ length (map new (kept_in marks log))
kept_length new [] log = no_rank (length log)
kept_length new (m ∷ marks) [] = refl
kept_length new (true ∷ marks) (x ∷ log) = rank_cons true marks (length log) ∙ ap suc (kept_length new marks log)
kept_length new (false ∷ marks) (x ∷ log) = rank_cons false marks (length log) ∙ kept_length new marks log

newest_below : {A : Type 0} (test : A → Bool) (log : List A) (n : ℕ) → newest test log n ≤ n
newest_below test log zero = omega arith
newest_below test log (suc n) = go (passes test (slice_get log n)) (newest_below test log n)
  where
    go : (b : Bool) → newest test log n ≤ n → cond b (suc n) (newest test log n) ≤ suc n
    go true e = omega arith
    go false e = omega arith

-- a record that passes a test is kept, where all that do are
pub mark_by : {A : Type 0} (test keeps : A → Bool) (log : List A) → ((x : A) → test x ≡ true → keeps x ≡ true) → (j : ℕ) → passes test (slice_get log j) ≡ true → slice_get (map keeps log) j ≡ Some true
mark_by {A} test keeps log h j e = go (slice_get log j) refl e
  where
    go : (o : Option A) → slice_get log j ≡ o → passes test o ≡ true → slice_get (map keeps log) j ≡ Some true
    go None is e = absurd (cc)
    go (Some x) is e = slice_get-map keeps log j ∙ ap (option_map keeps) is ∙ ap Some (h x e)

pub guest_mark_by : (s : Recorded) (number : Numbers) (test : GuestRec → Bool) → ((x : GuestRec) (k : ℕ) → test x ≡ true → keeps_guest s number k x ≡ true) → (j : ℕ) → passes test (slice_get s.guest j) ≡ true → slice_get (marks s number Guest) j ≡ Some true
guest_mark_by s number test h j e = go (slice_get s.guest j) refl e
  where
    go : (o : Option GuestRec) → slice_get s.guest j ≡ o → passes test o ≡ true → slice_get (marks s number Guest) j ≡ Some true
    go None is e = absurd (cc)
    go (Some x) is e = guest_mark s number j x is ∙ ap Some (h x j e)

pub halt_kept : (s : Recorded) (number : Numbers) (x : GuestRec) (k : ℕ) → is_halt x ≡ true → keeps_guest s number k x ≡ true
halt_kept s number Halt k e = refl
halt_kept s number (Read c r d y) k e = absurd (cc)
halt_kept s number (Write c r d y) k e = absurd (cc)
halt_kept s number (Release c r) k e = absurd (cc)
halt_kept s number (Miss c r) k e = absurd (cc)
halt_kept s number (Resume i) k e = refl
halt_kept s number (See i) k e = absurd (cc)

pub miss_kept : (s : Recorded) (number : Numbers) (x : GuestRec) (k : ℕ) → keeps_miss number x ≡ true → keeps_guest s number k x ≡ true
miss_kept s number (Miss c r) k e = e
miss_kept s number Halt k e = refl
miss_kept s number (Resume i) k e = refl
miss_kept s number (Read c r d y) k e = absurd (cc)
miss_kept s number (Write c r d y) k e = absurd (cc)
miss_kept s number (Release c r) k e = absurd (cc)
miss_kept s number (See i) k e = absurd (cc)

pub ready_kept : (s : Recorded) (number : Numbers) (x : PagerRec) → is_ready x ≡ true → keeps_pager s number x ≡ true
ready_kept s number Ready e = refl
ready_kept s number x e = absurd (cc)

pub asking_kept : (s : Recorded) (number : Numbers) (x : PagerRec) → keeps_asking number x ≡ true → keeps_pager s number x ≡ true
asking_kept s number (Want p) e = e
asking_kept s number All e = refl
asking_kept s number Ready e = refl
asking_kept s number x e = absurd (cc)

pub sent_kept : (s : Recorded) (number : Numbers) (x : SourceRec) → keeps_sending number x ≡ true → keeps_source s number x ≡ true
sent_kept s number State e = refl
sent_kept s number (Send p content) e = e
sent_kept s number (Halted i) e = refl
sent_kept s number Done e = refl
sent_kept s number Back e = refl
sent_kept s number x e = absurd (cc)

pub sending_kept : (s : Recorded) (number : Numbers) (x : SourceRec) → is_or_repeats s (keeps_sending number) x ≡ true → keeps_source s number x ≡ true
sending_kept s number (Again i) e = e
sending_kept s number (Send p content) e = e
sending_kept s number State e = refl
sending_kept s number (Halted i) e = refl
sending_kept s number (Ask i) e = absurd (cc)
sending_kept s number Done e = refl
sending_kept s number Back e = refl

module _ (number : Numbers) (s : Recorded) (count : ℕ) (shape : IsRightShape s) where
  -- the cursors of the window
  abbrev ranked : Cursors → Cursors
  ranked c l = moved_to s number l (c l)

  -- what was taken and is kept was taken in the window
  sent_before : (c : Cursors) (l : LogName) (j k : ℕ) → j ≤ k → k < c l → slice_get (marks s number l) j ≡ Some true → (sent : Name) → Some (l, moved_to s number l j) ≡ Some sent → sent.1 < ranked c sent.0
  sent_before c l j k le lt mark sent e =
      let same : (l, moved_to s number l j) ≡ sent = cc in
      subst (λ (m : Name). m.1 < ranked c m.0) same (rank_less (marks s number l) j (c l) mark (omega arith))

  guest_sent : (c : Cursors) (n : ℕ) (x : GuestRec) → slice_get s.guest n ≡ Some x → keeps_guest s number n x ≡ true → ((sent : Name) → guest_receipt x ≡ Some sent → sent.1 < c sent.0) → (sent : Name) → guest_receipt (new_guest s number x) ≡ Some sent → sent.1 < ranked c sent.0
  guest_sent c n (Resume i) is kept bound =
      let named : passes is_ready (slice_get s.pager i) ≡ true = sym (ap (keeps (guest_named s)) is) ∙ shape Named (Guest, n) in
      sent_before c Pager i i (omega arith) (bound (Pager, i) refl) (mark_by is_ready (keeps_pager s number) s.pager (ready_kept s number) i named)
  guest_sent c n (See k) is kept bound = go (reach s number k) refl (ltb-true (furthest s number n) (reach s number k) kept)
    where
      go : (far : ℕ) → reach s number k ≡ far → furthest s number n < far → (sent : Name) → Some (Pager, moved_to s number Pager (far - 1)) ≡ Some sent → sent.1 < ranked c sent.0
      go zero e l = absurd (omega arith)
      go (suc j) e l =
          let one : suc j - 1 ≡ j = omega arith in
          let low = newest_below (keeps_placement number) s.pager (suc k) in
          let mark = placement_mark s number j (newest_at (keeps_placement number) s.pager (suc k) j e) in
          subst (λ i. (sent : Name) → Some (Pager, moved_to s number Pager i) ≡ Some sent → sent.1 < ranked c sent.0) (sym one) (sent_before c Pager j k (omega (arith, low, e)) (bound (Pager, k) refl) mark)
  guest_sent c n x is kept bound = λ sent e. absurd (cc)

  source_sent : (c : Cursors) (n : ℕ) (x : SourceRec) → slice_get s.source n ≡ Some x → keeps_source s number x ≡ true → ((sent : Name) → source_receipt x ≡ Some sent → sent.1 < c sent.0) → (sent : Name) → source_receipt (new_source s number x) ≡ Some sent → sent.1 < ranked c sent.0
  source_sent c n (Halted i) is kept bound =
      let named : passes is_halt (slice_get s.guest i) ≡ true = sym (ap (keeps (source_named s n)) is) ∙ shape Named (Source, n) in
      sent_before c Guest i i (omega arith) (bound (Guest, i) refl) (guest_mark_by s number is_halt (halt_kept s number) i named)
  source_sent c n (Ask i) is kept bound = sent_before c Link i i (omega arith) (bound (Link, i) refl) (mark_by (keeps_link s number) (keeps_link s number) s.link (λ x e. e) i kept)
  source_sent c n x is kept bound = λ sent e. absurd (cc)

  link_sent : (c : Cursors) (x : LinkRec) → keeps_link s number x ≡ true → ((sent : Name) → link_receipt x ≡ Some sent → sent.1 < c sent.0) → (sent : Name) → link_receipt (new_link s number x) ≡ Some sent → sent.1 < ranked c sent.0
  link_sent c (Down i) kept bound = sent_before c Source i i (omega arith) (bound (Source, i) refl) (mark_by (is_or_repeats s (keeps_sending number)) (keeps_source s number) s.source (sending_kept s number) i kept)
  link_sent c (Up i) kept bound = sent_before c Pager i i (omega arith) (bound (Pager, i) refl) (mark_by (keeps_asking number) (keeps_pager s number) s.pager (asking_kept s number) i kept)

  lane_sent : (c : Cursors) (x : LaneRec) → keeps_lane s number x ≡ true → ((sent : Name) → lane_receipt x ≡ Some sent → sent.1 < c sent.0) → (sent : Name) → lane_receipt (new_lane s number x) ≡ Some sent → sent.1 < ranked c sent.0
  lane_sent c (LaneDown i) kept bound = sent_before c Source i i (omega arith) (bound (Source, i) refl) (mark_by (is_or_repeats s (keeps_sending number)) (keeps_source s number) s.source (sending_kept s number) i kept)

  pager_sent : (c : Cursors) (x : PagerRec) → keeps_pager s number x ≡ true → ((sent : Name) → pager_receipt x ≡ Some sent → sent.1 < c sent.0) → (sent : Name) → pager_receipt (new_pager s number x) ≡ Some sent → sent.1 < ranked c sent.0
  pager_sent c (Got i) kept bound = sent_before c Link i i (omega arith) (bound (Link, i) refl) (mark_by (keeps_link s number) (keeps_link s number) s.link (λ x e. e) i kept)
  pager_sent c (Pull i) kept bound = sent_before c Lane i i (omega arith) (bound (Lane, i) refl) (mark_by (keeps_lane s number) (keeps_lane s number) s.lane (λ x e. e) i kept)
  pager_sent c (Fault i) kept bound = sent_before c Guest i i (omega arith) (bound (Guest, i) refl) (guest_mark_by s number (keeps_miss number) (miss_kept s number) i kept)
  pager_sent c x kept bound = λ sent e. absurd (cc)

  -- a record that is kept and has what it is a receipt for
  log_step : {A : Type 0} (l : LogName) (new : A → A) (log : List A) (receipt_of : A → Option Name) (c : Cursors) (n : ℕ) → Aligned (marks s number l) log → slice_get (marks s number l) n ≡ Some true →
      ((sent : Name) → if_there receipt_of (slice_get log n) ≡ Some sent → sent.1 < c sent.0) →
      ((x : A) → slice_get log n ≡ Some x → ((sent : Name) → receipt_of x ≡ Some sent → sent.1 < c sent.0) → (sent : Name) → receipt_of (new x) ≡ Some sent → sent.1 < ranked c sent.0) →
      (moved_to s number l n < length (map new (kept_in (marks s number l) log))) × ((sent : Name) → if_there receipt_of (slice_get (map new (kept_in (marks s number l) log)) (moved_to s number l n)) ≡ Some sent → sent.1 < ranked c sent.0)
  log_step {A} l new log receipt_of c n aligned mark bound h = go (slice_get log n) refl
    where
      go : (o : Option A) → slice_get log n ≡ o → (moved_to s number l n < length (map new (kept_in (marks s number l) log))) × ((sent : Name) → if_there receipt_of (slice_get (map new (kept_in (marks s number l) log)) (moved_to s number l n)) ≡ Some sent → sent.1 < ranked c sent.0)
      go None is = absurd (is_there (marks s number l) log aligned n mark is)
      go (Some x) is =
          let new_is = new_at new (marks s number l) log n x is mark in (
            slice_get_within (map new (kept_in (marks s number l) log)) (moved_to s number l n) (new x) new_is,
            λ sent e. h x is (λ sent f. bound sent (ap (if_there receipt_of) is ∙ f)) sent (sym (ap (if_there receipt_of) new_is) ∙ e),
          )

  named_step : (c : Cursors) (name : Name) → slice_get (marks s number name.0) name.1 ≡ Some true → ((sent : Name) → receipt s name ≡ Some sent → sent.1 < c sent.0) →
      (moved_to s number name.0 name.1 < log_length (window number count s) name.0) × ((sent : Name) → receipt (window number count s) (new_name s number name) ≡ Some sent → sent.1 < ranked c sent.0)
  named_step c (Guest, n) mark bound = log_step Guest (new_guest s number) s.guest guest_receipt c n (guest_aligned s number) mark bound (λ x is. let r = guest_marked s number n x true is mark in guest_sent c n x is r)
  named_step c (Source, n) mark bound = log_step Source (new_source s number) s.source source_receipt c n (aligned_map (keeps_source s number) s.source) mark bound (λ x is. source_sent c n x is (mark_of (keeps_source s number) s.source n x true is mark))
  named_step c (Link, n) mark bound = log_step Link (new_link s number) s.link link_receipt c n (aligned_map (keeps_link s number) s.link) mark bound (λ x is. link_sent c x (mark_of (keeps_link s number) s.link n x true is mark))
  named_step c (Lane, n) mark bound = log_step Lane (new_lane s number) s.lane lane_receipt c n (aligned_map (keeps_lane s number) s.lane) mark bound (λ x is. lane_sent c x (mark_of (keeps_lane s number) s.lane n x true is mark))
  named_step c (Pager, n) mark bound = log_step Pager (new_pager s number) s.pager pager_receipt c n (aligned_map (keeps_pager s number) s.pager) mark bound (λ x is. pager_sent c x (mark_of (keeps_pager s number) s.pager n x true is mark))

  may_follow : (c : Cursors) (name : Name) → MayFollow s c name → slice_get (marks s number name.0) name.1 ≡ Some true → MayFollow (window number count s) (ranked c) (new_name s number name)
  may_follow c name may mark =
      let r = named_step c name mark may.sent_before in
      record { is_next = ap (rank (marks s number name.0)) may.is_next; is_there = r.0; sent_before = r.1 }

  -- the cursors after a record that is kept, and after one that goes
  next_kept : (c : Cursors) (l : LogName) → slice_get (marks s number l) (c l) ≡ Some true → (m : LogName) → next (ranked c) l m ≡ ranked (next c l) m
  next_kept c l mark m = go (same_log l m) refl
    where
      go : (b : Bool) → same_log l m ≡ b → cond b (suc (ranked c m)) (ranked c m) ≡ rank (marks s number m) (cond b (suc (c m)) (c m))
      go false e = refl
      go true e = sym (rank_next (marks s number m) (c m) (subst (λ k. slice_get (marks s number k) (c k) ≡ Some true) (same_from_test l m e) mark))

  next_gone : (c : Cursors) (l : LogName) → is_marked (slice_get (marks s number l) (c l)) ≡ false → (m : LogName) → ranked c m ≡ ranked (next c l) m
  next_gone c l mark m = go (same_log l m) refl
    where
      none : (o : Option Bool) → is_marked o ≡ false → (k : ℕ) → k ≡ tallied o k
      none None e k = refl
      none (Some true) e k = absurd (cc)
      none (Some false) e k = refl

      go : (b : Bool) → same_log l m ≡ b → ranked c m ≡ rank (marks s number m) (cond b (suc (c m)) (c m))
      go false e = refl
      go true e = none (slice_get (marks s number m) (c m)) (subst (λ k. is_marked (slice_get (marks s number k) (c k)) ≡ false) (same_from_test l m e) mark) (ranked c m)

  through : (c : Cursors) (names : List Name) → Walks s c names → Walks (window number count s) (ranked c) (order_through s number names) × (cursors_from (ranked c) (order_through s number names) ≡ ranked (cursors_from c names))
  through c [] walks = (tt, refl)
  through c (name ∷ names) walks = go (through (next c name.0) names walks.1) (is_marked (slice_get (marks s number name.0) name.1)) refl
    where
      go : Walks (window number count s) (ranked (next c name.0)) (order_through s number names) × (cursors_from (ranked (next c name.0)) (order_through s number names) ≡ ranked (cursors_from (next c name.0) names)) →
          (b : Bool) → is_marked (slice_get (marks s number name.0) name.1) ≡ b →
          Walks (window number count s) (ranked c) (cond b (new_name s number name ∷ order_through s number names) (order_through s number names)) × (cursors_from (ranked c) (cond b (new_name s number name ∷ order_through s number names) (order_through s number names)) ≡ ranked (cursors_from (next c name.0) names))
      go rec true e =
          let mark = marked_true (slice_get (marks s number name.0) name.1) e in
          let same : next (ranked c) name.0 ≡ ranked (next c name.0) = λ i m. next_kept c name.0 (subst (λ k. slice_get (marks s number name.0) k ≡ Some true) walks.0.is_next mark) m i in (
            (may_follow c name walks.0 mark, subst (λ (d : Cursors). Walks (window number count s) d (order_through s number names)) (sym same) rec.0),
            subst (λ (d : Cursors). cursors_from d (order_through s number names) ≡ ranked (cursors_from (next c name.0) names)) (sym same) rec.1,
          )
      go rec false e =
          let same : ranked c ≡ ranked (next c name.0) = λ i m. next_gone c name.0 (subst (λ k. is_marked (slice_get (marks s number name.0) k) ≡ false) walks.0.is_next e) m i in (
            subst (λ (d : Cursors). Walks (window number count s) d (order_through s number names)) (sym same) rec.0,
            subst (λ (d : Cursors). cursors_from d (order_through s number names) ≡ ranked (cursors_from (next c name.0) names)) (sym same) rec.1,
          )

  all_kept : (l : LogName) → moved_to s number l (log_length s l) ≡ log_length (window number count s) l
  all_kept Guest = kept_length (new_guest s number) (marks s number Guest) s.guest
  all_kept Source = kept_length (new_source s number) (marks s number Source) s.source
  all_kept Link = kept_length (new_link s number) (marks s number Link) s.link
  all_kept Lane = kept_length (new_lane s number) (marks s number Lane) s.lane
  all_kept Pager = kept_length (new_pager s number) (marks s number Pager) s.pager

  -- a merging of the session is one of the window
  pub merges_through : MergesThrough s number count
  merges_through order merging =
      let whole = merging_is_walk s order merging in
      let t = through at_start order whole.0 in
      walk_is_merging (window number count s) (order_through s number order)
      (t.0, λ l. ap (λ (d : Cursors). d l) t.1 ∙ ap (moved_to s number l) (whole.1 l) ∙ all_kept l)
