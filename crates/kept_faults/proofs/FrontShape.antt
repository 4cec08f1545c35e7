-- The right shape in logs that are cut to a front.
use Rattle.std.proofs.Common.{◌≡◌, ◌≢◌, ℕ, zero, suc, ◌<◌, ◌≤◌, ◌&&◌, ◌||◌, not, Bool, true, false, List, length, take, Option, Some, None, refl, sym, ap, ◌∙◌, arith, eq-eqb, eqb-true}
use Rattle.std.specs.Prelude.{slice_get, nat_lt, is_some}
use Rattle.std.specs.List.{list_any}
use Rattle.std.specs.Option.{option_map}
use Rattle.std.proofs.lemmas.Bool.{lt-ltb, ltb-true}
use Rattle.migration_types.specs.declared.records.LogName.TheVariants.{Guest, Source, Link, Lane, Pager}
use Rattle.migration_types.specs.declared.records.GuestRec.{GuestRec}
use Rattle.migration_types.specs.declared.records.GuestRec.TheVariants.{Resume, See}
use Rattle.migration_types.specs.declared.records.SourceRec.{SourceRec}
use Rattle.migration_types.specs.declared.records.SourceRec.TheVariants.{Halted, Send, Again, Ask, Back}
use Rattle.migration_types.specs.declared.records.LinkRec.{LinkRec}
use Rattle.migration_types.specs.declared.records.LinkRec.TheVariants.{Down, Up}
use Rattle.migration_types.specs.declared.records.LaneRec.{LaneRec}
use Rattle.migration_types.specs.declared.records.LaneRec.TheVariants.{Down as LaneDown}
use Rattle.migration_types.specs.declared.records.PagerRec.{PagerRec}
use Rattle.migration_types.specs.declared.records.PagerRec.TheVariants.{Got, Pull, Fault, Join, Place, Skip}
use Rattle.migration_types.specs.Receipts.{Name}
use Rattle.migration_types.specs.Sessions.{Recorded}
use Rattle.audit_model.specs.declared.reasons.ShapeReason.{ShapeReason}
use Rattle.audit_model.specs.declared.reasons.ShapeReason.TheVariants.{Phases, Named, Start, SecondSend, Both}
use Rattle.audit_model.specs.Names.{if_there}
use Rattle.audit_model.specs.Mergings.{Cursors}
use Rattle.audit_model.specs.Shape.{passes, is_halt, is_resume, is_miss, is_state, is_send_of, is_sending, is_ready, is_taking, is_want, is_placement, is_down, is_up, goes_down, goes_up, down_sending, lane_sending, taken_sending, is_or_repeats, delivers, earlier, in_phase_by, in_phase, guest_named, source_named, link_named, lane_named, pager_named, source_start, pager_start, is_first_send, is_alone, keeps, is_right, IsRightShape}
use Rattle.kept_faults.specs.FrontLaws.{HasState, KeepsShape, IsBack, KeepsShapeFaults}
use Rattle.recorder_files.specs.Fronts.{IsFront, cut_to}
use Rattle.kept_faults.proofs.Taken.{taken_at, taken_is, before_taken, none_taken}
use Rattle.kept_faults.proofs.Named.{guest_there, source_there, link_there, lane_there, pager_there, cut_length}

-- a test that holds of a log's record holds of it in the front, if it has the same test there or a weaker one
keeps_taken : {A : Type 0} (test test' : A → Bool) (k : ℕ) (log : List A) (n : ℕ) → ((x : A) → n < k → slice_get log n ≡ Some x → test x ≡ true → test' x ≡ true) → keeps test (slice_get log n) ≡ true → keeps test' (slice_get (take k log) n) ≡ true
keeps_taken {A} test test' k log n weaker e = go (slice_get (take k log) n) refl
  where
    go : (o : Option A) → slice_get (take k log) n ≡ o → keeps test' o ≡ true
    go None is = refl
    go (Some x) is = let r = taken_is k log n x is in weaker x r.0 r.1 (sym (ap (keeps test) r.1) ∙ e)

same_taken : {A : Type 0} (test test' : A → Bool) (k : ℕ) (log : List A) (n : ℕ) → n < k → ((x : A) → slice_get log n ≡ Some x → test' x ≡ test x) → keeps test' (slice_get (take k log) n) ≡ keeps test (slice_get log n)
same_taken {A} test test' k log n lt same = ap (keeps test') (taken_at k log n lt) ∙ go (slice_get log n) refl
  where
    go : (o : Option A) → slice_get log n ≡ o → keeps test' o ≡ keeps test o
    go None is = refl
    go (Some x) is = same x is

module _ (s : Recorded) (c : Cursors) (front : IsFront s c) where
  -- ---- what records name

  repeats_same : (test : SourceRec → Bool) (n : ℕ) (x : SourceRec) → n < c Source → slice_get s.source n ≡ Some x → is_or_repeats (cut_to c s) test x ≡ is_or_repeats s test x
  repeats_same test n (Again i) lt is = let there = source_there s c front n (Again i) lt is in ap (passes test) (taken_at (c Source) s.source i there.0)
  repeats_same test n x lt is = refl

  -- a record of the front that is sent, or one that does not exist
  sent_same : (test : SourceRec → Bool) (k : ℕ) → k < c Source → passes (is_or_repeats (cut_to c s) test) (slice_get (cut_to c s).source k) ≡ passes (is_or_repeats s test) (slice_get s.source k)
  sent_same test k lt = ap (passes (is_or_repeats (cut_to c s) test)) (taken_at (c Source) s.source k lt) ∙ go (slice_get s.source k) refl
    where
      go : (o : Option SourceRec) → slice_get s.source k ≡ o → passes (is_or_repeats (cut_to c s) test) o ≡ passes (is_or_repeats s test) o
      go None is = refl
      go (Some x) is = repeats_same test k x lt is

  abbrev delivered : Recorded → (SourceRec → Bool) → Option ℕ → Bool
  delivered t test o = passes (λ sending. passes (is_or_repeats t test) (slice_get t.source sending)) o

  link_same : (test : SourceRec → Bool) (k : ℕ) → k < c Link → delivered (cut_to c s) test (if_there down_sending (slice_get (cut_to c s).link k)) ≡ delivered s test (if_there down_sending (slice_get s.link k))
  link_same test k lt = ap (λ o. delivered (cut_to c s) test (if_there down_sending o)) (taken_at (c Link) s.link k lt) ∙ go (slice_get s.link k) refl
    where
      go : (o : Option LinkRec) → slice_get s.link k ≡ o → delivered (cut_to c s) test (if_there down_sending o) ≡ delivered s test (if_there down_sending o)
      go None is = refl
      go (Some (Down i)) is = let there = link_there s c front k (Down i) lt is in sent_same test i there.0
      go (Some (Up i)) is = refl

  lane_same : (test : SourceRec → Bool) (k : ℕ) → k < c Lane → delivered (cut_to c s) test (option_map lane_sending (slice_get (cut_to c s).lane k)) ≡ delivered s test (option_map lane_sending (slice_get s.lane k))
  lane_same test k lt = ap (λ o. delivered (cut_to c s) test (option_map lane_sending o)) (taken_at (c Lane) s.lane k lt) ∙ go (slice_get s.lane k) refl
    where
      go : (o : Option LaneRec) → slice_get s.lane k ≡ o → delivered (cut_to c s) test (option_map lane_sending o) ≡ delivered s test (option_map lane_sending o)
      go None is = refl
      go (Some (LaneDown i)) is = let there = lane_there s c front k (LaneDown i) lt is in sent_same test i there.0

  delivers_same : (test : SourceRec → Bool) (got : ℕ) → got < c Pager → delivers (cut_to c s) test got ≡ delivers s test got
  delivers_same test got lt = ap (λ o. delivered (cut_to c s) test (if_there (taken_sending (cut_to c s)) o)) (taken_at (c Pager) s.pager got lt) ∙ go (slice_get s.pager got) refl
    where
      go : (o : Option PagerRec) → slice_get s.pager got ≡ o → delivered (cut_to c s) test (if_there (taken_sending (cut_to c s)) o) ≡ delivered s test (if_there (taken_sending s) o)
      go None is = refl
      go (Some (Got i)) is = let there = pager_there s c front got (Got i) lt is in link_same test i there.0
      go (Some (Pull i)) is = let there = pager_there s c front got (Pull i) lt is in lane_same test i there.0
      go (Some x) is = refl

  guest_named_same : (n : ℕ) (x : GuestRec) → n < c Guest → slice_get s.guest n ≡ Some x → guest_named (cut_to c s) x ≡ guest_named s x
  guest_named_same n (Resume i) lt is = let there = guest_there s c front n (Resume i) lt is in ap (passes is_ready) (taken_at (c Pager) s.pager i there.0)
  guest_named_same n (See i) lt is = let there = guest_there s c front n (See i) lt is in ap (passes is_placement) (taken_at (c Pager) s.pager i there.0)
  guest_named_same n x lt is = refl

  source_named_same : (n : ℕ) (x : SourceRec) → n < c Source → slice_get s.source n ≡ Some x → source_named (cut_to c s) n x ≡ source_named s n x
  source_named_same n (Halted i) lt is = let there = source_there s c front n (Halted i) lt is in ap (passes is_halt) (taken_at (c Guest) s.guest i there.0)
  source_named_same n (Ask i) lt is = let there = source_there s c front n (Ask i) lt is in ap (passes is_up) (taken_at (c Link) s.link i there.0)
  source_named_same n (Again i) lt is = let there = source_there s c front n (Again i) lt is in ap (λ o. nat_lt i n && passes is_sending o) (taken_at (c Source) s.source i there.0)
  source_named_same n x lt is = refl

  link_named_same : (n : ℕ) (x : LinkRec) → n < c Link → slice_get s.link n ≡ Some x → link_named (cut_to c s) x ≡ link_named s x
  link_named_same n (Down i) lt is = let there = link_there s c front n (Down i) lt is in ap (passes goes_down) (taken_at (c Source) s.source i there.0)
  link_named_same n (Up i) lt is = let there = link_there s c front n (Up i) lt is in ap (passes goes_up) (taken_at (c Pager) s.pager i there.0)

  lane_named_same : (n : ℕ) (x : LaneRec) → n < c Lane → slice_get s.lane n ≡ Some x → lane_named (cut_to c s) x ≡ lane_named s x
  lane_named_same n (LaneDown i) lt is = let there = lane_there s c front n (LaneDown i) lt is in ap (passes goes_down) (taken_at (c Source) s.source i there.0)

  pager_named_same : (n : ℕ) (x : PagerRec) → n < c Pager → slice_get s.pager n ≡ Some x → pager_named (cut_to c s) n x ≡ pager_named s n x
  pager_named_same n (Got i) lt is = let there = pager_there s c front n (Got i) lt is in ap (passes is_down) (taken_at (c Link) s.link i there.0)
  pager_named_same n (Pull i) lt is = let there = pager_there s c front n (Pull i) lt is in ap (λ (o : Option LaneRec). is_some o) (taken_at (c Lane) s.lane i there.0)
  pager_named_same n (Fault i) lt is = let there = pager_there s c front n (Fault i) lt is in ap (passes is_miss) (taken_at (c Guest) s.guest i there.0)
  pager_named_same n (Join i) lt is = let there = pager_there s c front n (Join i) lt is in ap (λ o. nat_lt i n && passes is_want o) (taken_at (c Pager) s.pager i there.0)
  pager_named_same n (Skip i) lt is = let there = pager_there s c front n (Skip i) lt is in ap (λ o. nat_lt i n && passes is_taking o) (taken_at (c Pager) s.pager i there.0)
  pager_named_same n (Place p got content) lt is = let there = pager_there s c front n (Place p got content) lt is in ap (λ b. nat_lt got n && b) (delivers_same (is_send_of p) got there.1.0)
  pager_named_same n x lt is = refl

  -- ---- how logs begin and end

  source_length : length (cut_to c s).source ≡ c Source
  source_length = cut_length s c front Source

  two_there : (k : ℕ) → 0 < k → k ≢ 1 → nat_lt 1 k ≡ true
  two_there zero some more = absurd (omega arith)
  two_there (suc zero) some more = absurd (more refl)
  two_there (suc (suc k)) some more = lt-ltb 1 (suc (suc k)) (omega arith)

  source_start_kept : (n : ℕ) (x : SourceRec) → n < c Source → (n ≡ 0 → HasState c) → source_start s n x ≡ true → source_start (cut_to c s) n x ≡ true
  source_start_kept zero (Halted i) lt state e = ap (nat_lt 1) source_length ∙ two_there (c Source) lt (state refl)
  source_start_kept zero x lt state e = e
  source_start_kept (suc zero) x lt state e = e
  source_start_kept (suc (suc n)) Back lt state e =
      let all = eqb-true (length s.source) (suc (suc (suc n))) e in
      let most : c Source ≤ length s.source = front.within Source in
      eq-eqb (length (cut_to c s).source) (suc (suc (suc n))) (omega (arith, source_length, all, most, lt))
  source_start_kept (suc (suc n)) x lt state e = e

  pager_start_same : (n : ℕ) (x : PagerRec) → n < c Pager → pager_start (cut_to c s) n x ≡ pager_start s n x
  pager_start_same zero (Got i) lt = delivers_same is_state 0 lt
  pager_start_same zero (Pull i) lt = delivers_same is_state 0 lt
  pager_start_same zero x lt = refl
  pager_start_same (suc zero) x lt = refl
  pager_start_same (suc (suc n)) x lt = refl

  phase_same : (n : ℕ) (x : GuestRec) → n < c Guest → in_phase (cut_to c s) n x ≡ in_phase s n x
  phase_same n x lt =
      ap (λ b. in_phase_by s.version b (earlier is_resume (cut_to c s).guest n) x) (before_taken (λ x found. is_halt x || found) false (c Guest) s.guest n (omega arith))
      ∙ ap (λ b. in_phase_by s.version (earlier is_halt s.guest n) b x) (before_taken (λ x found. is_resume x || found) false (c Guest) s.guest n (omega arith))

  first_send_same : (n : ℕ) (x : SourceRec) → n < c Source → is_first_send (cut_to c s) n x ≡ is_first_send s n x
  first_send_same n (Send p content) lt = ap not (before_taken (λ x found. is_send_of p x || found) false (c Source) s.source n (omega arith))
  first_send_same n x lt = refl

  alone_kept : (x : SourceRec) → is_alone s x ≡ true → is_alone (cut_to c s) x ≡ true
  alone_kept Back e = ap not (none_taken is_resume (c Guest) s.guest (off (list_any is_resume s.guest) e))
    where
      off : (b : Bool) → not b ≡ true → b ≡ false
      off true e = absurd (cc)
      off false e = refl
  alone_kept x e = e

  -- ---- by records

  keeps_at : (reason : ShapeReason) (name : Name) → (name ≡ (Source, 0) → HasState c) → is_right s reason name ≡ true → is_right (cut_to c s) reason name ≡ true
  keeps_at Phases (Guest, n) state e = keeps_taken (in_phase s n) (in_phase (cut_to c s) n) (c Guest) s.guest n (λ x lt is h. phase_same n x lt ∙ h) e
  keeps_at Named (Guest, n) state e = keeps_taken (guest_named s) (guest_named (cut_to c s)) (c Guest) s.guest n (λ x lt is h. guest_named_same n x lt is ∙ h) e
  keeps_at Named (Source, n) state e = keeps_taken (source_named s n) (source_named (cut_to c s) n) (c Source) s.source n (λ x lt is h. source_named_same n x lt is ∙ h) e
  keeps_at Named (Link, n) state e = keeps_taken (link_named s) (link_named (cut_to c s)) (c Link) s.link n (λ x lt is h. link_named_same n x lt is ∙ h) e
  keeps_at Named (Lane, n) state e = keeps_taken (lane_named s) (lane_named (cut_to c s)) (c Lane) s.lane n (λ x lt is h. lane_named_same n x lt is ∙ h) e
  keeps_at Named (Pager, n) state e = keeps_taken (pager_named s n) (pager_named (cut_to c s) n) (c Pager) s.pager n (λ x lt is h. pager_named_same n x lt is ∙ h) e
  keeps_at Start (Source, n) state e = keeps_taken (source_start s n) (source_start (cut_to c s) n) (c Source) s.source n (λ x lt is h. source_start_kept n x lt (λ z. state (ap (λ k. (Source, k)) z)) h) e
  keeps_at Start (Pager, n) state e = keeps_taken (pager_start s n) (pager_start (cut_to c s) n) (c Pager) s.pager n (λ x lt is h. pager_start_same n x lt ∙ h) e
  keeps_at SecondSend (Source, n) state e = keeps_taken (is_first_send s n) (is_first_send (cut_to c s) n) (c Source) s.source n (λ x lt is h. first_send_same n x lt ∙ h) e
  keeps_at Both (Source, n) state e = keeps_taken (is_alone s) (is_alone (cut_to c s)) (c Source) s.source n (λ x lt is h. alone_kept x h) e
  keeps_at reason (Guest, n) state e = e
  keeps_at reason (Source, n) state e = e
  keeps_at reason (Link, n) state e = e
  keeps_at reason (Lane, n) state e = e
  keeps_at reason (Pager, n) state e = e

  pub keeps_shape : KeepsShape s c
  keeps_shape reason name state e = keeps_at reason name state e

  pub still_right : HasState c → IsRightShape s → IsRightShape (cut_to c s)
  still_right state shape reason name = keeps_at reason name (λ e. state) (shape reason name)

  -- ---- faults that stay

  back_kept : (n : ℕ) (x : SourceRec) → slice_get s.source n ≡ Some x → (IsBack s (Source, n) → ⊥) → is_alone (cut_to c s) x ≡ is_alone s x
  back_kept n Back is other = absurd (other (refl, is))
  back_kept n x is other = refl

  source_start_same : (n : ℕ) (x : SourceRec) → n < c Source → slice_get s.source n ≡ Some x → (n ≡ 0 → HasState c) → (IsBack s (Source, n) → ⊥) → source_start (cut_to c s) n x ≡ source_start s n x
  source_start_same zero (Halted i) lt is state other =
      let most : c Source ≤ length s.source = front.within Source in
      let more = ltb-true 1 (c Source) (two_there (c Source) lt (state refl)) in
      ap (nat_lt 1) source_length ∙ two_there (c Source) lt (state refl) ∙ sym (lt-ltb 1 (length s.source) (omega (arith, most, more)))
  source_start_same zero x lt is state other = refl
  source_start_same (suc zero) x lt is state other = refl
  source_start_same (suc (suc n)) Back lt is state other = absurd (other (refl, is))
  source_start_same (suc (suc n)) x lt is state other = refl

  pub keeps_shape_faults : KeepsShapeFaults s c
  keeps_shape_faults Phases (Guest, n) lt state other = same_taken (in_phase s n) (in_phase (cut_to c s) n) (c Guest) s.guest n lt (λ x is. phase_same n x lt)
  keeps_shape_faults Named (Guest, n) lt state other = same_taken (guest_named s) (guest_named (cut_to c s)) (c Guest) s.guest n lt (λ x is. guest_named_same n x lt is)
  keeps_shape_faults Named (Source, n) lt state other = same_taken (source_named s n) (source_named (cut_to c s) n) (c Source) s.source n lt (λ x is. source_named_same n x lt is)
  keeps_shape_faults Named (Link, n) lt state other = same_taken (link_named s) (link_named (cut_to c s)) (c Link) s.link n lt (λ x is. link_named_same n x lt is)
  keeps_shape_faults Named (Lane, n) lt state other = same_taken (lane_named s) (lane_named (cut_to c s)) (c Lane) s.lane n lt (λ x is. lane_named_same n x lt is)
  keeps_shape_faults Named (Pager, n) lt state other = same_taken (pager_named s n) (pager_named (cut_to c s) n) (c Pager) s.pager n lt (λ x is. pager_named_same n x lt is)
  keeps_shape_faults Start (Source, n) lt state other = same_taken (source_start s n) (source_start (cut_to c s) n) (c Source) s.source n lt (λ x is. source_start_same n x lt is (λ z. state (ap (λ k. (Source, k)) z)) other)
  keeps_shape_faults Start (Pager, n) lt state other = same_taken (pager_start s n) (pager_start (cut_to c s) n) (c Pager) s.pager n lt (λ x is. pager_start_same n x lt)
  keeps_shape_faults SecondSend (Source, n) lt state other = same_taken (is_first_send s n) (is_first_send (cut_to c s) n) (c Source) s.source n lt (λ x is. first_send_same n x lt)
  keeps_shape_faults Both (Source, n) lt state other = same_taken (is_alone s) (is_alone (cut_to c s)) (c Source) s.source n lt (λ x is. back_kept n x is other)
  keeps_shape_faults reason (Guest, n) lt state other = refl
  keeps_shape_faults reason (Source, n) lt state other = refl
  keeps_shape_faults reason (Link, n) lt state other = refl
  keeps_shape_faults reason (Lane, n) lt state other = refl
  keeps_shape_faults reason (Pager, n) lt state other = refl
