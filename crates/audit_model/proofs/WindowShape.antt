-- Right shape through a window.
use Rattle.std.proofs.Common.{◌≡◌, ℕ, zero, suc, ◌-◌, ◌<◌, ◌||◌, not, Bool, true, false, List, map, Option, Some, None, refl, sym, ap, ◌∙◌, subst, arith}
use Rattle.std.specs.Prelude.{slice_get, nat_lt}
use Rattle.std.specs.List.{list_any}
use Rattle.std.proofs.lemmas.Bool.{ltb-true, lt-ltb, and_parts, and_from}
use Rattle.migration_types.specs.declared.records.LogName.TheVariants.{Guest, Source, Link, Lane, Pager}
use Rattle.migration_types.specs.declared.records.GuestRec.{GuestRec}
use Rattle.migration_types.specs.declared.records.GuestRec.TheVariants.{Read, Write, Release, Miss, Halt, Resume, See}
use Rattle.migration_types.specs.declared.records.SourceRec.{SourceRec}
use Rattle.migration_types.specs.declared.records.SourceRec.TheVariants.{Halted, State, Send, Again, Ask, Done, Back}
use Rattle.migration_types.specs.declared.records.LinkRec.{LinkRec}
use Rattle.migration_types.specs.declared.records.LinkRec.TheVariants.{Down, Up}
use Rattle.migration_types.specs.declared.records.LaneRec.{LaneRec}
use Rattle.migration_types.specs.declared.records.LaneRec.TheVariants.{Down as LaneDown}
use Rattle.migration_types.specs.declared.records.PagerRec.{PagerRec}
use Rattle.migration_types.specs.declared.records.PagerRec.TheVariants.{Ready, Want, Place, Zero, All}
use Rattle.migration_types.specs.declared.version.Version.{Version}
use Rattle.migration_types.specs.Sessions.{Recorded}
use Rattle.audit_model.specs.declared.reasons.ShapeReason.TheVariants.{Phases, Named, SecondSend, Both}
use Rattle.audit_model.specs.Shape.{passes, earlier, is_halt, is_resume, is_up, is_ready, is_sending, is_placement, is_send_of, goes_down, goes_up, is_or_repeats, in_phase_by, in_phase, guest_named, source_named, link_named, lane_named, keeps, is_first_send, is_alone, is_right}
use Rattle.audit_model.specs.Windows.{Numbers, IsNumbering, new_page, kept_in, rank, reach, furthest, keeps_sending, keeps_asking, keeps_placement, keeps_source, keeps_guest, keeps_link, keeps_lane, keeps_pager, marks, moved_to, new_guest, new_source, new_link, new_lane, new_pager, is_marked, window}
use Rattle.audit_model.specs.WindowLaws.{KeepsBoth, IsRightWithin}
use Rattle.audit_model.proofs.Ranks.{aligned_map, rank_less, new_at, mark_of, came_from, fold_kept, any_kept, mark_is}
use Rattle.audit_model.proofs.WindowCells.{guest_aligned, guest_marked, same_page, other_page}
use Rattle.audit_model.proofs.WindowLooks.{newest_at, placement_mark}
use Rattle.audit_model.proofs.WindowFaults.{seen_at}
use Rattle.audit_model.proofs.WindowMergings.{sent_kept, halt_kept, ready_kept, asking_kept, sending_kept, mark_by, guest_mark_by}

-- what holds of what each record that is kept becomes holds of each record of the window
pub keeps_through : {A B : Type 0} (new : A → B) (marks : List Bool) (log : List A) (test : ℕ → B → Bool) →
    ((n : ℕ) (x : A) → slice_get log n ≡ Some x → slice_get marks n ≡ Some true → test (rank marks n) (new x) ≡ true) →
    (m : ℕ) → keeps (test m) (slice_get (map new (kept_in marks log)) m) ≡ true
keeps_through {A} {B} new marks log test h m = go (slice_get (map new (kept_in marks log)) m) refl
  where
    go : (o : Option B) → slice_get (map new (kept_in marks log)) m ≡ o → keeps (test m) o ≡ true
    go None is = refl
    go (Some y) is =
        let f = came_from new marks log m y is in
        subst (λ k. test k y ≡ true) f.4 (subst (λ z. test (rank marks f.0) z ≡ true) f.5 (h f.0 f.1 f.2 f.3))

-- a record that passes a test, and is kept, passes the test of the window at its rank
pub passes_through : {A B : Type 0} (new : A → B) (marks : List Bool) (log : List A) (test : A → Bool) (new_test : B → Bool) → ((x : A) → test x ≡ true → new_test (new x) ≡ true) →
    (n : ℕ) → slice_get marks n ≡ Some true → passes test (slice_get log n) ≡ true → passes new_test (slice_get (map new (kept_in marks log)) (rank marks n)) ≡ true
passes_through {A} new marks log test new_test h n mark e = go (slice_get log n) refl e
  where
    go : (o : Option A) → slice_get log n ≡ o → passes test o ≡ true → passes new_test (slice_get (map new (kept_in marks log)) (rank marks n)) ≡ true
    go None is f = absurd (cc)
    go (Some x) is f = ap (passes new_test) (new_at new marks log n x is mark) ∙ h x f

module _ (number : Numbers) (s : Recorded) where
  new_resume : (x : GuestRec) → is_resume (new_guest s number x) ≡ is_resume x
  new_resume Halt = refl
  new_resume (Read c r d y) = refl
  new_resume (Write c r d y) = refl
  new_resume (Release c r) = refl
  new_resume (Miss c r) = refl
  new_resume (Resume i) = refl
  new_resume (See i) = refl

  gone_resume : (k : ℕ) (x : GuestRec) → keeps_guest s number k x ≡ false → is_resume x ≡ false
  gone_resume k Halt e = refl
  gone_resume k (Resume i) e = absurd (cc)
  gone_resume k (Read c r d y) e = refl
  gone_resume k (Write c r d y) e = refl
  gone_resume k (Release c r) e = refl
  gone_resume k (Miss c r) e = refl
  gone_resume k (See i) e = refl

  -- the window has a resume exactly where the session has
  resumed_through : (count : ℕ) → list_any is_resume (window number count s).guest ≡ list_any is_resume s.guest
  resumed_through count =
      any_kept (new_guest s number) (marks s number Guest) s.guest is_resume is_resume (guest_aligned s number) new_resume
      (λ n x is mark. gone_resume n x (guest_marked s number n x false is mark))

  alone_through : (count : ℕ) (x : SourceRec) → is_alone (window number count s) (new_source s number x) ≡ is_alone s x
  alone_through count Back = ap not (resumed_through count)
  alone_through count (Halted i) = refl
  alone_through count State = refl
  alone_through count (Send p content) = refl
  alone_through count (Again i) = refl
  alone_through count (Ask i) = refl
  alone_through count Done = refl

  -- a `back` is kept, and so is what is wrong with it
  pub keeps_both : (count : ℕ) → KeepsBoth s number count
  keeps_both count n wrong = go (slice_get s.source n) refl wrong
    where
      kept : (x : SourceRec) → is_alone s x ≡ false → keeps_source s number x ≡ true
      kept Back e = refl
      kept x e = absurd (cc)

      go : (o : Option SourceRec) → slice_get s.source n ≡ o → keeps (is_alone s) o ≡ false → is_right (window number count s) Both (Source, moved_to s number Source n) ≡ false
      go None is e = absurd (cc)
      go (Some x) is e =
          ap (keeps (is_alone (window number count s))) (new_at (new_source s number) (marks s number Source) s.source n x is (mark_is (keeps_source s number) s.source n x is (kept x e)))
          ∙ alone_through count x ∙ e

module _ (number : Numbers) (s : Recorded) (count : ℕ) (right : IsRightWithin s number) where
  new_halt : (x : GuestRec) → is_halt (new_guest s number x) ≡ is_halt x
  new_halt Halt = refl
  new_halt (Read c r d y) = refl
  new_halt (Write c r d y) = refl
  new_halt (Release c r) = refl
  new_halt (Miss c r) = refl
  new_halt (Resume i) = refl
  new_halt (See i) = refl

  gone_halt : (k : ℕ) (x : GuestRec) → keeps_guest s number k x ≡ false → is_halt x ≡ false
  gone_halt k Halt e = absurd (cc)
  gone_halt k (Resume i) e = refl
  gone_halt k (Read c r d y) e = refl
  gone_halt k (Write c r d y) e = refl
  gone_halt k (Release c r) e = refl
  gone_halt k (Miss c r) e = refl
  gone_halt k (See i) e = refl

  same_earlier : (test : GuestRec → Bool) → ((x : GuestRec) → test (new_guest s number x) ≡ test x) → ((k : ℕ) (x : GuestRec) → keeps_guest s number k x ≡ false → test x ≡ false) → (n : ℕ) → earlier test (window number count s).guest (moved_to s number Guest n) ≡ earlier test s.guest n
  same_earlier test same gone n =
      fold_kept (new_guest s number) (marks s number Guest) s.guest (λ x found. test x || found) (λ x found. test x || found) false (guest_aligned s number)
      (λ m x v is mark. ap (λ b. b || v) (same x))
      (λ m x v is mark. let r = guest_marked s number m x false is mark in sym (ap (λ b. b || v) (gone m x r)))
      n

  same_phase : (v : Version) (halted resumed : Bool) (x : GuestRec) → in_phase_by v halted resumed (new_guest s number x) ≡ in_phase_by v halted resumed x
  same_phase v halted resumed Halt = refl
  same_phase v halted resumed (Resume i) = refl
  same_phase v halted resumed (Read c r d y) = refl
  same_phase v halted resumed (Write c r d y) = refl
  same_phase v halted resumed (Release c r) = refl
  same_phase v halted resumed (Miss c r) = refl
  same_phase v halted resumed (See i) = refl

  pub phase_right : (n : ℕ) → is_right (window number count s) Phases (Guest, n) ≡ true
  phase_right =
      keeps_through (new_guest s number) (marks s number Guest) s.guest (in_phase (window number count s))
      (λ n x is mark.
      ap (λ b. in_phase_by s.version b (earlier is_resume (window number count s).guest (moved_to s number Guest n)) (new_guest s number x)) (same_earlier is_halt new_halt gone_halt n)
      ∙ ap (λ b. in_phase_by s.version (earlier is_halt s.guest n) b (new_guest s number x)) (same_earlier is_resume (new_resume number s) (gone_resume number s) n)
      ∙ same_phase s.version (earlier is_halt s.guest n) (earlier is_resume s.guest n) x
      ∙ sym (ap (keeps (in_phase s n)) is) ∙ right Phases (Guest, n) (ap is_marked mark))

  ready_new : (x : PagerRec) → is_ready x ≡ true → is_ready (new_pager s number x) ≡ true
  ready_new Ready e = refl
  ready_new x e = absurd (cc)

  pub placement_new : (x : PagerRec) → keeps_placement number x ≡ true → is_placement (new_pager s number x) ≡ true
  placement_new (Place p got content) e = refl
  placement_new (Zero p) e = refl
  placement_new x e = absurd (cc)

  guest_right : (n : ℕ) (x : GuestRec) → keeps_guest s number n x ≡ true → guest_named s x ≡ true → guest_named (window number count s) (new_guest s number x) ≡ true
  guest_right n (Resume i) kept e = passes_through (new_pager s number) (marks s number Pager) s.pager is_ready is_ready ready_new i (mark_by is_ready (keeps_pager s number) s.pager (ready_kept s number) i e) e
  guest_right n (See k) kept e = go (reach s number k) refl (ltb-true (furthest s number n) (reach s number k) kept)
    where
      go : (far : ℕ) → reach s number k ≡ far → furthest s number n < far → passes is_placement (slice_get (window number count s).pager (moved_to s number Pager (far - 1))) ≡ true
      go zero e l = absurd (omega arith)
      go (suc j) e l =
          let one : suc j - 1 ≡ j = omega arith in
          let there = newest_at (keeps_placement number) s.pager (suc k) j e in
          subst (λ i. passes is_placement (slice_get (window number count s).pager (moved_to s number Pager i)) ≡ true) (sym one) (passes_through (new_pager s number) (marks s number Pager) s.pager (keeps_placement number) is_placement placement_new j (placement_mark s number j there) there)
  guest_right n Halt kept e = refl
  guest_right n (Read c r d y) kept e = refl
  guest_right n (Write c r d y) kept e = refl
  guest_right n (Release c r) kept e = refl
  guest_right n (Miss c r) kept e = refl

  pub guest_named_right : (n : ℕ) → is_right (window number count s) Named (Guest, n) ≡ true
  guest_named_right =
      keeps_through (new_guest s number) (marks s number Guest) s.guest (λ n. guest_named (window number count s))
      (λ n x is mark. let r = guest_marked s number n x true is mark in guest_right n x r (sym (ap (keeps (guest_named s)) is) ∙ right Named (Guest, n) (ap is_marked mark)))

  pub up_new : (x : LinkRec) → is_up x ≡ true → is_up (new_link s number x) ≡ true
  up_new (Up i) e = refl
  up_new (Down i) e = absurd (cc)

  sending_new : (x : SourceRec) → is_sending x ≡ true → is_sending (new_source s number x) ≡ true
  sending_new State e = refl
  sending_new (Send p content) e = refl
  sending_new x e = absurd (cc)

  down_new : (x : SourceRec) → goes_down x ≡ true → goes_down (new_source s number x) ≡ true
  down_new State e = refl
  down_new (Send p content) e = refl
  down_new (Again i) e = refl
  down_new x e = absurd (cc)

  up_goes_new : (x : PagerRec) → goes_up x ≡ true → goes_up (new_pager s number x) ≡ true
  up_goes_new (Want p) e = refl
  up_goes_new All e = refl
  up_goes_new x e = absurd (cc)

  source_right : (n : ℕ) (x : SourceRec) → slice_get (marks s number Source) n ≡ Some true → keeps_source s number x ≡ true → source_named s n x ≡ true → source_named (window number count s) (moved_to s number Source n) (new_source s number x) ≡ true
  source_right n (Halted i) mark kept e = passes_through (new_guest s number) (marks s number Guest) s.guest is_halt is_halt (λ x f. new_halt x ∙ f) i (guest_mark_by s number is_halt (halt_kept s number) i e) e
  source_right n (Ask i) mark kept e = passes_through (new_link s number) (marks s number Link) s.link is_up is_up up_new i (mark_by (keeps_link s number) (keeps_link s number) s.link (λ x f. f) i kept) e
  source_right n (Again i) mark kept e =
      let both = and_parts (nat_lt i n) (passes is_sending (slice_get s.source i)) e in
      let there = mark_by (keeps_sending number) (keeps_source s number) s.source (sent_kept s number) i kept in
      and_from (nat_lt (moved_to s number Source i) (moved_to s number Source n)) _
      (lt-ltb _ _ (rank_less (marks s number Source) i n there (ltb-true i n both.0)))
      (passes_through (new_source s number) (marks s number Source) s.source is_sending is_sending sending_new i there both.1)
  source_right n State mark kept e = refl
  source_right n (Send p content) mark kept e = refl
  source_right n Done mark kept e = refl
  source_right n Back mark kept e = refl

  pub source_named_right : (n : ℕ) → is_right (window number count s) Named (Source, n) ≡ true
  source_named_right =
      keeps_through (new_source s number) (marks s number Source) s.source (source_named (window number count s))
      (λ n x is mark. source_right n x mark (mark_of (keeps_source s number) s.source n x true is mark) (sym (ap (keeps (source_named s n)) is) ∙ right Named (Source, n) (ap is_marked mark)))

  link_right : (x : LinkRec) → keeps_link s number x ≡ true → link_named s x ≡ true → link_named (window number count s) (new_link s number x) ≡ true
  link_right (Down i) kept e = passes_through (new_source s number) (marks s number Source) s.source goes_down goes_down down_new i (mark_by (is_or_repeats s (keeps_sending number)) (keeps_source s number) s.source (sending_kept s number) i kept) e
  link_right (Up i) kept e = passes_through (new_pager s number) (marks s number Pager) s.pager goes_up goes_up up_goes_new i (mark_by (keeps_asking number) (keeps_pager s number) s.pager (asking_kept s number) i kept) e

  pub link_named_right : (n : ℕ) → is_right (window number count s) Named (Link, n) ≡ true
  link_named_right =
      keeps_through (new_link s number) (marks s number Link) s.link (λ n. link_named (window number count s))
      (λ n x is mark. link_right x (mark_of (keeps_link s number) s.link n x true is mark) (sym (ap (keeps (link_named s)) is) ∙ right Named (Link, n) (ap is_marked mark)))

  lane_right : (x : LaneRec) → keeps_lane s number x ≡ true → lane_named s x ≡ true → lane_named (window number count s) (new_lane s number x) ≡ true
  lane_right (LaneDown i) kept e = passes_through (new_source s number) (marks s number Source) s.source goes_down goes_down down_new i (mark_by (is_or_repeats s (keeps_sending number)) (keeps_source s number) s.source (sending_kept s number) i kept) e

  pub lane_named_right : (n : ℕ) → is_right (window number count s) Named (Lane, n) ≡ true
  lane_named_right =
      keeps_through (new_lane s number) (marks s number Lane) s.lane (λ n. lane_named (window number count s))
      (λ n x is mark. lane_right x (mark_of (keeps_lane s number) s.lane n x true is mark) (sym (ap (keeps (lane_named s)) is) ∙ right Named (Lane, n) (ap is_marked mark)))

  -- no page is sent for the first time twice
  pub second_right : IsNumbering number → (n : ℕ) → is_right (window number count s) SecondSend (Source, n) ≡ true
  second_right ours =
      keeps_through (new_source s number) (marks s number Source) s.source (is_first_send (window number count s))
      (λ n x is mark. first n x (mark_of (keeps_source s number) s.source n x true is mark) (sym (ap (keeps (is_first_send s n)) is) ∙ right SecondSend (Source, n) (ap is_marked mark)))
    where
      new_send : (p q : ℕ) → number p ≡ Some q → (x : SourceRec) → keeps_source s number x ≡ true → is_send_of q (new_source s number x) ≡ is_send_of p x
      new_send p q at (Send r content) e = same_page number ours p q at r e
      new_send p q at State e = refl
      new_send p q at (Halted i) e = refl
      new_send p q at (Again i) e = refl
      new_send p q at (Ask i) e = refl
      new_send p q at Done e = refl
      new_send p q at Back e = refl

      gone_send : (p q : ℕ) → number p ≡ Some q → (x : SourceRec) → keeps_source s number x ≡ false → is_send_of p x ≡ false
      gone_send p q at (Send r content) e = other_page number ours p q at r e
      gone_send p q at State e = refl
      gone_send p q at (Halted i) e = refl
      gone_send p q at (Again i) e = refl
      gone_send p q at (Ask i) e = refl
      gone_send p q at Done e = refl
      gone_send p q at Back e = refl

      same_sent : (p q : ℕ) → number p ≡ Some q → (n : ℕ) → earlier (is_send_of q) (window number count s).source (moved_to s number Source n) ≡ earlier (is_send_of p) s.source n
      same_sent p q at n =
          fold_kept (new_source s number) (marks s number Source) s.source (λ x found. is_send_of p x || found) (λ x found. is_send_of q x || found) false (aligned_map (keeps_source s number) s.source)
          (λ m x v is mark. ap (λ b. b || v) (new_send p q at x (mark_of (keeps_source s number) s.source m x true is mark)))
          (λ m x v is mark. sym (ap (λ b. b || v) (gone_send p q at x (mark_of (keeps_source s number) s.source m x false is mark))))
          n

      first : (n : ℕ) (x : SourceRec) → keeps_source s number x ≡ true → is_first_send s n x ≡ true → is_first_send (window number count s) (moved_to s number Source n) (new_source s number x) ≡ true
      first n (Send p content) kept e = ap not (same_sent p (new_page (number p)) (seen_at (number p) kept) n) ∙ e
      first n State kept e = refl
      first n (Halted i) kept e = refl
      first n (Again i) kept e = refl
      first n (Ask i) kept e = refl
      first n Done kept e = refl
      first n Back kept e = refl

  pub both_right : (n : ℕ) → is_right (window number count s) Both (Source, n) ≡ true
  both_right =
      keeps_through (new_source s number) (marks s number Source) s.source (λ n. is_alone (window number count s))
      (λ n x is mark. alone_through number s count x ∙ sym (ap (keeps (is_alone s)) is) ∙ right Both (Source, n) (ap is_marked mark))
