-- The right shape with thinned logs.
use Rattle.std.proofs.Common.{◌≡◌, ◌≢◌, ◌↔◌, ℕ, zero, suc, ◌<◌, ◌≤◌, ◌⊎◌, inl, inr, ◌==◌, ◌&&◌, ◌||◌, not, Bool, true, false, List, length, map, Option, Some, None, refl, sym, ap, ◌∙◌, subst, arith}
use Rattle.std.specs.Prelude.{slice_get, nat_lt}
use Rattle.std.specs.List.{list_any}
use Rattle.std.specs.Option.{option_map}
use Rattle.std.proofs.lemmas.Bool.{cases_lt, or_right}
use Rattle.std.proofs.lemmas.List.{map-id, length-map}
use Rattle.std.proofs.lemmas.Option.{slice_get-map, slice_get_past}
use Rattle.migration_types.specs.declared.records.LogName.TheVariants.{Guest, Source, Link, Lane, Pager}
use Rattle.migration_types.specs.declared.records.GuestRec.{GuestRec}
use Rattle.migration_types.specs.declared.records.GuestRec.TheVariants.{Read, Write, Release, Miss, Halt, Resume, See}
use Rattle.migration_types.specs.declared.records.SourceRec.{SourceRec}
use Rattle.migration_types.specs.declared.records.SourceRec.TheVariants.{Halted, State, Send, Again, Ask, Done, Back}
use Rattle.migration_types.specs.declared.records.LinkRec.{LinkRec}
use Rattle.migration_types.specs.declared.records.LinkRec.TheVariants.{Down, Up}
use Rattle.migration_types.specs.declared.records.LaneRec.{LaneRec}
use Rattle.migration_types.specs.declared.records.LaneRec.TheVariants.{Down as LaneDown}
use Rattle.migration_types.specs.declared.records.PagerRec.{PagerRec}
use Rattle.migration_types.specs.declared.records.PagerRec.TheVariants.{Got, Pull, Ready, Fault, Join, Want, Place, Zero, Skip, All}
use Rattle.migration_types.specs.Receipts.{Name, source_receipt, pager_receipt}
use Rattle.migration_types.specs.Sessions.{Recorded}
use Rattle.audit_model.specs.declared.reasons.ShapeReason.{ShapeReason}
use Rattle.audit_model.specs.declared.reasons.ShapeReason.TheVariants.{Phases, Named, Start, SecondSend, Both}
use Rattle.audit_model.specs.declared.home.Home.{Home}
use Rattle.audit_model.specs.declared.home.Home.TheVariants.{AtSource, Nowhere, AtTarget}
use Rattle.audit_model.specs.Names.{if_there}
use Rattle.audit_model.specs.Flat.{changed, home_after, home}
use Rattle.audit_model.specs.Shape.{passes, is_halt, is_resume, is_miss, is_state, is_send_of, is_sending, is_ready, is_taking, is_want, is_placement, goes_down, goes_up, taken_sending, delivery, is_or_repeats, delivers, earlier, in_phase_by, in_phase, guest_named, source_named, link_named, lane_named, pager_named, source_start, pager_start, is_first_send, is_alone, keeps, is_right, IsRightShape}
use Rattle.audit_model.specs.Windows.{kept_in, rank}
use Rattle.audit_model.proofs.Consistent.{there}
use Rattle.audit_model.proofs.Ranks.{kept_at, kept_length, rank_up, any_kept}
use Rattle.audit_model.proofs.WindowFaults.{is_there}
use Rattle.kept_faults.specs.Thinned.{thin_source, thin_pager, thinned, thin_name, IsKept, HasUsed, MayGo, IsThinning}
use Rattle.kept_faults.proofs.Kept.{aligned, kept_from, kept_or_gone, fold_thin, earlier_map, gone_halt, gone_resume}
use Rattle.kept_faults.proofs.Names.{same_mapped}

-- where nothing stands, the log has ended
has_ended : {A : Type 0} (log : List A) (n : ℕ) → slice_get log n ≡ None → length log ≤ n
has_ended log n none = go (cases_lt n (length log))
  where
    go : (n < length log) ⊎ (length log ≤ n) → length log ≤ n
    go (inr le) = le
    go (inl lt) = let r = there log n (length log) lt (omega arith) in let e : None ≡ Some r.0 = sym none ∙ r.1 in absurd (cc)

same_passes : {A : Type 0} (f : A → A) (test test' : A → Bool) → ((x : A) → test' (f x) ≡ test x) → (log : List A) (n : ℕ) → passes test' (slice_get (map f log) n) ≡ passes test (slice_get log n)
same_passes {A} f test test' same log n = ap (passes test') (slice_get-map f log n) ∙ go (slice_get log n)
  where
    go : (o : Option A) → passes test' (option_map f o) ≡ passes test o
    go None = refl
    go (Some x) = same x

same_keeps : {A : Type 0} (f : A → A) (test test' : A → Bool) (log : List A) (n : ℕ) → ((x : A) → slice_get log n ≡ Some x → test' (f x) ≡ test x) → keeps test' (slice_get (map f log) n) ≡ keeps test (slice_get log n)
same_keeps {A} f test test' log n same = ap (keeps test') (slice_get-map f log n) ∙ go (slice_get log n) refl
  where
    go : (o : Option A) → slice_get log n ≡ o → keeps test' (option_map f o) ≡ keeps test o
    go None is = refl
    go (Some x) is = same x is

keeps_alike : {A : Type 0} (test test' : A → Bool) → ((x : A) → test' x ≡ test x) → (o : Option A) → keeps test' o ≡ keeps test o
keeps_alike test test' same None = refl
keeps_alike test test' same (Some x) = same x

-- a guest that is somewhere may read and write
runs : (s : Recorded) (n : ℕ) → home s n ≢ Nowhere → (not (earlier is_halt s.guest n) || earlier is_resume s.guest n) ≡ true
runs s zero here = refl
runs s (suc n) here = go (slice_get s.guest n) (runs s n) here
  where
    go : (o : Option GuestRec) → (home s n ≢ Nowhere → (not (earlier is_halt s.guest n) || earlier is_resume s.guest n) ≡ true) → changed home_after o (home s n) ≢ Nowhere →
        (not (changed (λ x found. is_halt x || found) o (earlier is_halt s.guest n)) || changed (λ x found. is_resume x || found) o (earlier is_resume s.guest n)) ≡ true
    go None rec here = rec here
    go (Some Halt) rec here = absurd (here refl)
    go (Some (Resume i)) rec here = or_right (not (earlier is_halt s.guest n)) true refl
    go (Some (Read v p c y)) rec here = rec here
    go (Some (Write v p c y)) rec here = rec here
    go (Some (Release v p)) rec here = rec here
    go (Some (Miss v p)) rec here = rec here
    go (Some (See k)) rec here = rec here

used_somewhere : (h : Home) (used : Bool) → HasUsed h used → h ≢ Nowhere
used_somewhere AtSource used u e = absurd (cc)
used_somewhere Nowhere used u e = u
used_somewhere AtTarget used u e = absurd (cc)

-- behind the guest's log nothing has a wrong shape
guest_end : (s : Recorded) (n : ℕ) → slice_get s.guest n ≡ None → (reason : ShapeReason) → is_right s reason (Guest, n) ≡ true
guest_end s n none Phases = ap (keeps (in_phase s n)) none
guest_end s n none Named = ap (keeps (guest_named s)) none
guest_end s n none Start = refl
guest_end s n none SecondSend = refl
guest_end s n none Both = refl

module _ (marks : List Bool) (s : Recorded) (thin : IsThinning marks s) where
  same_earlier : (test : GuestRec → Bool) → ((n : ℕ) (x : GuestRec) → MayGo marks s n x → test x ≡ false) → (n : ℕ) → earlier test (thinned marks s).guest (rank marks n) ≡ earlier test s.guest n
  same_earlier test gone n =
      fold_thin marks s.guest (λ x found. test x || found) (λ x found. test x || found) false (aligned marks s thin)
      (λ m x v is mark. refl)
      (λ m x v is mark. sym (ap (λ b. b || v) (gone m x (thin.may_go m x is mark))))
      n

  -- a record of the guest that is named, or one that does not exist, by its new number
  same_named : (test : GuestRec → Bool) (n : ℕ) → slice_get marks n ≢ Some false → passes test (slice_get (thinned marks s).guest (rank marks n)) ≡ passes test (slice_get s.guest n)
  same_named test n stays = go (slice_get s.guest n) refl
    where
      by_mark : (x : GuestRec) → slice_get s.guest n ≡ Some x → (slice_get marks n ≡ Some true) ⊎ (slice_get marks n ≡ Some false) → passes test (slice_get (thinned marks s).guest (rank marks n)) ≡ test x
      by_mark x is (inl mark) = ap (passes test) (kept_at marks s.guest n x is mark)
      by_mark x is (inr gone) = absurd (stays gone)

      go : (o : Option GuestRec) → slice_get s.guest n ≡ o → passes test (slice_get (thinned marks s).guest (rank marks n)) ≡ passes test (slice_get s.guest n)
      go (Some x) is = by_mark x is (kept_or_gone marks s thin n x is) ∙ sym (ap (passes test) is)
      go None is =
          let up = rank_up marks (length s.guest) n (has_ended s.guest n is) in
          let all = kept_length marks s.guest (aligned marks s thin) in
          ap (passes test) (slice_get_past (thinned marks s).guest (rank marks n) (omega (arith, up, all))) ∙ sym (ap (passes test) is)

  sent_alike : (test : SourceRec → Bool) → ((x : SourceRec) → test (thin_source marks x) ≡ test x) → (n : ℕ) → passes test (slice_get (thinned marks s).source n) ≡ passes test (slice_get s.source n)
  sent_alike test same n = same_passes (thin_source marks) test test same s.source n

  paged_alike : (test : PagerRec → Bool) → ((x : PagerRec) → test (thin_pager marks x) ≡ test x) → (n : ℕ) → passes test (slice_get (thinned marks s).pager n) ≡ passes test (slice_get s.pager n)
  paged_alike test same n = same_passes (thin_pager marks) test test same s.pager n

  repeats_alike : (test : SourceRec → Bool) → ((x : SourceRec) → test (thin_source marks x) ≡ test x) → (x : SourceRec) → is_or_repeats (thinned marks s) test (thin_source marks x) ≡ is_or_repeats s test x
  repeats_alike test same (Again i) = sent_alike test same i
  repeats_alike test same (Halted i) = same (Halted i)
  repeats_alike test same State = refl
  repeats_alike test same (Send p content) = refl
  repeats_alike test same (Ask i) = refl
  repeats_alike test same Done = refl
  repeats_alike test same Back = refl

  taken_alike : (x : PagerRec) → taken_sending (thinned marks s) (thin_pager marks x) ≡ taken_sending s x
  taken_alike (Got i) = refl
  taken_alike (Pull i) = refl
  taken_alike Ready = refl
  taken_alike (Fault i) = refl
  taken_alike (Join i) = refl
  taken_alike (Want p) = refl
  taken_alike (Place p got content) = refl
  taken_alike (Zero p) = refl
  taken_alike (Skip i) = refl
  taken_alike All = refl

  delivers_alike : (test : SourceRec → Bool) → ((x : SourceRec) → test (thin_source marks x) ≡ test x) → (got : ℕ) → delivers (thinned marks s) test got ≡ delivers s test got
  delivers_alike test same got = ap (passes (λ k. passes (is_or_repeats (thinned marks s) test) (slice_get (thinned marks s).source k))) (same_mapped (thin_pager marks) (taken_sending s) (taken_sending (thinned marks s)) taken_alike s.pager got) ∙ go (delivery s got)
    where
      go : (o : Option ℕ) → passes (λ k. passes (is_or_repeats (thinned marks s) test) (slice_get (thinned marks s).source k)) o ≡ passes (λ k. passes (is_or_repeats s test) (slice_get s.source k)) o
      go None = refl
      go (Some k) = same_passes (thin_source marks) (is_or_repeats s test) (is_or_repeats (thinned marks s) test) (repeats_alike test same) s.source k

  is_sending_alike : (x : SourceRec) → is_sending (thin_source marks x) ≡ is_sending x
  is_sending_alike (Halted i) = refl
  is_sending_alike x = refl

  is_state_alike : (x : SourceRec) → is_state (thin_source marks x) ≡ is_state x
  is_state_alike (Halted i) = refl
  is_state_alike x = refl

  is_send_alike : (p : ℕ) (x : SourceRec) → is_send_of p (thin_source marks x) ≡ is_send_of p x
  is_send_alike p (Halted i) = refl
  is_send_alike p x = refl

  goes_down_alike : (x : SourceRec) → goes_down (thin_source marks x) ≡ goes_down x
  goes_down_alike (Halted i) = refl
  goes_down_alike x = refl

  goes_up_alike : (x : PagerRec) → goes_up (thin_pager marks x) ≡ goes_up x
  goes_up_alike (Fault i) = refl
  goes_up_alike x = refl

  is_ready_alike : (x : PagerRec) → is_ready (thin_pager marks x) ≡ is_ready x
  is_ready_alike (Fault i) = refl
  is_ready_alike x = refl

  is_placement_alike : (x : PagerRec) → is_placement (thin_pager marks x) ≡ is_placement x
  is_placement_alike (Fault i) = refl
  is_placement_alike x = refl

  is_want_alike : (x : PagerRec) → is_want (thin_pager marks x) ≡ is_want x
  is_want_alike (Fault i) = refl
  is_want_alike x = refl

  is_taking_alike : (x : PagerRec) → is_taking (thin_pager marks x) ≡ is_taking x
  is_taking_alike (Fault i) = refl
  is_taking_alike x = refl

  guest_alike : (test test' : GuestRec → Bool) (n : ℕ) → slice_get marks n ≡ Some true → ((x : GuestRec) → test' x ≡ test x) → keeps test' (slice_get (thinned marks s).guest (rank marks n)) ≡ keeps test (slice_get s.guest n)
  guest_alike test test' n mark same = go (slice_get s.guest n) refl
    where
      go : (o : Option GuestRec) → slice_get s.guest n ≡ o → keeps test' (slice_get (thinned marks s).guest (rank marks n)) ≡ keeps test (slice_get s.guest n)
      go None is = absurd (is_there marks s.guest (aligned marks s thin) n mark is)
      go (Some x) is = ap (keeps test') (kept_at marks s.guest n x is mark) ∙ same x ∙ sym (ap (keeps test) is)

  guest_named_alike : (x : GuestRec) → guest_named (thinned marks s) x ≡ guest_named s x
  guest_named_alike (Resume i) = paged_alike is_ready is_ready_alike i
  guest_named_alike (See k) = paged_alike is_placement is_placement_alike k
  guest_named_alike x = refl

  source_named_alike : (n : ℕ) (x : SourceRec) → slice_get s.source n ≡ Some x → source_named (thinned marks s) n (thin_source marks x) ≡ source_named s n x
  source_named_alike n (Halted i) is = same_named is_halt i (thin.is_unnamed (Source, n) i (ap (if_there source_receipt) is))
  source_named_alike n (Again i) is = ap (λ b. nat_lt i n && b) (sent_alike is_sending is_sending_alike i)
  source_named_alike n x is = refl

  link_named_alike : (x : LinkRec) → link_named (thinned marks s) x ≡ link_named s x
  link_named_alike (Down i) = sent_alike goes_down goes_down_alike i
  link_named_alike (Up i) = paged_alike goes_up goes_up_alike i

  lane_named_alike : (x : LaneRec) → lane_named (thinned marks s) x ≡ lane_named s x
  lane_named_alike (LaneDown i) = sent_alike goes_down goes_down_alike i

  pager_named_alike : (n : ℕ) (x : PagerRec) → slice_get s.pager n ≡ Some x → pager_named (thinned marks s) n (thin_pager marks x) ≡ pager_named s n x
  pager_named_alike n (Fault i) is = same_named is_miss i (thin.is_unnamed (Pager, n) i (ap (if_there pager_receipt) is))
  pager_named_alike n (Join i) is = ap (λ b. nat_lt i n && b) (paged_alike is_want is_want_alike i)
  pager_named_alike n (Skip i) is = ap (λ b. nat_lt i n && b) (paged_alike is_taking is_taking_alike i)
  pager_named_alike n (Place p got content) is = ap (λ b. nat_lt got n && b) (delivers_alike (is_send_of p) (is_send_alike p) got)
  pager_named_alike n x is = refl

  source_long : length (thinned marks s).source ≡ length s.source
  source_long = length-map s.source (thin_source marks)

  source_start_alike : (n : ℕ) (x : SourceRec) → source_start (thinned marks s) n (thin_source marks x) ≡ source_start s n x
  source_start_alike zero (Halted i) = ap (nat_lt 1) source_long
  source_start_alike zero x = refl
  source_start_alike (suc zero) (Halted i) = refl
  source_start_alike (suc zero) x = refl
  source_start_alike (suc (suc n)) (Halted i) = refl
  source_start_alike (suc (suc n)) Back = ap (λ k. k == suc (suc (suc n))) source_long
  source_start_alike (suc (suc n)) x = refl

  pager_start_alike : (n : ℕ) (x : PagerRec) → pager_start (thinned marks s) n (thin_pager marks x) ≡ pager_start s n x
  pager_start_alike zero (Got i) = delivers_alike is_state is_state_alike 0
  pager_start_alike zero (Pull i) = delivers_alike is_state is_state_alike 0
  pager_start_alike zero x = refl
  pager_start_alike (suc zero) (Fault i) = refl
  pager_start_alike (suc zero) x = refl
  pager_start_alike (suc (suc n)) (Fault i) = refl
  pager_start_alike (suc (suc n)) x = refl

  first_send_alike : (n : ℕ) (x : SourceRec) → is_first_send (thinned marks s) n (thin_source marks x) ≡ is_first_send s n x
  first_send_alike n (Send p content) = ap not (earlier_map (thin_source marks) (is_send_of p) (is_send_of p) (is_send_alike p) s.source n)
  first_send_alike n x = refl

  same_resumed : list_any is_resume (thinned marks s).guest ≡ list_any is_resume s.guest
  same_resumed =
      ap (list_any is_resume) (sym (map-id (kept_in marks s.guest)))
      ∙ any_kept (λ (x : GuestRec). x) marks s.guest is_resume is_resume (aligned marks s thin) (λ x. refl) (λ n x is mark. gone_resume marks s n x (thin.may_go n x is mark))

  alone_alike : (x : SourceRec) → is_alone (thinned marks s) (thin_source marks x) ≡ is_alone s x
  alone_alike Back = ap not same_resumed
  alone_alike x = refl

  -- a kept record has its shape
  same_right : (reason : ShapeReason) (name : Name) → IsKept marks name → is_right (thinned marks s) reason (thin_name marks name) ≡ is_right s reason name
  same_right Phases (Guest, n) mark = guest_alike (in_phase s n) (in_phase (thinned marks s) (rank marks n)) n mark (λ x.
      ap (λ b. in_phase_by s.version b (earlier is_resume (thinned marks s).guest (rank marks n)) x) (same_earlier is_halt (gone_halt marks s) n)
      ∙ ap (λ b. in_phase_by s.version (earlier is_halt s.guest n) b x) (same_earlier is_resume (gone_resume marks s) n))
  same_right Named (Guest, n) mark = guest_alike (guest_named s) (guest_named (thinned marks s)) n mark guest_named_alike
  same_right Named (Source, n) mark = same_keeps (thin_source marks) (source_named s n) (source_named (thinned marks s) n) s.source n (source_named_alike n)
  same_right Named (Link, n) mark = keeps_alike (link_named s) (link_named (thinned marks s)) link_named_alike (slice_get s.link n)
  same_right Named (Lane, n) mark = keeps_alike (lane_named s) (lane_named (thinned marks s)) lane_named_alike (slice_get s.lane n)
  same_right Named (Pager, n) mark = same_keeps (thin_pager marks) (pager_named s n) (pager_named (thinned marks s) n) s.pager n (pager_named_alike n)
  same_right Start (Source, n) mark = same_keeps (thin_source marks) (source_start s n) (source_start (thinned marks s) n) s.source n (λ x is. source_start_alike n x)
  same_right Start (Pager, n) mark = same_keeps (thin_pager marks) (pager_start s n) (pager_start (thinned marks s) n) s.pager n (λ x is. pager_start_alike n x)
  same_right SecondSend (Source, n) mark = same_keeps (thin_source marks) (is_first_send s n) (is_first_send (thinned marks s) n) s.source n (λ x is. first_send_alike n x)
  same_right Both (Source, n) mark = same_keeps (thin_source marks) (is_alone s) (is_alone (thinned marks s)) s.source n (λ x is. alone_alike x)
  same_right reason (Guest, n) mark = refl
  same_right reason (Source, n) mark = refl
  same_right reason (Link, n) mark = refl
  same_right reason (Lane, n) mark = refl
  same_right reason (Pager, n) mark = refl

  -- a record that goes has the right shape
  gone_right : (n : ℕ) (x : GuestRec) → slice_get s.guest n ≡ Some x → MayGo marks s n x → (reason : ShapeReason) → is_right s reason (Guest, n) ≡ true
  gone_right n x is h Phases = ap (keeps (in_phase s n)) is ∙ phase x h
    where
      phase : (x : GuestRec) → MayGo marks s n x → in_phase s n x ≡ true
      phase (Read v p c y) h = runs s n (used_somewhere (home s n) _ h.0)
      phase (Write v p c y) h = runs s n (used_somewhere (home s n) _ h.0)
      phase x h = absurd h
  gone_right n x is h Named = ap (keeps (guest_named s)) is ∙ named x h
    where
      named : (x : GuestRec) → MayGo marks s n x → guest_named s x ≡ true
      named (Read v p c y) h = refl
      named (Write v p c y) h = refl
      named x h = absurd h
  gone_right n x is h Start = refl
  gone_right n x is h SecondSend = refl
  gone_right n x is h Both = refl

  right_to : IsRightShape s → IsRightShape (thinned marks s)
  right_to shape reason (Guest, m) = go (slice_get (thinned marks s).guest m) refl
    where
      go : (o : Option GuestRec) → slice_get (thinned marks s).guest m ≡ o → is_right (thinned marks s) reason (Guest, m) ≡ true
      go None is = guest_end (thinned marks s) m is reason
      go (Some x) is =
          let f = kept_from marks s.guest m x is in
          subst (λ k. is_right (thinned marks s) reason (Guest, k) ≡ true) f.3 (same_right reason (Guest, f.0) f.2 ∙ shape reason (Guest, f.0))
  right_to shape reason (Source, n) = same_right reason (Source, n) tt ∙ shape reason (Source, n)
  right_to shape reason (Link, n) = same_right reason (Link, n) tt ∙ shape reason (Link, n)
  right_to shape reason (Lane, n) = same_right reason (Lane, n) tt ∙ shape reason (Lane, n)
  right_to shape reason (Pager, n) = same_right reason (Pager, n) tt ∙ shape reason (Pager, n)

  right_from : IsRightShape (thinned marks s) → IsRightShape s
  right_from shape reason (Guest, n) = go (slice_get s.guest n) refl
    where
      by_mark : (x : GuestRec) → slice_get s.guest n ≡ Some x → (slice_get marks n ≡ Some true) ⊎ (slice_get marks n ≡ Some false) → is_right s reason (Guest, n) ≡ true
      by_mark x is (inl mark) = sym (same_right reason (Guest, n) mark) ∙ shape reason (Guest, rank marks n)
      by_mark x is (inr gone) = gone_right n x is (thin.may_go n x is gone) reason

      go : (o : Option GuestRec) → slice_get s.guest n ≡ o → is_right s reason (Guest, n) ≡ true
      go None is = guest_end s n is reason
      go (Some x) is = by_mark x is (kept_or_gone marks s thin n x is)
  right_from shape reason (Source, n) = sym (same_right reason (Source, n) tt) ∙ shape reason (Source, n)
  right_from shape reason (Link, n) = sym (same_right reason (Link, n) tt) ∙ shape reason (Link, n)
  right_from shape reason (Lane, n) = sym (same_right reason (Lane, n) tt) ∙ shape reason (Lane, n)
  right_from shape reason (Pager, n) = sym (same_right reason (Pager, n) tt) ∙ shape reason (Pager, n)

  pub same_shape : IsRightShape s ↔ IsRightShape (thinned marks s)
  same_shape = (right_to, right_from)
