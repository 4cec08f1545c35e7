-- Right shape of the pager's log through a window.
use Rattle.std.proofs.Common.{◌≡◌, ℕ, ◌==◌, Bool, true, eqb-true, Option, Some, None, refl, sym, ap, ◌∙◌}
use Rattle.std.specs.Prelude.{slice_get, is_some, nat_lt}
use Rattle.std.specs.Option.{option_map}
use Rattle.std.proofs.lemmas.Bool.{ltb-true, lt-ltb, and_parts, and_from}
use Rattle.migration_types.specs.declared.records.LogName.TheVariants.{Guest, Source, Link, Lane, Pager}
use Rattle.migration_types.specs.declared.records.GuestRec.{GuestRec}
use Rattle.migration_types.specs.declared.records.GuestRec.TheVariants.{Miss}
use Rattle.migration_types.specs.declared.records.SourceRec.{SourceRec}
use Rattle.migration_types.specs.declared.records.SourceRec.TheVariants.{Halted, State, Send, Again, Ask, Done, Back}
use Rattle.migration_types.specs.declared.records.LinkRec.{LinkRec}
use Rattle.migration_types.specs.declared.records.LinkRec.TheVariants.{Down, Up}
use Rattle.migration_types.specs.declared.records.LaneRec.{LaneRec}
use Rattle.migration_types.specs.declared.records.LaneRec.TheVariants.{Down as LaneDown}
use Rattle.migration_types.specs.declared.records.PagerRec.{PagerRec}
use Rattle.migration_types.specs.declared.records.PagerRec.TheVariants.{Got, Pull, Ready, Fault, Join, Want, Place, Zero, Skip, All}
use Rattle.migration_types.specs.Sessions.{Recorded}
use Rattle.audit_model.specs.declared.reasons.ShapeReason.TheVariants.{Named}
use Rattle.audit_model.specs.Names.{if_there}
use Rattle.audit_model.specs.Shape.{passes, delivers, taken_sending, down_sending, lane_sending, pager_named, is_miss, is_down, is_want, is_taking, is_send_of, is_or_repeats, keeps, is_right}
use Rattle.audit_model.specs.Windows.{Numbers, IsNumbering, is_seen, new_page, keeps_sending, keeps_taking, keeps_asking, keeps_miss, keeps_source, keeps_link, keeps_lane, keeps_pager, marks, moved_to, new_guest, new_source, new_link, new_lane, new_pager, is_marked, window}
use Rattle.audit_model.specs.WindowLaws.{IsRightWithin}
use Rattle.audit_model.proofs.Ranks.{rank_less, new_at, mark_of, mark_is}
use Rattle.audit_model.proofs.WindowCells.{same_page}
use Rattle.audit_model.proofs.WindowFaults.{seen_at}
use Rattle.audit_model.proofs.WindowShape.{passes_through, keeps_through}
use Rattle.audit_model.proofs.WindowMergings.{sent_kept, miss_kept, asking_kept, sending_kept, mark_by, guest_mark_by}

-- a test that says more
passes_wider : {A : Type 0} (test wide : A → Bool) → ((x : A) → test x ≡ true → wide x ≡ true) → (o : Option A) → passes test o ≡ true → passes wide o ≡ true
passes_wider test wide h None e = absurd (cc)
passes_wider test wide h (Some x) e = h x e

module _ (number : Numbers) (s : Recorded) (count : ℕ) where
  -- a delivery of what is kept is kept, and delivers what that becomes
  module _ (test new_test : SourceRec → Bool) (narrow : (x : SourceRec) → test x ≡ true → keeps_sending number x ≡ true) (renews : (x : SourceRec) → test x ≡ true → new_test (new_source s number x) ≡ true) where
    sends_kept : (x : SourceRec) → is_or_repeats s test x ≡ true → is_or_repeats s (keeps_sending number) x ≡ true
    sends_kept (Again i) e = passes_wider test (keeps_sending number) narrow (slice_get s.source i) e
    sends_kept State e = narrow State e
    sends_kept (Send p content) e = narrow (Send p content) e
    sends_kept (Halted i) e = narrow (Halted i) e
    sends_kept (Ask i) e = narrow (Ask i) e
    sends_kept Done e = narrow Done e
    sends_kept Back e = narrow Back e

    sends_new : (x : SourceRec) → is_or_repeats s test x ≡ true → is_or_repeats (window number count s) new_test (new_source s number x) ≡ true
    sends_new (Again i) e = passes_through (new_source s number) (marks s number Source) s.source test new_test renews i (mark_by test (keeps_source s number) s.source (λ x f. sent_kept s number x (narrow x f)) i e) e
    sends_new State e = renews State e
    sends_new (Send p content) e = renews (Send p content) e
    sends_new (Halted i) e = renews (Halted i) e
    sends_new (Ask i) e = renews (Ask i) e
    sends_new Done e = renews Done e
    sends_new Back e = renews Back e

    source_through : (i : ℕ) → passes (is_or_repeats s test) (slice_get s.source i) ≡ true → passes (is_or_repeats (window number count s) new_test) (slice_get (window number count s).source (moved_to s number Source i)) ≡ true
    source_through i f = passes_through (new_source s number) (marks s number Source) s.source (is_or_repeats s test) (is_or_repeats (window number count s) new_test) sends_new i (mark_by (is_or_repeats s test) (keeps_source s number) s.source (λ x g. sending_kept s number x (sends_kept x g)) i f) f

    abbrev sent : ℕ → Bool
    sent i = passes (is_or_repeats (window number count s) new_test) (slice_get (window number count s).source i)

    pub delivers_through : (got : ℕ) → delivers s test got ≡ true → (slice_get (marks s number Pager) got ≡ Some true) × (delivers (window number count s) new_test (moved_to s number Pager got) ≡ true)
    delivers_through got e = go (slice_get s.pager got) refl e
      where
        taken : (x : PagerRec) → slice_get s.pager got ≡ Some x → keeps_pager s number x ≡ true → passes sent (taken_sending (window number count s) (new_pager s number x)) ≡ true → (slice_get (marks s number Pager) got ≡ Some true) × (delivers (window number count s) new_test (moved_to s number Pager got) ≡ true)
        taken x is kept f =
            let mark = mark_is (keeps_pager s number) s.pager got x is kept in
            (mark, ap (λ o. passes sent (if_there (taken_sending (window number count s)) o)) (new_at (new_pager s number) (marks s number Pager) s.pager got x is mark) ∙ f)

        over_link : (down : ℕ) → slice_get s.pager got ≡ Some (Got down) → (o : Option LinkRec) → slice_get s.link down ≡ o → passes (λ i. passes (is_or_repeats s test) (slice_get s.source i)) (if_there down_sending o) ≡ true → (slice_get (marks s number Pager) got ≡ Some true) × (delivers (window number count s) new_test (moved_to s number Pager got) ≡ true)
        over_link down is None at f = absurd (cc)
        over_link down is (Some (Up i)) at f = absurd (cc)
        over_link down is (Some (Down i)) at f =
            let kept = passes_wider (is_or_repeats s test) (is_or_repeats s (keeps_sending number)) sends_kept (slice_get s.source i) f in
            let mark = mark_is (keeps_link s number) s.link down (Down i) at kept in
            taken (Got down) is (ap (passes (keeps_link s number)) at ∙ kept)
            (ap (λ o. passes sent (if_there down_sending o)) (new_at (new_link s number) (marks s number Link) s.link down (Down i) at mark) ∙ source_through i f)

        over_lane : (down : ℕ) → slice_get s.pager got ≡ Some (Pull down) → (o : Option LaneRec) → slice_get s.lane down ≡ o → passes (λ i. passes (is_or_repeats s test) (slice_get s.source i)) (option_map lane_sending o) ≡ true → (slice_get (marks s number Pager) got ≡ Some true) × (delivers (window number count s) new_test (moved_to s number Pager got) ≡ true)
        over_lane down is None at f = absurd (cc)
        over_lane down is (Some (LaneDown i)) at f =
            let kept = passes_wider (is_or_repeats s test) (is_or_repeats s (keeps_sending number)) sends_kept (slice_get s.source i) f in
            let mark = mark_is (keeps_lane s number) s.lane down (LaneDown i) at kept in
            taken (Pull down) is (ap (passes (keeps_lane s number)) at ∙ kept)
            (ap (λ o. passes sent (option_map lane_sending o)) (new_at (new_lane s number) (marks s number Lane) s.lane down (LaneDown i) at mark) ∙ source_through i f)

        go : (o : Option PagerRec) → slice_get s.pager got ≡ o → passes (λ i. passes (is_or_repeats s test) (slice_get s.source i)) (if_there (taken_sending s) o) ≡ true → (slice_get (marks s number Pager) got ≡ Some true) × (delivers (window number count s) new_test (moved_to s number Pager got) ≡ true)
        go None is f = absurd (cc)
        go (Some (Got down)) is f = over_link down is (slice_get s.link down) refl f
        go (Some (Pull down)) is f = over_lane down is (slice_get s.lane down) refl f
        go (Some x) is f = absurd (cc)

  -- of a page of the window
  pub place_through : IsNumbering number → (p q : ℕ) → number p ≡ Some q → (got : ℕ) → delivers s (is_send_of p) got ≡ true → (slice_get (marks s number Pager) got ≡ Some true) × (delivers (window number count s) (is_send_of q) (moved_to s number Pager got) ≡ true)
  place_through ours p q at got e = delivers_through (is_send_of p) (is_send_of q) narrow renews got e
    where
      seen : (r : ℕ) → (r == p) ≡ true → is_seen (number r) ≡ true
      seen r e = ap is_seen (ap number (eqb-true r p e) ∙ at)

      narrow : (x : SourceRec) → is_send_of p x ≡ true → keeps_sending number x ≡ true
      narrow (Send r content) e = seen r e
      narrow x e = absurd (cc)

      renews : (x : SourceRec) → is_send_of p x ≡ true → is_send_of q (new_source s number x) ≡ true
      renews (Send r content) e = same_page number ours p q at r (seen r e) ∙ e
      renews x e = absurd (cc)

  miss_new : (x : GuestRec) → is_miss x ≡ true → is_miss (new_guest s number x) ≡ true
  miss_new (Miss c r) e = refl
  miss_new x e = absurd (cc)

  down_is_new : (x : LinkRec) → is_down x ≡ true → is_down (new_link s number x) ≡ true
  down_is_new (Down i) e = refl
  down_is_new (Up i) e = absurd (cc)

  want_new : (x : PagerRec) → is_want x ≡ true → is_want (new_pager s number x) ≡ true
  want_new (Want r) e = refl
  want_new x e = absurd (cc)

  taking_new : (x : PagerRec) → is_taking x ≡ true → is_taking (new_pager s number x) ≡ true
  taking_new (Got i) e = refl
  taking_new (Pull i) e = refl
  taking_new x e = absurd (cc)

  taking_kept : (x : PagerRec) → keeps_taking s number x ≡ true → keeps_pager s number x ≡ true
  taking_kept (Got i) e = e
  taking_kept (Pull i) e = e
  taking_kept x e = absurd (cc)

  earlier_too : (i n : ℕ) → slice_get (marks s number Pager) i ≡ Some true → nat_lt i n ≡ true → nat_lt (moved_to s number Pager i) (moved_to s number Pager n) ≡ true
  earlier_too i n there e = lt-ltb _ _ (rank_less (marks s number Pager) i n there (ltb-true i n e))

  lane_there : (i : ℕ) → slice_get (marks s number Lane) i ≡ Some true → (o : Option LaneRec) → slice_get s.lane i ≡ o → is_some o ≡ true → is_some (slice_get (window number count s).lane (moved_to s number Lane i)) ≡ true
  lane_there i mark None at e = absurd (cc)
  lane_there i mark (Some x) at e = ap is_some (new_at (new_lane s number) (marks s number Lane) s.lane i x at mark)

  pager_right : IsNumbering number → (n : ℕ) (x : PagerRec) → keeps_pager s number x ≡ true → pager_named s n x ≡ true → pager_named (window number count s) (moved_to s number Pager n) (new_pager s number x) ≡ true
  pager_right ours n (Got i) kept e = passes_through (new_link s number) (marks s number Link) s.link is_down is_down down_is_new i (mark_by (keeps_link s number) (keeps_link s number) s.link (λ x f. f) i kept) e
  pager_right ours n (Pull i) kept e = lane_there i (mark_by (keeps_lane s number) (keeps_lane s number) s.lane (λ x f. f) i kept) (slice_get s.lane i) refl e
  pager_right ours n (Fault i) kept e = passes_through (new_guest s number) (marks s number Guest) s.guest is_miss is_miss miss_new i (guest_mark_by s number (keeps_miss number) (miss_kept s number) i kept) e
  pager_right ours n (Join i) kept e =
      let both = and_parts (nat_lt i n) (passes is_want (slice_get s.pager i)) e in
      let there = mark_by (keeps_asking number) (keeps_pager s number) s.pager (asking_kept s number) i kept in
      and_from _ _ (earlier_too i n there both.0) (passes_through (new_pager s number) (marks s number Pager) s.pager is_want is_want want_new i there both.1)
  pager_right ours n (Skip i) kept e =
      let both = and_parts (nat_lt i n) (passes is_taking (slice_get s.pager i)) e in
      let there = mark_by (keeps_taking s number) (keeps_pager s number) s.pager taking_kept i kept in
      and_from _ _ (earlier_too i n there both.0) (passes_through (new_pager s number) (marks s number Pager) s.pager is_taking is_taking taking_new i there both.1)
  pager_right ours n (Place p got content) kept e =
      let both = and_parts (nat_lt got n) (delivers s (is_send_of p) got) e in
      let through = place_through ours p (new_page (number p)) (seen_at (number p) kept) got both.1 in
      and_from _ _ (earlier_too got n through.0 both.0) through.1
  pager_right ours n Ready kept e = refl
  pager_right ours n (Want p) kept e = refl
  pager_right ours n (Zero p) kept e = refl
  pager_right ours n All kept e = refl

  pub pager_named_right : IsRightWithin s number → IsNumbering number → (n : ℕ) → is_right (window number count s) Named (Pager, n) ≡ true
  pager_named_right right ours =
      keeps_through (new_pager s number) (marks s number Pager) s.pager (pager_named (window number count s))
      (λ n x is mark. pager_right ours n x (mark_of (keeps_pager s number) s.pager n x true is mark) (sym (ap (keeps (pager_named s n)) is) ∙ right Named (Pager, n) (ap is_marked mark)))
