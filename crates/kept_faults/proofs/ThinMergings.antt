-- Mergings with thinned logs.
use Rattle.std.proofs.Common.{◌≡◌, ◌↔◌, ℕ, ◌<◌, ◌≤◌, ◌⊎◌, inl, inr, Bool, true, false, List, length, map, Option, Some, None, refl, sym, ap, ◌∙◌, subst, arith}
use Rattle.std.specs.Prelude.{slice_get}
use Rattle.std.specs.Option.{option_map}
use Rattle.std.proofs.lemmas.Bool.{cases_lt}
use Rattle.std.proofs.lemmas.List.{length-map}
use Rattle.std.proofs.lemmas.Option.{slice_get-map, slice_get_within}
use Rattle.migration_types.specs.declared.records.LogName.{LogName}
use Rattle.migration_types.specs.declared.records.LogName.TheVariants.{Guest, Source, Link, Lane, Pager}
use Rattle.migration_types.specs.declared.records.GuestRec.{GuestRec}
use Rattle.migration_types.specs.declared.records.GuestRec.TheVariants.{Read, Write, Release, Miss, Halt, Resume, See}
use Rattle.migration_types.specs.declared.records.SourceRec.{SourceRec}
use Rattle.migration_types.specs.declared.records.SourceRec.TheVariants.{Halted, State, Send, Again, Ask, Done, Back}
use Rattle.migration_types.specs.declared.records.LinkRec.{LinkRec}
use Rattle.migration_types.specs.declared.records.LinkRec.TheVariants.{Down, Up}
use Rattle.migration_types.specs.declared.records.LaneRec.{LaneRec}
use Rattle.migration_types.specs.declared.records.LaneRec.TheVariants.{Down as LaneDown}
use Rattle.migration_types.specs.declared.records.PagerRec.{PagerRec}
use Rattle.migration_types.specs.declared.records.PagerRec.TheVariants.{Got, Pull, Ready, Fault, Join, Want, Place, Zero, Skip, All}
use Rattle.migration_types.specs.Receipts.{Name, guest_receipt, source_receipt, link_receipt, lane_receipt, pager_receipt}
use Rattle.migration_types.specs.Sessions.{Recorded}
use Rattle.audit_model.specs.Names.{log_length, if_there, receipt}
use Rattle.audit_model.specs.Mergings.{HasMerging, Cursors}
use Rattle.audit_model.specs.Walks.{MayFollow, IsStuck}
use Rattle.audit_model.specs.Windows.{rank}
use Rattle.audit_model.proofs.Consistent.{there}
use Rattle.audit_model.proofs.Ranks.{kept_at, kept_length, rank_up, rank_less}
use Rattle.audit_model.proofs.WindowFaults.{is_there}
use Rattle.kept_faults.specs.Thinned.{thin_source, thin_pager, thinned, thin_name, IsKept, MayGo, IsThinning}
use Rattle.kept_faults.proofs.Ends.{IsStuckAt, stuck_has_none, merges_or_stuck}
use Rattle.kept_faults.proofs.Kept.{aligned, kept_from, kept_or_gone}
use Rattle.kept_faults.proofs.Names.{same_log, order_to, order_from}

-- what a record with another number is a receipt for
receipt_map : {A : Type 0} (f : A → A) (receipt_of : A → Option Name) (rename : Name → Name) → ((x : A) → receipt_of (f x) ≡ option_map rename (receipt_of x)) → (log : List A) (n : ℕ) → if_there receipt_of (slice_get (map f log) n) ≡ option_map rename (if_there receipt_of (slice_get log n))
receipt_map {A} f receipt_of rename same log n = ap (if_there receipt_of) (slice_get-map f log n) ∙ go (slice_get log n)
  where
    go : (o : Option A) → if_there receipt_of (option_map f o) ≡ option_map rename (if_there receipt_of o)
    go None = refl
    go (Some x) = same x

receipt_same : {A : Type 0} (receipt_of : A → Option Name) (rename : Name → Name) → ((x : A) → receipt_of x ≡ option_map rename (receipt_of x)) → (o : Option A) → if_there receipt_of o ≡ option_map rename (if_there receipt_of o)
receipt_same receipt_of rename same None = refl
receipt_same receipt_of rename same (Some x) = same x

named_from : (rename : Name → Name) (o : Option Name) (new : Name) → option_map rename o ≡ Some new → (old : Name) × (o ≡ Some old) × (rename old ≡ new)
named_from rename None new e = absurd (cc)
named_from rename (Some old) new e = let same : rename old ≡ new = cc in (old, refl, same)

module _ (marks : List Bool) (s : Recorded) (thin : IsThinning marks s) where
  guest_alike : (x : GuestRec) → guest_receipt x ≡ option_map (thin_name marks) (guest_receipt x)
  guest_alike (Read v p c y) = refl
  guest_alike (Write v p c y) = refl
  guest_alike (Release v p) = refl
  guest_alike (Miss v p) = refl
  guest_alike Halt = refl
  guest_alike (Resume i) = refl
  guest_alike (See k) = refl

  source_alike : (x : SourceRec) → source_receipt (thin_source marks x) ≡ option_map (thin_name marks) (source_receipt x)
  source_alike (Halted i) = refl
  source_alike State = refl
  source_alike (Send p content) = refl
  source_alike (Again i) = refl
  source_alike (Ask i) = refl
  source_alike Done = refl
  source_alike Back = refl

  link_alike : (x : LinkRec) → link_receipt x ≡ option_map (thin_name marks) (link_receipt x)
  link_alike (Down i) = refl
  link_alike (Up i) = refl

  lane_alike : (x : LaneRec) → lane_receipt x ≡ option_map (thin_name marks) (lane_receipt x)
  lane_alike (LaneDown i) = refl

  pager_alike : (x : PagerRec) → pager_receipt (thin_pager marks x) ≡ option_map (thin_name marks) (pager_receipt x)
  pager_alike (Fault i) = refl
  pager_alike (Got i) = refl
  pager_alike (Pull i) = refl
  pager_alike Ready = refl
  pager_alike (Join i) = refl
  pager_alike (Want p) = refl
  pager_alike (Place p got content) = refl
  pager_alike (Zero p) = refl
  pager_alike (Skip i) = refl
  pager_alike All = refl

  -- a kept record is a receipt for the record that it was one for
  same_receipt : (name : Name) → IsKept marks name → receipt (thinned marks s) (thin_name marks name) ≡ option_map (thin_name marks) (receipt s name)
  same_receipt (Guest, n) mark = go (slice_get s.guest n) refl
    where
      go : (o : Option GuestRec) → slice_get s.guest n ≡ o → if_there guest_receipt (slice_get (thinned marks s).guest (rank marks n)) ≡ option_map (thin_name marks) (if_there guest_receipt (slice_get s.guest n))
      go None is = absurd (is_there marks s.guest (aligned marks s thin) n mark is)
      go (Some x) is = ap (if_there guest_receipt) (kept_at marks s.guest n x is mark) ∙ guest_alike x ∙ sym (ap (λ o. option_map (thin_name marks) (if_there guest_receipt o)) is)
  same_receipt (Source, n) mark = receipt_map (thin_source marks) source_receipt (thin_name marks) source_alike s.source n
  same_receipt (Link, n) mark = receipt_same link_receipt (thin_name marks) link_alike (slice_get s.link n)
  same_receipt (Lane, n) mark = receipt_same lane_receipt (thin_name marks) lane_alike (slice_get s.lane n)
  same_receipt (Pager, n) mark = receipt_map (thin_pager marks) pager_receipt (thin_name marks) pager_alike s.pager n

  -- a record that goes is no receipt
  gone_receipt : (n : ℕ) (x : GuestRec) → slice_get s.guest n ≡ Some x → MayGo marks s n x → receipt s (Guest, n) ≡ None
  gone_receipt n x is h = ap (if_there guest_receipt) is ∙ go x h
    where
      go : (x : GuestRec) → MayGo marks s n x → guest_receipt x ≡ None
      go (Read v p c y) h = refl
      go (Write v p c y) h = refl
      go x h = absurd h

  -- the logs other than the guest's keep their lengths
  pub same_length : (l : LogName) → (thin_name marks (l, log_length s l)).1 ≡ log_length (thinned marks s) l
  same_length Guest = sym (kept_length marks s.guest (aligned marks s thin))
  same_length Source = sym (length-map s.source (thin_source marks))
  same_length Link = refl
  same_length Lane = refl
  same_length Pager = sym (length-map s.pager (thin_pager marks))

  -- what a record is a receipt for is kept, if it exists
  sent_kept : (name sent : Name) → receipt s name ≡ Some sent → sent.1 < log_length s sent.0 → IsKept marks sent
  sent_kept name (Guest, n) e lt = let r = there s.guest n (length s.guest) lt (omega arith) in go (kept_or_gone marks s thin n r.0 r.1)
    where
      go : (slice_get marks n ≡ Some true) ⊎ (slice_get marks n ≡ Some false) → slice_get marks n ≡ Some true
      go (inl mark) = mark
      go (inr gone) = absurd (thin.is_unnamed name n e gone)
  sent_kept name (Source, n) e lt = tt
  sent_kept name (Link, n) e lt = tt
  sent_kept name (Lane, n) e lt = tt
  sent_kept name (Pager, n) e lt = tt

  -- the cut of thinned logs at a cut of the session
  abbrev thin_cut : Cursors → Cursors
  thin_cut c l = (thin_name marks (l, c l)).1

  -- a next record that may follow with thinned logs may follow in the session
  follows : (c : Cursors) (l : LogName) → IsKept marks (l, c l) → c l < log_length s l → ((sent : Name) → receipt (thinned marks s) (thin_name marks (l, c l)) ≡ Some sent → sent.1 < thin_cut c sent.0) → MayFollow s c (l, c l)
  follows c l kept lt before = record {
    is_next = refl;
    is_there = lt;
    sent_before = λ sent e.
        let new = before (thin_name marks sent) (same_receipt (l, c l) kept ∙ ap (option_map (thin_name marks)) e) in
        order_from marks sent.0 sent.1 (c sent.0) (subst (λ k. (thin_name marks sent).1 < thin_cut c k) (same_log marks sent) new);
  }

  gone_follows : (c : Cursors) (x : GuestRec) → slice_get s.guest (c Guest) ≡ Some x → slice_get marks (c Guest) ≡ Some false → MayFollow s c (Guest, c Guest)
  gone_follows c x is gone = record {
    is_next = refl;
    is_there = slice_get_within s.guest (c Guest) x is;
    sent_before = λ sent e. let none = gone_receipt (c Guest) x is (thin.may_go (c Guest) x is gone) in absurd (cc);
  }

  -- where the session is stuck, so are thinned logs
  stuck_to : (c : Cursors) → IsStuckAt s c → IsStuckAt (thinned marks s) (thin_cut c)
  stuck_to c at = record {
    within = λ l. within l;
    is_stuck = λ name may. stuck name may;
    log = at.log;
    is_left = left at.log at.is_left;
  }
    where
      within : (l : LogName) → thin_cut c l ≤ log_length (thinned marks s) l
      within Guest = let all = same_length Guest in let up = rank_up marks (c Guest) (length s.guest) (at.within Guest) in omega (arith, all, up)
      within Source = let all = same_length Source in let le = at.within Source in omega (arith, all, le)
      within Link = at.within Link
      within Lane = at.within Lane
      within Pager = let all = same_length Pager in let le = at.within Pager in omega (arith, all, le)

      -- the guest's next record is kept, since one that goes may follow
      next_kept : c Guest < length s.guest → slice_get marks (c Guest) ≡ Some true
      next_kept lt = let r = there s.guest (c Guest) (length s.guest) lt (omega arith) in go r.0 r.1 (kept_or_gone marks s thin (c Guest) r.0 r.1)
        where
          go : (x : GuestRec) → slice_get s.guest (c Guest) ≡ Some x → (slice_get marks (c Guest) ≡ Some true) ⊎ (slice_get marks (c Guest) ≡ Some false) → slice_get marks (c Guest) ≡ Some true
          go x is (inl mark) = mark
          go x is (inr gone) = absurd (at.is_stuck (Guest, c Guest) (gone_follows c x is gone))

      left : (l : LogName) → c l < log_length s l → thin_cut c l < log_length (thinned marks s) l
      left Guest lt = let all = same_length Guest in let less = rank_less marks (c Guest) (length s.guest) (next_kept lt) lt in omega (arith, all, less)
      left Source lt = let all = same_length Source in omega (arith, all, lt)
      left Link lt = lt
      left Lane lt = lt
      left Pager lt = let all = same_length Pager in omega (arith, all, lt)

      -- the next record of a log that has one left, in the session
      old_left : (l : LogName) → thin_cut c l < log_length (thinned marks s) l → c l < log_length s l
      old_left l lt = order_from marks l (c l) (log_length s l) (subst (λ k. thin_cut c l < k) (sym (same_length l)) lt)

      kept_next : (l : LogName) → c l < log_length s l → IsKept marks (l, c l)
      kept_next Guest lt = next_kept lt
      kept_next Source lt = tt
      kept_next Link lt = tt
      kept_next Lane lt = tt
      kept_next Pager lt = tt

      stuck : IsStuck (thinned marks s) (thin_cut c)
      stuck name may =
          let there = subst (λ k. k < log_length (thinned marks s) name.0) may.is_next may.is_there in
          let lt = old_left name.0 there in
          let kept = kept_next name.0 lt in
          at.is_stuck (name.0, c name.0) (follows c name.0 kept lt (λ sent e. may.sent_before sent (same_named name.0 name.1 may.is_next e)))
        where
          same_named : (l : LogName) (n : ℕ) → n ≡ thin_cut c l → {o : Option Name} → receipt (thinned marks s) (thin_name marks (l, c l)) ≡ o → receipt (thinned marks s) (l, n) ≡ o
          same_named Guest n e f = ap (λ k. receipt (thinned marks s) (Guest, k)) e ∙ f
          same_named Source n e f = ap (λ k. receipt (thinned marks s) (Source, k)) e ∙ f
          same_named Link n e f = ap (λ k. receipt (thinned marks s) (Link, k)) e ∙ f
          same_named Lane n e f = ap (λ k. receipt (thinned marks s) (Lane, k)) e ∙ f
          same_named Pager n e f = ap (λ k. receipt (thinned marks s) (Pager, k)) e ∙ f

  -- so where thinned logs have a merging, the session has one
  merging_from : HasMerging (thinned marks s) → HasMerging s
  merging_from has = go (merges_or_stuck s)
    where
      go : HasMerging s ⊎ ((c : Cursors) × IsStuckAt s c) → HasMerging s
      go (inl merging) = merging
      go (inr stuck) = absurd (stuck_has_none (thinned marks s) (thin_cut stuck.0) (stuck_to stuck.0 stuck.1) has)

  -- where thinned logs are stuck, so is the session: at the record that the guest's next one was, or at the log's end
  record IsPlaceOf (k n : ℕ) : Type 0 where
    pub is_rank : rank marks n ≡ k
    pub within : n ≤ length s.guest
    pub is_kept : n < length s.guest → slice_get marks n ≡ Some true
    pub is_left : k < length (thinned marks s).guest → n < length s.guest

  place_of : (k : ℕ) → k ≤ length (thinned marks s).guest → (n : ℕ) × IsPlaceOf k n
  place_of k within = go (cases_lt k (length (thinned marks s).guest))
    where
      inside : (x : GuestRec) → slice_get (thinned marks s).guest k ≡ Some x → (n : ℕ) × IsPlaceOf k n
      inside x is =
          let f = kept_from marks s.guest k x is in
          let lt = slice_get_within s.guest f.0 x f.1 in
          (f.0, record { is_rank = f.3; within = omega (arith, lt); is_kept = λ l. f.2; is_left = λ l. lt })

      go : (k < length (thinned marks s).guest) ⊎ (length (thinned marks s).guest ≤ k) → (n : ℕ) × IsPlaceOf k n
      go (inl lt) = let r = there (thinned marks s).guest k (length (thinned marks s).guest) lt (omega arith) in inside r.0 r.1
      go (inr le) =
          let all = kept_length marks s.guest (aligned marks s thin) in
          (length s.guest, record { is_rank = omega (arith, le, within, all); within = omega arith; is_kept = λ l. absurd (omega (arith, l)); is_left = λ l. absurd (omega (arith, l, le)) })

  -- the cut of the session at a cut of thinned logs
  abbrev whole_cut : ℕ → Cursors → Cursors
  whole_cut n d Guest = n
  whole_cut n d Source = d Source
  whole_cut n d Link = d Link
  whole_cut n d Lane = d Lane
  whole_cut n d Pager = d Pager

  stuck_from : (d : Cursors) → IsStuckAt (thinned marks s) d → (n : ℕ) → IsPlaceOf (d Guest) n → IsStuckAt s (whole_cut n d)
  stuck_from d at n place = record {
    within = λ l. within l;
    is_stuck = λ name may. stuck name may;
    log = at.log;
    is_left = left at.log at.is_left;
  }
    where
      within : (l : LogName) → whole_cut n d l ≤ log_length s l
      within Guest = place.within
      within Source = let all = same_length Source in let le = at.within Source in omega (arith, all, le)
      within Link = at.within Link
      within Lane = at.within Lane
      within Pager = let all = same_length Pager in let le = at.within Pager in omega (arith, all, le)

      left : (l : LogName) → d l < log_length (thinned marks s) l → whole_cut n d l < log_length s l
      left Guest lt = place.is_left lt
      left Source lt = let all = same_length Source in omega (arith, all, lt)
      left Link lt = lt
      left Lane lt = lt
      left Pager lt = let all = same_length Pager in omega (arith, all, lt)

      kept_next : (l : LogName) → whole_cut n d l < log_length s l → IsKept marks (l, whole_cut n d l)
      kept_next Guest lt = place.is_kept lt
      kept_next Source lt = tt
      kept_next Link lt = tt
      kept_next Lane lt = tt
      kept_next Pager lt = tt

      same_cut : (l : LogName) → thin_cut (whole_cut n d) l ≡ d l
      same_cut Guest = place.is_rank
      same_cut Source = refl
      same_cut Link = refl
      same_cut Lane = refl
      same_cut Pager = refl

      same_next : (l : LogName) {o : Option Name} → receipt (thinned marks s) (l, d l) ≡ o → receipt (thinned marks s) (thin_name marks (l, whole_cut n d l)) ≡ o
      same_next Guest e = ap (λ k. receipt (thinned marks s) (Guest, k)) place.is_rank ∙ e
      same_next Source e = e
      same_next Link e = e
      same_next Lane e = e
      same_next Pager e = e

      follows_thin : (l : LogName) → whole_cut n d l < log_length s l → ((sent : Name) → receipt s (l, whole_cut n d l) ≡ Some sent → sent.1 < whole_cut n d sent.0) → MayFollow (thinned marks s) d (l, d l)
      follows_thin l lt before = record {
        is_next = refl;
        is_there =
            let less = order_to marks l (whole_cut n d l) (log_length s l) (kept_next l lt) lt in
            subst (λ k. k < log_length (thinned marks s) l) (same_cut l) (subst (λ k. thin_cut (whole_cut n d) l < k) (same_length l) less);
        sent_before = λ new e.
            let old = named_from (thin_name marks) (receipt s (l, whole_cut n d l)) new (sym (same_receipt (l, whole_cut n d l) (kept_next l lt)) ∙ same_next l e) in
            let less = before old.0 old.1 in
            let inside = within old.0.0 in
            let kept = sent_kept (l, whole_cut n d l) old.0 old.1 (omega (arith, less, inside)) in
            let up = order_to marks old.0.0 old.0.1 (whole_cut n d old.0.0) kept less in
            let at_new : (thin_name marks old.0).1 < d old.0.0 = subst (λ k. (thin_name marks old.0).1 < k) (same_cut old.0.0) up in
            let in_log : (thin_name marks old.0).1 < d (thin_name marks old.0).0 = subst (λ k. (thin_name marks old.0).1 < d k) (sym (same_log marks old.0)) at_new in
            subst (λ (name : Name). name.1 < d name.0) old.2 in_log;
      }

      stuck : IsStuck s (whole_cut n d)
      stuck name may =
          let lt = subst (λ k. k < log_length s name.0) may.is_next may.is_there in
          at.is_stuck (name.0, d name.0) (follows_thin name.0 lt (λ sent e. may.sent_before sent (ap (λ k. receipt s (name.0, k)) may.is_next ∙ e)))

  merging_to : HasMerging s → HasMerging (thinned marks s)
  merging_to has = go (merges_or_stuck (thinned marks s))
    where
      go : HasMerging (thinned marks s) ⊎ ((d : Cursors) × IsStuckAt (thinned marks s) d) → HasMerging (thinned marks s)
      go (inl merging) = merging
      go (inr stuck) =
          let place = place_of (stuck.0 Guest) (stuck.1.within Guest) in
          absurd (stuck_has_none s (whole_cut place.0 stuck.0) (stuck_from stuck.0 stuck.1 place.0 place.1) has)

  pub same_mergings : HasMerging s ↔ HasMerging (thinned marks s)
  same_mergings = (merging_to, merging_from)
