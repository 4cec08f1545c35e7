-- The session that files make: what its records are receipts for, and what the records in the files name.
use Rattle.std.proofs.Common.{◌≡◌, ℕ, zero, suc, ◌+◌, ◌-◌, ◌<◌, ◌≤◌, ◌⊎◌, inl, inr, List, [], ◌∷◌, ◌++◌, length, get_or, Option, Some, None, refl, sym, ap, ◌∙◌, subst, arith, length-append, map}
use Rattle.std.specs.Prelude.{Contains, slice_get, min}
use Rattle.std.specs.Option.{option_to_list}
use Rattle.std.proofs.lemmas.List.{length-map}
use Rattle.std.proofs.lemmas.List.Elements.{Contains-append_cases}
use Rattle.std.proofs.lemmas.Option.{slice_get_within}
use Rattle.migration_types.specs.declared.records.LogName.{LogName}
use Rattle.migration_types.specs.declared.records.LogName.TheVariants.{Guest, Source, Link, Lane, Pager}
use Rattle.migration_types.specs.declared.records.SourceRec.{SourceRec}
use Rattle.migration_types.specs.declared.records.LinkRec.{LinkRec}
use Rattle.migration_types.specs.declared.records.LaneRec.{LaneRec}
use Rattle.migration_types.specs.declared.records.PagerRec.{PagerRec}
use Rattle.migration_types.specs.Names.{receipt_in, if_there}
use Rattle.migration_types.specs.Receipts.{Name, guest_receipt, source_receipt, link_receipt, lane_receipt, pager_receipt}
use Rattle.migration_types.specs.Sessions.{Recorded}
use Rattle.audit_model.specs.Names.{log_length, receipt}
use Rattle.audit_model.specs.Mergings.{Cursors}
use Rattle.recordings.specs.Wide.{guest_of, source_of, link_of, lane_of, pager_of}
use Rattle.recordings.specs.declared.machine.WideMachine.{WideMachine}
use Rattle.recordings.specs.declared.wide.WideInit.{WideInit}
use Rattle.recordings.specs.declared.wide.WideLane.{WideLane}
use Rattle.recordings.specs.declared.wide.WideLink.{WideLink}
use Rattle.recorder_files.specs.declared.delivering.Message.{Message}
use Rattle.recorder_files.specs.declared.delivering.Message.TheVariants.{Down, Up}
use Rattle.recorder_files.specs.Deliveries.{delivered}
use Rattle.recorder_files.specs.Fronts.{IsFront, cut_to}
use Rattle.recorder_files.specs.Told.{told_from, link_packet, lane_packet, request, link_messages, lane_messages, numbered_source, numbered_pager}
use Rattle.recorder_files.specs.declared.raw.RawSource.{RawSource}
use Rattle.recorder_files.specs.declared.raw.RawSource.TheVariants.{Own as OwnSource, AskSent}
use Rattle.recorder_files.specs.declared.raw.RawPager.{RawPager}
use Rattle.recorder_files.specs.declared.raw.RawPager.TheVariants.{Own as OwnPager, GotSent, PullSent}
use Rattle.walked_sessions.specs.Walks.{Bytes, IsRecordingOf, IsUp, IsDown, IsNumberOf, link_delivery, lane_delivery}
use Rattle.kept_faults.specs.FrontLaws.{IsPart}
use Rattle.kept_faults.specs.ToldOrders.{told, named_in, named_by_source, named_by_pager, IsToldOrder}
use Rattle.kept_faults.proofs.Named.{cut_length, same_receipt, sent_there}
use Rattle.kept_faults.proofs.Stations.{many, many_taken, many_up, at_place, stands}
use Rattle.kept_faults.proofs.Woven.{sender, Carries, with_extra, with_taken, Follows, has_more, is_part}

-- ---- receipts in lists

receipt_map : {A B : Type 0} (f : A → B) (receipt_of : B → Option Name) (xs : List A) (n : ℕ) → receipt_in receipt_of (map f xs) n ≡ receipt_in (λ x. receipt_of (f x)) xs n
receipt_map f receipt_of [] n = refl
receipt_map f receipt_of (x ∷ xs) zero = refl
receipt_map f receipt_of (x ∷ xs) (suc n) = receipt_map f receipt_of xs n

receipt_front : {A : Type 0} (receipt_of : A → Option Name) (xs ys : List A) (n : ℕ) → n < length xs → receipt_in receipt_of (xs ++ ys) n ≡ receipt_in receipt_of xs n
receipt_front receipt_of [] ys n lt = absurd (omega (arith, lt))
receipt_front receipt_of (x ∷ xs) ys zero lt = refl
receipt_front receipt_of (x ∷ xs) ys (suc n) lt = receipt_front receipt_of xs ys n (omega (arith, lt))

-- ---- the messages in the records of a log

abbrev some : {X : Type 0} → X → Option X
some x = Some x

in_option : (o : Option Message) (m : Message) → Contains (option_to_list o) m → o ≡ Some m
in_option None m c = absurd (let lt = c.1 in omega (arith, lt))
in_option (Some x) m c = go c.0 c.1 c.2
  where
    go : (k : ℕ) → k < 1 → get_or (x ∷ []) k m ≡ m → Some x ≡ Some m
    go zero lt e = ap (λ (z : Message). some z) e
    go (suc k) lt e = absurd (omega (arith, lt))

told_there : {R : Type 0} (tell : ℕ → R → Option Message) (n : ℕ) (log : List R) (m : Message) → Contains (told_from tell n log) m → (k : ℕ) × (rec : R) × (slice_get log k ≡ Some rec) × (tell (n + k) rec ≡ Some m)
told_there tell n [] m c = absurd (let lt = c.1 in omega (arith, lt))
told_there {R} tell n (rec ∷ log) m c = go (λ d. told_there tell (suc n) log m d) (Contains-append_cases (option_to_list (tell n rec)) (told_from tell (suc n) log) m c)
  where
    go : (Contains (told_from tell (suc n) log) m → (k : ℕ) × (r : R) × (slice_get log k ≡ Some r) × (tell (suc n + k) r ≡ Some m)) → Contains (option_to_list (tell n rec)) m ⊎ Contains (told_from tell (suc n) log) m → (k : ℕ) × (r : R) × (slice_get (rec ∷ log) k ≡ Some r) × (tell (n + k) r ≡ Some m)
    go later (inl d) = let same : n + 0 ≡ n = omega arith in (0, rec, refl, ap (λ (k : ℕ). tell k rec) same ∙ in_option (tell n rec) m d)
    go later (inr d) =
        let f = later d in
        let same : n + suc f.0 ≡ suc n + f.0 = omega arith in
        (suc f.0, f.1, f.2, ap (λ (k : ℕ). tell k f.1) same ∙ f.3)

-- a packet of the link, of the lane, or none of the lane's
link_there : (pager : List RawPager) (source : List RawSource) (sent n : ℕ) → Contains (link_messages pager source) (Down sent n) → slice_get pager n ≡ Some (GotSent sent)
link_there pager source sent n c = go (Contains-append_cases (told_from link_packet 0 pager) (told_from request 0 source) (Down sent n) c)
  where
    packet : (k : ℕ) (rec : RawPager) → slice_get pager k ≡ Some rec → link_packet (0 + k) rec ≡ Some (Down sent n) → slice_get pager n ≡ Some (GotSent sent)
    packet k (OwnPager rec) there e = absurd (cc)
    packet k (PullSent sending) there e = absurd (cc)
    packet k (GotSent sending) there e =
        let number : sending ≡ sent = cc in
        let place : 0 + k ≡ n = cc in
        let at : k ≡ n = omega (arith, place) in
        ap (slice_get pager) (sym at) ∙ there ∙ ap (λ (x : ℕ). some (GotSent x)) number

    none : (k : ℕ) (rec : RawSource) → request (0 + k) rec ≡ Some (Down sent n) → ⊥
    none k (OwnSource rec) e = absurd (cc)
    none k (AskSent asking) e = absurd (cc)

    go : Contains (told_from link_packet 0 pager) (Down sent n) ⊎ Contains (told_from request 0 source) (Down sent n) → slice_get pager n ≡ Some (GotSent sent)
    go (inl d) = let f = told_there link_packet 0 pager (Down sent n) d in packet f.0 f.1 f.2 f.3
    go (inr d) = let f = told_there request 0 source (Down sent n) d in absurd (none f.0 f.1 f.3)

lane_there : (pager : List RawPager) (sent n : ℕ) → Contains (lane_messages pager) (Down sent n) → slice_get pager n ≡ Some (PullSent sent)
lane_there pager sent n c = let f = told_there lane_packet 0 pager (Down sent n) c in packet f.0 f.1 f.2 f.3
  where
    packet : (k : ℕ) (rec : RawPager) → slice_get pager k ≡ Some rec → lane_packet (0 + k) rec ≡ Some (Down sent n) → slice_get pager n ≡ Some (PullSent sent)
    packet k (OwnPager rec) there e = absurd (cc)
    packet k (GotSent sending) there e = absurd (cc)
    packet k (PullSent sending) there e =
        let number : sending ≡ sent = cc in
        let place : 0 + k ≡ n = cc in
        let at : k ≡ n = omega (arith, place) in
        ap (slice_get pager) (sym at) ∙ there ∙ ap (λ (x : ℕ). some (PullSent x)) number

lane_none : (pager : List RawPager) (sent n : ℕ) → Contains (lane_messages pager) (Up sent n) → ⊥
lane_none pager sent n c = let f = told_there lane_packet 0 pager (Up sent n) c in none f.0 f.1 f.3
  where
    none : (k : ℕ) (rec : RawPager) → lane_packet (0 + k) rec ≡ Some (Up sent n) → ⊥
    none k (OwnPager rec) e = absurd (cc)
    none k (GotSent sending) e = absurd (cc)
    none k (PullSent sending) e = absurd (cc)

-- a log is told, or has deliveries, and not both
not_both : {A : Type 0} (log : List A) (messages : List Message) → (log ≡ []) ⊎ (messages ≡ []) → (m : Message) → Contains messages m → length log ≡ 0
not_both log messages (inl none) m c = ap (λ xs. length xs) none
not_both log messages (inr none) m c = absurd (let lt = c.1 in let e : length messages ≡ 0 = ap (λ (ms : List Message). length ms) none in omega (arith, lt, e))

empty : {A : Type 0} (xs : List A) → length xs ≡ 0 → xs ≡ []
empty [] e = refl
empty (x ∷ xs) e = absurd (omega (arith, e))

-- how many deliveries a log has in all
abbrev carried : List Message → List Message → ℕ → LogName → ℕ
carried link lane count Link = many link count
carried link lane count Lane = many lane count
carried link lane count _ = 0

module _ {machine : WideMachine} {initial : List WideInit} {bytes : Bytes} {s : Recorded} (made : IsRecordingOf machine initial bytes s) where
  all : (l : LogName) → log_length s l ≡ told made l + carried (link_messages made.pager made.source) (lane_messages made.pager) (length made.pager) l
  all Guest = ap (λ xs. length xs) made.guests ∙ length-map made.guest guest_of ∙ omega arith
  all Source = made.sources.many ∙ omega arith
  all Link =
      let parts = length-append (map link_of made.link) (map link_delivery (delivered (link_messages made.pager made.source) (length made.pager))) in
      let own = length-map made.link link_of in
      let more = length-map (delivered (link_messages made.pager made.source) (length made.pager)) link_delivery in
      let e = ap (λ (xs : List LinkRec). length xs) made.links in
      omega (arith, e, parts, own, more)
  all Lane =
      let parts = length-append (map lane_of made.lane) (map lane_delivery (delivered (lane_messages made.pager) (length made.pager))) in
      let own = length-map made.lane lane_of in
      let more = length-map (delivered (lane_messages made.pager) (length made.pager)) lane_delivery in
      let e = ap (λ (xs : List LaneRec). length xs) made.lanes in
      omega (arith, e, parts, own, more)
  all Pager = made.pagers.many ∙ omega arith

  -- what a delivery is a receipt for
  link_sends : (p : ℕ) (m : Message) → length made.link ≡ 0 → slice_get (delivered (link_messages made.pager made.source) (length made.pager)) p ≡ Some m → receipt s (Link, p) ≡ sender m
  link_sends p m none e =
      let ds = delivered (link_messages made.pager made.source) (length made.pager) in
      let whole : s.link ≡ map link_delivery ds = made.links ∙ ap (λ (xs : List WideLink). map link_of xs ++ map link_delivery ds) (empty made.link none) in
      ap (λ (xs : List LinkRec). receipt_in link_receipt xs p) whole ∙ receipt_map link_delivery link_receipt ds p ∙ ap (if_there (λ (m : Message). link_receipt (link_delivery m))) e ∙ by m
    where
      by : (m : Message) → link_receipt (link_delivery m) ≡ sender m
      by (Down sent taken) = refl
      by (Up sent taken) = refl

  lane_sends : (p : ℕ) (m : Message) → length made.lane ≡ 0 → slice_get (delivered (lane_messages made.pager) (length made.pager)) p ≡ Some m → receipt s (Lane, p) ≡ sender m
  lane_sends p m none e =
      let ds = delivered (lane_messages made.pager) (length made.pager) in
      let whole : s.lane ≡ map lane_delivery ds = made.lanes ∙ ap (λ (xs : List WideLane). map lane_of xs ++ map lane_delivery ds) (empty made.lane none) in
      ap (λ (xs : List LaneRec). receipt_in lane_receipt xs p) whole ∙ receipt_map lane_delivery lane_receipt ds p ∙ ap (if_there (λ (m : Message). lane_receipt (lane_delivery m))) e ∙ by m (stands (lane_messages made.pager) (length made.pager) p m e).1
    where
      by : (m : Message) → Contains (lane_messages made.pager) m → lane_receipt (lane_delivery m) ≡ sender m
      by (Down sent taken) c = refl
      by (Up sent taken) c = absurd (lane_none made.pager sent taken c)

-- a delivery among those of the pager's first records, of a log with no records of its own
abbrev IsLeft : {machine : WideMachine} {initial : List WideInit} {bytes : Bytes} {s : Recorded} → IsRecordingOf machine initial bytes s → Cursors → LogName → List Message → ℕ → Type 0
IsLeft {s = s} made c log messages p = (told made log ≡ 0) × (log_length s log ≡ told made log + many messages (length made.pager)) × (many messages (min (c Pager) (length made.pager)) ≤ p) × (p < c log)

-- how many of the records that were told are in a front, and how many deliveries
abbrev first_in : {machine : WideMachine} {initial : List WideInit} {bytes : Bytes} {s : Recorded} → IsRecordingOf machine initial bytes s → Cursors → Cursors
first_in made c l = min (c l) (told made l)

abbrev more_in : {machine : WideMachine} {initial : List WideInit} {bytes : Bytes} {s : Recorded} → IsRecordingOf machine initial bytes s → Cursors → Cursors
more_in made c l = c l - min (c l) (told made l)

module _ {machine : WideMachine} {initial : List WideInit} {bytes : Bytes} {s : Recorded} (made : IsRecordingOf machine initial bytes s) (c : Cursors) (cut : Recorded) (within : (l : LogName) → c l ≤ log_length s l) (long : (l : LogName) → log_length cut l ≡ c l) (same : (name : Name) → name.1 < c name.0 → receipt cut name ≡ receipt s name) (inside : (name sent : Name) → name.1 < c name.0 → receipt s name ≡ Some sent → sent.1 < log_length s sent.0 → sent.1 < c sent.0) (later : (log : LogName) (messages : List Message) (p : ℕ) → IsLeft made c log messages p → (sent : Name) → receipt s (log, p) ≡ Some sent → sent.1 < c sent.0) where
  sender_there : (m : Message) (sent : Name) → sender m ≡ Some sent → sent.1 < c sent.0 → sent.1 < first_in made c sent.0
  sender_there (Down x taken) sent is lt =
      let to : (Source, x) ≡ sent = cc in
      let some = within Source in
      let told_all = all made Source in
      let Q : Name → Type 0 = λ z. z.1 < c z.0 → z.1 < first_in made c z.0 in
      subst Q to (λ low. omega (arith, low, some, told_all)) lt
  sender_there (Up x taken) sent is lt =
      let to : (Pager, x) ≡ sent = cc in
      let some = within Pager in
      let told_all = all made Pager in
      let Q : Name → Type 0 = λ z. z.1 < c z.0 → z.1 < first_in made c z.0 in
      subst Q to (λ low. omega (arith, low, some, told_all)) lt

  of_link : Carries cut (first_in made c) (told made) (more_in made c) (named_in made) (length made.pager) Link (link_messages made.pager made.source)
  of_link = record {
    few = let some = within Link in let whole = all made Link in omega (arith, some, whole);
    alone = not_both made.link (link_messages made.pager made.source) made.one_link;
    sends = λ p m none lt e. same (Link, p) (omega (arith, lt)) ∙ link_sends made p m none e;
    packet = λ sent n d. ap (if_there named_by_pager) (link_there made.pager made.source sent n d);
    later = left;
  }
    where
      left : (p : ℕ) → told made Link ≡ 0 → many (link_messages made.pager made.source) (first_in made c Pager) ≤ p → p < more_in made c Link → (sent : Name) → receipt cut (Link, p) ≡ Some sent → sent.1 < first_in made c sent.0
      left p none ge lt sent e =
          let receives : receipt s (Link, p) ≡ Some sent = sym (same (Link, p) (omega (arith, lt))) ∙ e in
          let some = within Link in
          let whole = all made Link in
          let there = at_place (delivered (link_messages made.pager made.source) (length made.pager)) p (omega (arith, lt, some, whole)) in
          sender_there there.0 sent (sym (link_sends made p there.0 none there.1) ∙ receives) (later Link (link_messages made.pager made.source) p (none, whole, ge, omega (arith, lt)) sent receives)

  of_lane : Carries cut (first_in made c) (told made) (more_in made c) (named_in made) (length made.pager) Lane (lane_messages made.pager)
  of_lane = record {
    few = let some = within Lane in let whole = all made Lane in omega (arith, some, whole);
    alone = not_both made.lane (lane_messages made.pager) made.one_lane;
    sends = λ p m none lt e. same (Lane, p) (omega (arith, lt)) ∙ lane_sends made p m none e;
    packet = λ sent n d. ap (if_there named_by_pager) (lane_there made.pager sent n d);
    later = left;
  }
    where
      left : (p : ℕ) → told made Lane ≡ 0 → many (lane_messages made.pager) (first_in made c Pager) ≤ p → p < more_in made c Lane → (sent : Name) → receipt cut (Lane, p) ≡ Some sent → sent.1 < first_in made c sent.0
      left p none ge lt sent e =
          let receives : receipt s (Lane, p) ≡ Some sent = sym (same (Lane, p) (omega (arith, lt))) ∙ e in
          let some = within Lane in
          let whole = all made Lane in
          let there = at_place (delivered (lane_messages made.pager) (length made.pager)) p (omega (arith, lt, some, whole)) in
          sender_there there.0 sent (sym (lane_sends made p there.0 none there.1) ∙ receives) (later Lane (lane_messages made.pager) p (none, whole, ge, omega (arith, lt)) sent receives)

  long_in : (l : LogName) → log_length cut l ≡ first_in made c l + more_in made c l
  long_in l = let e = long l in omega (arith, e)

  alone : (l : LogName) → has_more (more_in made c) l
  alone Guest = let some = within Guest in let whole = all made Guest in omega (arith, some, whole)
  alone Source = let some = within Source in let whole = all made Source in omega (arith, some, whole)
  alone Link = tt
  alone Lane = tt
  alone Pager = let some = within Pager in let whole = all made Pager in omega (arith, some, whole)

  -- ---- what comes after what

  source_follows : (d : Cursors) (n : ℕ) → ((l : LogName) → d l ≤ first_in made c l) → n < first_in made c Source → ((sent : Name) → named_in made (Source, n) ≡ Some sent → sent.1 < d sent.0) → (sent : Name) → receipt s (Source, n) ≡ Some sent → sent.1 < with_extra (more_in made c) (link_messages made.pager made.source) (lane_messages made.pager) d sent.0
  source_follows d n low there before sent is = go told_rec.0 told_rec.1 own_rec.0 own_rec.1 each.0 each.1 each.2
    where
      told_rec : (r : RawSource) × (slice_get made.source n ≡ Some r)
      told_rec = at_place made.source n (omega (arith, there))

      own_rec : (r : SourceRec) × (slice_get s.source n ≡ Some r)
      own_rec = at_place s.source n (let many = made.sources.many in omega (arith, there, many))

      each : (k : ℕ) × IsUp (delivered (link_messages made.pager made.source) (length made.pager)) (length made.pager) n told_rec.0 k × (own_rec.0 ≡ numbered_source k told_rec.0)
      each = made.sources.each n told_rec.0 own_rec.0 told_rec.1 own_rec.1

      go : (raw : RawSource) → slice_get made.source n ≡ Some raw → (rec : SourceRec) → slice_get s.source n ≡ Some rec → (k : ℕ) → IsUp (delivered (link_messages made.pager made.source) (length made.pager)) (length made.pager) n raw k → rec ≡ numbered_source k raw → sent.1 < with_extra (more_in made c) (link_messages made.pager made.source) (lane_messages made.pager) d sent.0
      go (OwnSource r) stands_raw rec stands_rec k number is_rec =
          let names : named_in made (Source, n) ≡ source_receipt (source_of r) = ap (if_there named_by_source) stands_raw in
          let receives : receipt s (Source, n) ≡ source_receipt (source_of r) = ap (if_there source_receipt) stands_rec ∙ ap source_receipt is_rec in
          let lt = before sent (names ∙ sym receives ∙ is) in
          omega (arith, lt)
      go (AskSent asking) stands_raw rec stands_rec k (inl numbered) is_rec =
          let names : named_in made (Source, n) ≡ Some (Pager, asking) = ap (if_there named_by_source) stands_raw in
          let receives : receipt s (Source, n) ≡ Some (Link, k) = ap (if_there source_receipt) stands_rec ∙ ap source_receipt is_rec in
          let asked = before (Pager, asking) names in
          let at = stands (link_messages made.pager made.source) (length made.pager) k (Up asking n) numbered in
          let up = many_up (link_messages made.pager made.source) (suc asking) (d Pager) (omega (arith, asked)) in
          let none = not_both made.link (link_messages made.pager made.source) made.one_link (Up asking n) at.1 in
          let short = slice_get_within (delivered (link_messages made.pager made.source) (length made.pager)) k (Up asking n) numbered in
          let whole = all made Link in
          let lt = inside (Source, n) (Link, k) (omega (arith, there)) receives (omega (arith, short, whole)) in
          let to : (Link, k) ≡ sent = let e : Some (Link, k) ≡ Some sent = sym receives ∙ is in cc in
          subst (λ (z : Name). z.1 < with_extra (more_in made c) (link_messages made.pager made.source) (lane_messages made.pager) d z.0) to (omega (arith, at.0.2, up, none, lt))
      go (AskSent asking) stands_raw rec stands_rec k (inr lost) is_rec =
          let names : named_in made (Source, n) ≡ Some (Pager, asking) = ap (if_there named_by_source) stands_raw in
          let asked = before (Pager, asking) names in
          let few = low Pager in
          absurd (omega (arith, lost.0, asked, few))

  pager_follows : (d : Cursors) (n : ℕ) → n ≡ d Pager → n < first_in made c Pager → ((sent : Name) → named_in made (Pager, n) ≡ Some sent → sent.1 < d sent.0) → (sent : Name) → receipt s (Pager, n) ≡ Some sent → sent.1 < with_taken (more_in made c) (link_messages made.pager made.source) (lane_messages made.pager) d sent.0
  pager_follows d n next there before sent is = go told_rec.0 told_rec.1 own_rec.0 own_rec.1 each.0 each.1 each.2
    where
      told_rec : (r : RawPager) × (slice_get made.pager n ≡ Some r)
      told_rec = at_place made.pager n (omega (arith, there))

      own_rec : (r : PagerRec) × (slice_get s.pager n ≡ Some r)
      own_rec = at_place s.pager n (let many = made.pagers.many in omega (arith, there, many))

      each : (k : ℕ) × IsDown (delivered (link_messages made.pager made.source) (length made.pager)) (delivered (lane_messages made.pager) (length made.pager)) (length made.pager) n told_rec.0 k × (own_rec.0 ≡ numbered_pager k told_rec.0)
      each = made.pagers.each n told_rec.0 own_rec.0 told_rec.1 own_rec.1

      -- a packet that was delivered has been when its taker comes
      packet : (log : LogName) (messages : List Message) (sending k : ℕ) → ((m : Message) → Contains messages m → told made log ≡ 0) → log_length s log ≡ told made log + many messages (length made.pager) → min (c log - min (c log) (told made log)) (many messages (d Pager) + many_taken messages (d Pager)) ≤ with_taken (more_in made c) (link_messages made.pager made.source) (lane_messages made.pager) d log → receipt s (Pager, n) ≡ Some (log, k) → IsNumberOf (delivered messages (length made.pager)) (length made.pager) (Down sending n) k → sent.1 < with_taken (more_in made c) (link_messages made.pager made.source) (lane_messages made.pager) d sent.0
      packet log messages sending k own whole most receives (inr lost) = absurd (omega (arith, lost.0, there))
      packet log messages sending k own whole most receives (inl numbered) =
          let at = stands messages (length made.pager) k (Down sending n) numbered in
          let before_it : many messages n ≡ many messages (d Pager) = ap (many messages) next in
          let here : many_taken messages n ≡ many_taken messages (d Pager) = ap (many_taken messages) next in
          let none = own (Down sending n) at.1 in
          let short = slice_get_within (delivered messages (length made.pager)) k (Down sending n) numbered in
          let lt = inside (Pager, n) (log, k) (omega (arith, there)) receives (omega (arith, short, whole)) in
          let to : (log, k) ≡ sent = let e : Some (log, k) ≡ Some sent = sym receives ∙ is in cc in
          subst (λ (z : Name). z.1 < with_taken (more_in made c) (link_messages made.pager made.source) (lane_messages made.pager) d z.0) to (omega (arith, at.0.2, before_it, here, none, lt, most))

      go : (raw : RawPager) → slice_get made.pager n ≡ Some raw → (rec : PagerRec) → slice_get s.pager n ≡ Some rec → (k : ℕ) → IsDown (delivered (link_messages made.pager made.source) (length made.pager)) (delivered (lane_messages made.pager) (length made.pager)) (length made.pager) n raw k → rec ≡ numbered_pager k raw → sent.1 < with_taken (more_in made c) (link_messages made.pager made.source) (lane_messages made.pager) d sent.0
      go (OwnPager r) stands_raw rec stands_rec k number is_rec =
          let names : named_in made (Pager, n) ≡ pager_receipt (pager_of r) = ap (if_there named_by_pager) stands_raw in
          let receives : receipt s (Pager, n) ≡ pager_receipt (pager_of r) = ap (if_there pager_receipt) stands_rec ∙ ap pager_receipt is_rec in
          let lt = before sent (names ∙ sym receives ∙ is) in
          omega (arith, lt)
      go (GotSent sending) stands_raw rec stands_rec k number is_rec = packet Link (link_messages made.pager made.source) sending k (not_both made.link (link_messages made.pager made.source) made.one_link) (all made Link) (omega arith) (ap (if_there pager_receipt) stands_rec ∙ ap pager_receipt is_rec) number.0
      go (PullSent sending) stands_raw rec stands_rec k number is_rec = packet Lane (lane_messages made.pager) sending k (not_both made.lane (lane_messages made.pager) made.one_lane) (all made Lane) (omega arith) (ap (if_there pager_receipt) stands_rec ∙ ap pager_receipt is_rec) number.1

  follows : Follows cut (first_in made c) (more_in made c) (named_in made) (link_messages made.pager made.source) (lane_messages made.pager)
  follows d (Guest, n) low next there before sent is =
      let names : receipt s (Guest, n) ≡ named_in made (Guest, n) = ap (λ xs. receipt_in guest_receipt xs n) made.guests ∙ receipt_map guest_of guest_receipt made.guest n in
      let lt = before sent (sym names ∙ sym (same (Guest, n) (omega (arith, there))) ∙ is) in
      omega (arith, lt)
  follows d (Source, n) low next there before sent is = source_follows d n low there before sent (sym (same (Source, n) (omega (arith, there))) ∙ is)
  follows d (Link, n) low next there before sent is =
      let names : receipt s (Link, n) ≡ named_in made (Link, n) =
      ap (λ xs. receipt_in link_receipt xs n) made.links
      ∙ receipt_front link_receipt (map link_of made.link) (map link_delivery (delivered (link_messages made.pager made.source) (length made.pager))) n (let e = length-map made.link link_of in omega (arith, there, e))
      ∙ receipt_map link_of link_receipt made.link n in
      let lt = before sent (sym names ∙ sym (same (Link, n) (omega (arith, there))) ∙ is) in
      omega (arith, lt)
  follows d (Lane, n) low next there before sent is =
      let names : receipt s (Lane, n) ≡ named_in made (Lane, n) =
      ap (λ xs. receipt_in lane_receipt xs n) made.lanes
      ∙ receipt_front lane_receipt (map lane_of made.lane) (map lane_delivery (delivered (lane_messages made.pager) (length made.pager))) n (let e = length-map made.lane lane_of in omega (arith, there, e))
      ∙ receipt_map lane_of lane_receipt made.lane n in
      let lt = before sent (sym names ∙ sym (same (Lane, n) (omega (arith, there))) ∙ is) in
      omega (arith, lt)
  follows d (Pager, n) low next there before sent is = pager_follows d n next there before sent (sym (same (Pager, n) (omega (arith, there))) ∙ is)

  has_part : (order : List Name) → IsToldOrder made c order → IsPart cut (told made) order
  has_part order of = is_part cut (first_in made c) (told made) (more_in made c) (named_in made) (length made.pager) (link_messages made.pager made.source) (lane_messages made.pager) of_link of_lane (λ l. omega arith) long_in alone follows order of.each_once_in_order of.named_before

module _ {machine : WideMachine} {initial : List WideInit} {bytes : Bytes} {s : Recorded} (made : IsRecordingOf machine initial bytes s) where
  pub keeps_order : (order : List Name) → IsToldOrder made (log_length s) order → IsPart s (told made) order
  keeps_order = has_part made (log_length s) s (λ l. omega arith) (λ l. refl) (λ name lt. refl) (λ name sent lt e there. there) left
    where
      left : (log : LogName) (messages : List Message) (p : ℕ) → IsLeft made (log_length s) log messages p → (sent : Name) → receipt s (log, p) ≡ Some sent → sent.1 < log_length s sent.0
      left log messages p is sent e =
          let long = made.pagers.many in
          let last : min (length s.pager) (length made.pager) ≡ length made.pager = omega (arith, long) in
          let many_all : many messages (min (length s.pager) (length made.pager)) ≡ many messages (length made.pager) = ap (many messages) last in
          absurd (omega (arith, is.0, is.1, is.2, is.3, many_all))

  -- the same of logs that are cut to a front
  pub keeps_order_in_front : (c : Cursors) → IsFront s c → (order : List Name) → IsToldOrder made c order → IsPart (cut_to c s) (told made) order
  keeps_order_in_front c front = has_part made c (cut_to c s) front.within (cut_length s c front) (same_receipt s c front) (λ name sent lt e there. sent_there s c front name sent lt e) (λ log messages p is sent e. sent_there s c front (log, p) sent is.3 e)
