-- Records that wait for one another.
use Rattle.std.proofs.Common.{◌≡◌, ℕ, zero, suc, ◌+◌, ◌<◌, ◌≤◌, ◌⊎◌, inl, inr, Bool, true, false, cond, List, [], ◌∷◌, ◌++◌, length, Option, Some, None, refl, sym, ap, ◌∙◌, subst, arith}
use Rattle.std.specs.Prelude.{slice_get, is_some, IfOk, Result, Ok, Err}
use Rattle.std.specs.declared.alloc.AllocError.{AllocError}
use Rattle.std.proofs.lemmas.Bool.{cases_lt}
use Rattle.std.proofs.lemmas.List.{length_push}
use Rattle.std.proofs.lemmas.Option.{slice_get_within}
use Rattle.migration_types.specs.declared.records.LogName.{LogName}
use Rattle.migration_types.specs.declared.records.LogName.TheVariants.{Guest, Source, Link, Lane, Pager}
use Rattle.migration_types.specs.declared.records.GuestRec.{GuestRec}
use Rattle.migration_types.specs.declared.records.GuestRec.TheVariants.{Read, Write, Release, Miss, Halt, Resume, See}
use Rattle.migration_types.specs.declared.records.SourceRec.{SourceRec}
use Rattle.migration_types.specs.declared.records.SourceRec.TheVariants.{Halted, State, Send, Again, Ask, Done, Back}
use Rattle.migration_types.specs.declared.records.LinkRec.{LinkRec}
use Rattle.migration_types.specs.declared.records.LinkRec.TheVariants.{Down, Up}
use Rattle.migration_types.specs.declared.records.LaneRec.{LaneRec}
use Rattle.migration_types.specs.declared.records.LaneRec.TheVariants.{Down as LaneDown}
use Rattle.migration_types.specs.declared.records.PagerRec.{PagerRec}
use Rattle.migration_types.specs.declared.records.PagerRec.TheVariants.{Got, Pull, Ready, Fault, Join, Want, Place, Zero, Skip, All}
use Rattle.migration_types.specs.Receipts.{Name, guest_receipt, source_receipt, link_receipt, lane_receipt, pager_receipt}
use Rattle.migration_types.specs.Sessions.{Recorded, line_of}
use Rattle.audit_model.specs.declared.reasons.ShapeReason.TheVariants.{Named}
use Rattle.audit_model.specs.Names.{if_there, log_length, receipt, same_log}
use Rattle.audit_model.specs.Shape.{passes, keeps, is_ready, is_placement, is_halt, is_up, goes_down, goes_up, is_down, is_miss, guest_named, source_named, link_named, lane_named, pager_named, IsRightShape}
use Rattle.audit_model.specs.Mergings.{Cursors, at_start}
use Rattle.audit_model.specs.Walks.{MayFollow}
use Rattle.audit_model.specs.FoundOrder.{first_ready, IsKnot}
use Rattle.audit_model.proofs.Cuts.{same_from_test}
use Rattle.audit_model.proofs.Knots.{none_is_stuck}
use Rattle.merge_runs.specs.Taken.{cursors_of, with_cursor}
use Rattle.cert_maker.specs.declared.order.FoundRuns.{FoundRuns}
use Rattle.cert_maker.specs.declared.order.FirstLeft.{FirstLeft}
use Rattle.cert_maker.specs.Orders.{IsTied}
use Rattle.merge_runs.proofs.Logs.{some_left}
use Rattle.session_story.specs.Waits.{IsCircle}
use Rattle.session_story.specs.inner.Waits.{IsNext, AreWaits, AreFound, one_if_none, unfound, IsCircleAt}
use Rattle.session_story.specs.declared.knots.Waiting.{Waiting}
use Rattle.session_story.specs.declared.knots.Knot.{Knot}

passes_there : {A : Type 0} (test : A → Bool) (log : List A) (n : ℕ) → passes test (slice_get log n) ≡ true → n < length log
passes_there test log n e = go (slice_get log n) refl e
  where
    go : (o : Option _) → slice_get log n ≡ o → passes test o ≡ true → n < length log
    go None is f = absurd (cc)
    go (Some r) is f = slice_get_within log n r is

is_there : {A : Type 0} (log : List A) (n : ℕ) → is_some (slice_get log n) ≡ true → n < length log
is_there log n e = go (slice_get log n) refl e
  where
    go : (o : Option _) → slice_get log n ≡ o → is_some o ≡ true → n < length log
    go None is f = absurd (cc)
    go (Some r) is f = slice_get_within log n r is

guest_there : (s : Recorded) (n : ℕ) (sent : Name) (o : Option GuestRec) → keeps (guest_named s) o ≡ true → if_there guest_receipt o ≡ Some sent → sent.1 < log_length s sent.0
guest_there s n sent None k e = absurd (cc)
guest_there s n sent (Some (Read v p c x)) k e = absurd (cc)
guest_there s n sent (Some (Write v p c x)) k e = absurd (cc)
guest_there s n sent (Some (Release v p)) k e = absurd (cc)
guest_there s n sent (Some (Miss v p)) k e = absurd (cc)
guest_there s n sent (Some Halt) k e = absurd (cc)
guest_there s n sent (Some (Resume i)) k e = let same : (Pager, i) ≡ sent = cc in subst (λ (x : Name). x.1 < log_length s x.0) same (passes_there is_ready s.pager i k)
guest_there s n sent (Some (See i)) k e = let same : (Pager, i) ≡ sent = cc in subst (λ (x : Name). x.1 < log_length s x.0) same (passes_there is_placement s.pager i k)

source_there : (s : Recorded) (n : ℕ) (sent : Name) (o : Option SourceRec) → keeps (source_named s n) o ≡ true → if_there source_receipt o ≡ Some sent → sent.1 < log_length s sent.0
source_there s n sent None k e = absurd (cc)
source_there s n sent (Some (Halted i)) k e = let same : (Guest, i) ≡ sent = cc in subst (λ (x : Name). x.1 < log_length s x.0) same (passes_there is_halt s.guest i k)
source_there s n sent (Some State) k e = absurd (cc)
source_there s n sent (Some (Send p x)) k e = absurd (cc)
source_there s n sent (Some (Again i)) k e = absurd (cc)
source_there s n sent (Some (Ask i)) k e = let same : (Link, i) ≡ sent = cc in subst (λ (x : Name). x.1 < log_length s x.0) same (passes_there is_up s.link i k)
source_there s n sent (Some Done) k e = absurd (cc)
source_there s n sent (Some Back) k e = absurd (cc)

link_there : (s : Recorded) (n : ℕ) (sent : Name) (o : Option LinkRec) → keeps (link_named s) o ≡ true → if_there link_receipt o ≡ Some sent → sent.1 < log_length s sent.0
link_there s n sent None k e = absurd (cc)
link_there s n sent (Some (Down i)) k e = let same : (Source, i) ≡ sent = cc in subst (λ (x : Name). x.1 < log_length s x.0) same (passes_there goes_down s.source i k)
link_there s n sent (Some (Up i)) k e = let same : (Pager, i) ≡ sent = cc in subst (λ (x : Name). x.1 < log_length s x.0) same (passes_there goes_up s.pager i k)

lane_there : (s : Recorded) (n : ℕ) (sent : Name) (o : Option LaneRec) → keeps (lane_named s) o ≡ true → if_there lane_receipt o ≡ Some sent → sent.1 < log_length s sent.0
lane_there s n sent None k e = absurd (cc)
lane_there s n sent (Some (LaneDown i)) k e = let same : (Source, i) ≡ sent = cc in subst (λ (x : Name). x.1 < log_length s x.0) same (passes_there goes_down s.source i k)

pager_there : (s : Recorded) (n : ℕ) (sent : Name) (o : Option PagerRec) → keeps (pager_named s n) o ≡ true → if_there pager_receipt o ≡ Some sent → sent.1 < log_length s sent.0
pager_there s n sent None k e = absurd (cc)
pager_there s n sent (Some (Got i)) k e = let same : (Link, i) ≡ sent = cc in subst (λ (x : Name). x.1 < log_length s x.0) same (passes_there is_down s.link i k)
pager_there s n sent (Some (Pull i)) k e = let same : (Lane, i) ≡ sent = cc in subst (λ (x : Name). x.1 < log_length s x.0) same (is_there s.lane i k)
pager_there s n sent (Some Ready) k e = absurd (cc)
pager_there s n sent (Some (Fault i)) k e = let same : (Guest, i) ≡ sent = cc in subst (λ (x : Name). x.1 < log_length s x.0) same (passes_there is_miss s.guest i k)
pager_there s n sent (Some (Join i)) k e = absurd (cc)
pager_there s n sent (Some (Want p)) k e = absurd (cc)
pager_there s n sent (Some (Place p g x)) k e = absurd (cc)
pager_there s n sent (Some (Zero p)) k e = absurd (cc)
pager_there s n sent (Some (Skip i)) k e = absurd (cc)
pager_there s n sent (Some All) k e = absurd (cc)

-- in a session of the right shape a receipt names a record that is there
pub named_there : (s : Recorded) → IsRightShape s → (name sent : Name) → receipt s name ≡ Some sent → sent.1 < log_length s sent.0
named_there s shape (Guest, n) sent e = guest_there s n sent (slice_get s.guest n) (shape Named (Guest, n)) e
named_there s shape (Source, n) sent e = source_there s n sent (slice_get s.source n) (shape Named (Source, n)) e
named_there s shape (Link, n) sent e = link_there s n sent (slice_get s.link n) (shape Named (Link, n)) e
named_there s shape (Lane, n) sent e = lane_there s n sent (slice_get s.lane n) (shape Named (Lane, n)) e
named_there s shape (Pager, n) sent e = pager_there s n sent (slice_get s.pager n) (shape Named (Pager, n)) e

module _ (s : Recorded) (c : Cursors) (stuck : first_ready s c ≡ None) (log : LogName) (left : c log < log_length s log) where
  -- where nothing is ready, the next record of a log is a receipt, and for a record that was not taken
  pub is_receipt : receipt s (log, c log) ≡ None → ⊥
  is_receipt e = none_is_stuck s c stuck (log, c log) (record { is_next = refl; is_there = left; sent_before = λ sent is. let both : None ≡ Some sent = sym e ∙ is in absurd (cc) })

  pub not_taken : (sent : Name) → receipt s (log, c log) ≡ Some sent → c sent.0 ≤ sent.1
  not_taken sent e = go (cases_lt sent.1 (c sent.0))
    where
      follows : sent.1 < c sent.0 → MayFollow s c (log, c log)
      follows lt = record { is_next = refl; is_there = left; sent_before = λ other is. let both : Some sent ≡ Some other = sym e ∙ is in let same : sent ≡ other = cc in subst (λ (x : Name). x.1 < c x.0) same lt }

      go : (sent.1 < c sent.0) ⊎ (c sent.0 ≤ sent.1) → c sent.0 ≤ sent.1
      go (inl lt) = absurd (none_is_stuck s c stuck (log, c log) (follows lt))
      go (inr le) = le

-- ---- one item more

pushed : {A : Type 0} (xs : List A) (x : A) (q : ℕ) (y : A) → slice_get (xs ++ x ∷ []) q ≡ Some y → (slice_get xs q ≡ Some y) ⊎ ((q ≡ length xs) × (x ≡ y))
pushed [] x zero y is = inr (refl, cc)
pushed [] x (suc q) y is = absurd (cc)
pushed (z ∷ xs) x zero y is = inl is
pushed (z ∷ xs) x (suc q) y is = elim (pushed xs x q y is) [ inl h ↦ inl h | inr h ↦ inr (ap suc h.0, h.1) ]

kept : {A : Type 0} (xs : List A) (x : A) (q : ℕ) (y : A) → slice_get xs q ≡ Some y → slice_get (xs ++ x ∷ []) q ≡ Some y
kept [] x q y is = absurd (cc)
kept (z ∷ xs) x zero y is = is
kept (z ∷ xs) x (suc q) y is = kept xs x q y is

at_end : {A : Type 0} (xs : List A) (x : A) → slice_get (xs ++ x ∷ []) (length xs) ≡ Some x
at_end [] x = refl
at_end (z ∷ xs) x = at_end xs x

module _ (s : Recorded) (c : Cursors) (first log : LogName) (waits : List Waiting) (w : Waiting) (are : AreWaits s c first log waits) (is_next : IsNext s c log w) (not_yet : c w.sent_log ≤ w.sent_place) where
  private_next : IsNext s c w.log w
  private_next = record {
    log_is = refl;
    place_is = is_next.place_is ∙ ap c (sym is_next.log_is);
    receives = subst (λ (l : LogName). receipt s (l, c l) ≡ Some (w.sent_log, w.sent_place)) (sym is_next.log_is) is_next.receives;
  }

  pub waits_pushed : AreWaits s c first w.sent_log (waits ++ w ∷ [])
  waits_pushed = record {
    starts = λ y is. start y (pushed waits w 0 y is);
    empty = λ e. absurd (omega (arith, e, length_push waits w));
    each = λ i y is. each i y (pushed waits w i y is);
    goes_on = λ i y other is on. goes_on i y other (pushed waits w i y is) (pushed waits w (suc i) other on);
    ends = λ last y e is. ends last y e (pushed waits w last y is);
  }
    where
      start : (y : Waiting) → (slice_get waits 0 ≡ Some y) ⊎ ((0 ≡ length waits) × (w ≡ y)) → y.log ≡ first
      start y (inl is) = are.starts y is
      start y (inr h) = ap (λ (x : Waiting). x.log) (sym h.1) ∙ is_next.log_is ∙ are.empty (sym h.0)

      each : (i : ℕ) (y : Waiting) → (slice_get waits i ≡ Some y) ⊎ ((i ≡ length waits) × (w ≡ y)) → IsNext s c y.log y × (c y.sent_log ≤ y.sent_place)
      each i y (inl is) = are.each i y is
      each i y (inr h) = subst (λ (x : Waiting). IsNext s c x.log x × (c x.sent_log ≤ x.sent_place)) h.1 (private_next, not_yet)

      goes_on : (i : ℕ) (y other : Waiting) → (slice_get waits i ≡ Some y) ⊎ ((i ≡ length waits) × (w ≡ y)) → (slice_get waits (suc i) ≡ Some other) ⊎ ((suc i ≡ length waits) × (w ≡ other)) → other.log ≡ y.sent_log
      goes_on i y other (inl is) (inl on) = are.goes_on i y other is on
      goes_on i y other (inl is) (inr h) = ap (λ (x : Waiting). x.log) (sym h.1) ∙ is_next.log_is ∙ sym (are.ends i y (sym h.0) is)
      goes_on i y other (inr h) (inl on) = let within = slice_get_within waits (suc i) other on in absurd (omega (arith, within, h.0))
      goes_on i y other (inr h) (inr g) = absurd (omega (arith, h.0, g.0))

      ends : (last : ℕ) (y : Waiting) → length (waits ++ w ∷ []) ≡ suc last → (slice_get waits last ≡ Some y) ⊎ ((last ≡ length waits) × (w ≡ y)) → y.sent_log ≡ w.sent_log
      ends last y e (inl is) = let within = slice_get_within waits last y is in absurd (omega (arith, within, e, length_push waits w))
      ends last y e (inr h) = ap (λ (x : Waiting). x.sent_log) (sym h.1)

  pub found_pushed : (found : Cursors) (n : ℕ) → AreFound waits found → n ≡ length waits + 1 → AreFound (waits ++ w ∷ []) (with_cursor found log n)
  found_pushed found n are_found len m i e = go (same_log log m) refl e
    where
      go : (b : Bool) → same_log log m ≡ b → cond b n (found m) ≡ suc i → (x : Waiting) × (slice_get (waits ++ w ∷ []) i ≡ Some x) × (x.log ≡ m)
      go true same f =
          let at : i ≡ length waits = omega (arith, f, len) in
          (w, subst (λ k. slice_get (waits ++ w ∷ []) k ≡ Some w) (sym at) (at_end waits w), is_next.log_is ∙ same_from_test log m same)
      go false other f = let old = are_found m i f in (old.0, kept waits w i old.0 old.1, old.2)

none_left : (n : ℕ) → 0 < n → one_if_none n ≡ 0
none_left zero lt = absurd (omega arith)
none_left (suc n) lt = refl

pub unfound_less : (found : Cursors) (log : LogName) (n : ℕ) → found log ≡ 0 → 0 < n → unfound (with_cursor found log n) < unfound found
unfound_less found Guest n e lt = let was = ap one_if_none e in let here = none_left n lt in omega (arith, was, here)
unfound_less found Source n e lt = let was = ap one_if_none e in let here = none_left n lt in omega (arith, was, here)
unfound_less found Link n e lt = let was = ap one_if_none e in let here = none_left n lt in omega (arith, was, here)
unfound_less found Lane n e lt = let was = ap one_if_none e in let here = none_left n lt in omega (arith, was, here)
unfound_less found Pager n e lt = let was = ap one_if_none e in let here = none_left n lt in omega (arith, was, here)

-- the records go round
goes_round : (s : Recorded) (c : Cursors) (first : LogName) (line : ℕ) (k : Knot) → IsKnot s line → line ≡ line_of s (first, c first) → IsCircleAt s c first k → IsCircle s k
goes_round s c first line k is_knot is_line at = record {
  some = at.some;
  starts = λ w is. subst (λ (n : ℕ). IsKnot s n) (is_line ∙ sym (start w is)) is_knot;
  receives = λ i w is. let each = (at.waits.each i w is).0 in subst (λ (p : ℕ). receipt s (w.log, p) ≡ Some (w.sent_log, w.sent_place)) (sym each.place_is) each.receives;
  goes_on = λ i w other is on. let log = at.waits.goes_on i w other is on in record {
    log = log;
    place = waits_for w other (at.waits.each i w is).1 (at.waits.each (suc i) other on).0 log;
  };
  closes = λ last w e is. let log = at.log_is ∙ sym (at.waits.ends last w e is) in (
    at.other,
    at.there,
    record {
      log = log;
      place = waits_for w at.other (at.waits.each last w is).1 (at.waits.each k.back at.other at.there).0 log;
    },
  );
}
  where
    start : (w : Waiting) → slice_get k.waits.items 0 ≡ Some w → line_of s (w.log, w.place) ≡ line_of s (first, c first)
    start w is =
        let log = at.waits.starts w is in
        let each = (at.waits.each 0 w is).0 in
        ap (λ (p : ℕ). line_of s (w.log, p)) each.place_is ∙ ap (λ (l : LogName). line_of s (l, c l)) log

    waits_for : (w other : Waiting) → c w.sent_log ≤ w.sent_place → IsNext s c other.log other → other.log ≡ w.sent_log → other.place ≤ w.sent_place
    waits_for w other le next log = let same = next.place_is ∙ ap c log in omega (arith, same, le)

-- behind the found order of a knot
module _ (s : Recorded) (left : FirstLeft) (found : FoundRuns) (tied : IsTied s left found) where
  pub is_stuck : first_ready s (cursors_of found.taken) ≡ None
  is_stuck = ap (λ (c : Cursors). first_ready s c) (sym tied.front.at) ∙ tied.front.is_found_order.is_complete

  pub is_left : cursors_of found.taken left.log < log_length s left.log
  is_left = some_left s (cursors_of found.taken) left.log tied.is_first

  pub goes_round_from : (r : Result Knot AllocError) → IfOk r (IsCircleAt s (cursors_of found.taken) left.log) → IfOk r (IsCircle s)
  goes_round_from (Ok knot) at = goes_round s (cursors_of found.taken) left.log left.line knot tied.is_knot (tied.is_line ∙ ap (λ (p : ℕ). line_of s (left.log, p)) tied.is_next) at
  goes_round_from (Err e) at = tt

-- what is known while the records are gone through
pub record IsGoing (s : Recorded) (c : Cursors) (first log : LogName) (waits : List Waiting) (found : Cursors) : Type 0 where
  pub left : c log < log_length s log
  pub are_waits : AreWaits s c first log waits
  pub are_found : AreFound waits found

pub going_start : (s : Recorded) (c : Cursors) (first : LogName) (waits : List Waiting) (found : Cursors) → waits ≡ [] → found ≡ at_start → c first < log_length s first → IsGoing s c first first waits found
going_start s c first waits found none start left = record {
  left = left;
  are_waits = subst (λ (xs : List Waiting). AreWaits s c first first xs) (sym none) (record {
    starts = λ w is. absurd (cc);
    empty = λ e. refl;
    each = λ i w is. absurd (cc);
    goes_on = λ i w other is on. absurd (cc);
    ends = λ last w e is. absurd (cc);
  });
  are_found = λ log i e. let zeros = ap (λ (d : Cursors). d log) start in absurd (omega (arith, e, zeros));
}

pub going_on : (s : Recorded) (c : Cursors) (first log : LogName) (waits new : List Waiting) (found more : Cursors) (w : Waiting) (n : ℕ) → IsRightShape s → first_ready s c ≡ None → IsGoing s c first log waits found → IsNext s c log w → new ≡ waits ++ w ∷ [] → n ≡ length new → more ≡ with_cursor found log n → IsGoing s c first w.sent_log new more
going_on s c first log waits new found more w n shape stuck going next grown len with = record {
  left = let there = named_there s shape (log, c log) (w.sent_log, w.sent_place) next.receives in omega (arith, there, not_yet);
  are_waits = subst (λ (xs : List Waiting). AreWaits s c first w.sent_log xs) (sym grown) (waits_pushed s c first log waits w going.are_waits next not_yet);
  are_found = subst (λ (d : Cursors). AreFound new d) (sym with) (subst (λ (xs : List Waiting). AreFound xs (with_cursor found log n)) (sym grown) (found_pushed s c first log waits w going.are_waits next not_yet found n going.are_found (len ∙ ap length grown ∙ length_push waits w)));
}
  where
    not_yet : c w.sent_log ≤ w.sent_place
    not_yet = not_taken s c stuck log going.left (w.sent_log, w.sent_place) next.receives

pub none_is_next : (s : Recorded) (c : Cursors) (first log : LogName) (waits : List Waiting) (found : Cursors) → first_ready s c ≡ None → IsGoing s c first log waits found → receipt s (log, c log) ≡ None → ⊥
none_is_next s c first log waits found stuck going e = is_receipt s c stuck log going.left e

-- a log that was found stands among them
pub circle_at : (s : Recorded) (c : Cursors) (first log : LogName) (k : Knot) (found : Cursors) → IsGoing s c first log k.waits.items found → found log ≡ suc k.back → IsCircleAt s c first k
circle_at s c first log k found going e =
    let there = going.are_found log k.back e in
    let within = slice_get_within k.waits.items k.back there.0 there.1 in
    record { log = log; some = omega (arith, within); waits = going.are_waits; other = there.0; there = there.1; log_is = there.2 }
