-- The reason at a record, and what is known below the next one.
use Rattle.std.proofs.Common.{not, cond, eqb, ◌≡◌, ℕ, suc, ◌+◌, ◌<◌, ◌≤◌, ◌⊎◌, inl, inr, Bool, true, false, ◌||◌, List, length, Option, Some, None, refl, sym, ap, ◌∙◌, subst, arith}
use Rattle.std.specs.Prelude.{slice_get}
use Rattle.std.proofs.lemmas.Bool.{cases_lt}
use Rattle.std.proofs.lemmas.Option.{slice_get_past}
use Rattle.migration_types.specs.declared.records.LogName.{LogName}
use Rattle.migration_types.specs.declared.records.LogName.TheVariants.{Guest, Source, Link, Lane, Pager}
use Rattle.migration_types.specs.declared.records.SourceRec.{SourceRec}
use Rattle.migration_types.specs.declared.records.SourceRec.TheVariants.{Halted, State, Send, Again, Ask, Done, Back}
use Rattle.migration_types.specs.declared.records.LinkRec.{LinkRec}
use Rattle.migration_types.specs.declared.records.LaneRec.{LaneRec}
use Rattle.migration_types.specs.declared.records.PagerRec.{PagerRec}
use Rattle.audit_model.specs.declared.reasons.ShapeReason.{ShapeReason}
use Rattle.migration_types.specs.Sessions.{Recorded, line_of}
use Rattle.audit_model.specs.Names.{log_length}
use Rattle.page_store.specs.Tables.{Values, values, IsWith}
use Rattle.cert_check.specs.declared.verdict.ShapeFault.{ShapeFault}
use Rattle.audit_model.specs.Flat.{changed}
use Rattle.audit_model.specs.Shape.{keeps, earlier, is_send_of, in_phase, guest_named, source_named, source_start, is_first_send, is_alone, link_named, lane_named, pager_named, pager_start}
use Rattle.cert_check.specs.inner.FirstOfLog.{first_reason, is_unmarked, marked_by, sent_before, AreSent, reason_at, IsRightBelow, IsRightLog, IsFirstOfLog}

-- one more record of a log
pub earlier_more : {A : Type 0} (test : A → Bool) (log : List A) (n : ℕ) (r : A) → slice_get log n ≡ Some r → earlier test log (n + 1) ≡ (test r || earlier test log n)
earlier_more test log n r e =
    let one : n + 1 ≡ suc n = omega arith in
    ap (λ m. earlier test log m) one ∙ ap (λ o. changed (λ x found. test x || found) o (earlier test log n)) e

guest_past : (s : Recorded) (n : ℕ) → length s.guest ≤ n → reason_at s (Guest, n) ≡ None
guest_past s n past = ap (λ o. first_reason (keeps (in_phase s n) o) (keeps (guest_named s) o) true true true) (slice_get_past s.guest n past)

source_past : (s : Recorded) (n : ℕ) → length s.source ≤ n → reason_at s (Source, n) ≡ None
source_past s n past = ap (λ o. first_reason true (keeps (source_named s n) o) (keeps (source_start s n) o) (keeps (is_first_send s n) o) (keeps (is_alone s) o)) (slice_get_past s.source n past)

pub source_reason_at : (s : Recorded) (n : ℕ) (r : SourceRec) → slice_get s.source n ≡ Some r → reason_at s (Source, n) ≡ first_reason true (source_named s n r) (source_start s n r) (is_first_send s n r) (is_alone s r)
source_reason_at s n r e = ap (λ o. first_reason true (keeps (source_named s n) o) (keeps (source_start s n) o) (keeps (is_first_send s n) o) (keeps (is_alone s) o)) e

pub link_reason_at : (s : Recorded) (n : ℕ) (r : LinkRec) → slice_get s.link n ≡ Some r → reason_at s (Link, n) ≡ first_reason true (link_named s r) true true true
link_reason_at s n r e = ap (λ o. first_reason true (keeps (link_named s) o) true true true) e

pub lane_reason_at : (s : Recorded) (n : ℕ) (r : LaneRec) → slice_get s.lane n ≡ Some r → reason_at s (Lane, n) ≡ first_reason true (lane_named s r) true true true
lane_reason_at s n r e = ap (λ o. first_reason true (keeps (lane_named s) o) true true true) e

pub pager_reason_at : (s : Recorded) (n : ℕ) (r : PagerRec) → slice_get s.pager n ≡ Some r → reason_at s (Pager, n) ≡ first_reason true (pager_named s n r) (pager_start s n r) true true
pager_reason_at s n r e = ap (λ o. first_reason true (keeps (pager_named s n) o) (keeps (pager_start s n) o) true true) e

link_past : (s : Recorded) (n : ℕ) → length s.link ≤ n → reason_at s (Link, n) ≡ None
link_past s n past = ap (λ o. first_reason true (keeps (link_named s) o) true true true) (slice_get_past s.link n past)

lane_past : (s : Recorded) (n : ℕ) → length s.lane ≤ n → reason_at s (Lane, n) ≡ None
lane_past s n past = ap (λ o. first_reason true (keeps (lane_named s) o) true true true) (slice_get_past s.lane n past)

pager_past : (s : Recorded) (n : ℕ) → length s.pager ≤ n → reason_at s (Pager, n) ≡ None
pager_past s n past = ap (λ o. first_reason true (keeps (pager_named s n) o) (keeps (pager_start s n) o) true true) (slice_get_past s.pager n past)

pub past_end : (s : Recorded) (log : LogName) (n : ℕ) → log_length s log ≤ n → reason_at s (log, n) ≡ None
past_end s Guest n le = guest_past s n le
past_end s Source n le = source_past s n le
past_end s Link n le = link_past s n le
past_end s Lane n le = lane_past s n le
past_end s Pager n le = pager_past s n le

-- no record of a log has a fault where none has one before its end
pub right_whole : (s : Recorded) (log : LogName) → IsRightBelow s log (log_length s log) → IsRightLog s log
right_whole s log below n = go (cases_lt n (log_length s log))
  where
    go : (n < log_length s log) ⊎ (log_length s log ≤ n) → reason_at s (log, n) ≡ None
    go (inl l) = below n l
    go (inr l) = past_end s log n l

-- one more record of a log that has no fault
pub right_more : (s : Recorded) (log : LogName) (n : ℕ) → IsRightBelow s log n → reason_at s (log, n) ≡ None → IsRightBelow s log (n + 1)
right_more s log n below none k lt = go (cases_lt k n)
  where
    go : (k < n) ⊎ (n ≤ k) → reason_at s (log, k) ≡ None
    go (inl l) = below k l
    go (inr l) = let same : k ≡ n = omega (arith, l, lt) in ap (λ m. reason_at s (log, m)) same ∙ none

-- the first record of a log with a fault, as it is told
pub first_told : (s : Recorded) (log : LogName) (n : ℕ) (reason : ShapeReason) (f : ShapeFault) → f.line ≡ line_of s (log, n) → f.log ≡ log → f.place ≡ n → f.reason ≡ reason → reason_at s (log, n) ≡ Some reason → IsRightBelow s log n → IsFirstOfLog s log f
first_told s log n reason f line of place same is below = record {
  is_line = line ∙ ap (λ m. line_of s (log, m)) (sym place);
  is_log = of;
  is_reason = ap (λ m. reason_at s (log, m)) place ∙ is ∙ ap Some (sym same);
  is_right_below = subst (IsRightBelow s log) (sym place) below;
}

pub source_turn : (s : Recorded) (marks : Values Bool) (n : ℕ) (x : SourceRec) (found : Option ShapeReason) → slice_get s.source n ≡ Some x → AreSent s n marks →
    found ≡ first_reason true (source_named s n x) (source_start s n x) (is_unmarked (values marks) x) (is_alone s x) → reason_at s (Source, n) ≡ found
source_turn s marks n x found is sent e =
    source_reason_at s n x is ∙ ap (λ b. first_reason true (source_named s n x) (source_start s n x) b (is_alone s x)) (first x) ∙ sym e
  where
    first : (x : SourceRec) → is_first_send s n x ≡ is_unmarked (values marks) x
    first (Send p content) = ap (λ (f : ℕ → Bool). not (f p)) (sym sent.values_are)
    first (Halted h) = refl
    first State = refl
    first (Again i) = refl
    first (Ask i) = refl
    first Done = refl
    first Back = refl

pub marks_turn : (s : Recorded) (n : ℕ) (x : SourceRec) (old new : Values Bool) → slice_get s.source n ≡ Some x → AreSent s n old → IsWith old new (marked_by x (values old)) → AreSent s (n + 1) new
marks_turn s n x old new is was on = record {
  pages_are = on.pages ∙ was.pages_are;
  values_are = on.values_are ∙ ap (λ (f : ℕ → Bool). marked_by x f) was.values_are ∙ next;
}
  where
    or_is : (b c : Bool) → cond b true c ≡ (b || c)
    or_is true c = refl
    or_is false c = refl

    also : (x : SourceRec) (p : ℕ) → marked_by x (sent_before s n) p ≡ (is_send_of p x || sent_before s n p)
    also (Send q content) p = or_is (eqb q p) (sent_before s n p)
    also (Halted h) p = refl
    also State p = refl
    also (Again i) p = refl
    also (Ask i) p = refl
    also Done p = refl
    also Back p = refl

    at : (p : ℕ) → marked_by x (sent_before s n) p ≡ sent_before s (n + 1) p
    at p = also x p ∙ sym (earlier_more (is_send_of p) s.source n x is)

    next : marked_by x (sent_before s n) ≡ sent_before s (n + 1)
    next = λ i p. at p i
