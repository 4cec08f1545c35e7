-- The first fault of a log is the first of the session where the logs before it have none.
use Rattle.std.proofs.Common.{◌≡◌, ℕ, ◌+◌, ◌<◌, ◌≤◌, ◌⊎◌, inl, inr, Bool, true, false, List, length, get_or, Some, None, refl, sym, ap, ◌∙◌, subst, arith, eq-eqb}
use Rattle.std.proofs.lemmas.Bool.{cases_lt, cases_order}
use Rattle.migration_types.specs.declared.records.LogName.{LogName}
use Rattle.migration_types.specs.declared.records.LogName.TheVariants.{Guest, Source, Link, Lane, Pager}
use Rattle.audit_model.specs.declared.reasons.ShapeReason.{ShapeReason}
use Rattle.audit_model.specs.declared.reasons.ShapeReason.TheVariants.{Phases, Named, Start, SecondSend, Both}
use Rattle.migration_types.specs.Receipts.{Name, log_index, logs}
use Rattle.migration_types.specs.Sessions.{Recorded, IsSession, line_of}
use Rattle.audit_model.specs.Names.{log_length}
use Rattle.audit_model.specs.Shape.{is_right, IsRightShape}
use Rattle.cert_check.specs.Verdicts.{IsShapeFault}
use Rattle.cert_check.specs.declared.verdict.ShapeFault.{ShapeFault}
use Rattle.cert_check.specs.declared.passes.Pass.{Pass}
use Rattle.cert_check.specs.inner.FirstOfLog.{first_reason, reason_at, IsRightLog, IsFirstOfLog}
use Rattle.cert_check.specs.inner.Passes.{IsAt}
use Rattle.audit_model.specs.Reasons.{rank}
use Rattle.audit_model.specs.FirstFault.{IsFirstFault}
use Rattle.audit_model.proofs.Cuts.{same_from_test}
use Rattle.merge_runs.proofs.Lines.{lines_rise}
use Rattle.merge_runs.proofs.Logs.{index_of_place, index_small}
use Rattle.cert_check.proofs.FirstOfLog.{past_end}

-- which of five tests a reason asks for
abbrev test_of : ShapeReason → Bool → Bool → Bool → Bool → Bool → Bool
test_of Phases a b c d f = a
test_of Named a b c d f = b
test_of Start a b c d f = c
test_of SecondSend a b c d f = d
test_of Both a b c d f = f

test_is : (s : Recorded) (r : ShapeReason) (name : Name) → is_right s r name ≡ test_of r (is_right s Phases name) (is_right s Named name) (is_right s Start name) (is_right s SecondSend name) (is_right s Both name)
test_is s Phases name = refl
test_is s Named name = refl
test_is s Start name = refl
test_is s SecondSend name = refl
test_is s Both name = refl

all_true : (r : ShapeReason) (a b c d f : Bool) → first_reason a b c d f ≡ None → test_of r a b c d f ≡ true
all_true r false b c d f e = absurd (cc)
all_true r true false c d f e = absurd (cc)
all_true r true true false d f e = absurd (cc)
all_true r true true true false f e = absurd (cc)
all_true r true true true true false e = absurd (cc)
all_true Phases true true true true true e = refl
all_true Named true true true true true e = refl
all_true Start true true true true true e = refl
all_true SecondSend true true true true true e = refl
all_true Both true true true true true e = refl

pub right_from_none : (s : Recorded) (name : Name) → reason_at s name ≡ None → (r : ShapeReason) → is_right s r name ≡ true
right_from_none s name e r = test_is s r name ∙ all_true r (is_right s Phases name) (is_right s Named name) (is_right s Start name) (is_right s SecondSend name) (is_right s Both name) e

some_reason : (r t : ShapeReason) (a b c d f : Bool) → first_reason a b c d f ≡ Some t → (test_of t a b c d f ≡ false) × (test_of r a b c d f ≡ false → rank t ≤ rank r)
some_reason r t a b c d f e = go a b c d f e
  where
    at : (u : ShapeReason) (a b c d f : Bool) → u ≡ t → test_of u a b c d f ≡ false → (test_of r a b c d f ≡ false → rank u ≤ rank r) → (test_of t a b c d f ≡ false) × (test_of r a b c d f ≡ false → rank t ≤ rank r)
    at u a b c d f same wrong le = (subst (λ v. test_of v a b c d f ≡ false) same wrong, λ h. subst (λ v. rank v ≤ rank r) same (le h))

    least : (r : ShapeReason) → 0 ≤ rank r
    least Phases = omega arith
    least Named = omega arith
    least Start = omega arith
    least SecondSend = omega arith
    least Both = omega arith

    second : (r : ShapeReason) (b c d f : Bool) → test_of r true b c d f ≡ false → 1 ≤ rank r
    second Phases b c d f h = absurd (cc)
    second Named b c d f h = omega arith
    second Start b c d f h = omega arith
    second SecondSend b c d f h = omega arith
    second Both b c d f h = omega arith

    third : (r : ShapeReason) (c d f : Bool) → test_of r true true c d f ≡ false → 2 ≤ rank r
    third Phases c d f h = absurd (cc)
    third Named c d f h = absurd (cc)
    third Start c d f h = omega arith
    third SecondSend c d f h = omega arith
    third Both c d f h = omega arith

    fourth : (r : ShapeReason) (d f : Bool) → test_of r true true true d f ≡ false → 3 ≤ rank r
    fourth Phases d f h = absurd (cc)
    fourth Named d f h = absurd (cc)
    fourth Start d f h = absurd (cc)
    fourth SecondSend d f h = omega arith
    fourth Both d f h = omega arith

    fifth : (r : ShapeReason) (f : Bool) → test_of r true true true true f ≡ false → 4 ≤ rank r
    fifth Phases f h = absurd (cc)
    fifth Named f h = absurd (cc)
    fifth Start f h = absurd (cc)
    fifth SecondSend f h = absurd (cc)
    fifth Both f h = omega arith

    go : (a b c d f : Bool) → first_reason a b c d f ≡ Some t → (test_of t a b c d f ≡ false) × (test_of r a b c d f ≡ false → rank t ≤ rank r)
    go false b c d f e = let h : Phases ≡ t = cc in at Phases false b c d f h refl (λ h. least r)
    go true false c d f e = let h : Named ≡ t = cc in at Named true false c d f h refl (λ h. second r false c d f h)
    go true true false d f e = let h : Start ≡ t = cc in at Start true true false d f h refl (λ h. third r false d f h)
    go true true true false f e = let h : SecondSend ≡ t = cc in at SecondSend true true true false f h refl (λ h. fourth r false f h)
    go true true true true false e = let h : Both ≡ t = cc in at Both true true true true false h refl (λ h. fifth r false h)
    go true true true true true e = absurd (cc)

pub wrong_at : (s : Recorded) (name : Name) (t : ShapeReason) → reason_at s name ≡ Some t → is_right s t name ≡ false
wrong_at s name t e = test_is s t name ∙ (some_reason t t (is_right s Phases name) (is_right s Named name) (is_right s Start name) (is_right s SecondSend name) (is_right s Both name) e).0

pub least_at : (s : Recorded) (name : Name) (t r : ShapeReason) → reason_at s name ≡ Some t → is_right s r name ≡ false → rank t ≤ rank r
least_at s name t r e f = (some_reason r t (is_right s Phases name) (is_right s Named name) (is_right s Start name) (is_right s SecondSend name) (is_right s Both name) e).1 (sym (test_is s r name) ∙ f)

pub none_wrong : {A : Type 0} (s : Recorded) (name : Name) (r : ShapeReason) → reason_at s name ≡ None → is_right s r name ≡ false → A
none_wrong s name r e f = let t = right_from_none s name e r in absurd (cc)

-- the place of a fault is within its log
pub within : (s : Recorded) (log : LogName) (n : ℕ) (t : ShapeReason) → reason_at s (log, n) ≡ Some t → n < log_length s log
within s log n t e = go (cases_lt n (log_length s log))
  where
    go : (n < log_length s log) ⊎ (log_length s log ≤ n) → n < log_length s log
    go (inl l) = l
    go (inr l) = let none = past_end s log n l in absurd (cc)

-- and so is a record that has not the right shape
pub wrong_there : (s : Recorded) (r : ShapeReason) (log : LogName) (n : ℕ) → is_right s r (log, n) ≡ false → n < log_length s log
wrong_there s r log n e = go (cases_lt n (log_length s log))
  where
    go : (n < log_length s log) ⊎ (log_length s log ≤ n) → n < log_length s log
    go (inl l) = l
    go (inr l) = none_wrong s (log, n) r (past_end s log n l) e

abbrev IsAfter : Recorded → ShapeReason → Name → ShapeReason → Name → Type 0
IsAfter s reason name r other = (line_of s name < line_of s other) ⊎ ((line_of s name ≡ line_of s other) × (rank reason ≤ rank r))

pub same_line : (s : Recorded) (log : LogName) (a b : ℕ) → a < b → line_of s (log, a) < line_of s (log, b)
same_line s Guest a b lt = omega arith
same_line s Source a b lt = omega arith
same_line s Link a b lt = omega arith
same_line s Lane a b lt = omega arith
same_line s Pager a b lt = omega arith

-- in one log
same_log_after : (s : Recorded) (log : LogName) (f : ShapeFault) → IsFirstOfLog s log f → (r : ShapeReason) (n : ℕ) → is_right s r (log, n) ≡ false → IsAfter s f.reason (log, f.place) r (log, n)
same_log_after s log f first r n wrong = go (cases_order n f.place)
  where
    go : (n ≡ f.place) ⊎ ((n < f.place) ⊎ (f.place < n)) → IsAfter s f.reason (log, f.place) r (log, n)
    go (inl same) = inr (ap (λ k. line_of s (log, k)) (sym same), least_at s (log, f.place) f.reason r first.is_reason (subst (λ k. is_right s r (log, k) ≡ false) same wrong))
    go (inr (inl lt)) = none_wrong s (log, n) r (first.is_right_below n lt) wrong
    go (inr (inr gt)) = inl (same_line s log f.place n gt)

pub same_index : (a b : LogName) → log_index a ≡ log_index b → a ≡ b
same_index a b e = same_from_test a b (eq-eqb (log_index a) (log_index b) e)

-- no record of the first so many logs has a fault
abbrev pub AreRightLogs : Recorded → ℕ → Type 0
AreRightLogs s count = (log : LogName) → log_index log < count → IsRightLog s log

pub one_more_log : (s : Recorded) (log : LogName) → AreRightLogs s (log_index log) → IsRightLog s log → AreRightLogs s (log_index log + 1)
one_more_log s log before right other lt = go (cases_lt (log_index other) (log_index log))
  where
    go : (log_index other < log_index log) ⊎ (log_index log ≤ log_index other) → IsRightLog s other
    go (inl less) = before other less
    go (inr more) = subst (IsRightLog s) (same_index log other (omega (arith, lt, more))) right

-- the first fault of a log, where the logs before it have none
log_first : (s : Recorded) (log : LogName) (f : ShapeFault) → IsSession s → AreRightLogs s (log_index log) → IsFirstOfLog s log f → IsFirstFault s f.reason (log, f.place)
log_first s log f limits before first = record { is_wrong = wrong_at s (log, f.place) f.reason first.is_reason; is_first = λ r other wrong. go r other wrong (cases_order (log_index log) (log_index other.0)) }
  where
    go : (r : ShapeReason) (other : Name) → is_right s r other ≡ false → (log_index log ≡ log_index other.0) ⊎ ((log_index log < log_index other.0) ⊎ (log_index other.0 < log_index log)) → IsAfter s f.reason (log, f.place) r other
    go r (m, n) wrong (inl same) =
        let own : m ≡ log = same_index m log (sym same) in
        subst (λ (l : LogName). IsAfter s f.reason (log, f.place) r (l, n)) (sym own) (same_log_after s log f first r n (subst (λ (l : LogName). is_right s r (l, n) ≡ false) own wrong))
    go r (m, n) wrong (inr (inl behind)) = inl (lines_rise s limits log m f.place n behind (within s log f.place f.reason first.is_reason))
    go r (m, n) wrong (inr (inr earlier)) = none_wrong s (m, n) r (before m earlier n) wrong

pub first_in_log : (s : Recorded) (log : LogName) (f : ShapeFault) → IsSession s → AreRightLogs s (log_index log) → IsFirstOfLog s log f → IsShapeFault s f
first_in_log s log f limits before first = record {
  is_line = subst (λ (l : LogName). f.line ≡ line_of s (l, f.place)) (sym first.is_log) first.is_line;
  is_first = subst (λ (l : LogName). IsFirstFault s f.reason (l, f.place)) (sym first.is_log) (log_first s log f limits before first);
}

pub shape_right : (s : Recorded) → AreRightLogs s (length logs) → IsRightShape s
shape_right s right r (log, n) = right_from_none s (log, n) (right log (index_small log) n) r

-- the log of this number
pub at_place : (k : ℕ) (ls : List LogName) → ls ≡ logs → k < length logs → log_index (get_or ls k Guest) ≡ k
at_place k ls list lt = ap (λ (xs : List LogName). log_index (get_or xs k Guest)) list ∙ index_of_place k Guest lt

-- the pass is before each log, except the first so many
abbrev pub IsBefore : Recorded → ℕ → Pass → Type 0
IsBefore s count pass = (log : LogName) → count ≤ log_index log → IsAt s log 0 pass

pub before_all : (s : Recorded) (pass : Pass) → IsAt s Guest 0 pass → IsBefore s 0 pass
before_all s pass at Guest le = at
before_all s pass at Source le = at.1
before_all s pass at log le = tt

pub behind_log : (s : Recorded) (log : LogName) (n : ℕ) (pass : Pass) → IsAt s log n pass → IsBefore s (log_index log + 1) pass
behind_log s log n pass at Guest le = absurd (omega (arith, le))
behind_log s Guest n pass at Source le = at.1
behind_log s log n pass at Source le = absurd (omega (arith, le))
behind_log s log n pass at other le = tt
