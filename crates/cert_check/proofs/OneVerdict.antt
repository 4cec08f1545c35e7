-- There is one verdict on a session and a certificate.
use Rattle.std.proofs.Common.{◌≡◌, ℕ, zero, suc, ◌+◌, ◌<◌, ◌≤◌, ◌⊎◌, inl, inr, List, [], ◌∷◌, take, drop, refl, sym, ap, ◌∙◌, subst, arith}
use Rattle.std.proofs.lemmas.Bool.{cases_lt, cases_order, eq-eqb}
use Rattle.std.proofs.lemmas.List.{take-append-drop}
use Rattle.migration_types.specs.declared.cert.Entry.{Entry}
use Rattle.migration_types.specs.declared.cert.Run.{Run}
use Rattle.migration_types.specs.Certs.{Certified}
use Rattle.migration_types.specs.declared.records.LogName.{LogName}
use Rattle.migration_types.specs.declared.records.LogName.TheVariants.{Guest, Source, Link, Lane, Pager}
use Rattle.migration_types.specs.Receipts.{Name, log_index}
use Rattle.migration_types.specs.Sessions.{Recorded, IsSession, line_of}
use Rattle.audit_model.specs.Names.{log_length}
use Rattle.audit_model.proofs.Cuts.{same_from_test}
use Rattle.merge_runs.proofs.Lines.{lines_rise}
use Rattle.cert_check.proofs.FirstOfAll.{wrong_there}
use Rattle.audit_model.specs.declared.reasons.ShapeReason.{ShapeReason}
use Rattle.audit_model.specs.declared.reasons.ShapeReason.TheVariants.{Phases, Named, Start, SecondSend, Both}
use Rattle.audit_model.specs.Mergings.{at_start, IsMerging, spelled}
use Rattle.audit_model.specs.Reasons.{rank}
use Rattle.audit_model.specs.Shape.{IsRightShape}
use Rattle.audit_model.specs.Walks.{Walks}
use Rattle.audit_model.proofs.Walked.{merging_is_walk}
use Rattle.merge_runs.specs.BadRuns.{IsFirstBadRun}
use Rattle.merge_runs.proofs.Walking.{walks_front, spelled_front, no_whole_walk}
use Rattle.cert_check.specs.declared.verdict.ShapeFault.{ShapeFault}
use Rattle.cert_check.specs.declared.verdict.Verdict.{Verdict}
use Rattle.cert_check.specs.declared.verdict.Verdict.TheVariants.{SessionText, CertText, Shape, Pages, Runs, Page, Yes}
use Rattle.cert_check.specs.Verdicts.{IsShapeFault, IsFirstBadPage, IsVerdict, AreRightEntries, run_line, entry_line}

-- ---- the shape

by_rank : (a b : ShapeReason) → rank a ≡ rank b → a ≡ b
by_rank Phases Phases e = refl
by_rank Phases Named e = absurd (omega arith)
by_rank Phases Start e = absurd (omega arith)
by_rank Phases SecondSend e = absurd (omega arith)
by_rank Phases Both e = absurd (omega arith)
by_rank Named Phases e = absurd (omega arith)
by_rank Named Named e = refl
by_rank Named Start e = absurd (omega arith)
by_rank Named SecondSend e = absurd (omega arith)
by_rank Named Both e = absurd (omega arith)
by_rank Start Phases e = absurd (omega arith)
by_rank Start Named e = absurd (omega arith)
by_rank Start Start e = refl
by_rank Start SecondSend e = absurd (omega arith)
by_rank Start Both e = absurd (omega arith)
by_rank SecondSend Phases e = absurd (omega arith)
by_rank SecondSend Named e = absurd (omega arith)
by_rank SecondSend Start e = absurd (omega arith)
by_rank SecondSend SecondSend e = refl
by_rank SecondSend Both e = absurd (omega arith)
by_rank Both Phases e = absurd (omega arith)
by_rank Both Named e = absurd (omega arith)
by_rank Both Start e = absurd (omega arith)
by_rank Both SecondSend e = absurd (omega arith)
by_rank Both Both e = refl

-- two records of a log that stand at one line are one
one_place : (s : Recorded) (log : LogName) (n m : ℕ) → line_of s (log, n) ≡ line_of s (log, m) → n ≡ m
one_place s Guest n m e = omega (arith, e)
one_place s Source n m e = omega (arith, e)
one_place s Link n m e = omega (arith, e)
one_place s Lane n m e = omega (arith, e)
one_place s Pager n m e = omega (arith, e)

abbrev named : LogName → ℕ → Name
named log n = (log, n)

-- two records that stand at one line are one
one_record : (s : Recorded) → IsSession s → (log other : LogName) (n m : ℕ) → n < log_length s log → m < log_length s other → line_of s (log, n) ≡ line_of s (other, m) → named log n ≡ named other m
one_record s fits log other n m lt below e = go (cases_lt (log_index log) (log_index other)) (cases_lt (log_index other) (log_index log))
  where
    here : log ≡ other → named log n ≡ named other m
    here same = subst (λ (l : LogName). line_of s (log, n) ≡ line_of s (l, m) → named log n ≡ named l m) same (λ is. ap (named log) (one_place s log n m is)) e

    go : (log_index log < log_index other) ⊎ (log_index other ≤ log_index log) → (log_index other < log_index log) ⊎ (log_index log ≤ log_index other) → named log n ≡ named other m
    go (inl less) second = let rise = lines_rise s fits log other n m less lt in absurd (omega (arith, rise, e))
    go (inr le) (inl less) = let rise = lines_rise s fits other log m n less below in absurd (omega (arith, rise, e))
    go (inr le) (inr ge) = here (same_from_test log other (eq-eqb (log_index log) (log_index other) (omega (arith, le, ge))))

one_fault : (s : Recorded) (f g : ShapeFault) → IsSession s → IsShapeFault s f → IsShapeFault s g → f ≡ g
one_fault s f g fits a b = go (a.is_first.is_first g.reason (named g.log g.place) b.is_first.is_wrong) (b.is_first.is_first f.reason (named f.log f.place) a.is_first.is_wrong)
  where
    Is : Name → ShapeReason → Name → ShapeReason → Type 0
    Is n r m q = (line_of s n < line_of s m) ⊎ ((line_of s n ≡ line_of s m) × (rank r ≤ rank q))

    go : Is (f.log, f.place) f.reason (g.log, g.place) g.reason → Is (g.log, g.place) g.reason (f.log, f.place) f.reason → f ≡ g
    go (inl lt) (inl gt) = absurd (omega arith)
    go (inl lt) (inr other) = let same = other.0 in absurd (omega arith)
    go (inr one) (inl gt) = let same = one.0 in absurd (omega arith)
    go (inr one) (inr other) =
        let low = one.1 in
        let high = other.1 in
        let line : f.line ≡ g.line = a.is_line ∙ one.0 ∙ sym b.is_line in
        let reason : f.reason ≡ g.reason = by_rank f.reason g.reason (omega arith) in
        let there = wrong_there s f.reason f.log f.place a.is_first.is_wrong in
        let also = wrong_there s g.reason g.log g.place b.is_first.is_wrong in
        let name = one_record s fits f.log g.log f.place g.place there also one.0 in
        λ i. record { line = line i; log = (name i).0; place = (name i).1; reason = reason i }

no_fault : (s : Recorded) (f : ShapeFault) → IsRightShape s → IsShapeFault s f → ⊥
no_fault s f right fault = let wrong = fault.is_first.is_wrong in let is = right f.reason (named f.log f.place) in absurd (cc)

-- ---- the runs

shorter : {A : Type 0} (m n : ℕ) (xs : List A) → m ≤ n → take m (take n xs) ≡ take m xs
shorter zero n xs le = refl
shorter (suc m) zero xs le = absurd (omega arith)
shorter (suc m) (suc n) [] le = refl
shorter (suc m) (suc n) (x ∷ xs) le = ap (λ l. x ∷ l) (shorter m n xs (omega arith))

-- fewer runs of a walk are one
fewer : (s : Recorded) (runs : List Run) (m n : ℕ) → m ≤ n → Walks s at_start (spelled (take n runs)) → Walks s at_start (spelled (take m runs))
fewer s runs m n le walks =
    let all = take n runs in
    let more = spelled_front at_start (take m all) (drop m all) in
    let whole = subst (λ (rs : List Run). Walks s at_start (spelled rs)) (sym (take-append-drop m all)) walks in
    let front = walks_front s at_start (spelled (take m all)) more.0 (subst (Walks s at_start) more.1 whole) in
    subst (λ (rs : List Run). Walks s at_start (spelled rs)) (shorter m n runs le) front

one_bad_run : (s : Recorded) (runs : List Run) (a b : ℕ) → IsFirstBadRun s runs a → IsFirstBadRun s runs b → a ≡ b
one_bad_run s runs a b one other = elim (cases_order a b) [ inl same ↦ same | inr (inl lt) ↦ absurd (later a b one other lt) | inr (inr gt) ↦ absurd (later b a other one gt) ]
  where
    later : (p q : ℕ) → IsFirstBadRun s runs p → IsFirstBadRun s runs q → p < q → ⊥
    later p q bad next lt = let end = next.within in bad.is_bad (omega arith) (fewer s runs (p + 1) q (omega arith) next.walked)

no_bad_run : (s : Recorded) (runs : List Run) (place : ℕ) → IsMerging s (spelled runs) → IsFirstBadRun s runs place → ⊥
no_bad_run s runs place merging bad = no_whole_walk s runs place bad (merging_is_walk s (spelled runs) merging)

-- ---- the entries

one_bad_page : (s : Recorded) (entries : List Entry) (a b : ℕ) → IsFirstBadPage s entries a → IsFirstBadPage s entries b → a ≡ b
one_bad_page s entries a b one other = elim (cases_order a b) [ inl same ↦ same | inr (inl lt) ↦ absurd (later a b one other lt) | inr (inr gt) ↦ absurd (later b a other one gt) ]
  where
    later : (p q : ℕ) → IsFirstBadPage s entries p → IsFirstBadPage s entries q → p < q → ⊥
    later p q bad next lt = bad.is_wrong (next.right_before p bad.entry lt bad.is)

no_bad_page : (s : Recorded) (entries : List Entry) (page : ℕ) → AreRightEntries s entries → IsFirstBadPage s entries page → ⊥
no_bad_page s entries page right bad = bad.is_wrong (right page bad.entry bad.is)

-- ---- the verdict

pub one_verdict : (s : Recorded) (c : Certified) → IsSession s → (v w : Verdict) → IsVerdict s c v → IsVerdict s c w → v ≡ w
one_verdict s c fits (SessionText line) w a b = absurd a
one_verdict s c fits (CertText line) w a b = absurd a
one_verdict s c fits (Shape f) (SessionText line) a b = absurd b
one_verdict s c fits (Shape f) (CertText line) a b = absurd b
one_verdict s c fits (Shape f) (Shape g) a b = ap Shape (one_fault s f g fits a b)
one_verdict s c fits (Shape f) Pages a b = absurd (no_fault s f b.0 a)
one_verdict s c fits (Shape f) (Runs line) a b = absurd (no_fault s f b.0 a)
one_verdict s c fits (Shape f) (Page line) a b = absurd (no_fault s f b.0 a)
one_verdict s c fits (Shape f) Yes a b = absurd (no_fault s f b.0 a)
one_verdict s c fits Pages (SessionText line) a b = absurd b
one_verdict s c fits Pages (CertText line) a b = absurd b
one_verdict s c fits Pages (Shape g) a b = absurd (no_fault s g a.0 b)
one_verdict s c fits Pages Pages a b = refl
one_verdict s c fits Pages (Runs line) a b = absurd (a.1 b.1)
one_verdict s c fits Pages (Page line) a b = absurd (a.1 b.1)
one_verdict s c fits Pages Yes a b = absurd (a.1 b.1.pages)
one_verdict s c fits (Runs line) (SessionText other) a b = absurd b
one_verdict s c fits (Runs line) (CertText other) a b = absurd b
one_verdict s c fits (Runs line) (Shape g) a b = absurd (no_fault s g a.0 b)
one_verdict s c fits (Runs line) Pages a b = absurd (b.1 a.1)
one_verdict s c fits (Runs line) (Runs other) a b = ap Runs (a.4 ∙ ap (run_line s.geometry.pages) (one_bad_run s c.runs a.2 b.2 a.3 b.3) ∙ sym b.4)
one_verdict s c fits (Runs line) (Page other) a b = absurd (no_bad_run s c.runs a.2 b.2 a.3)
one_verdict s c fits (Runs line) Yes a b = absurd (no_bad_run s c.runs a.2 b.1.merging a.3)
one_verdict s c fits (Page line) (SessionText other) a b = absurd b
one_verdict s c fits (Page line) (CertText other) a b = absurd b
one_verdict s c fits (Page line) (Shape g) a b = absurd (no_fault s g a.0 b)
one_verdict s c fits (Page line) Pages a b = absurd (b.1 a.1)
one_verdict s c fits (Page line) (Runs other) a b = absurd (no_bad_run s c.runs b.2 a.2 b.3)
one_verdict s c fits (Page line) (Page other) a b = ap Page (a.5 ∙ ap entry_line (one_bad_page s c.entries a.3 b.3 a.4 b.4) ∙ sym b.5)
one_verdict s c fits (Page line) Yes a b = absurd (no_bad_page s c.entries a.3 b.1.entries a.4)
one_verdict s c fits Yes (SessionText other) a b = absurd b
one_verdict s c fits Yes (CertText other) a b = absurd b
one_verdict s c fits Yes (Shape g) a b = absurd (no_fault s g a.0 b)
one_verdict s c fits Yes Pages a b = absurd (b.1 a.1.pages)
one_verdict s c fits Yes (Runs other) a b = absurd (no_bad_run s c.runs b.2 a.1.merging b.3)
one_verdict s c fits Yes (Page other) a b = absurd (no_bad_page s c.entries b.3 a.1.entries b.4)
one_verdict s c fits Yes Yes a b = refl
