-- What is judged of a session with a right certificate, and of a session with no fault.
use Rattle.std.proofs.Common.{◌≡◌, ◌∙◌, ℕ, List, [], ◌∷◌, ◌++◌, refl, sym, ap, subst, codes}
use Rattle.std.specs.List.{AllByRecursion}
use Rattle.text_lines.specs.Text.{ended, IsLine, IsSpelling, IsUnambiguous}
use Rattle.migration_types.specs.Certs.{Certified, IsCert}
use Rattle.migration_types.specs.Sessions.{Recorded, IsSession}
use Rattle.session_log.specs.Grammar.{SpellsSession, session_lines}
use Rattle.session_log.specs.inner.Plain.{plain_session}
use Rattle.session_log.proofs.Values.{sessions_unambiguous}
use Rattle.cert_text.specs.Grammar.{SpellsCert, cert_lines}
use Rattle.audit_model.specs.Certificates.{IsRightCertificate}
use Rattle.audit_model.specs.Laws.{IsFaultless}
use Rattle.audit_model.specs.Mergings.{HasMerging, spelled}
use Rattle.audit_model.specs.Shape.{IsRightShape}
use Rattle.audit_model.proofs.Walked.{merging_is_walk}
use Rattle.merge_runs.proofs.Walking.{no_whole_walk}
use Rattle.cert_check.specs.Verdicts.{IsVerdict}
use Rattle.cert_check.specs.declared.verdict.Verdict.{Verdict}
use Rattle.cert_check.specs.declared.verdict.Verdict.TheVariants as verdict
use Rattle.audit_report.specs.Reports.{IsReport}
use Rattle.audit_report.specs.declared.report.Report.{Report}
use Rattle.audit_report.specs.declared.report.Report.TheVariants as report
use Rattle.judged_texts.specs.Checked.{IsJudged, IsTextVerdict}
use Rattle.command_texts.specs.Cutting.{HasNoEnd, IsCutAtEnd}
use Rattle.judge_commands.proofs.CutOnce.{cut_once}
use Rattle.judge_commands.specs.Answers.{verdict_status}
use Rattle.session_answers.specs.Judged.{IsJudged as IsSessionJudged, Judged as SessionJudged, Refused, Reported, judged_status, report_status}
use Rattle.judge_commands.proofs.Closed.{closed_session}

-- the report on a session with no fault and with a merging
clean_status : (s : Recorded) → IsFaultless s → HasMerging s → (r : Report) → IsReport s r → report_status r ≡ 0
clean_status s f merges (report.Clean cert) is = refl
clean_status s f merges (report.Shape fault) is = let right = f.shape fault.reason (fault.log, fault.place) in let wrong = is.is_first.is_wrong in absurd cc
clean_status s f merges (report.Knot left found) is = absurd (is.1.has_no_merging merges)
clean_status s f merges (report.Faulty line fault order many) is = absurd (f.clean fault.reason (fault.log, fault.place) is.1.is_first.is_fault)

-- and what is judged of its text
pub judged_clean : (s : Recorded) (text : List ℕ) → IsFaultless s → HasMerging s → IsSpelling SpellsSession s text → (j : SessionJudged) → IsSessionJudged text j → judged_status j ≡ 0
judged_clean s text f merges spelled (Refused line) refused = absurd (refused.spells_nothing s spelled)
judged_clean s text f merges spelled (Reported other r) (is_other, is) =
    let same : other ≡ s = sessions_unambiguous.one_value other s text is_other spelled in
    clean_status s f merges r (subst (λ (t : Recorded). IsReport t r) same is)

-- the verdict on a session of the right shape with a right certificate
yes_alone : (s : Recorded) (c : Certified) → IsRightShape s → IsRightCertificate s c → (v : Verdict) → IsVerdict s c v → verdict_status v ≡ 0
yes_alone s c shape right (verdict.SessionText line) is = absurd is
yes_alone s c shape right (verdict.CertText line) is = absurd is
yes_alone s c shape right (verdict.Shape fault) is = let fine = shape fault.reason (fault.log, fault.place) in let wrong = is.is_first.is_wrong in absurd cc
yes_alone s c shape right verdict.Pages is = absurd (is.1 right.pages)
yes_alone s c shape right (verdict.Runs line) is = absurd (no_whole_walk s c.runs is.2 is.3 (merging_is_walk s (spelled c.runs) right.merging))
yes_alone s c shape right (verdict.Page line) is = absurd (is.4.is_wrong (right.entries is.3 is.4.entry is.4.is))
yes_alone s c shape right verdict.Yes is = refl

-- a session and a certificate with their texts
pub record HaveTexts (s : Recorded) (c : Certified) (first second : List ℕ) : Type 0 where
  pub session : IsSpelling SpellsSession s first
  pub cert : IsSpelling SpellsCert c second

module _ (certs : IsUnambiguous SpellsCert) (s : Recorded) (c : Certified) (first second : List ℕ) (texts : HaveTexts s c first second) (shape : IsRightShape s) (right : IsRightCertificate s c) where
  -- what their texts spell is they
  judged : (v : Verdict) → IsJudged first second v → verdict_status v ≡ 0
  judged v is =
      let same : is.recorded ≡ s = sessions_unambiguous.one_value is.recorded s first is.session_is texts.session in
      let alike : is.certified ≡ c = certs.one_value is.certified c second is.cert_is texts.cert in
      yes_alone s c shape right v (subst (λ (x : Certified). IsVerdict s x v) alike (subst (λ (x : Recorded). IsVerdict x is.certified v) same is.verdict_is))

  pub judged_text : (v : Verdict) → IsTextVerdict first second v → verdict_status v ≡ 0
  judged_text (verdict.SessionText line) is = absurd (is.spells_nothing s texts.session)
  judged_text (verdict.CertText line) is = absurd (is.refused.spells_nothing c texts.cert)
  judged_text (verdict.Shape fault) is = judged (verdict.Shape fault) is
  judged_text verdict.Pages is = judged verdict.Pages is
  judged_text (verdict.Runs line) is = judged (verdict.Runs line) is
  judged_text (verdict.Page line) is = judged (verdict.Page line) is
  judged_text verdict.Yes is = judged verdict.Yes is

all_front : (P : List ℕ → Type 0) (xs ys : List (List ℕ)) → AllByRecursion P (xs ++ ys) → AllByRecursion P xs
all_front P [] ys h = tt
all_front P (x ∷ xs) ys h = (h.0, all_front P xs ys h.1)

-- the two texts of a session with its certificate, cut as an input is
pub cut_texts : (s : Recorded) (c : Certified) (text first second : List ℕ) → IsSession s → IsCert c → text ≡ ended (session_lines s) ++ ended (cert_lines c) → IsCutAtEnd text first second → HaveTexts s c first second
cut_texts s c text first second fits cert_fits is cut =
    let closed = closed_session s in
    let lines : AllByRecursion IsLine (closed.before ++ codes "end" ∷ []) = subst (AllByRecursion IsLine) closed.whole (plain_session s (session_lines s) (fits, refl)) in
    let no_end : HasNoEnd closed.before = record { plain = all_front IsLine closed.before (codes "end" ∷ []) lines; none = closed.none } in
    let parts = cut_once text (ended (cert_lines c)) first second closed.before no_end (is ∙ ap (λ (t : List (List ℕ)). ended t ++ ended (cert_lines c)) closed.whole) cut in
    record {
      session = (session_lines s, (fits, refl), parts.0 ∙ ap ended (sym closed.whole));
      cert = (cert_lines c, (cert_fits, refl), parts.1);
    }
