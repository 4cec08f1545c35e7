-- The answers of the calls that explain, draw, list all faults, and say what is missing.
use Rattle.std.specs.Prelude.{⊤, ◌≡◌, ◌≢◌, ℕ, ◌<◌, ◌⊎◌, List, [], ◌∷◌, length}
use Rattle.std.specs.List.{AllZip}
use Rattle.text_lines.specs.Text.{IsSpelling, IsRefusalLine, ended}
use Rattle.migration_types.specs.Sessions.{Recorded}
use Rattle.session_log.specs.Grammar.{SpellsSession}
use Rattle.audit_report.specs.declared.report.Report.{Report}
use Rattle.audit_report.specs.Reports.{IsReport, ReportFits}
use Rattle.audit_report.specs.RefusalText.{refusal_text}
use Rattle.audit_report.specs.ReportText.{first_line}
use Rattle.audit_report.specs.ToldLines.{own}
use Rattle.audit_report.specs.declared.report.Report.TheVariants as report
use Rattle.completeness.specs.declared.lack.Extent.{Extent}
use Rattle.completeness.specs.Complete.{IsComplete}
use Rattle.judged_texts.specs.declared.auditing.TextAudit.{TextAudit}
use Rattle.judged_texts.specs.declared.auditing.TextAudit.TheVariants.{Refused, Reported}
use Rattle.session_answers.specs.Forms.{Tells}
use Rattle.session_answers.specs.Judged as told
use Rattle.session_answers.specs.Lacks.{IsLack}
use Rattle.session_answers.specs.declared.forms.LackForm.TheVariants.{Line}
use Rattle.order_picture.specs.Svg.{IsPictureText}
use Rattle.postcopy_c.specs.declared.answer.PostcopyAnswer.{PostcopyAnswer}
use Rattle.postcopy_c.specs.declared.showing.ShownAs.{ShownAs}
use Rattle.postcopy_c.specs.declared.showing.ShownAs.TheVariants.{Told, Picture, Lack}
use Rattle.postcopy_c.specs.declared.showing.JudgedText.{JudgedText}
use Rattle.postcopy_c.specs.declared.showing.JudgedText.TheVariants as judged
use Rattle.postcopy_c.specs.declared.showing.Showing.{Showing}
use Rattle.postcopy_c.specs.Numbers.{audited_numbers, numbers}
use Rattle.postcopy_c.specs.Answers.{IsPut, WantsMemory}
use Rattle.postcopy_c.specs.Texts.{AreMeasured, texts_of}

-- the text for a session's text that is refused at this line: in the form of the report, if a report is asked for, and
-- otherwise the line that says so
abbrev pub IsShownRefusal : ShownAs → ℕ → List ℕ → Type 0
IsShownRefusal (Told form) line text = Tells form (told.Refused line) text
IsShownRefusal (Picture topic) line text = text ≡ refusal_text line
IsShownRefusal (Lack extent) line text = text ≡ refusal_text line

-- the line that says what is missing first for this extent, or no text if the session is complete
abbrev pub IsLackText : Extent → Recorded → List ℕ → Type 0
IsLackText extent s text = (IsComplete extent s × (text ≡ [])) ⊎ IsLack own extent Line s text

-- this line for a clean session, and for any other the first line of its report
abbrev pub IsLackByReport : Extent → Recorded → Report → List ℕ → Type 0
IsLackByReport extent s (report.Clean cert) text = IsLackText extent s text
IsLackByReport extent s (report.Shape fault) text = text ≡ ended (first_line (report.Shape fault) ∷ [])
IsLackByReport extent s (report.Knot left found) text = text ≡ ended (first_line (report.Knot left found) ∷ [])
IsLackByReport extent s (report.Faulty line fault order many) text = text ≡ ended (first_line (report.Faulty line fault order many) ∷ [])

-- the text for a session with its report: the report in a form, a picture, or what is missing
abbrev pub IsShownReport : ShownAs → Recorded → Report → List ℕ → Type 0
IsShownReport (Told form) s report text = Tells form (told.Reported s report) text
IsShownReport (Picture topic) s report text = IsPictureText s report topic text
IsShownReport (Lack extent) s report text = IsLackByReport extent s report text

-- the text for what was judged about a session's text
abbrev pub IsShownJudged : ShownAs → JudgedText → List ℕ → Type 0
IsShownJudged shown_as (judged.Refused line) text = IsShownRefusal shown_as line text
IsShownJudged shown_as (judged.Reported s report) text = IsShownReport shown_as s.now report.now text

-- if it is a session, this is its report
abbrev pub IsRightJudged : JudgedText → Type 0
IsRightJudged (judged.Refused line) = ⊤
IsRightJudged (judged.Reported s report) = IsReport s.now report.now × ReportFits report.now

-- the text for this audit of the bytes: the line at which they are refused, or the report on the session that they
-- spell
abbrev pub IsShown : ShownAs → List ℕ → TextAudit → List ℕ → Type 0
IsShown shown_as session (Refused line) text = IsRefusalLine SpellsSession session line × IsShownRefusal shown_as line text
IsShown shown_as session (Reported report) text =
    (s : Recorded) × IsSpelling SpellsSession s session × IsReport s report × IsShownReport shown_as s report text

-- the texts for the report on a session
pub record IsShowingOf (asked : List ShownAs) (s : Recorded) (showing : Showing) : Type 0 where
  pub report : Report
  pub is_report : IsReport s report
  pub is_reported : showing.audited ≡ Reported report
  pub are_shown : AllZip (λ shown_as text. IsShownReport shown_as s report text) asked (texts_of showing.texts)
  pub measured : AreMeasured showing.texts

-- the texts for this audit of the bytes, one for each thing that is asked
abbrev pub AreShown : List ShownAs → List ℕ → TextAudit → List (List ℕ) → Type 0
AreShown asked session audited texts = AllZip (λ shown_as text. IsShown shown_as session audited text) asked texts

-- the texts for an audit of the bytes
pub record IsShowing (asked : List ShownAs) (session : List ℕ) (showing : Showing) : Type 0 where
  pub are_shown : AreShown asked session showing.audited (texts_of showing.texts)
  pub measured : AreMeasured showing.texts

-- the numbers of the audit of the bytes, with the length of the text that shows it, and that text in the room
pub record TellsShown (shown_as : ShownAs) (session before after : List ℕ) (answer : PostcopyAnswer) : Type 0 where
  pub audited : TextAudit
  pub text : List ℕ
  pub is_shown : IsShown shown_as session audited text
  pub are_numbers : answer ≡ audited_numbers audited (length text)
  pub is_put : IsPut text before after

-- what is shown about the bytes, or memory ran out
abbrev pub IsShownAnswer : ShownAs → List ℕ → List ℕ → List ℕ → PostcopyAnswer → Type 0
IsShownAnswer shown_as session before after answer = TellsShown shown_as session before after answer ⊎ WantsMemory before after answer

-- The answer is the one that is shown. Only for a clean session, a text that is not empty says that something is
-- missing, and then the kind is another one.
pub record IsHeld (shown answer : PostcopyAnswer) : Type 0 where
  pub lacks : shown.kind ≡ 2 → 0 < shown.text_len → answer ≡ numbers 17 shown.line shown.reason shown.text_len
  pub complete : shown.kind ≡ 2 → shown.text_len ≡ 0 → answer ≡ shown
  pub other : shown.kind ≢ 2 → answer ≡ shown

-- what is missing from a session for this extent, with a kind of its own
abbrev pub IsMissingAnswer : Extent → List ℕ → List ℕ → List ℕ → PostcopyAnswer → Type 0
IsMissingAnswer extent session before after answer =
    (shown : PostcopyAnswer) × IsShownAnswer (Lack extent) session before after shown × IsHeld shown answer

-- the kinds that say that a session is safe: clean, or clean but not complete
abbrev pub SaysSafe : ℕ → Type 0
SaysSafe kind = (kind ≡ 2) ⊎ (kind ≡ 17)
