-- The answers of the commands, also if they ask for a complete session.
use Rattle.std.specs.Prelude.{◌≡◌, ℕ, List, Option, Some, None, ◌⊎◌}
use Rattle.text_lines.specs.Text.{IsSpelling}
use Rattle.migration_types.specs.Sessions.{Recorded}
use Rattle.session_log.specs.Grammar.{SpellsSession}
use Rattle.completeness.specs.Complete.{IsComplete, Lacks}
use Rattle.completeness.specs.declared.lack.Extent.{Extent}
use Rattle.completeness.specs.declared.lack.Lack.{Lack}
use Rattle.command_words.specs.declared.requests.VerdictForm.{VerdictForm}
use Rattle.judged_texts.specs.Checked.{OfSpelled}
use Rattle.session_answers.specs.declared.forms.Ask.{Ask}
use Rattle.session_answers.specs.declared.forms.Story.{Story}
use Rattle.session_answers.specs.Forms.{Tells, TellsStory}
use Rattle.session_answers.specs.Judged.{IsJudgedTold}
use Rattle.session_answers.specs.Lacks.{TellsLack, lack_form, story_lack}
use Rattle.audit_report.specs.ToldLines.{own}
use Rattle.judge_commands.specs.Answers.{IsVerdictTold, verdict_lack, verdict_text}

-- The answer stays the plain one: its status is not 0, or the session is complete to this extent.
pub record StaysAnswered (extent : Extent) (IsPlain : List ℕ → ℕ → Type 0) (session text : List ℕ) (status : ℕ) : Type 0 where
  pub is_plain : IsPlain text status
  pub complete : status ≡ 0 → OfSpelled session (IsComplete extent)

-- The plain answer has status 0, but something is missing from the session. The answer says what is missing first, with
-- status 1.
pub record IsLacking (extent : Extent) (IsLackTold : Recorded → Lack → List ℕ → Type 0) (IsPlain : List ℕ → ℕ → Type 0) (session text : List ℕ) (status : ℕ) : Type 0 where
  pub before : List ℕ
  pub was_well : IsPlain before 0
  pub recorded : Recorded
  pub is_spelled : IsSpelling SpellsSession recorded session
  pub lacking : Lack
  pub lacks : Lacks extent recorded lacking
  pub says : IsLackTold recorded lacking text
  pub refused : status ≡ 1

-- the answer of a command that asks for a session that is complete to this extent, given how it says what is missing,
-- and its plain answer
abbrev pub IsCompleteAnswer : Extent → (Recorded → Lack → List ℕ → Type 0) → (List ℕ → ℕ → Type 0) → List ℕ → List ℕ → ℕ → Type 0
IsCompleteAnswer extent IsLackTold IsPlain session text status =
    StaysAnswered extent IsPlain session text status ⊎ IsLacking extent IsLackTold IsPlain session text status

-- the same if an extent is asked for, and otherwise the plain answer
abbrev pub IsDemanded : Option Extent → (Recorded → Lack → List ℕ → Type 0) → (List ℕ → ℕ → Type 0) → List ℕ → List ℕ → ℕ → Type 0
IsDemanded None IsLackTold IsPlain session = IsPlain
IsDemanded (Some extent) IsLackTold IsPlain session = IsCompleteAnswer extent IsLackTold IsPlain session

-- `audit`, `certify` and `explain`: the answer to what is asked about the session
abbrev pub IsAnswered : Ask → List ℕ → List ℕ → ℕ → Type 0
IsAnswered ask session = IsDemanded ask.complete (TellsLack own (lack_form ask.form)) (IsJudgedTold (Tells ask.form) session) session

-- `explain` in this form, with line numbers mapped by this function, if the session must be complete to this extent
abbrev pub IsExplained : (ℕ → ℕ) → Story → Option Extent → List ℕ → List ℕ → ℕ → Type 0
IsExplained tell story complete session = IsDemanded complete (TellsLack tell (story_lack story)) (IsJudgedTold (TellsStory tell story) session) session

-- `check`: the verdict on the two texts in this form, if the session must be complete to this extent
abbrev pub IsChecked : VerdictForm → Option Extent → List ℕ × List ℕ → List ℕ → ℕ → Type 0
IsChecked form complete texts = IsDemanded complete (TellsLack own (verdict_lack form)) (IsVerdictTold (verdict_text form) texts) texts.0
