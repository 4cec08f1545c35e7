-- The cause of a fault of a page, as a JSON object has it.
use Rattle.std.specs.Prelude.{ℕ, nat_lt, List, [], ◌++◌, Option, Some, None, codes, if◌then◌else◌}
use Rattle.migration_types.specs.Receipts.{Name}
use Rattle.migration_types.specs.Sessions.{Recorded, line_of, log_length}
use Rattle.session_story.specs.Causes.{kind_word}
use Rattle.session_story.specs.declared.causes.Cause.{Cause}
use Rattle.session_story.specs.declared.causes.CauseKind.{CauseKind}
use Rattle.session_answers.specs.JsonText.{opened, record_at, record_in}

-- the line of a record, mapped, if the session has the record
abbrev pub line_shown : (ℕ → ℕ) → Recorded → Name → Option ℕ
line_shown tell s name = if nat_lt name.1 (log_length s name.0) then Some (tell (line_of s name)) else None

-- the record with which a page goes wrong, if there is one
unfoldable pub blamed_at : Name → Option ℕ → List ℕ
blamed_at name None = []
blamed_at name (Some line) = record_at line name.0 name.1

unfoldable pub blamed_told : (ℕ → ℕ) → Recorded → Option Name → List ℕ
blamed_told tell s None = []
blamed_told tell s (Some name) = blamed_at name (line_shown tell s name)

-- the record that this is set against, if there is one, as in ,"against":{"line":12,"log":"guest","record":5}
unfoldable pub against_at : Name → Option ℕ → List ℕ
against_at name None = []
against_at name (Some line) = codes ",\"against\":" ++ opened (codes "line") line ++ record_in name.0 name.1 ++ codes "}"

unfoldable pub against_told : (ℕ → ℕ) → Recorded → Option Name → List ℕ
against_told tell s None = []
against_told tell s (Some name) = against_at name (line_shown tell s name)

-- what comes before the records of a cause
unfoldable pub kind_told : CauseKind → List ℕ
kind_told kind = codes ",\"cause\":{\"kind\":\"" ++ kind_word kind ++ codes "\""

-- the cause, if there is one, as in ,"cause":{"kind":"early","line":13,"log":"guest","record":6}
unfoldable pub cause_told : (ℕ → ℕ) → Recorded → Option Cause → List ℕ
cause_told tell s None = []
cause_told tell s (Some c) = kind_told c.kind ++ blamed_told tell s c.blamed ++ against_told tell s c.against ++ codes "}"
