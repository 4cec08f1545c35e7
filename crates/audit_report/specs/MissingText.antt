-- The line that says what is missing from a session.
use Rattle.std.specs.Prelude.{ℕ, List, [], ◌∷◌, ◌++◌, codes}
use Rattle.std.specs.Fmt.{decimal}
use Rattle.text_lines.specs.Text.{ended}
use Rattle.migration_types.specs.declared.records.LogName.TheVariants.{Pager}
use Rattle.migration_types.specs.Sessions.{Recorded, line_of}
use Rattle.completeness.specs.declared.lack.Lack.{Lack}
use Rattle.completeness.specs.declared.lack.Lack.TheVariants as missing

-- The line that says what is missing, as in "incomplete page 7". If it is a packet that was taken, the line of the
-- record that took it, mapped by a function.
abbrev pub missing_line : (ℕ → ℕ) → Recorded → Lack → List ℕ
missing_line tell s missing.Halt = codes "incomplete halt"
missing_line tell s missing.Returned = codes "incomplete returned"
missing_line tell s missing.Resume = codes "incomplete resume"
missing_line tell s (missing.Page page) = codes "incomplete page " ++ decimal page
missing_line tell s missing.All = codes "incomplete all"
missing_line tell s missing.Done = codes "incomplete done"
missing_line tell s (missing.Taken n) = codes "incomplete line " ++ decimal (tell (line_of s (Pager, n)))

abbrev pub missing_text : (ℕ → ℕ) → Recorded → Lack → List ℕ
missing_text tell s m = ended (missing_line tell s m ∷ [])
