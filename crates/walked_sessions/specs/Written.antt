-- What is written of a recording.
use Rattle.std.specs.Prelude.{◌≡◌, ℕ, ◌≤◌, List, length, Option}
use Rattle.std.specs.Io.KnownBytes.{Appends}
use Rattle.migration_types.specs.declared.version.Version.TheVariants.{Two}
use Rattle.migration_types.specs.Sessions.{Recorded}
use Rattle.text_lines.specs.Text.{ended}
use Rattle.session_grammar.specs.Grammar.{session_lines}
use Rattle.recorder_files.specs.declared.fronts.Front.{Front}
use Rattle.recorder_files.specs.Fronts.{cursors_of, cut_to}

-- the text of such a recording, cut to a front
abbrev pub text_of : Front → Recorded → List ℕ
text_of front s = ended (session_lines (cut_to (cursors_of front) s))

-- each log has as many records as the front has; the first version has no lane
pub record HasRecords (s : Recorded) (cut : Front) : Type 0 where
  pub guest : cut.guest ≤ length s.guest
  pub source : cut.source ≤ length s.source
  pub link : cut.link ≤ length s.link
  pub lane : s.version ≡ Two → cut.lane ≤ length s.lane
  pub pager : cut.pager ≤ length s.pager

-- the text of such a recording, cut to a front of it, was appended; it has this many initial pages
pub record Writes (Is : Recorded → Type 0) (old new : Option (List ℕ)) (front : Front) (init : ℕ) : Type 0 where
  pub s : Recorded
  pub is : Is s
  pub records : HasRecords s front
  pub pages : length s.init ≡ init
  pub text : Appends old new (text_of front s)
