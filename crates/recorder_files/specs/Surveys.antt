-- What a file says, but for its records' texts.
use Rattle.std.specs.Prelude.{◌≡◌, List, ℕ, Option, Some, length}
use Rattle.recorder_files.specs.declared.lines.Party.{Party}
use Rattle.recorder_files.specs.Said.{RiseTo, Said, Says}
use Rattle.recorder_files.specs.declared.surveying.Surveyed.{Surveyed}

-- This was surveyed of a party's file with these bytes, if they are known, which is of the recording of this name. `next` is the number
-- after that of the last record.
pub record IsSurveyOf (party : Party) (known : Option (List ℕ)) (recording : List ℕ) (s : Surveyed) : Type 0 where
  pub said : Said
  pub says : Says party known (Some said)
  pub named : said.name ≡ recording
  pub opening : s.opening ≡ said.opening
  pub records : s.records ≡ length said.records
  pub next : RiseTo said.opening.first said.records s.next
  pub last : s.last ≡ said.last
