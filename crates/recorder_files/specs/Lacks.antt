-- What a log lacks.
use Rattle.std.specs.Prelude.{ℕ, Bool, not, ◌&&◌, ◌==◌, nat_lt, if◌then◌else◌, max, List, [], ◌∷◌, ◌++◌, Option, Some, None}
use Rattle.std.specs.List.{list_any}
use Rattle.std.specs.Option.{option_to_list}
use Rattle.recorder_files.specs.declared.lines.Last.{Last}
use Rattle.recorder_files.specs.declared.lines.Last.TheVariants.{End as Closed, Next, Lost}
use Rattle.recorder_files.specs.declared.log_parts.PartEnd.{PartEnd}
use Rattle.recorder_files.specs.declared.log_parts.LogPart.{LogPart}
use Rattle.recorder_files.specs.declared.lacking.LogLack.{LogLack}
use Rattle.recorder_files.specs.declared.lacking.LogLack.TheVariants.{Begin, End, Record, Heir}

-- how many records a log of these parts has: the greatest of their counts
abbrev pub record_count : List LogPart → ℕ
record_count [] = 0
record_count (p ∷ parts) = max p.count (record_count parts)

-- Where a part begins: it has records, and its first is not the one behind those of the parts in front.
abbrev pub begin_lack : ℕ → LogPart → Option LogLack
begin_lack front p = if not (p.first == front) && nat_lt p.first p.count then Some (Begin p.file p.first front) else None

-- one of the later parts begins with this number
abbrev pub is_gone_on : List LogPart → ℕ → Bool
is_gone_on later count = list_any (λ p. p.first == count) later

-- Where a part ends: it was left, closed, or handed over to a later part.
abbrev pub last_lack : List LogPart → ℕ → Last → Option LogLack
last_lack later file (Closed count) = None
last_lack later file (Lost errno) = Some (Record file errno)
last_lack later file (Next count) = if is_gone_on later count then None else Some (Heir file count)

abbrev pub left_lack : List LogPart → ℕ → Option PartEnd → Option LogLack
left_lack later begin None = Some (End begin)
left_lack later begin (Some left) = last_lack later left.file left.last

abbrev pub lacks_at : List LogPart → LogPart → List LogPart → List LogLack
lacks_at before p later = option_to_list (begin_lack (record_count before) p) ++ option_to_list (left_lack later p.file p.left)

-- what is lacking at each of the later parts, which are behind these
abbrev pub lacks_behind : List LogPart → List LogPart → List LogLack
lacks_behind before [] = []
lacks_behind before (p ∷ later) = lacks_at before p later ++ lacks_behind (before ++ p ∷ []) later

-- what a log of these parts lacks, part after part
abbrev pub lacks : List LogPart → List LogLack
lacks parts = lacks_behind [] parts
