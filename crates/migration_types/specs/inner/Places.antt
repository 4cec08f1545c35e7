-- The lines of the logs' sections in the text of a session.
use Rattle.std.specs.Prelude.{ℕ, zero, suc, ◌+◌, length, get_or}
use Rattle.migration_types.specs.declared.records.LogName.{LogName}
use Rattle.migration_types.specs.declared.records.LogName.TheVariants.{Guest, Source, Link, Lane, Pager}
use Rattle.migration_types.specs.Receipts.{logs}
use Rattle.migration_types.specs.Sessions.{Recorded, lane_lines}

-- how many lines the section of a log has
abbrev pub section_lines : Recorded → LogName → ℕ
section_lines s Guest = 1 + length s.guest
section_lines s Source = 1 + length s.source
section_lines s Link = 1 + length s.link
section_lines s Lane = lane_lines s.version (length s.lane)
section_lines s Pager = 1 + length s.pager

-- how many lines the first logs have, this many of them
abbrev pub lines_before : Recorded → ℕ → ℕ
lines_before s zero = 0
lines_before s (suc n) = lines_before s n + section_lines s (get_or logs n Guest)
