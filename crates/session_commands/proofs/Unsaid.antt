-- What is said of what the logs lack.
use Rattle.std.proofs.Common.{◌≡◌, ℕ, List, [], ◌∷◌, length, refl, arith}
use Rattle.migration_types.specs.declared.records.LogName.{LogName}
use Rattle.migration_types.specs.declared.records.LogName.TheVariants.{Guest, Source, Link, Lane, Pager}
use Rattle.recorder_files.specs.declared.lines.Party.{Party}
use Rattle.recorder_files.specs.declared.lines.Party.TheVariants.{Machine, Of}
use Rattle.session_commands.specs.Logs.{log_in, log_of, HasAll}
use Rattle.session_commands.specs.declared.found.FoundLogs.{FoundLogs}

pub none_in : {A : Type 0} (xs : List A) → length xs ≡ 0 → xs ≡ []
none_in [] none = refl
none_in (x ∷ xs) none = absurd (omega arith)

-- each log has the fact
pub each_log : (P : LogName → Type 0) → P Guest → P Source → P Link → P Lane → P Pager → (log : LogName) → P log
each_log P guest source link lane pager Guest = guest
each_log P guest source link lane pager Source = source
each_log P guest source link lane pager Link = link
each_log P guest source link lane pager Lane = lane
each_log P guest source link lane pager Pager = pager

pub each_party : (logs : FoundLogs) → HasAll logs.machine → ((log : LogName) → HasAll (log_in logs log)) → (party : Party) → HasAll (log_of logs party)
each_party logs machine others Machine = machine
each_party logs machine others (Of log) = others log
