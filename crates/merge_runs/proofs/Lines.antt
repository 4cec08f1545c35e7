-- Where the text of a session has the logs, one behind the other.
use Rattle.std.proofs.Common.{ℕ, ◌<◌, List, [], ◌∷◌, length, arith}
use Rattle.std.specs.List.{AllByRecursion}
use Rattle.migration_types.specs.declared.records.LogName.{LogName}
use Rattle.migration_types.specs.declared.records.LogName.TheVariants.{Guest, Source, Link, Lane, Pager}
use Rattle.migration_types.specs.declared.records.LaneRec.{LaneRec}
use Rattle.migration_types.specs.declared.records.LaneRec.TheVariants.{Down}
use Rattle.migration_types.specs.declared.version.Version.{Version}
use Rattle.migration_types.specs.declared.version.Version.TheVariants.{One, Two}
use Rattle.migration_types.specs.Extents.{Extent}
use Rattle.migration_types.specs.Receipts.{log_index}
use Rattle.migration_types.specs.Sessions.{Recorded, IsSession, LaneRecFits, lane_lines, line_of}
use Rattle.audit_model.specs.Names.{log_length}
use Rattle.merge_runs.proofs.Logs.{index_small}

-- each record of the lane has a line: of the version that has no lines of it there is no record
lane_shown : (version : Version) (e : Extent) (records : List LaneRec) (n : ℕ) → AllByRecursion (LaneRecFits version e) records → n < length records → n < lane_lines version (length records)
lane_shown One e [] n fits lt = absurd (omega (arith, lt))
lane_shown One e (Down sending ∷ records) n fits lt = absurd fits.0.0
lane_shown Two e records n fits lt = omega (arith, lt)

-- the lines of a log's records come before those of the logs behind it
pub lines_rise : (s : Recorded) → IsSession s → (a b : LogName) (n m : ℕ) → log_index a < log_index b → n < log_length s a → line_of s (a, n) < line_of s (b, m)
lines_rise s limits Guest Guest n m h lt = absurd (omega (arith, h))
lines_rise s limits Guest Source n m h lt = omega (arith, lt)
lines_rise s limits Guest Link n m h lt = omega (arith, lt)
lines_rise s limits Guest Lane n m h lt = omega (arith, lt)
lines_rise s limits Guest Pager n m h lt = omega (arith, lt)
lines_rise s limits Source Guest n m h lt = absurd (omega (arith, h))
lines_rise s limits Source Source n m h lt = absurd (omega (arith, h))
lines_rise s limits Source Link n m h lt = omega (arith, lt)
lines_rise s limits Source Lane n m h lt = omega (arith, lt)
lines_rise s limits Source Pager n m h lt = omega (arith, lt)
lines_rise s limits Link Guest n m h lt = absurd (omega (arith, h))
lines_rise s limits Link Source n m h lt = absurd (omega (arith, h))
lines_rise s limits Link Link n m h lt = absurd (omega (arith, h))
lines_rise s limits Link Lane n m h lt = omega (arith, lt)
lines_rise s limits Link Pager n m h lt = omega (arith, lt)
lines_rise s limits Lane Guest n m h lt = absurd (omega (arith, h))
lines_rise s limits Lane Source n m h lt = absurd (omega (arith, h))
lines_rise s limits Lane Link n m h lt = absurd (omega (arith, h))
lines_rise s limits Lane Lane n m h lt = absurd (omega (arith, h))
lines_rise s limits Lane Pager n m h lt = omega (arith, lane_shown s.version s.geometry s.lane n limits.lane lt)
lines_rise s limits Pager b n m h lt = absurd (omega (arith, h, index_small b))
