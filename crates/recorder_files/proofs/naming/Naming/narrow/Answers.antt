use Rattle.std.proofs.Common.{◌≡◌, ◌≤◌, arith}
use Rattle.std.specs.Prelude.{min}
use Rattle.migration_types.specs.declared.records.LogName.{LogName}
use Rattle.migration_types.specs.declared.records.LogName.TheVariants.{Guest, Source, Link, Lane, Pager}
use Rattle.migration_types.specs.Sessions.{Recorded}
use Rattle.recorder_files.specs.Fronts.{cursors_of}
use Rattle.recorder_files.specs.Named.{IsNaming}
use Rattle.recorder_files.specs.Reaches.{names_in}
use Rattle.recorder_files.specs.inner.Reaches.{reach}
use Rattle.recorder_files.proofs.naming.Naming.narrow.Goals as goal

pub returns : goal.returns
returns c = record { within = below; reach = reaches }
  where
    below : (log : LogName) → cursors_of (record { guest = c.min.result; source = c.min-2.result; link = c.min-3.result; lane = c.min-4.result; pager = c.min-5.result }) log ≤ cursors_of c.args.there log
    below Guest = omega arith
    below Source = omega arith
    below Link = omega arith
    below Lane = omega arith
    below Pager = omega arith

    reaches : (s : Recorded) → IsNaming c.args.self.now s → (log : LogName) → cursors_of (record { guest = c.min.result; source = c.min-2.result; link = c.min-3.result; lane = c.min-4.result; pager = c.min-5.result }) log ≡ min (cursors_of c.args.there log) (reach (cursors_of c.args.there) (names_in s log))
    reaches s is Guest = let e = c.end-guest.ensures (names_in s Guest) is.guest in omega (arith, e)
    reaches s is Source = let e = c.end-source.ensures (names_in s Source) is.source in omega (arith, e)
    reaches s is Link = let e = c.end-link.ensures (names_in s Link) is.link in omega (arith, e)
    reaches s is Lane = let e = c.end-lane.ensures (names_in s Lane) is.lane in omega (arith, e)
    reaches s is Pager = let e = c.end-pager.ensures (names_in s Pager) is.pager in omega (arith, e)
