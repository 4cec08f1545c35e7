use Rattle.std.proofs.Common.{◌≡◌, ◌∙◌}
use Rattle.migration_types.specs.declared.records.LogName.{LogName}
use Rattle.migration_types.specs.declared.records.LogName.TheVariants.{Guest, Source, Link, Lane, Pager}
use Rattle.migration_types.specs.Sessions.{Recorded, log_length}
use Rattle.recorder_files.specs.Fronts.{cursors_of}
use Rattle.recorder_files.specs.Named.{IsNaming}
use Rattle.recorder_files.proofs.Cuts.{names_length}
use Rattle.recorder_files.proofs.naming.Naming.counts.Goals as goal

pub returns : goal.returns
returns c = go
  where
    go : (s : Recorded) → IsNaming c.args.self.now s → (log : LogName) → cursors_of (record { guest = c.args.self.now.guest.count; source = c.args.self.now.source.count; link = c.args.self.now.link.count; lane = c.args.self.now.lane.count; pager = c.args.self.now.pager.count }) log ≡ log_length s log
    go s is Guest = is.guest.count ∙ names_length s Guest
    go s is Source = is.source.count ∙ names_length s Source
    go s is Link = is.link.count ∙ names_length s Link
    go s is Lane = is.lane.count ∙ names_length s Lane
    go s is Pager = is.pager.count ∙ names_length s Pager
