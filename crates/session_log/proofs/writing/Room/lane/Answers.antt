use Rattle.std.proofs.Common.{rules, ◌≡◌}
use Rattle.migration_types.specs.declared.version.Version.TheVariants.{Two}
use Rattle.session_log.proofs.writing.Room.lane.Goals as goal

pub returns-in-Two-clause-ok : goal.returns-in-Two-clause-ok
returns-in-Two-clause-ok g c =
    let two : c.args.session.now.version ≡ Two = search rules in
    rw two (rw c.lane.ensures at c.list.ensures.ok)

pub returns-in-Two-clause-err : goal.returns-in-Two-clause-err
returns-in-Two-clause-err g c =
    let two : c.args.session.now.version ≡ Two = search rules in
    rw two (rw c.lane.ensures at c.list.ensures.err)
