use Rattle.std.proofs.Common.{◌≡◌, arith}
use Rattle.migration_types.specs.declared.records.LogName.TheVariants.{Guest, Source, Link, Lane, Pager}
use Rattle.recorder_files.specs.Fronts.{cursors_of}
use Rattle.recorder_files.specs.inner.Reaches.{before_need}
use Rattle.recorder_files.proofs.Cuts.{reach_is}
use Rattle.recorder_files.proofs.reach.Reach.end.Goals as goal

pub returns : goal.returns
returns c = λ names is.
    let guest : c.end-guest.result ≡ before_need Guest c.args.there.guest names = c.end-guest.ensures Guest names is.guest is.count in
    let source : c.end-source.result ≡ before_need Source c.args.there.source names = c.end-source.ensures Source names is.source is.count in
    let link : c.end-link.result ≡ before_need Link c.args.there.link names = c.end-link.ensures Link names is.link is.count in
    let lane : c.end-lane.result ≡ before_need Lane c.args.there.lane names = c.end-lane.ensures Lane names is.lane is.count in
    let pager : c.end-pager.result ≡ before_need Pager c.args.there.pager names = c.end-pager.ensures Pager names is.pager is.count in
    let all = reach_is (cursors_of c.args.there) names in
    omega (arith, all)
