use Rattle.audit_model.proofs.Walked.{merging_is_walk, walk_is_merging}
use Rattle.audit_model.proofs.Stuck.{stuck_no_merging}
use Rattle.audit_model.proofs.Knots.{knot_no_merging}
use Rattle.audit_model.proofs.Grown.{grown_merges}
use Rattle.audit_model.proofs.laws.mergings_are_walks.Goals as goal

pub returns : goal.returns
returns c = record {
  walks = λ s order. (merging_is_walk s order, walk_is_merging s order);
  stuck = λ s c log stuck left given. stuck_no_merging s c log stuck left given.0 given.1;
  knotted = λ s line knot given. knot_no_merging s line knot given.0 given.1;
  grown = grown_merges;
}
