use Rattle.audit_model.proofs.Orders.{follows_cursors}
use Rattle.audit_model.proofs.Headline.{certified_target_is_flat}
use Rattle.audit_model.proofs.laws.worlds_follow_cursors.Goals as goal

pub returns : goal.returns
returns c = record { worlds = follows_cursors; target = certified_target_is_flat }
