use Rattle.std.proofs.Common.{refl}
use Rattle.session_story.proofs.faults.shape_at.Goals as goal

pub returns : goal.returns
returns c = record {
  is_line = c.requires.is_line;
  is_fault = refl;
  is_first = c.requires.is_first;
  handover = c.handover_of.ensures;
  sent = c.sent_before.ensures;
}
