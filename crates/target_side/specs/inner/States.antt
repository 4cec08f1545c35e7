-- The state of the code.
use Rattle.target_side.specs.Kept.{Held}
use Rattle.target_side.specs.declared.state.TargetState.{TargetState}

abbrev pub held : TargetState → Held
held s = record {
  log = s.log.items;
  is_resumed = s.is_resumed;
  frames = s.frames;
  places = s.places;
  misses = s.misses.items;
  standing = s.standing.items;
  unsettled = s.unsettled.items;
}
