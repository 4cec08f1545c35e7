use Rattle.std.proofs.Common.{◌≡◌, drop}
use Rattle.session_story.specs.Named.{named_among}
use Rattle.session_story.proofs.names.named_among.Given as goal

abbrev pub invariant-loop-field : goal.invariant-loop-field
invariant-loop-field l = named_among (drop l.field-index l.fields) ≡ named_among l.fields
