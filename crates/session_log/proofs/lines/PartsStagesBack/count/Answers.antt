use Rattle.std.proofs.Common.{◌∙◌, refl, []}
use Rattle.session_grammar.specs.inner.Held.{held_onto}
use Rattle.session_log.specs.inner.Steps.{draft_of}
use Rattle.session_log.proofs.Back.{count_few, count_is}
use Rattle.session_log.proofs.lines.PartsStagesBack.count.Goals as goal

pub came-requires : goal.came-requires
came-requires c = record { live = c.requires; few = count_few c.args.stage (draft_of c.args.self.now) c.requires }

pub returns : goal.returns
returns c = let d = draft_of c.args.self.now in c.came.ensures ∙ count_is c.args.stage d (held_onto c.args.stage d []) refl
