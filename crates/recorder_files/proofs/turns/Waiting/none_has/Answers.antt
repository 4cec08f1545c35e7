use Rattle.std.proofs.Common.{Some, None, arith}
use Rattle.std.proofs.lemmas.Option.{get_or_from_slice_get, slice_get_within}
use Rattle.recorder_files.proofs.Waiting.{none_waits, other_head}
use Rattle.recorder_files.proofs.turns.Waiting.none_has.Goals as goal

pub returns-then-file-heads : goal.returns-then-file-heads
returns-then-file-heads c = λ past. none_waits c.args.self.now c.args.heads.now c.args.number c.at-file.result c.requires c.if-self-number.false c.at-file.ensures (λ has. let within = slice_get_within c.args.heads.now c.at-file.result (Some c.args.number) has in omega (arith, within, c.if-file-heads.true))

pub returns-else-file-heads : goal.returns-else-file-heads
returns-else-file-heads c = λ ne. none_waits c.args.self.now c.args.heads.now c.args.number c.at-file.result c.requires c.if-self-number.false c.at-file.ensures (λ has. other_head c.args.number _ c.ne.result c.ne.ensures ne (get_or_from_slice_get c.args.heads.now c.at-file.result (Some c.args.number) None has))
