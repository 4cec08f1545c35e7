use Rattle.std.proofs.Common.{subst, sym}
use Rattle.recorder_files.specs.Names.{IsCompressedName}
use Rattle.session_commands.proofs.Compressing.{compressed_if}
use Rattle.session_commands.proofs.compressed.is_compressed.Goals as goal

pub returns-in-Some : goal.returns-in-Some
returns-in-Some c = compressed_if _ c.args.name.now c.as_bytes.result.now c.in-Some.whole.now c.is_among.result c.as_bytes.ensures.value c.in-Some.ensures.found c.is_among.ensures

pub returns-in-None : goal.returns-in-None
returns-in-None c = ((λ yes. let yes = yes in absurd cc), (λ one. absurd (c.in-None.ensures.none one.party one.whole one.is_name (subst (IsCompressedName one.whole) (sym c.as_bytes.ensures.value) one.is_ended))))
