use Rattle.std.proofs.Common.{ap, map, refl, ◌∙◌}
use Rattle.std.specs.Prelude.{string_bytes}
use Rattle.std.proofs.lemmas.Result.{on_ok_weaker}
use Rattle.session_commands.proofs.Compressing.{compressed_one}
use Rattle.session_commands.proofs.Finding.{map_pushed}
use Rattle.session_commands.proofs.compressed.push_one.Goals as goal

pub returns : goal.returns
returns c = on_ok_weaker c.add.result (λ pushed. compressed_one _ c.args.folder.now c.args.name.now _ _ (string_bytes c.in_ok-path.path) (ap (map string_bytes) pushed ∙ map_pushed string_bytes c.args.paths.now.items c.in_ok-path.path) (c.if-not-is_compressed.ensures.0 refl) c.in_ok-path.ensures) c.add.ensures
