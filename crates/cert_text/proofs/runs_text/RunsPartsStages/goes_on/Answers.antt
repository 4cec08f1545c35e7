use Rattle.std.proofs.Common.{subst}
use Rattle.text_lines.specs.Text.{Begins}
use Rattle.migration_types.specs.declared.version.Version.{Version}
use Rattle.migration_types.specs.declared.version.Version.TheVariants.{Two}
use Rattle.migration_types.specs.declared.size.Size.{Size}
use Rattle.cert_text.specs.Runs.{SpellsRunLines}
use Rattle.cert_text.proofs.RunsTextLaws.{headed_begins}
use Rattle.cert_text.proofs.runs_text.RunsPartsStages.goes_on.Goals as goal

pub returns-clause-begins : goal.returns-clause-begins
returns-clause-begins c =
    let runs = c.args.self.now.runs in
    headed_begins c.args._headed runs.lines (subst (λ (size : Size). Begins (SpellsRunLines Two size) runs.lines) c.requires.1 (subst (λ (version : Version). Begins (SpellsRunLines version runs.size) runs.lines) c.requires.0 c.goes_on.ensures)) c.requires.2
