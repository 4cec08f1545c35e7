use Rattle.text_lines.proofs.Cut.{unambiguous}
use Rattle.cert_text.specs.Runs.{SpellsRuns}
use Rattle.cert_text.specs.inner.Plain.{plain_runs_text}
use Rattle.cert_text.proofs.RunsTextLaws.{headed_one_text, headed_one_list}
use Rattle.cert_text.proofs.runs_texts_are_unambiguous.Goals as goal

pub returns : goal.returns
returns c = unambiguous SpellsRuns plain_runs_text headed_one_text headed_one_list
