use Rattle.std.proofs.Common.{◌≢◌}
use Rattle.recordings.specs.Wide.{extent_of, source_of}
use Rattle.text_lines.specs.declared.FaultKind.TheVariants.{Memory}
use Rattle.recorder_files.specs.declared.raw.RawSource.{RawSource}
use Rattle.recorder_files.specs.declared.raw.RawSource.TheVariants.{Own, AskSent}
use Rattle.recorder_files.specs.Raw.{raw_source_line, IsRawSourceOf}
use Rattle.recorder_files.proofs.raw.RawSourceLogRecord.read_line.Goals as goal

pub returns-in-Err-clause-refused : goal.returns-in-Err-clause-refused
returns-in-Err-clause-refused c = go
  where
    go : c.in-Err.kind ≢ Memory → (r : RawSource) → IsRawSourceOf (extent_of c.args.machine.now) r → c.args.text.now ≢ raw_source_line r
    go other (Own rec) is = c.in-Err.ensures.refused other (source_of rec) is
    go other (AskSent asking) is = c.in_default.ensures.none asking is
