use Rattle.page_stream.proofs.Readings.{one_reading_holds, pieces_together}
use Rattle.page_stream.proofs.stream.one_reading.Goals as goal

pub returns-clause-same : goal.returns-clause-same
returns-clause-same c = one_reading_holds

pub returns-clause-together : goal.returns-clause-together
returns-clause-together c = pieces_together
