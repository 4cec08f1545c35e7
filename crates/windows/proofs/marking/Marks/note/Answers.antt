use Rattle.std.proofs.lemmas.Result.{on_ok_weaker}
use Rattle.windows.proofs.Steps.{found_source, found_pager}
use Rattle.windows.proofs.marking.Marks.note.Goals as goal

pub returns-in-Source : goal.returns-in-Source
returns-in-Source c = λ d n next f. on_ok_weaker c.note-in-Source.result (found_source _ _ c.args.self.now c.note-in-Source.new.self d n c.args.rec.now c.in-Source.rec c.in-Source.is next f) (c.note-in-Source.ensures d.source f.source)

pub returns-in-Pager : goal.returns-in-Pager
returns-in-Pager c = λ d n next f. on_ok_weaker c.note-in-Pager.result (found_pager _ _ c.args.self.now c.note-in-Pager.new.self d c.args.rec.now c.in-Pager.rec c.in-Pager.is f) (c.note-in-Pager.ensures d.pager f.pager)
