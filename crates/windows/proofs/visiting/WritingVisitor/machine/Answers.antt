use Rattle.recordings.specs.Wide.{extent_of}
use Rattle.windows.specs.Pages.{numbers_of}
use Rattle.windows.proofs.Steps.{found_nothing}
use Rattle.windows.proofs.Lines.{written_nothing}
use Rattle.windows.proofs.visiting.WritingVisitor.machine.Goals as goal

pub returns : goal.returns
returns g c =
    let self = c.args.self.now in
    let number = numbers_of self.guide.window in
    let new = c.requires.new in (
      new.2,
      record {
        found = found_nothing number self.guide.known self.found c.args.machine.now new.0;
        written = written_nothing number self.guide.known self.sections c.args.machine.now.version (extent_of c.args.machine.now) new.1;
      },
    )
