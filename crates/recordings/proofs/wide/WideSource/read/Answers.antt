use Rattle.recordings.proofs.wide.WideSource.read.Goals as goal

pub returns-in-Some-read_step-clause-found : goal.returns-in-Some-read_step-clause-found
returns-in-Some-read_step-clause-found c = c.in-Some-read_step.ensures.found
