use Rattle.guest_script.proofs.Letters.{no_fates}
use Rattle.guest_script.proofs.fates.read_letters.Goals as goal

pub returns-in_default-clause-refused : goal.returns-in_default-clause-refused
returns-in_default-clause-refused c = λ other fates e. no_fates c.args.letters.now c.loop-letter.letter-index 0 c.loop-letter-test.true c.in_default.ensures fates e
