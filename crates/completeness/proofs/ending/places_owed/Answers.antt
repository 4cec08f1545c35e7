use Rattle.completeness.proofs.Records.{places_none}
use Rattle.completeness.proofs.ending.places_owed.Goals as goal

pub returns-in-Place : goal.returns-in-Place
returns-in-Place c = rw c.in-Place.is c.is_owed.ensures

pub returns-in-Zero : goal.returns-in-Zero
returns-in-Zero c = rw c.in-Zero.is c.is_owed-in-Zero.ensures

pub returns-in_default : goal.returns-in_default
returns-in_default c = places_none c.args.session.now c.args.rec.now c.in_default.not-Place c.in_default.not-Zero
