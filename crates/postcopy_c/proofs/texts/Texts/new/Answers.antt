use Rattle.std.proofs.Common.{refl}
use Rattle.postcopy_c.proofs.Joined.{measured_none}
use Rattle.postcopy_c.proofs.texts.Texts.new.Goals as goal

pub returns-clause-measured : goal.returns-clause-measured
returns-clause-measured c = measured_none _ c.new.ensures.items c.new-2.ensures.items refl
