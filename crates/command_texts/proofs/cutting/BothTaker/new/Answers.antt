use Rattle.std.proofs.Common.{[], refl}
use Rattle.command_texts.proofs.Cuts.{nothing_yet}
use Rattle.command_texts.proofs.cutting.BothTaker.new.Goals as goal

pub returns : goal.returns
returns g c = record { first = []; second = []; parts = refl; first_came = c.new.ensures; second_came = c.new-2.ensures; cut = (nothing_yet _ refl, refl) }
