use Rattle.std.proofs.Common.{refl}
use Rattle.command_texts.proofs.Cuts.{cut_at}
use Rattle.command_texts.proofs.cutting.BothTaker.end.Goals as goal

pub returns : goal.returns
returns g c = λ text came.
    let one = c.in_ok-first.ensures came.first came.first_came in
    let other = c.in_ok-second.ensures came.second came.second_came in
    let cut = cut_at c.args.self.ended c.args.self.lacking text came.first came.second came.parts came.cut in
    (((came.first, came.second), cut, one.0, other.0, one.1, other.1), refl)
