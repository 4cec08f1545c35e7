use Rattle.std.proofs.Common.{◌≡◌, true}
use Rattle.text_access.proofs.Fronts.{front_behind}
use Rattle.command_texts.proofs.shown.write_escape.Goals as goal

pub returns-else-not-write_whole-clause-front : goal.returns-else-not-write_whole-clause-front
returns-else-not-write_whole-clause-front g c =
    let first : c.write_whole-in-Two.result ≡ true = cc in
    rw c.in-Two.is (front_behind _ _ _ c.in-Two.first c.in-Two.second (c.write_whole-in-Two.ensures.whole first) c.write_whole-in-Two-2.ensures.front)
