use Rattle.std.proofs.Common.{refl}
use Rattle.walked_sessions.proofs.Pages.{init_roomy}
use Rattle.walked_sessions.proofs.init.HeldInit.make_room.Goals as goal

pub returns : goal.returns
returns c = λ machine held h. init_roomy machine c.args.self.now (record { pages = c.reserve.new.self; low = c.args.self.now.low }) held h c.in_ok-reserve.ensures.items refl
