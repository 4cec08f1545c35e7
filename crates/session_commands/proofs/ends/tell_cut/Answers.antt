use Rattle.std.proofs.Common.{arith}
use Rattle.session_commands.proofs.ends.tell_cut.Goals as goal

pub returns-then-count-eq0 : goal.returns-then-count-eq0
returns-then-count-eq0 g c = λ s naming none. (none, omega (arith, c.saturating_sub-count.ensures, c.of.ensures, c.of-2.ensures, c.if-count-eq0.true, c.counts-counts.ensures s naming c.args.log))

pub returns : goal.returns
returns g c = λ s naming none. absurd (c.in_ok-push_message.ensures.some none)
