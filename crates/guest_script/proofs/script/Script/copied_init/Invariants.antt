use Rattle.std.proofs.Common.{◌≡◌, take}
use Rattle.guest_script.proofs.script.Script.copied_init.Given as goal

abbrev pub invariant-loop-given : goal.invariant-loop-given
invariant-loop-given l = l.pages.items ≡ take l.given-index l.init
