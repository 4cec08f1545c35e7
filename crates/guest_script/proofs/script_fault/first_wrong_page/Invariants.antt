use Rattle.std.specs.Prelude.{take}
use Rattle.guest_script.proofs.Pages.{Stand}
use Rattle.guest_script.proofs.script_fault.first_wrong_page.Given as goal

abbrev pub invariant-loop-place : goal.invariant-loop-place
invariant-loop-place l = Stand l.geometry (take l.place l.init) l.least
