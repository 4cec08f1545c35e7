use Rattle.std.proofs.Common.{◌≡◌, map, take}
use Rattle.guest_script.specs.Scripts.{fate_letter}
use Rattle.guest_script.proofs.fates.read_letters.Given as goal

abbrev pub invariant-loop-letter : goal.invariant-loop-letter
invariant-loop-letter l = map fate_letter l.fates.items ≡ take l.letter-index l.letters
