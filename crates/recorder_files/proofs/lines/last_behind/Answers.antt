use Rattle.std.proofs.Common.{◌≡◌, true, false, sym, subst, ◌∙◌}
use Rattle.recorder_files.specs.Said.{IsBehind}
use Rattle.recorder_files.specs.declared.lines.Last.{Last}
use Rattle.recorder_files.proofs.Refusing.{same_last}
use Rattle.recorder_files.proofs.lines.last_behind.Goals as goal

pub returns-else-is_behind-clause-none : goal.returns-else-is_behind-clause-none
returns-else-is_behind-clause-none c = λ left is behind e.
    let found = c.in-Some.ensures.found in
    let same = same_last c.in-Some.last left found.0 is (sym found.1 ∙ e) in
    let t : false ≡ true = c.if-is_behind.ensures.1 (subst (λ (l : Last). IsBehind c.args.next l) (sym same) behind) in
    absurd (cc)
