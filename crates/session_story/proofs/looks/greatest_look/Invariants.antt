use Rattle.std.specs.Prelude.{MatchOption}
use Rattle.session_story.specs.Looks.{HasNoLook, IsGreatestLook}
use Rattle.session_story.proofs.looks.greatest_look.Given as goal

abbrev pub invariant-loop-n : goal.invariant-loop-n
invariant-loop-n l = MatchOption l.best (HasNoLook l.session l.n) (IsGreatestLook l.session l.n)
