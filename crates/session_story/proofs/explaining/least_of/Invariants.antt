use Rattle.std.proofs.Common.{◌≡◌, [], take}
use Rattle.std.specs.Prelude.{MatchOption}
use Rattle.session_story.specs.Explained.{IsLeastOf}
use Rattle.session_story.proofs.explaining.least_of.Given as goal

abbrev pub invariant-loop-page : goal.invariant-loop-page
invariant-loop-page l = let so_far = take l.page-index l.found in MatchOption l.least (so_far ≡ []) (IsLeastOf so_far)
