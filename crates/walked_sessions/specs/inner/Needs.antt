-- What two need.
use Rattle.walked_sessions.specs.Needs.{Allows, AreNeeds}
use Rattle.walked_sessions.specs.declared.needs.Needs.{Needs}

-- what is needed is what the two need
abbrev pub AreBoth : Needs → Needs → Needs → Type 0
AreBoth a b both = AreNeeds (λ version size. Allows version size a × Allows version size b) both
