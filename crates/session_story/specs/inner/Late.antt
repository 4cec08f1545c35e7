-- The two records of a page that decide whether every order shows a fault.
use Rattle.std.specs.Prelude.{ℕ, Option, Some, None}
use Rattle.audit_model.specs.declared.reasons.PageReason.{PageReason}
use Rattle.audit_model.specs.declared.reasons.PageReason.TheVariants.{Early, Over}
use Rattle.page_facts.specs.declared.findings.Findings.{Findings}

abbrev pub before_placement : ℕ → Option ℕ → Option (ℕ × ℕ)
before_placement used None = None
before_placement used (Some placement) = Some (used, placement)

abbrev pub behind_touch : Option ℕ → ℕ → Option (ℕ × ℕ)
behind_touch None placement = None
behind_touch (Some used) placement = Some (used, placement)

-- the use, and the placement that must come before it, for a fault that an order shows if it does not
abbrev pub late_for : PageReason → ℕ → Findings → Option (ℕ × ℕ)
late_for Early n found = before_placement n found.placement
late_for Over n found = behind_touch found.touch n
late_for reason n found = None
