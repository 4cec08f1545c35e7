-- What records need.
use Rattle.std.proofs.Common.{◌≡◌, ◌+◌, ◌<◌, ℕ, true, false, arith, refl}
use Rattle.migration_types.specs.Limits.{limits}
use Rattle.migration_types.specs.Sessions.{HasBack, HasLane}
use Rattle.walked_sessions.specs.Needs.{AreNeeds}

-- false is not true
pub not_true : {A : Type 0} → false ≡ true → A
not_true e = absurd cc

pub needs_number : (n : ℕ) → AreNeeds (λ version size. n < (limits size).records) (record { past = n + 1; lane = false; back = false })
needs_number n version size = (
  λ h. record { past = omega (arith, h); lane = λ e. not_true e; back = λ e. not_true e },
  λ allows. let past = allows.past in omega (arith, past),
)

pub needs_lane : (n : ℕ) → AreNeeds (λ version size. HasLane version × (n < (limits size).records)) (record { past = n + 1; lane = true; back = false })
needs_lane n version size = (
  λ h. record { past = omega (arith, h.1); lane = λ e. h.0; back = λ e. not_true e },
  λ allows. (allows.lane refl, let past = allows.past in omega (arith, past)),
)

pub needs_back : AreNeeds (λ version size. HasBack size) (record { past = 0; lane = false; back = true })
needs_back version size = (
  λ h. record { past = omega arith; lane = λ e. not_true e; back = λ e. h },
  λ allows. allows.back refl,
)
