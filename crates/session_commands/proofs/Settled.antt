-- What is settled of a recording if its text was written.
use Rattle.std.proofs.Common.{◌≡◌, ◌<◌, ℕ, Result, Ok, Err, arith}
use Rattle.std.specs.Prelude.{IfOk, IfErr, OnOk}
use Rattle.session_commands.specs.declared.stops.Stop.{Stop}
use Rattle.session_commands.specs.inner.Seen.{IsUnfit}

pub written_few : (done : Result ℕ Stop) → IfOk done (λ status. status ≡ 0) → IfOk done (λ status. status < 2)
written_few (Ok status) zero = omega (arith, zero)
written_few (Err stop) zero = tt

pub written_told : (done : Result ℕ Stop) (P : Type 0) → OnOk done P → IfOk done (λ status. status ≡ 0 → P)
written_told (Ok status) P p = λ zero. p
written_told (Err stop) P p = tt

pub written_not_refused : (done : Result ℕ Stop) (P : Type 0) → IfOk done (λ status. status ≡ 0) → IfOk done (λ status. status ≡ 1 → P)
written_not_refused (Ok status) P zero = λ one. absurd (omega (arith, zero, one))
written_not_refused (Err stop) P zero = tt

pub written_fit : (done : Result ℕ Stop) (P : Type 0) → IfErr done (λ stop. IsUnfit stop → ⊥) → IfErr done (λ stop. IsUnfit stop → P)
written_fit (Ok status) P fit = tt
written_fit (Err stop) P fit = λ unfit. absurd (fit unfit)
