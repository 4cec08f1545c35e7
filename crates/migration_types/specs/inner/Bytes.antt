-- Numbers of three bytes.
use Rattle.std.specs.Prelude.{◌≡◌, ℕ, ◌+◌, ◌*◌, ◌/◌, ◌%◌, ◌<◌}
use Rattle.std.proofs.Common.{◌∙◌, ap, arith}

-- the number with these bytes, the highest first
abbrev pub of_bytes : ℕ → ℕ → ℕ → ℕ
of_bytes high middle low = high * 65536 + middle * 256 + low

-- the bytes of a number
abbrev pub high_byte : ℕ → ℕ
high_byte n = n / 65536

abbrev pub middle_byte : ℕ → ℕ
middle_byte n = n / 256 % 256

abbrev pub low_byte : ℕ → ℕ
low_byte n = n % 256

-- each is a byte
pub record AreBytes (h m l : ℕ) : Type 0 where
  pub high : h < 256
  pub middle : m < 256
  pub low : l < 256

-- the bytes of the number are these bytes
pub high_back : (high middle low : ℕ) → AreBytes high middle low → high_byte (of_bytes high middle low) ≡ high
high_back high middle low h = omega (arith, h.middle, h.low)

pub middle_back : (high middle low : ℕ) → AreBytes high middle low → middle_byte (of_bytes high middle low) ≡ middle
middle_back high middle low h =
    let upper : of_bytes high middle low / 256 ≡ high * 256 + middle = omega (arith, h.low) in
    let back : (high * 256 + middle) % 256 ≡ middle = omega (arith, h.middle) in
    ap (λ (n : ℕ). n % 256) upper ∙ back

pub low_back : (high middle low : ℕ) → AreBytes high middle low → low_byte (of_bytes high middle low) ≡ low
low_back high middle low h = omega (arith, h.low)
