-- Reading a number as `parse` does gives what the words tell.
use Rattle.std.proofs.Common.{◌≡◌, ℕ, ◌<◌, ◌^◌, Bool, true, false, Some, None, refl, ap, arith, cond}
use Rattle.std.specs.Result.{result_ok}
use Rattle.std.specs.declared.result.Result.{Result}
use Rattle.std.specs.declared.result.Result.TheVariants.{Ok, Err}
use Rattle.std.specs.Str.Parse.{IsNumeral, ParsesUnsigned, digits_value, without_leading_plus}
use Rattle.clap.specs.ValueTests.{is_unsigned_in}
use Rattle.clap.specs.declared.builder.value_parser.ValueParser.TheVariants as parser
use Rattle.clap.proofs.ValueTestLemmas.{Accepts-accepts, accepts-Accepts}
use Rattle.clap.specs.Words.{Text}
use Rattle.command_words.specs.Words.{count_of, number_of}

-- the digits after a plus are a numeral of 32 bits
abbrev IsNumber : Text → Type 0
IsNumber text = IsNumeral 10 (without_leading_plus text) × (digits_value 10 (without_leading_plus text) < 2 ^ 32)

-- or of 64
abbrev IsLarge : Text → Type 0
IsLarge text = IsNumeral 10 (without_leading_plus text) × (digits_value 10 (without_leading_plus text) < 2 ^ 64)

number_there : (text : Text) → IsNumber text → is_unsigned_in 0 4294967295 text ≡ true
number_there text h = Accepts-accepts false (parser.Unsigned 0 4294967295) text (h.0, omega arith, omega arith, omega arith)

there_number : (text : Text) → is_unsigned_in 0 4294967295 text ≡ true → IsNumber text
there_number text e = let a = accepts-Accepts false (parser.Unsigned 0 4294967295) text e in (a.0, omega arith)

none_there : (text : Text) → (IsNumber text → ⊥) → (b : Bool) → is_unsigned_in 0 4294967295 text ≡ b → None ≡ cond b (Some (digits_value 10 (without_leading_plus text))) None
none_there text none true e = absurd (none (there_number text e))
none_there text none false e = refl

pub parsed_number : {E : Type 0} (text : Text) (r : Result ℕ E) → ParsesUnsigned 32 10 text r → result_ok r ≡ number_of text
parsed_number text (Ok n) h = rw (number_there text h.0) (ap Some h.1)
parsed_number text (Err e) h = none_there text h (is_unsigned_in 0 4294967295 text) refl

large_there : (text : Text) → IsLarge text → is_unsigned_in 0 18446744073709551615 text ≡ true
large_there text h = Accepts-accepts false (parser.Unsigned 0 18446744073709551615) text (h.0, omega arith, omega arith, omega arith)

there_large : (text : Text) → is_unsigned_in 0 18446744073709551615 text ≡ true → IsLarge text
there_large text e = let a = accepts-Accepts false (parser.Unsigned 0 18446744073709551615) text e in (a.0, omega arith)

no_large : (text : Text) → (IsLarge text → ⊥) → (b : Bool) → is_unsigned_in 0 18446744073709551615 text ≡ b → None ≡ cond b (Some (digits_value 10 (without_leading_plus text))) None
no_large text none true e = absurd (none (there_large text e))
no_large text none false e = refl

pub parsed_count : {E : Type 0} (text : Text) (r : Result ℕ E) → ParsesUnsigned 64 10 text r → result_ok r ≡ count_of text
parsed_count text (Ok n) h = rw (large_there text h.0) (ap Some h.1)
parsed_count text (Err e) h = no_large text h (is_unsigned_in 0 18446744073709551615 text) refl
