-- Up to eight decimal digits at a time.
use Rattle.std.proofs.Common.{◌≡◌, ℕ, zero, suc, ◌+◌, ◌-◌, ◌*◌, ◌/◌, ◌%◌, ◌<◌, ◌≤◌, ◌^◌, List, [], ◌∷◌, Bool, true, false, cond, length, take, map, drop, ◌++◌, get_or, refl, ap, subst, ◌∙◌, sym, arith, ltb, inl, inr}
use Rattle.std.specs.List.{AllByRecursion}
use Rattle.std.specs.Char.{digit_value}
use Rattle.std.specs.Int.{w64, bit_at, trailing_ones, from_le_bytes}
use Rattle.std.specs.Int.Digits.{number_from_digits, number_from_digits_after}
use Rattle.std.specs.Int.RustNames.{bit_and}
use Rattle.std.specs.Str.Parse.{AllDigits, digits_value}
use Rattle.std.specs.Simd.Lanes.{mask_l, number_l}
use Rattle.std.proofs.lemmas.Bool.{ltb-true, ltb-false, cases_lt}
use Rattle.std.proofs.lemmas.List.{get_or-map, get_or-take, length-take, length-drop, length-map, map-append, take-map, take-take}
use Rattle.std.proofs.lemmas.Nat.{and_block, and_mask}
use Rattle.std.proofs.lemmas.Nat.Bits.{bit_at_above, bit_at-trailing_ones}
use Rattle.std.proofs.lemmas.Simd.{bit_mask_l, mask_l-lt}
use Rattle.text_lines.specs.inner.Blocks.{digit_less, padded, IsDigitStart}
use Rattle.std.proofs.Math.Nat.{pow-suc, mul_comm, mul_assoc, add-mul}
use Rattle.std.proofs.lemmas.Int.Digits.{number_after_append, digits_value_is}
use Rattle.text_lines.proofs.Fronts.{byte_digit}

pub eight : (v : List ℕ) → length v ≡ 8 → v ≡ get_or v 0 0 ∷ get_or v 1 0 ∷ get_or v 2 0 ∷ get_or v 3 0 ∷ get_or v 4 0 ∷ get_or v 5 0 ∷ get_or v 6 0 ∷ get_or v 7 0 ∷ []
eight (a ∷ b ∷ c ∷ d ∷ e ∷ f ∷ g ∷ h ∷ []) long = refl
eight v long = absurd (omega arith)

-- ---- the mask of the numbers below ten

abbrev pub small_mask : List ℕ → ℕ
small_mask xs = mask_l (map (λ x. ltb x 10) xs)

pub lane : (p : ℕ → Bool) (xs : List ℕ) (i : ℕ) → i < length xs → bit_at (mask_l (map p xs)) i ≡ cond (p (get_or xs i 0)) 1 0
lane p xs i lt = bit_mask_l (map p xs) i ∙ ap (λ (t : Bool). cond t 1 0) (get_or-map p xs i 0 false lt)

cond_one : (t : Bool) → cond {A = ℕ} t 1 0 ≡ 1 → t ≡ true
cond_one true e = refl
cond_one false e = absurd (omega arith)

pub cond_zero : (t : Bool) → cond {A = ℕ} t 1 0 ≡ 0 → t ≡ false
cond_zero true e = absurd (omega arith)
cond_zero false e = refl

pub record IsSmallBefore (xs : List ℕ) (count : ℕ) : Type 0 where
  pub within : count ≤ 8
  pub small : (i : ℕ) → i < count → get_or xs i 0 < 10
  pub stops : count < 8 → 10 ≤ get_or xs count 0

pub small_before_is : (xs : List ℕ) (m count : ℕ) → length xs ≡ 8 → m ≡ small_mask xs → count ≡ trailing_ones w64 m → IsSmallBefore xs count
small_before_is xs m count long mask is =
    let lanes : length (map (λ (x : ℕ). ltb x 10) xs) ≡ 8 = length-map xs (λ (x : ℕ). ltb x 10) ∙ long in
    let low : m < 256 = omega (arith, mask, subst (λ (k : ℕ). small_mask xs < 2 ^ k) lanes (mask_l-lt (map (λ (x : ℕ). ltb x 10) xs))) in
    let t = bit_at-trailing_ones w64 m (omega arith) in
    let here : bit_at m count ≡ 0 = subst (λ (k : ℕ). bit_at m k ≡ 0) (sym is) t.1 in
    let ones : (i : ℕ) → i < count → bit_at m i ≡ 1 = λ i lt. t.2 i (subst (λ (k : ℕ). i < k) is lt) in
    let at : (i : ℕ) → i < length xs → bit_at m i ≡ cond (ltb (get_or xs i 0) 10) 1 0 = λ i lt. ap (λ (k : ℕ). bit_at k i) mask ∙ lane (λ (x : ℕ). ltb x 10) xs i lt in
    let within : count ≤ 8 = elim (cases_lt 8 count) [
      | inl lt ↦ absurd (omega (arith, ones 8 lt, bit_at_above m 8 8 (omega arith) (omega arith)))
      | inr le ↦ le
    ] in
    record {
      within = within;
      small = λ i lt. ltb-true (get_or xs i 0) 10 (cond_one (ltb (get_or xs i 0) 10) (sym (at i (omega arith)) ∙ ones i lt));
      stops = λ lt. ltb-false (get_or xs count 0) 10 (cond_zero (ltb (get_or xs count 0) 10) (sym (at count (omega arith)) ∙ here));
    }

-- ---- the first bytes as a word

pub front_word_is : (bytes : List ℕ) (k word : ℕ) → length bytes ≡ 8 → AllByRecursion (λ b. b < 256) bytes → k ≤ 8 → word ≡ from_le_bytes w64 bytes → word * 2 ^ (32 - 4 * k) % 18446744073709551616 * 2 ^ (32 - 4 * k) % 18446744073709551616 ≡ number_l 256 (padded (8 - k) (take k bytes))
front_word_is (a ∷ b ∷ c ∷ d ∷ e ∷ f ∷ g ∷ h ∷ []) zero word long bytes le is = omega arith
front_word_is (a ∷ b ∷ c ∷ d ∷ e ∷ f ∷ g ∷ h ∷ []) (suc zero) word long bytes le is = omega arith
front_word_is (a ∷ b ∷ c ∷ d ∷ e ∷ f ∷ g ∷ h ∷ []) (suc (suc zero)) word long bytes le is = omega arith
front_word_is (a ∷ b ∷ c ∷ d ∷ e ∷ f ∷ g ∷ h ∷ []) (suc (suc (suc zero))) word long bytes le is = omega arith
front_word_is (a ∷ b ∷ c ∷ d ∷ e ∷ f ∷ g ∷ h ∷ []) (suc (suc (suc (suc zero)))) word long bytes le is = omega arith
front_word_is (a ∷ b ∷ c ∷ d ∷ e ∷ f ∷ g ∷ h ∷ []) (suc (suc (suc (suc (suc zero))))) word long bytes le is = omega arith
front_word_is (a ∷ b ∷ c ∷ d ∷ e ∷ f ∷ g ∷ h ∷ []) (suc (suc (suc (suc (suc (suc zero)))))) word long bytes le is = omega arith
front_word_is (a ∷ b ∷ c ∷ d ∷ e ∷ f ∷ g ∷ h ∷ []) (suc (suc (suc (suc (suc (suc (suc zero))))))) word long bytes le is = omega arith
front_word_is (a ∷ b ∷ c ∷ d ∷ e ∷ f ∷ g ∷ h ∷ []) (suc (suc (suc (suc (suc (suc (suc (suc zero)))))))) word long bytes le is = omega arith
front_word_is (a ∷ b ∷ c ∷ d ∷ e ∷ f ∷ g ∷ h ∷ []) (suc (suc (suc (suc (suc (suc (suc (suc (suc k))))))))) word long bytes le is = absurd (omega arith)
front_word_is bytes k word long each le is = absurd (omega arith)

-- ---- a word's digits, two and four at a time

seconds : (p q r s : ℕ) → q < 65536 → r < 65536 → s < 65536 → bit_and (((p * 65536 + q) * 65536 + r) * 65536 + s) 71777214294589695 ≡ ((p % 256 * 65536 + q % 256) * 65536 + r % 256) * 65536 + s % 256
seconds p q r s ql rl sl =
    let one : bit_and p 255 ≡ p % 256 = and_mask p 8 in
    let two : bit_and (p * 65536 + q) 16711935 ≡ p % 256 * 65536 + q % 256 = omega (arith, and_block 16 p 255 q 255 ql (omega arith), and_mask q 8) in
    let three : bit_and ((p * 65536 + q) * 65536 + r) 1095233372415 ≡ (p % 256 * 65536 + q % 256) * 65536 + r % 256 = omega (arith, and_block 16 (p * 65536 + q) 16711935 r 255 rl (omega arith), and_mask r 8) in
    omega (arith, and_block 16 ((p * 65536 + q) * 65536 + r) 1095233372415 s 255 sl (omega arith), and_mask s 8)

later_twos : (p q r s : ℕ) → q < 65536 → r < 65536 → s < 65536 → bit_and (((p * 65536 + q) * 65536 + r) * 65536 + s) 281470681808895 ≡ q * 4294967296 + s
later_twos p q r s ql rl sl =
    let same : ((p * 65536 + q) * 65536 + r) * 65536 + s ≡ (p * 65536 + q) * 4294967296 + (r * 65536 + s) = omega arith in
    ap (λ (n : ℕ). bit_and n 281470681808895) same ∙ omega (arith, and_block 32 (p * 65536 + q) 65535 (r * 65536 + s) 65535 (omega arith) (omega arith), and_mask (p * 65536 + q) 16, and_mask (r * 65536 + s) 16)

abbrev pub twos_of : ℕ → ℕ
twos_of word = bit_and (word * 2561 % 18446744073709551616 / 256) 71777214294589695

abbrev pub fours_of : ℕ → ℕ
fours_of twos = bit_and (twos * 6553601 % 18446744073709551616 / 65536) 281470681808895

abbrev pub eight_of : ℕ → ℕ
eight_of fours = fours * 42949672960001 % 18446744073709551616 / 4294967296

twos_are : (a b c d e f g h word : ℕ) → a < 10 → b < 10 → c < 10 → d < 10 → e < 10 → f < 10 → g < 10 → h < 10 → word ≡ number_l 256 (a ∷ b ∷ c ∷ d ∷ e ∷ f ∷ g ∷ h ∷ []) → twos_of word ≡ (((g * 10 + h) * 65536 + (e * 10 + f)) * 65536 + (c * 10 + d)) * 65536 + (a * 10 + b)
twos_are a b c d e f g h word al bl cl dl el fl gl hl is =
    let raised : word * 2561 % 18446744073709551616 / 256 ≡ (((g * 10 + h) * 65536 + ((f * 10 + g) * 256 + (e * 10 + f))) * 65536 + ((d * 10 + e) * 256 + (c * 10 + d))) * 65536 + ((b * 10 + c) * 256 + (a * 10 + b)) = omega arith in
    ap (λ (n : ℕ). bit_and n 71777214294589695) raised ∙ (seconds (g * 10 + h) ((f * 10 + g) * 256 + (e * 10 + f)) ((d * 10 + e) * 256 + (c * 10 + d)) ((b * 10 + c) * 256 + (a * 10 + b)) (omega arith) (omega arith) (omega arith) ∙ omega arith)

fours_are : (p q r s twos : ℕ) → p < 100 → q < 100 → r < 100 → s < 100 → twos ≡ ((s * 65536 + r) * 65536 + q) * 65536 + p → fours_of twos ≡ (r * 100 + s) * 4294967296 + (p * 100 + q)
fours_are p q r s twos pl ql rl sl is =
    let raised : twos * 6553601 % 18446744073709551616 / 65536 ≡ ((0 * 65536 + (r * 100 + s)) * 65536 + (q * 100 + r)) * 65536 + (p * 100 + q) = omega arith in
    ap (λ (n : ℕ). bit_and n 281470681808895) raised ∙ later_twos 0 (r * 100 + s) (q * 100 + r) (p * 100 + q) (omega arith) (omega arith) (omega arith)

eight_are : (p q fours : ℕ) → p < 10000 → q < 10000 → fours ≡ q * 4294967296 + p → eight_of fours ≡ p * 10000 + q
eight_are p q fours pl ql is = omega arith

pub decimal_is : (ds : List ℕ) (word : ℕ) → length ds ≡ 8 → AllByRecursion (λ d. d < 10) ds → word ≡ number_l 256 ds → eight_of (fours_of (twos_of word)) ≡ number_from_digits 10 ds
decimal_is (a ∷ b ∷ c ∷ d ∷ e ∷ f ∷ g ∷ h ∷ []) word long all is =
    let al : a < 10 = all.0 in
    let bl : b < 10 = all.1.0 in
    let cl : c < 10 = all.1.1.0 in
    let dl : d < 10 = all.1.1.1.0 in
    let el : e < 10 = all.1.1.1.1.0 in
    let fl : f < 10 = all.1.1.1.1.1.0 in
    let gl : g < 10 = all.1.1.1.1.1.1.0 in
    let hl : h < 10 = all.1.1.1.1.1.1.1.0 in
    let twos = twos_are a b c d e f g h word al bl cl dl el fl gl hl is in
    let fours = fours_are (a * 10 + b) (c * 10 + d) (e * 10 + f) (g * 10 + h) (twos_of word) (omega arith) (omega arith) (omega arith) (omega arith) twos in
    eight_are ((a * 10 + b) * 100 + (c * 10 + d)) ((e * 10 + f) * 100 + (g * 10 + h)) (fours_of (twos_of word)) (omega arith) (omega arith) fours ∙ omega arith
decimal_is ds word long all is = absurd (omega arith)

-- zeros before digits are digits, and leave their number as it is
pub padded_length : (k : ℕ) (ds : List ℕ) → length (padded k ds) ≡ k + length ds
padded_length zero ds = omega arith
padded_length (suc k) ds = omega (arith, padded_length k ds)

pub padded_digits : (k : ℕ) (ds : List ℕ) → AllByRecursion (λ d. d < 10) ds → AllByRecursion (λ d. d < 10) (padded k ds)
padded_digits zero ds all = all
padded_digits (suc k) ds all = (omega arith, padded_digits k ds all)

pub padded_number : (k : ℕ) (ds : List ℕ) → number_from_digits 10 (padded k ds) ≡ number_from_digits 10 ds
padded_number zero ds = refl
padded_number (suc k) ds = padded_number k ds

-- ---- the digits of a text

pub front_digits_are : (k : ℕ) (text : List ℕ) → k ≤ length text → ((i : ℕ) → get_or text i 0 < 256) → ((i : ℕ) → i < k → digit_less (get_or text i 0) < 10) → AllDigits 10 (take k text) × (map digit_value (take k text) ≡ map digit_less (take k text)) × AllByRecursion (λ d. d < 10) (map digit_less (take k text))
front_digits_are zero text le bytes small = (tt, refl, tt)
front_digits_are (suc k) [] le bytes small = absurd (omega arith)
front_digits_are (suc k) (b ∷ text) le bytes small =
    let below : digit_less b < 10 = small 0 (omega arith) in
    let byte : b < 256 = bytes 0 in
    let digit : digit_value b ≡ digit_less b = byte_digit b byte (omega arith) in
    let rest = front_digits_are k text (omega arith) (λ i. bytes (suc i)) (λ i lt. small (suc i) (omega arith)) in
    let same = rest.1 in
    ((omega arith, rest.0), cc, (below, rest.2))

pub number_at : (n i : ℕ) (text : List ℕ) → i < n → n ≤ length text → get_or (map digit_less (take n text)) i 0 ≡ digit_less (get_or text i 0)
number_at n i text lt le = get_or-map digit_less (take n text) i 0 0 (omega (arith, length-take n text)) ∙ ap digit_less (get_or-take n text i 0 lt)

pub taken_twice : (k : ℕ) (text : List ℕ) → k ≤ 8 → take k (map digit_less (take 8 text)) ≡ map digit_less (take k text)
taken_twice k text le = take-map digit_less k (take 8 text) ∙ ap (map digit_less) (take-take k 8 text le)

-- ---- digits that stand before further ones

none : (k : ℕ) → take {A = ℕ} k [] ≡ []
none zero = refl
none (suc k) = refl

take_both : (i k : ℕ) (xs : List ℕ) → take (i + k) xs ≡ take i xs ++ take k (drop i xs)
take_both zero k xs = ap (λ (n : ℕ). take n xs) (omega arith)
take_both (suc i) zero [] = none (suc i + 0)
take_both (suc i) (suc k) [] = none (suc i + suc k)
take_both (suc i) k (x ∷ xs) =
    let e : suc i + k ≡ suc (i + k) = omega arith in
    ap (λ (n : ℕ). take n (x ∷ xs)) e ∙ ap (λ (rest : List ℕ). x ∷ rest) (take_both i k xs)

both_digits : (xs ys : List ℕ) → AllDigits 10 xs → AllDigits 10 ys → AllDigits 10 (xs ++ ys)
both_digits [] ys h k = k
both_digits (x ∷ xs) ys h k = (h.0, both_digits xs ys h.1 k)

-- what stands before d and rest, where p digits follow d
value_parts : (n d p q rest more : ℕ) → q ≡ p * 10 → more ≡ (0 * 10 + d) * p + rest → (n * 10 + d) * p + rest ≡ n * q + more
value_parts n d p q rest more e f =
    let first : more ≡ d * p + rest = f ∙ ap (λ (x : ℕ). x * p + rest) (omega arith) in
    let tens : n * q ≡ n * 10 * p = ap (λ (x : ℕ). n * x) (e ∙ mul_comm p 10) ∙ sym (mul_assoc n 10 p) in
    let spread : (n * 10 + d) * p ≡ n * 10 * p + d * p = add-mul (n * 10) d p in
    omega (arith, first, tens, spread)

value_after : (n : ℕ) (ds : List ℕ) → number_from_digits_after 10 n ds ≡ n * 10 ^ length ds + number_from_digits 10 ds
value_after n [] = omega arith
value_after n (d ∷ ds) =
    value_after (n * 10 + d) ds ∙ value_parts n d (10 ^ length ds) (10 ^ suc (length ds)) (number_from_digits 10 ds) (number_from_digits_after 10 (0 * 10 + d) ds) (pow-suc 10 (length ds)) (value_after (0 * 10 + d) ds)

value_on : (xs ys : List ℕ) → digits_value 10 (xs ++ ys) ≡ digits_value 10 xs * 10 ^ length ys + digits_value 10 ys
value_on xs ys =
    let apart : number_from_digits 10 (map digit_value xs ++ map digit_value ys) ≡ number_from_digits_after 10 (number_from_digits 10 (map digit_value xs)) (map digit_value ys) = number_after_append 10 0 (map digit_value xs) (map digit_value ys) in
    let long : length (map digit_value ys) ≡ length ys = length-map ys digit_value in
    digits_value_is 10 (xs ++ ys)
    ∙ (ap (number_from_digits 10) (map-append digit_value xs ys)
    ∙ (apart
    ∙ (value_after (number_from_digits 10 (map digit_value xs)) (map digit_value ys)
    ∙ (ap (λ (k : ℕ). number_from_digits 10 (map digit_value xs) * 10 ^ k + number_from_digits 10 (map digit_value ys)) long
    ∙ (ap (λ (n : ℕ). n * 10 ^ length ys + number_from_digits 10 (map digit_value ys)) (sym (digits_value_is 10 xs))
    ∙ ap (λ (n : ℕ). digits_value 10 xs * 10 ^ length ys + n) (sym (digits_value_is 10 ys)))))))

pub start_more : (text : List ℕ) (n count more k sum : ℕ) → IsDigitStart text n count → k ≤ length (drop count text) → AllDigits 10 (take k (drop count text)) → more ≡ digits_value 10 (take k (drop count text)) → sum ≡ n * 10 ^ k + more → sum < 2 ^ 64 → IsDigitStart text sum (count + k)
start_more text n count more k sum start le digits is total fits =
    let both = take_both count k text in
    let long : length (take k (drop count text)) ≡ k = omega (arith, length-take k (drop count text)) in
    let value = value_on (take count text) (take k (drop count text)) in
    let room = length-drop count text in
    let within = start.within in
    record {
      within = omega arith;
      digits = subst (AllDigits 10) (sym both) (both_digits (take count text) (take k (drop count text)) start.digits digits);
      value = total
          ∙ (ap (λ (x : ℕ). x * 10 ^ k + more) start.value
          ∙ (ap (λ (x : ℕ). digits_value 10 (take count text) * 10 ^ k + x) is
          ∙ (ap (λ (j : ℕ). digits_value 10 (take count text) * 10 ^ j + digits_value 10 (take k (drop count text))) (sym long)
          ∙ (sym value ∙ ap (digits_value 10) (sym both)))));
      fits = fits;
    }

-- what is read behind the digits of a full block, or nothing
pub same_part : (k place count : ℕ) (text : List ℕ) → (0 < k → place ≡ count) → take k (drop place text) ≡ take k (drop count text)
same_part zero place count text h = refl
same_part (suc k) place count text h = ap (λ (i : ℕ). take (suc k) (drop i text)) (h (omega arith))

pub start_next : (text : List ℕ) (n count more k place sum : ℕ) → IsDigitStart text n count → (0 < k → place ≡ count) → count + k ≤ length text → AllDigits 10 (take k (drop place text)) → more ≡ digits_value 10 (take k (drop place text)) → sum ≡ n * 10 ^ k + more → sum < 2 ^ 64 → IsDigitStart text sum (count + k)
start_next text n count more k place sum start here le digits is total fits =
    let same = same_part k place count text here in
    start_more text n count more k sum start (omega (arith, length-drop count text)) (subst (AllDigits 10) same digits) (is ∙ ap (digits_value 10) same) total fits
