-- Names that are no options, as a walk over the words of a command meets them.
use Rattle.std.proofs.Common.{◌≡◌, ◌∙◌, ◌==◌, ℕ, true, false, List, [], ◌∷◌, inl, inr, None, refl, ap, ap₂, cond, ◌&&◌, ◌||◌}
use Rattle.std.specs.Option.{option_map_or}
use Rattle.std.specs.Str.{bytes_eq}
use Rattle.std.proofs.lemmas.Bool.{ne_eqb}
use Rattle.clap.specs.Lexer.{long_of, short_of}
use Rattle.clap.specs.Simple.{Shape}
use Rattle.clap.specs.Takes.{bundle_passes, flag_word_passes, step_passes, turn_passes, word_passes}
use Rattle.clap.specs.Walk.{Held, Rule, Step, Text, Walk, after_step, arg_by_index, idle, long_or_other, short_or_plain, to_positional, trailing, value, walked, word_met}
use Rattle.command_words.specs.Words.{IsPlainName}

-- a name of one of three forms
pub data Form : Text → Type 0 where
  Dash : Form (45 ∷ [])
  Empty : Form []
  Other : (b : ℕ) (rest : Text) → (b == 45) ≡ false → Form (b ∷ rest)

pub form_of : (name : Text) → IsPlainName name → Form name
form_of name (inl e) = rw e Dash
form_of [] (inr h) = Empty
form_of (b ∷ rest) (inr h) = Other b rest (ne_eqb b 45 (λ e. h rest (ap (λ (x : ℕ). x ∷ rest) e)))

-- a word that a walk takes for no flag
pub record IsName (word : Text) : Type 0 where
  pub no_dashes : bytes_eq word (45 ∷ 45 ∷ []) ≡ false
  pub no_long : long_of word ≡ None
  pub no_short : short_of word ≡ None

pub is_name : (word : Text) → Form word → IsName word
is_name _ Dash = record { no_dashes = refl; no_long = refl; no_short = refl }
is_name _ Empty = record { no_dashes = refl; no_long = refl; no_short = refl }
is_name _ (Other b rest e) = record { no_dashes = simp e; no_long = simp e; no_short = simp e }

-- where a walk stands between two words, while it waits for nothing
abbrev pub at : Held → ℕ → Walk
at h position = record { held = h; waiting = idle; position = position; is_trailing = false; stopped = None }

met_name : (c : List Rule) (position : ℕ) (word : Text) (h : Held) → IsName word → word_met c [] false idle position word h ≡ (h, value)
met_name c position word h name =
    ap (λ b. cond b (h, trailing position) (long_or_other c idle word (long_of word) h)) name.no_dashes
    ∙ ap (λ o. long_or_other c idle word o h) name.no_long
    ∙ ap (λ o. short_or_plain c idle word o h) name.no_short

-- the name goes to the positional whose turn it is
pub walked_name : (c : List Rule) (h : Held) (position : ℕ) (word : Text) → IsName word → walked c [] (at h position) word ≡ to_positional c (arg_by_index c position) word (at h position) h
unfolding walked
walked_name c h position word name = ap (λ (m : Held × Step). after_step c word (at h position) m.0 m.1) (met_name c position word h name)

name_passes : (s : Shape) (word : Text) (h : Held) → IsName word → word_passes s [] false idle word h ≡ true
name_passes s word h name =
    ap (λ b. b || flag_word_passes s.rules s.args_override_self (long_of word) word h) name.no_dashes
    ∙ ap (λ o. flag_word_passes s.rules s.args_override_self o word h) name.no_long
    ∙ ap (λ o. option_map_or (λ flags. bundle_passes s.rules s.args_override_self flags h) o true) name.no_short

-- and it passes where that positional takes it
pub turn_name : (s : Shape) (h : Held) (position : ℕ) (word : Text) → IsName word → turn_passes s [] (at h position) word ≡ step_passes s position h value
turn_name s h position word name =
    ap₂ (λ b d. b && d) (name_passes s word h name) (ap (λ (m : Held × Step). step_passes s position m.0 m.1) (met_name s.rules position word h name))
