-- What a command line takes, and finds, where its first word names a command and the others are plain names.
use Rattle.std.proofs.Common.{◌≡◌, ◌∙◌, ℕ, Bool, true, false, List, [], ◌∷◌, Some, ap, ap₂, find, is_some, option_map, ◌&&◌}
use Rattle.std.specs.List.{list_all}
use Rattle.std.specs.Option.{option_map_or}
use Rattle.clap.specs.Simple.{App, Shape, argument_words, built, entered, is_simple, label_of, names_of, rows_at}
use Rattle.clap.specs.Takes.{default_passes, entered_passes, is_valid, level_passes, settle_passes, step_passes, takes, turn_passes, walk_passes}
use Rattle.clap.specs.Walk.{Held, Text, Walk, answers_to, arg_by_index, finished, nothing_held, stop_after, to_positional, value, walk, walk_from, walked}
use Rattle.clap.specs.Words.{subcommand_of}
use Rattle.command_words.proofs.Names.{IsName, at, turn_name, walked_name}

-- a parse of these words enters this command
pub record Enters (a : App) (program command : Text) (names : List Text) (s : Shape) : Type 0 where
  pub simple : is_simple a ≡ true
  pub arguments : argument_words a (program ∷ command ∷ names) ≡ command ∷ names
  pub stops : stop_after (built a).top.rules (names_of (built a)) (command ∷ names) ≡ Some (command, names)
  pub passes : level_passes (built a).top (names_of (built a)) nothing_held (command ∷ names) true ≡ true
  pub shape : find (λ t. answers_to command (label_of t)) (built a).subs ≡ Some s

-- whether what a walk over the words of a command holds at its end passes
abbrev pub end_passes : Shape → Held → Bool
end_passes s h = settle_passes s.rules s.args_override_self h && (list_all default_passes s.rules && is_valid s (finished s.rules h) false)

-- the command takes these names, and this is held at the end of a walk over them
pub record Holds (s : Shape) (names : List Text) (h : Held) : Type 0 where
  pub walks : (walk s.rules [] nothing_held names).held ≡ h
  pub turns : walk_passes s [] (walk_from nothing_held) names ≡ true
  pub ends : end_passes s h ≡ true

-- where a walk stands after a positional has taken a name
abbrev pub took : Shape → ℕ → Text → Held → Walk
took s position name h = to_positional s.rules (arg_by_index s.rules position) name (at h position) h

took_name : (s : Shape) (h : Held) (position : ℕ) (name : Text) → IsName name → walked s.rules [] (at h position) name ≡ took s position name h
took_name s h position name is = walked_name s.rules h position name is

-- a name that the first positional takes
pub takes_one : (s : Shape) (name : Text) → IsName name → step_passes s 1 nothing_held value ≡ true → end_passes s (took s 1 name nothing_held).held ≡ true → Holds s (name ∷ []) (took s 1 name nothing_held).held
unfolding walk_passes
takes_one s name is turn ends = record {
  walks = ap (λ (w : Walk). w.held) (took_name s nothing_held 1 name is);
  turns = ap (λ b. b && true) (turn_name s nothing_held 1 name is ∙ turn);
  ends = ends;
}

-- two names, of which the second positional takes the other
pub takes_two : (s : Shape) (h : Held) (one other : Text) → IsName one → IsName other → took s 1 one nothing_held ≡ at h 2 → step_passes s 1 nothing_held value ≡ true → step_passes s 2 h value ≡ true → end_passes s (took s 2 other h).held ≡ true
    → Holds s (one ∷ other ∷ []) (took s 2 other h).held
unfolding walk_passes
takes_two s h one other is_one is_other first turn second ends =
    let between : walked s.rules [] (at nothing_held 1) one ≡ at h 2 = took_name s nothing_held 1 one is_one ∙ first in
    record {
      walks = ap (λ (w : Walk). (walked s.rules [] w other).held) between ∙ ap (λ (w : Walk). w.held) (took_name s h 2 other is_other);
      turns = ap₂ (λ b d. b && d) (turn_name s nothing_held 1 one is_one ∙ turn) (ap (λ w. turn_passes s [] w other && true) between ∙ ap (λ b. b && true) (turn_name s h 2 other is_other ∙ second));
      ends = ends;
    }

module _ (a : App) (program command : Text) (names : List Text) (s : Shape) (h : Held) (enters : Enters a program command names s) (holds : Holds s names h) where
  -- what is found
  found_after : entered (built a) (stop_after (built a).top.rules (names_of (built a)) (command ∷ names)) ≡ Some (s.name, finished s.rules h)
  found_after =
      ap (entered (built a)) enters.stops
      ∙ ap (option_map (λ (t : Shape). rows_at t names)) enters.shape
      ∙ ap (λ (end : Held). Some (s.name, finished s.rules end)) holds.walks

  pub found_plainly : subcommand_of a (program ∷ command ∷ names) ≡ Some (s.name, finished s.rules h)
  found_plainly = ap (λ words. entered (built a) (stop_after (built a).top.rules (names_of (built a)) words)) enters.arguments ∙ found_after

  level : level_passes s [] nothing_held names false ≡ true
  level = ap₂ (λ b d. b && d) holds.turns (ap (end_passes s) holds.walks ∙ holds.ends)

  below : entered_passes (built a) (stop_after (built a).top.rules (names_of (built a)) (command ∷ names)) ≡ true
  below = ap (entered_passes (built a)) enters.stops ∙ ap (λ o. option_map_or (λ t. level_passes t [] nothing_held names false) o true) enters.shape ∙ level

  -- the words are taken
  pub taken_plainly : takes a (program ∷ command ∷ names) ≡ true
  taken_plainly = ap₂ (λ b d. b && d) enters.simple
      (ap (λ words. entered_passes (built a) (stop_after (built a).top.rules (names_of (built a)) words) && level_passes (built a).top (names_of (built a)) nothing_held words (is_some (entered (built a) (stop_after (built a).top.rules (names_of (built a)) words)))) enters.arguments
      ∙ ap₂ (λ b d. b && d) below (ap (λ found. level_passes (built a).top (names_of (built a)) nothing_held (command ∷ names) (is_some found)) found_after ∙ enters.passes))
