-- A parse reads the names of a parser, and not where they lie in memory.
use Rattle.std.proofs.Common.{◌≡◌, ◌∙◌, ℕ, Bool, true, false, zero, suc, ◌&&◌, ◌||◌, List, [], ◌∷◌, map, find, fold, drop, length, None, Option, Some, refl, sym, ap, ap₂, cond, option_map, encode_utf8, slice_get}
use Rattle.std.specs.Borrow.{Bor}
use Rattle.std.specs.List.{list_any}
use Rattle.std.specs.Str.{bytes_eq, chars}
use Rattle.clap.specs.Lexer.{short_of, long_of}
use Rattle.clap.specs.Facts.{parser_of_value}
use Rattle.clap.specs.Simple.{App, Shape, argument_words, built, entered, label_of, names_of, rows_at, subcommand_of}
use Rattle.clap.specs.Values.{reading_of, same_text}
use Rattle.clap.specs.ValueTests.{accepts}
use Rattle.clap.specs.Walk.{Held, Names, Outcome, Row, Rule, Step, Text, Waiting, Walk, action_of, after_flag, after_step, answers_to, arg_by_id, arg_by_index, arg_by_long, arg_by_short, attached_value, bundle, bundle_met, bundle_step, default_rows, done, finished, flag_met, has_row, idle, is_multiple, is_pending, long_met, long_or_other, long_word, next, next_position, nothing_held, option, option_met, option_word, plain, plain_word, positional, positional_held, pushed, reacted, refused, rows_after, settled, settled_rows, stop_after, short_met, short_or_plain, short_word, subcommand, subcommand_met, subcommand_or_other, takes_several, takes_values, to_positional, trailing, used, used_as, used_by_id, value, values_or_missing, waits, walk, walk_from, walked, walked_from, with_default, word_met}
use Rattle.clap.specs.declared.builder.value_parser.ValueParser.{ValueParser}
use Rattle.clap.specs.declared.builder.value_parser.ValueParser.TheVariants as parser
use Rattle.command_words.specs.declared.building.Choices.{Choices}
use Rattle.command_words.specs.Table.{carrier_name, carriers as all_carriers, format_name, formats as all_formats}
use Rattle.command_words.specs.Words.{line_words, one_of, placeless, postcopy_words}

-- a parser, whose names lie at no place
abbrev pub unplaced : ValueParser → ValueParser
unplaced (parser.Names names) = one_of (map (λ name. name.now) names.now)
unplaced other = other

-- a rule with such a parser
abbrev pub set : Rule → Rule
set a = record a { parser = option_map unplaced a.parser }

-- ---- how values are read, and which are taken

read_alike : (p : Option ValueParser) → reading_of (parser_of_value (option_map unplaced p)) ≡ reading_of (parser_of_value p)
read_alike None = refl
read_alike (Some parser.String) = refl
read_alike (Some parser.NonEmptyString) = refl
read_alike (Some parser.Bool) = refl
read_alike (Some parser.Boolish) = refl
read_alike (Some parser.Falsey) = refl
read_alike (Some (parser.Signed low high)) = refl
read_alike (Some (parser.Unsigned low high)) = refl
read_alike (Some parser.Float) = refl
read_alike (Some parser.Char) = refl
read_alike (Some (parser.Names names)) = refl
read_alike (Some (parser.Values values)) = refl

any_alike : (ignore_case : Bool) (text : Text) (names : List (Bor Text)) → list_any (λ (name : Bor Text). same_text ignore_case name.now text) (map placeless (map (λ (name : Bor Text). name.now) names)) ≡ list_any (λ (name : Bor Text). same_text ignore_case name.now text) names
any_alike ignore_case text [] = refl
any_alike ignore_case text (name ∷ names) = ap (λ b. same_text ignore_case name.now text || b) (any_alike ignore_case text names)

pub accept_alike : (ignore_case : Bool) (p : Option ValueParser) (text : Text) → accepts ignore_case (parser_of_value (option_map unplaced p)) text ≡ accepts ignore_case (parser_of_value p) text
accept_alike ignore_case None text = refl
accept_alike ignore_case (Some parser.String) text = refl
accept_alike ignore_case (Some parser.NonEmptyString) text = refl
accept_alike ignore_case (Some parser.Bool) text = refl
accept_alike ignore_case (Some parser.Boolish) text = refl
accept_alike ignore_case (Some parser.Falsey) text = refl
accept_alike ignore_case (Some (parser.Signed low high)) text = refl
accept_alike ignore_case (Some (parser.Unsigned low high)) text = refl
accept_alike ignore_case (Some parser.Float) text = refl
accept_alike ignore_case (Some parser.Char) text = refl
accept_alike ignore_case (Some (parser.Names names)) text = any_alike ignore_case text names.now
accept_alike ignore_case (Some (parser.Values values)) text = refl

-- ---- lists of rules

pub find_map : {X : Type 0} (f : X → X) (test : X → Bool) (xs : List X) → find test (map f xs) ≡ option_map f (find (λ x. test (f x)) xs)
find_map f test [] = refl
find_map f test (x ∷ xs) = elim (test (f x)) as (λ b. cond b (Some (f x)) (find test (map f xs)) ≡ option_map f (cond b (Some x) (find (λ x. test (f x)) xs))) [ true ↦ refl | false ↦ find_map f test xs ]

pub find_alike : (test : Rule → Bool) (c : List Rule) → find test (map set c) ≡ option_map set (find (λ a. test (set a)) c)
find_alike test c = find_map set test c

-- ---- one use of an argument

pub missing_alike : (a : Rule) (values : List Text) → values_or_missing (set a) values ≡ values_or_missing a values
missing_alike a [] = refl
missing_alike a (v ∷ vs) = refl

used_alike : (a : Rule) (values : List Text) (rows : List Row) → used (set a) values rows ≡ used a values rows
used_alike a values rows = ap₂ (λ how vs. used_as (action_of a) a.id how vs rows) (read_alike a.parser) (missing_alike a values)

used_by_alike : (o : Option Rule) (values : List Text) (rows : List Row) → used_by_id (option_map set o) values rows ≡ used_by_id o values rows
used_by_alike None values rows = refl
used_by_alike (Some a) values rows = used_alike a values rows

settled_rows_alike : (c : List Rule) (pending : Option (Text × List Text)) (rows : List Row) → settled_rows (map set c) pending rows ≡ settled_rows c pending rows
settled_rows_alike c None rows = refl
settled_rows_alike c (Some p) rows = ap (λ o. used_by_id o p.1 rows) (find_alike (λ a. bytes_eq a.id p.0) c) ∙ used_by_alike (arg_by_id c p.0) p.1 rows

pub settled_alike : (c : List Rule) (h : Held) → settled (map set c) h ≡ settled c h
settled_alike c h = ap (λ rows. record h { rows = rows; pending = None }) (settled_rows_alike c h.pending h.rows)

pub reacted_alike : (c : List Rule) (a : Rule) (values : List Text) (h : Held) → reacted (map set c) (set a) values h ≡ reacted c a values h
reacted_alike c a values h = ap (λ rows. record h { rows = rows; pending = None }) (used_alike a values (settled (map set c) h).rows ∙ ap (λ (k : Held). used a values k.rows) (settled_alike c h))

-- ---- the walk

option_alike : (c : List Rule) (a : Rule) (v : Option Text) (h : Held) → option_met (map set c) (set a) v h ≡ option_met c a v h
option_alike c a (Some v) h = ap (λ (k : Held). let p : Held × Outcome = (k, done) in p) (reacted_alike c a (v ∷ []) h)
option_alike c a None h = ap (λ (k : Held). let p : Held × Outcome = (record k { pending = Some (a.id, []) }, waits a.id) in p) (settled_alike c h)

flag_alike : (c : List Rule) (a : Rule) (v : Option Text) (h : Held) → flag_met (map set c) (set a) v h ≡ flag_met c a v h
flag_alike c a (Some v) h = refl
flag_alike c a None h = ap (λ (k : Held). let p : Held × Outcome = (k, done) in p) (reacted_alike c a [] h)

long_alike : (c : List Rule) (o : Option Rule) (v : Option Text) (h : Held) → long_met (map set c) (option_map set o) v h ≡ long_met c o v h
long_alike c None v h = refl
long_alike c (Some a) v h = ap₂ (cond (takes_values a)) (option_alike c a v h) (flag_alike c a v h)

short_alike : (c : List Rule) (o : Option Rule) (rest : Text) (h : Held) (go other : Held → Held × Outcome) → ((k : Held) → go k ≡ other k) → short_met (map set c) (option_map set o) rest h go ≡ short_met c o rest h other
short_alike c None rest h go other same = refl
short_alike c (Some a) rest h go other same = ap₂ (cond (takes_values a)) (option_alike c a (attached_value rest) h) (same (reacted (map set c) (set a) [] h) ∙ ap other (reacted_alike c a [] h))

bundle_step_alike : (c : List Rule) (x : Option ℕ) (flags : Text) (skip : ℕ) (so_far : Outcome) (h : Held) (go other : Text → ℕ → Outcome → Held → Held × Outcome)
    → ((t : Text) (n : ℕ) (o : Outcome) (k : Held) → go t n o k ≡ other t n o k) → bundle_step (map set c) x flags skip so_far h go ≡ bundle_step c x flags skip so_far h other
bundle_step_alike c None flags skip so_far h go other same = refl
bundle_step_alike c (Some x) flags zero so_far h go other same =
    let rest = drop (length (encode_utf8 x)) flags in
    ap (λ o. short_met (map set c) o rest h (go rest 0 done)) (find_alike _ c) ∙ short_alike c (arg_by_short c x) rest h (go rest 0 done) (other rest 0 done) (same rest 0 done)
bundle_step_alike c (Some x) flags (suc skip) so_far h go other same = same (drop (length (encode_utf8 x)) flags) skip so_far h

bundle_met_alike : (c : List Rule) (k : ℕ) (flags : Text) (skip : ℕ) (so_far : Outcome) (h : Held) → bundle_met (map set c) k flags skip so_far h ≡ bundle_met c k flags skip so_far h
unfolding bundle_met
bundle_met_alike c zero flags skip so_far h = refl
bundle_met_alike c (suc k) flags skip so_far h = bundle_step_alike c (slice_get (chars flags) 0) flags skip so_far h (bundle_met (map set c) k) (bundle_met c k) (bundle_met_alike c k)

option_word_alike : (o : Option Rule) (id word : Text) (h : Held) → option_word (option_map set o) id word h ≡ option_word o id word h
option_word_alike None id word h = refl
option_word_alike (Some a) id word h = refl

plain_word_alike : (c : List Rule) (waiting : Waiting) (word : Text) (h : Held) → plain_word (map set c) waiting word h ≡ plain_word c waiting word h
plain_word_alike c (option id) word h = ap (λ (m : Held × Waiting). let p : Held × Step = (m.0, next m.1) in p) (ap (λ o. option_word o id word h) (find_alike (λ a. bytes_eq a.id id) c) ∙ option_word_alike (arg_by_id c id) id word h)
plain_word_alike c idle word h = refl
plain_word_alike c positional word h = refl

after_flag_alike : (c : List Rule) (waiting : Waiting) (word : Text) (h : Held) (o : Outcome) → after_flag (map set c) waiting word h o ≡ after_flag c waiting word h o
after_flag_alike c waiting word h done = refl
after_flag_alike c waiting word h (waits id) = refl
after_flag_alike c waiting word h plain = plain_word_alike c waiting word h
after_flag_alike c waiting word h refused = plain_word_alike c waiting word h

long_word_alike : (c : List Rule) (waiting : Waiting) (word name : Text) (v : Option Text) (h : Held) → long_word (map set c) waiting word name v h ≡ long_word c waiting word name v h
long_word_alike c waiting word name v h =
    ap (λ (m : Held × Outcome). after_flag (map set c) waiting word m.0 m.1) (ap (λ o. long_met (map set c) o v h) (find_alike _ c) ∙ long_alike c (arg_by_long c name) v h)
    ∙ after_flag_alike c waiting word (long_met c (arg_by_long c name) v h).0 (long_met c (arg_by_long c name) v h).1

short_word_alike : (c : List Rule) (waiting : Waiting) (word flags : Text) (h : Held) → short_word (map set c) waiting word flags h ≡ short_word c waiting word flags h
short_word_alike c waiting word flags h =
    ap (λ (m : Held × Outcome). after_flag (map set c) waiting word m.0 m.1) (bundle_met_alike c (length flags) flags h.skip plain (record h { skip = 0 }))
    ∙ after_flag_alike c waiting word (bundle c flags h).0 (bundle c flags h).1

short_or_plain_alike : (c : List Rule) (waiting : Waiting) (word : Text) (flags : Option Text) (h : Held) → short_or_plain (map set c) waiting word flags h ≡ short_or_plain c waiting word flags h
short_or_plain_alike c waiting word (Some flags) h = short_word_alike c waiting word flags h
short_or_plain_alike c waiting word None h = plain_word_alike c waiting word h

long_or_other_alike : (c : List Rule) (waiting : Waiting) (word : Text) (long : Option (Text × Option Text)) (h : Held) → long_or_other (map set c) waiting word long h ≡ long_or_other c waiting word long h
long_or_other_alike c waiting word (Some p) h = long_word_alike c waiting word p.0 p.1 h
long_or_other_alike c waiting word None h = short_or_plain_alike c waiting word (short_of word) h

subcommand_alike : (c : List Rule) (met : Option Text) (waiting : Waiting) (position : ℕ) (word : Text) (h : Held) → subcommand_or_other (map set c) met waiting position word h ≡ subcommand_or_other c met waiting position word h
subcommand_alike c (Some name) waiting position word h = refl
subcommand_alike c None waiting position word h = ap (cond (bytes_eq word (45 ∷ 45 ∷ [])) (h, trailing position)) (long_or_other_alike c waiting word (long_of word) h)

pub met_alike : (c : List Rule) (names : Names) (is_trailing : Bool) (waiting : Waiting) (position : ℕ) (word : Text) (h : Held) → word_met (map set c) names is_trailing waiting position word h ≡ word_met c names is_trailing waiting position word h
met_alike c names is_trailing waiting position word h = ap (cond is_trailing (h, value)) (subcommand_alike c (subcommand_met names waiting word) waiting position word h)

positional_alike : (c : List Rule) (a : Rule) (word : Text) (h : Held) → positional_held (map set c) (set a) word h ≡ positional_held c a word h
positional_alike c a word h = ap (λ (k : Held). pushed a.id word (cond (is_pending a h.pending && takes_several a) h k)) (settled_alike c h)

to_positional_alike : (c : List Rule) (o : Option Rule) (word : Text) (w : Walk) (h : Held) → to_positional (map set c) (option_map set o) word w h ≡ to_positional c o word w h
to_positional_alike c None word w h = refl
to_positional_alike c (Some a) word w h = ap (λ (k : Held). record {
  held = k;
  waiting = cond (is_multiple a) positional idle;
  position = next_position a w.position;
  is_trailing = w.is_trailing || a.trailing_var_arg;
  stopped = None;
}) (positional_alike c a word h)

after_step_alike : (c : List Rule) (word : Text) (w : Walk) (h : Held) (s : Step) → after_step (map set c) word w h s ≡ after_step c word w h s
after_step_alike c word w h (next waiting) = refl
after_step_alike c word w h (trailing position) = refl
after_step_alike c word w h (subcommand name) = refl
after_step_alike c word w h value = ap (λ o. to_positional (map set c) o word w h) (find_alike _ c) ∙ to_positional_alike c (arg_by_index c w.position) word w h

walked_from_alike : (c : List Rule) (names : Names) (stopped : Option (Text × List Text)) (w : Walk) (word : Text) → walked_from (map set c) names stopped w word ≡ walked_from c names stopped w word
walked_from_alike c names (Some p) w word = refl
walked_from_alike c names None w word =
    let met = word_met c names w.is_trailing w.waiting w.position word w.held in
    ap (λ (m : Held × Step). after_step (map set c) word w m.0 m.1) (met_alike c names w.is_trailing w.waiting w.position word w.held) ∙ after_step_alike c word w met.0 met.1

pub walked_alike : (c : List Rule) (names : Names) (w : Walk) (word : Text) → walked (map set c) names w word ≡ walked c names w word
unfolding walked
walked_alike c names w word = walked_from_alike c names w.stopped w word

pub fold_alike : (c : List Rule) (names : Names) (w : Walk) (words : List Text) → fold (walked (map set c) names) w words ≡ fold (walked c names) w words
fold_alike c names w [] = refl
fold_alike c names w (word ∷ words) = ap (λ k. fold (walked (map set c) names) k words) (walked_alike c names w word) ∙ fold_alike c names (walked c names w word) words

pub default_alike : (rows : List Row) (a : Rule) → with_default rows (set a) ≡ with_default rows a
default_alike rows a = ap (λ how. cond (has_row a.id rows) rows (default_rows a.id how a.defaults rows)) (read_alike a.parser)

defaults_alike : (c : List Rule) (rows : List Row) → fold with_default rows (map set c) ≡ fold with_default rows c
defaults_alike [] rows = refl
defaults_alike (a ∷ c) rows = ap (λ k. fold with_default k (map set c)) (default_alike rows a) ∙ defaults_alike c (with_default rows a)

pub finished_alike : (c : List Rule) (h : Held) → finished (map set c) h ≡ finished c h
finished_alike c h = ap (λ (k : Held). fold with_default k.rows (map set c)) (settled_alike c h) ∙ defaults_alike c (settled c h).rows

-- the rows of a parse
pub rows_alike : (c : List Rule) (names : Names) (words : List Text) → rows_after (map set c) names words ≡ rows_after c names words
rows_alike c names words = ap (λ (w : Walk). finished (map set c) w.held) (fold_alike c names (walk_from nothing_held) words) ∙ finished_alike c (walk c names nothing_held words).held

-- a command with such rules
abbrev pub set_in : Shape → Shape
set_in s = record s { rules = map set s.rules }

-- ---- the level below

rows_at_alike : (o : Option Shape) (words : List Text) → option_map (λ (s : Shape). rows_at s words) (option_map set_in o) ≡ option_map (λ (s : Shape). rows_at s words) o
rows_at_alike None words = refl
rows_at_alike (Some s) words = ap (λ rows. Some (s.name, rows)) (rows_alike s.rules [] words)

-- a program with such commands
abbrev pub set_below : App → App
set_below a = record a { subs = map set_in a.subs }

pub entered_alike : (a : App) (stop : Option (Text × List Text)) → entered (set_below a) stop ≡ entered a stop
entered_alike a None = refl
entered_alike a (Some p) = ap (option_map (λ (s : Shape). rows_at s p.1)) (find_map set_in (λ s. answers_to p.0 (label_of s)) a.subs) ∙ rows_at_alike _ p.1

-- ---- the program's command line

-- where the walk over the words of the program stops
unfoldable pub stop_of : List Text → Option (Text × List Text)
stop_of words = let a = built postcopy_words in stop_after a.top.rules (names_of a) (argument_words postcopy_words words)

-- parsers of these names
abbrev pub parsers : Bor (List (Bor Text)) → Bor (List (Bor Text)) → Choices
parsers carriers forms = record { carriers = parser.Names carriers; formats = parser.Names forms }

-- parsers of these texts, which lie at no place
abbrev pub parsers_of : List Text → List Text → Choices
parsers_of carriers forms = record { carriers = one_of carriers; formats = one_of forms }

-- the names behind references
abbrev pub texts : Bor (List (Bor Text)) → List Text
texts names = map (λ (name : Bor Text). name.now) names.now

line_entered : (carriers forms : Bor (List (Bor Text))) (words : List Text) → subcommand_of (line_words (parsers_of (texts carriers) (texts forms))) words ≡ subcommand_of (line_words (parsers carriers forms)) words
unfolding stop_of
line_entered carriers forms words = entered_alike (built (line_words (parsers carriers forms))) (stop_of words)

-- the program finds this in the words, wherever the names of the carriers and of the forms lie
pub found_anywhere : (carriers forms : Bor (List (Bor Text))) (words : List Text) → texts carriers ≡ map carrier_name all_carriers → texts forms ≡ map format_name all_formats
    → subcommand_of postcopy_words words ≡ subcommand_of (line_words (record { carriers = parser.Names carriers; formats = parser.Names forms })) words
found_anywhere carriers forms words e d = ap₂ (λ c f. subcommand_of (line_words (parsers_of c f)) words) (sym e) (sym d) ∙ line_entered carriers forms words
