-- Which kinds of error words have depends on the names of a parser, and not on where they lie in memory.
use Rattle.std.proofs.Common.{◌≡◌, ◌∙◌, ℕ, Bool, false, zero, suc, ◌&&◌, ◌||◌, List, [], ◌∷◌, map, drop, length, None, Option, Some, is_some, not, refl, sym, ap, ap₂, cond, option_map, encode_utf8, slice_get}
use Rattle.std.specs.Borrow.{Bor}
use Rattle.std.specs.List.{list_any}
use Rattle.std.specs.Option.{option_map_or}
use Rattle.std.specs.Str.{bytes_eq, chars}
use Rattle.clap.specs.Lexer.{long_of, short_of}
use Rattle.clap.specs.Facts.{explicit_source, parser_of_value, unwrap_or_range}
use Rattle.clap.specs.Faults.{action_fault, bundle_fault, bundle_step_fault, check_fault, count_fault, default_fault, defaults_fault, entered_fault, fault_of, flag_word_fault, flags_fault, level_fault, long_fault, option_fault, other_fault, positional_fault, react_fault, repeat_fault, set_fault, settle_fault, short_fault, step_fault, stray_fault, turn_fault, use_fault, values_fault, walk_fault, word_fault}
use Rattle.clap.specs.Kinds.{Kinds, check_kinds, or_else, range_kinds, request_kinds, value_kinds, values_kinds}
use Rattle.clap.specs.Simple.{App, Shape, argument_words, built, label_of, names_of}
use Rattle.clap.specs.Takes.{is_given}
use Rattle.clap.specs.Values.{refused_kind}
use Rattle.clap.specs.Walk.{Held, Names, Row, Rule, Step, Text, Waiting, Walk, action_of, answers_to, arg_by_id, arg_by_index, arg_by_long, arg_by_short, attached_value, finished, has_row, is_empty, is_pending, most_values, next, nothing_held, reacted, settled, subcommand, subcommand_met, takes_several, takes_values, trailing, value, values_or_missing, walk, walk_from, walked, with_default, word_met}
use Rattle.clap.specs.declared.builder.action.ArgAction.{ArgAction}
use Rattle.clap.specs.declared.builder.action.ArgAction.TheVariants.{Set, Append, SetTrue, SetFalse, Count}
use Rattle.clap.specs.declared.builder.action.ArgAction.TheVariants as action
use Rattle.clap.specs.declared.builder.value_parser.ValueParser.{ValueParser}
use Rattle.clap.specs.declared.builder.value_parser.ValueParser.TheVariants as parser
use Rattle.clap.specs.declared.error.kind.ErrorKind.TheVariants.{TooManyValues}
use Rattle.command_words.specs.Table.{carrier_name, carriers as all_carriers, format_name, formats as all_formats}
use Rattle.command_words.specs.Words.{line_words, postcopy_words}
use Rattle.command_words.proofs.Unplaced.{accept_alike, default_alike, entered_alike, find_alike, find_map, finished_alike, fold_alike, met_alike, missing_alike, parsers, parsers_of, reacted_alike, set, set_below, set_in, settled_alike, stop_of, texts, unplaced, walked_alike}

-- ---- one use of an argument

kind_alike : (p : Option ValueParser) → refused_kind (parser_of_value (option_map unplaced p)) ≡ refused_kind (parser_of_value p)
kind_alike None = refl
kind_alike (Some parser.String) = refl
kind_alike (Some parser.NonEmptyString) = refl
kind_alike (Some parser.Bool) = refl
kind_alike (Some parser.Boolish) = refl
kind_alike (Some parser.Falsey) = refl
kind_alike (Some (parser.Signed low high)) = refl
kind_alike (Some (parser.Unsigned low high)) = refl
kind_alike (Some parser.Float) = refl
kind_alike (Some parser.Char) = refl
kind_alike (Some (parser.Names names)) = refl
kind_alike (Some (parser.Values values)) = refl

value_alike : (ignore_case : Bool) (p : Option ValueParser) (text : Text) → value_kinds ignore_case (parser_of_value (option_map unplaced p)) text ≡ value_kinds ignore_case (parser_of_value p) text
value_alike ignore_case p text = ap₂ (λ taken kind. cond taken [] (kind ∷ [])) (accept_alike ignore_case p text) (kind_alike p)

each_alike : (ignore_case : Bool) (p : Option ValueParser) (values : List Text) → values_kinds ignore_case (parser_of_value (option_map unplaced p)) values ≡ values_kinds ignore_case (parser_of_value p) values
each_alike ignore_case p [] = refl
each_alike ignore_case p (v ∷ vs) = ap₂ or_else (value_alike ignore_case p v) (each_alike ignore_case p vs)

values_alike : (a : Rule) (values : List Text) → values_fault (set a) values ≡ values_fault a values
values_alike a values = each_alike a.ignore_case a.parser values

count_alike : (a : Rule) (values : List Text) (rows : List Row) → count_fault (set a) values rows ≡ count_fault a values rows
count_alike a [] rows = value_alike a.ignore_case a.parser _
count_alike a (v ∷ vs) rows = values_alike a (v ∷ vs)

set_alike : (again : Bool) (a : Rule) (values : List Text) (rows : List Row) → set_fault again (set a) values rows ≡ set_fault again a values rows
set_alike again a values rows = ap (or_else (repeat_fault again a.id rows)) (values_alike a values)

action_alike : (act : ArgAction) (again : Bool) (a : Rule) (values : List Text) (rows : List Row) → action_fault act again (set a) values rows ≡ action_fault act again a values rows
action_alike Set again a values rows = set_alike again a values rows
action_alike SetTrue again a values rows = set_alike again a values rows
action_alike SetFalse again a values rows = set_alike again a values rows
action_alike Append again a values rows = values_alike a values
action_alike Count again a values rows = count_alike a values rows
action_alike action.Help again a values rows = refl
action_alike action.HelpShort again a values rows = refl
action_alike action.HelpLong again a values rows = refl
action_alike action.Version again a values rows = refl

use_alike : (again : Bool) (a : Rule) (values : List Text) (rows : List Row) → use_fault again (set a) values rows ≡ use_fault again a values rows
use_alike again a values rows =
    ap (or_else (range_kinds (unwrap_or_range a.range).start_inclusive (most_values a) (length values)))
    (ap (λ vs. action_fault (action_of a) again (set a) vs rows) (missing_alike a values) ∙ action_alike (action_of a) again a (values_or_missing a values) rows)

use_by_alike : (again : Bool) (o : Option Rule) (values : List Text) (rows : List Row) → option_map_or (λ a. use_fault again a values rows) (option_map set o) [] ≡ option_map_or (λ a. use_fault again a values rows) o []
use_by_alike again None values rows = refl
use_by_alike again (Some a) values rows = use_alike again a values rows

pending_alike : (c : List Rule) (again : Bool) (pending : Option (Text × List Text)) (rows : List Row)
    → option_map_or (λ (p : Text × List Text). option_map_or (λ a. use_fault again a p.1 rows) (arg_by_id (map set c) p.0) []) pending []
    ≡ option_map_or (λ (p : Text × List Text). option_map_or (λ a. use_fault again a p.1 rows) (arg_by_id c p.0) []) pending []
pending_alike c again None rows = refl
pending_alike c again (Some p) rows = ap (λ o. option_map_or (λ a. use_fault again a p.1 rows) o []) (find_alike (λ a. bytes_eq a.id p.0) c) ∙ use_by_alike again (arg_by_id c p.0) p.1 rows

settle_alike : (c : List Rule) (again : Bool) (h : Held) → settle_fault (map set c) again h ≡ settle_fault c again h
settle_alike c again h = pending_alike c again h.pending h.rows

react_alike : (c : List Rule) (again : Bool) (a : Rule) (values : List Text) (h : Held) → react_fault (map set c) again (set a) values h ≡ react_fault c again a values h
react_alike c again a values h = ap₂ or_else (settle_alike c again h) (ap (λ (k : Held). use_fault again (set a) values k.rows) (settled_alike c h) ∙ use_alike again a values (settled c h).rows)

-- ---- the walk

option_alike : (c : List Rule) (again : Bool) (a : Rule) (v : Option Text) (h : Held) → option_fault (map set c) again (set a) v h ≡ option_fault c again a v h
option_alike c again a (Some v) h = react_alike c again a (v ∷ []) h
option_alike c again a None h = settle_alike c again h

long_alike : (c : List Rule) (again : Bool) (o : Option Rule) (v : Option Text) (h : Held) → long_fault (map set c) again (option_map set o) v h ≡ long_fault c again o v h
long_alike c again None v h = refl
long_alike c again (Some a) v h = ap₂ (cond (takes_values a)) (option_alike c again a v h) (ap (cond (is_some v) (TooManyValues ∷ [])) (react_alike c again a [] h))

short_alike : (c : List Rule) (again : Bool) (o : Option Rule) (rest : Text) (h : Held) (go other : Held → Kinds) → ((k : Held) → go k ≡ other k) → short_fault (map set c) again (option_map set o) rest h go ≡ short_fault c again o rest h other
short_alike c again None rest h go other same = refl
short_alike c again (Some a) rest h go other same =
    ap₂ (cond (takes_values a)) (option_alike c again a (attached_value rest) h)
    (ap₂ or_else (react_alike c again a [] h) (same (reacted (map set c) (set a) [] h) ∙ ap other (reacted_alike c a [] h)))

bundle_step_alike : (c : List Rule) (again : Bool) (x : Option ℕ) (flags : Text) (skip : ℕ) (h : Held) (go other : Text → ℕ → Held → Kinds)
    → ((t : Text) (n : ℕ) (k : Held) → go t n k ≡ other t n k) → bundle_step_fault (map set c) again x flags skip h go ≡ bundle_step_fault c again x flags skip h other
bundle_step_alike c again None flags skip h go other same = refl
bundle_step_alike c again (Some x) flags zero h go other same =
    let rest = drop (length (encode_utf8 x)) flags in
    ap (λ o. short_fault (map set c) again o rest h (go rest 0)) (find_alike _ c) ∙ short_alike c again (arg_by_short c x) rest h (go rest 0) (other rest 0) (same rest 0)
bundle_step_alike c again (Some x) flags (suc skip) h go other same = same (drop (length (encode_utf8 x)) flags) skip h

flags_alike : (c : List Rule) (again : Bool) (k : ℕ) (flags : Text) (skip : ℕ) (h : Held) → flags_fault (map set c) again k flags skip h ≡ flags_fault c again k flags skip h
unfolding flags_fault
flags_alike c again zero flags skip h = refl
flags_alike c again (suc k) flags skip h = bundle_step_alike c again (slice_get (chars flags) 0) flags skip h (flags_fault (map set c) again k) (flags_fault c again k) (flags_alike c again k)

short_word_alike : (c : List Rule) (again : Bool) (o : Option Text) (h : Held) → option_map_or (λ flags. bundle_fault (map set c) again flags h) o [] ≡ option_map_or (λ flags. bundle_fault c again flags h) o []
short_word_alike c again None h = refl
short_word_alike c again (Some flags) h = flags_alike c again (length flags) flags h.skip (record h { skip = 0 })

flag_word_alike : (c : List Rule) (again : Bool) (long : Option (Text × Option Text)) (word : Text) (h : Held) → flag_word_fault (map set c) again long word h ≡ flag_word_fault c again long word h
flag_word_alike c again (Some p) word h = ap (λ o. long_fault (map set c) again o p.1 h) (find_alike _ c) ∙ long_alike c again (arg_by_long c p.0) p.1 h
flag_word_alike c again None word h = short_word_alike c again (short_of word) h

other_alike : (s : Shape) (met : Option Text) (word : Text) (h : Held) → other_fault (set_in s) met word h ≡ other_fault s met word h
other_alike s (Some name) word h = refl
other_alike s None word h = ap (cond (bytes_eq word (45 ∷ 45 ∷ [])) []) (flag_word_alike s.rules s.args_override_self (long_of word) word h)

word_alike : (s : Shape) (names : Names) (is_trailing : Bool) (waiting : Waiting) (word : Text) (h : Held) → word_fault (set_in s) names is_trailing waiting word h ≡ word_fault s names is_trailing waiting word h
word_alike s names is_trailing waiting word h = ap (cond is_trailing []) (other_alike s (subcommand_met names waiting word) word h)

positional_alike : (s : Shape) (o : Option Rule) (h : Held)
    → option_map_or (λ a. positional_fault (map set s.rules) s.args_override_self a h) (option_map set o) (stray_fault s) ≡ option_map_or (λ a. positional_fault s.rules s.args_override_self a h) o (stray_fault s)
positional_alike s None h = refl
positional_alike s (Some a) h = ap (cond (is_pending a h.pending && takes_several a) []) (settle_alike s.rules s.args_override_self h)

step_alike : (s : Shape) (position : ℕ) (h : Held) (step : Step) → step_fault (set_in s) position h step ≡ step_fault s position h step
step_alike s position h value = ap (λ o. option_map_or (λ a. positional_fault (map set s.rules) s.args_override_self a h) o (stray_fault s)) (find_alike _ s.rules) ∙ positional_alike s (arg_by_index s.rules position) h
step_alike s position h (next waiting) = refl
step_alike s position h (trailing p) = refl
step_alike s position h (subcommand name) = refl

turn_alike : (s : Shape) (names : Names) (w : Walk) (word : Text) → turn_fault (set_in s) names w word ≡ turn_fault s names w word
turn_alike s names w word =
    let met = word_met s.rules names w.is_trailing w.waiting w.position word w.held in
    ap (cond (is_some w.stopped) []) (ap₂ or_else (word_alike s names w.is_trailing w.waiting word w.held)
    (ap (λ (m : Held × Step). step_fault (set_in s) w.position m.0 m.1) (met_alike s.rules names w.is_trailing w.waiting w.position word w.held) ∙ step_alike s w.position met.0 met.1))

walk_alike : (s : Shape) (names : Names) (w : Walk) (words : List Text) → walk_fault (set_in s) names w words ≡ walk_fault s names w words
unfolding walk_fault
walk_alike s names w [] = refl
walk_alike s names w (word ∷ words) = ap₂ or_else (turn_alike s names w word) (ap (λ k. walk_fault (set_in s) names k words) (walked_alike s.rules names w word) ∙ walk_alike s names (walked s.rules names w word) words)

-- ---- after the walk

given_alike : (rows : List Row) (a : Rule) → default_fault rows (set a) ≡ default_fault rows a
given_alike rows a = ap (cond (has_row a.id rows || is_empty a.defaults) []) (ap (or_else (request_kinds (action_of a))) (values_alike a a.defaults))

defaults_alike : (c : List Rule) (rows : List Row) → defaults_fault rows (map set c) ≡ defaults_fault rows c
unfolding defaults_fault
defaults_alike [] rows = refl
defaults_alike (a ∷ c) rows = ap₂ or_else (given_alike rows a) (ap (λ k. defaults_fault k (map set c)) (default_alike rows a) ∙ defaults_alike c (with_default rows a))

lacks_alike : (rows : List Row) (c : List Rule) → list_any (λ (a : Rule). a.required && not (is_given a.id rows)) (map set c) ≡ list_any (λ (a : Rule). a.required && not (is_given a.id rows)) c
lacks_alike rows [] = refl
lacks_alike rows (a ∷ c) = ap (λ b. (a.required && not (is_given a.id rows)) || b) (lacks_alike rows c)

check_alike : (s : Shape) (rows : List Row) (has_subcommand : Bool) → check_fault (set_in s) rows has_subcommand ≡ check_fault s rows has_subcommand
check_alike s rows has_subcommand =
    ap (λ b. check_kinds (not has_subcommand && (s.arg_required_else_help && not (list_any (λ (r : Row). explicit_source r.source) rows))) (not has_subcommand && s.subcommand_required) (not (s.subcommand_negates_reqs && has_subcommand) && b))
    (lacks_alike rows s.rules)

level_alike : (s : Shape) (names : Names) (h : Held) (words : List Text) (has_subcommand : Bool) (below : Kinds) → level_fault (set_in s) names h words has_subcommand below ≡ level_fault s names h words has_subcommand below
level_alike s names h words has_subcommand below =
    let end = (walk s.rules names h words).held in
    let same = fold_alike s.rules names (walk_from h) words in
    ap₂ or_else (walk_alike s names (walk_from h) words)
    (ap (or_else below)
    (ap₂ or_else (ap (λ (w : Walk). settle_fault (map set s.rules) s.args_override_self w.held) same ∙ settle_alike s.rules s.args_override_self end)
    (ap₂ or_else
    (ap (λ (w : Walk). defaults_fault (settled (map set s.rules) w.held).rows (map set s.rules)) same
    ∙ ap (λ (k : Held). defaults_fault k.rows (map set s.rules)) (settled_alike s.rules end)
    ∙ defaults_alike s.rules (settled s.rules end).rows)
    (ap (λ (w : Walk). check_fault (set_in s) (finished (map set s.rules) w.held) has_subcommand) same
    ∙ ap (λ rows. check_fault (set_in s) rows has_subcommand) (finished_alike s.rules end)
    ∙ check_alike s (finished s.rules end) has_subcommand))))

-- ---- the level below

level_below_alike : (o : Option Shape) (words : List Text) → option_map_or (λ s. level_fault s [] nothing_held words false []) (option_map set_in o) [] ≡ option_map_or (λ s. level_fault s [] nothing_held words false []) o []
level_below_alike None words = refl
level_below_alike (Some s) words = level_alike s [] nothing_held words false []

entered_fault_alike : (a : App) (stop : Option (Text × List Text)) → entered_fault (set_below a) stop ≡ entered_fault a stop
entered_fault_alike a None = refl
entered_fault_alike a (Some p) = ap (λ o. option_map_or (λ s. level_fault s [] nothing_held p.1 false []) o []) (find_map set_in (λ s. answers_to p.0 (label_of s)) a.subs) ∙ level_below_alike _ p.1

-- ---- the program's command line

line_fault : (carriers forms : Bor (List (Bor Text))) (words : List Text) → fault_of (line_words (parsers_of (texts carriers) (texts forms))) words ≡ fault_of (line_words (parsers carriers forms)) words
unfolding stop_of
line_fault carriers forms words =
    let a = built (line_words (parsers carriers forms)) in
    ap₂ (λ found below. level_fault a.top (names_of a) nothing_held (argument_words postcopy_words words) (is_some found) below)
    (entered_alike a (stop_of words)) (entered_fault_alike a (stop_of words))

-- the words have errors of these kinds, wherever the names of the carriers and of the forms lie
pub fault_anywhere : (carriers forms : Bor (List (Bor Text))) (words : List Text) → texts carriers ≡ map carrier_name all_carriers → texts forms ≡ map format_name all_formats
    → fault_of postcopy_words words ≡ fault_of (line_words (record { carriers = parser.Names carriers; formats = parser.Names forms })) words
fault_anywhere carriers forms words e d = ap₂ (λ c f. fault_of (line_words (parsers_of c f)) words) (sym e) (sym d) ∙ line_fault carriers forms words
