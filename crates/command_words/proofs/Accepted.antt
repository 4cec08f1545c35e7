-- The command line has no error for words that it takes.
use Rattle.std.proofs.Common.{◌≡◌, ◌∙◌, ℕ, Bool, true, false, zero, suc, ◌&&◌, ◌||◌, ◌==◌, List, [], ◌∷◌, length, drop, None, Option, Some, is_some, not, refl, sym, ap, cond, arith, nat_le, nat_lt, true≢false, encode_utf8, find, slice_get, codes}
use Rattle.std.specs.List.{list_all, list_any}
use Rattle.std.specs.Option.{option_map_or}
use Rattle.std.specs.Str.{bytes_eq, chars}
use Rattle.std.proofs.lemmas.Bool.Decides.{nat_tests}
use Rattle.clap.specs.Facts.{explicit_source, parser_of_value, unwrap_or_range}
use Rattle.clap.specs.Faults.{action_fault, bundle_step_fault, check_fault, count_fault, default_fault, defaults_fault, entered_fault, fault_of, flag_word_fault, flags_fault, level_fault, long_fault, option_fault, other_fault, positional_fault, react_fault, settle_fault, short_fault, stray_fault, step_fault, turn_fault, use_fault, values_fault, walk_fault, word_fault, set_fault, bundle_fault}
use Rattle.clap.specs.Kinds.{Kinds, or_else, range_kinds, request_kinds, value_kinds}
use Rattle.clap.specs.Lexer.{long_of, short_of}
use Rattle.clap.specs.Simple.{App, Shape, argument_words, built, entered, label_of, names_of}
use Rattle.clap.specs.Takes.{action_passes, bundle_passes, bundle_step_passes, count_passes, default_passes, entered_passes, flag_word_passes, flags_pass, is_given, is_valid, level_passes, long_passes, option_passes, other_passes, positional_passes, react_passes, set_passes, settle_passes, short_passes, step_passes, takes, turn_passes, use_passes, value_passes, values_pass, walk_passes, word_passes}
use Rattle.clap.specs.Values.{is_request, refused_kind}
use Rattle.clap.specs.Walk.{Held, Names, Row, Rule, Step, Text, Waiting, Walk, action_of, answers_to, arg_by_id, arg_by_index, arg_by_long, arg_by_short, attached_value, finished, has_row, is_empty, is_pending, most_values, next, nothing_held, reacted, settled, subcommand, subcommand_met, takes_several, takes_values, trailing, value, values_or_missing, walk, walk_from, walked, with_default, word_met}
use Rattle.clap.specs.declared.builder.action.ArgAction.{ArgAction}
use Rattle.clap.specs.declared.builder.action.ArgAction.TheVariants.{Set, Append, SetTrue, SetFalse, Count}
use Rattle.clap.specs.declared.builder.action.ArgAction.TheVariants as action
use Rattle.clap.specs.declared.error.kind.ErrorKind.TheVariants.{ArgumentConflict, DisplayHelp, InvalidSubcommand, TooManyValues}
use Rattle.clap.proofs.FaultLemmas.{past}
use Rattle.clap.proofs.WalkLemmas.{both}
use Rattle.command_words.specs.Words.{error_kinds, postcopy_words}

-- ---- tests and the errors that they keep out

-- two steps
in_turn : (a b : Bool) (p q : Kinds) → (a && b) ≡ true → (a ≡ true → p ≡ []) → (b ≡ true → q ≡ []) → or_else p q ≡ []
in_turn a b p q e f g = let each = both a b e in past p q (f each.0) ∙ g each.1

-- one of two
by_choice : (c a b : Bool) (p q : Kinds) → cond c a b ≡ true → (a ≡ true → p ≡ []) → (b ≡ true → q ≡ []) → cond c p q ≡ []
by_choice true a b p q e f g = f e
by_choice false a b p q e f g = g e

-- nothing to do, or a step
or_step : (a b : Bool) (k : Kinds) → (a || b) ≡ true → (b ≡ true → k ≡ []) → cond a [] k ≡ []
or_step true b k e f = refl
or_step false b k e f = f e

or_either : (has empty b : Bool) (k : Kinds) → (empty || b) ≡ true → (b ≡ true → k ≡ []) → cond (has || empty) [] k ≡ []
or_either true empty b k e f = refl
or_either false empty b k e f = or_step empty b k e f

-- no value where none may be
without : (has b : Bool) (k q : Kinds) → (not has && b) ≡ true → (b ≡ true → q ≡ []) → cond has k q ≡ []
without true b k q e f = absurd cc
without false b k q e f = f e

-- no second use, or one that replaces the first
again_none : (has again : Bool) (k : Kinds) → (not has || again) ≡ true → cond (has && not again) k [] ≡ []
again_none true true k e = refl
again_none true false k e = absurd cc
again_none false again k e = refl

-- ---- one use of an argument

value_none : (a : Rule) (text : Text) → value_passes a text ≡ true → value_kinds a.ignore_case (parser_of_value a.parser) text ≡ []
value_none a text e = ap (λ passes. cond passes [] (refused_kind (parser_of_value a.parser) ∷ [])) e

values_none : (a : Rule) (values : List Text) → values_pass a values ≡ true → values_fault a values ≡ []
values_none a [] e = refl
values_none a (v ∷ vs) e = in_turn (value_passes a v) (values_pass a vs) _ _ e (value_none a v) (values_none a vs)

count_none : (a : Rule) (values : List Text) (rows : List Row) → count_passes a values rows ≡ true → count_fault a values rows ≡ []
count_none a [] rows e = value_none a _ e
count_none a (v ∷ vs) rows e = values_none a (v ∷ vs) e

set_none : (again : Bool) (a : Rule) (values : List Text) (rows : List Row) → set_passes again a values rows ≡ true → set_fault again a values rows ≡ []
set_none again a values rows e = in_turn (not (has_row a.id rows) || again) (values_pass a values) _ _ e (again_none (has_row a.id rows) again (ArgumentConflict ∷ [])) (values_none a values)

action_none : (act : ArgAction) (again : Bool) (a : Rule) (values : List Text) (rows : List Row) → action_passes act again a values rows ≡ true → action_fault act again a values rows ≡ []
action_none Set again a values rows e = set_none again a values rows e
action_none SetTrue again a values rows e = set_none again a values rows e
action_none SetFalse again a values rows e = set_none again a values rows e
action_none Append again a values rows e = values_none a values e
action_none Count again a values rows e = count_none a values rows e
action_none action.Help again a values rows e = absurd cc
action_none action.HelpShort again a values rows e = absurd cc
action_none action.HelpLong again a values rows e = absurd cc
action_none action.Version again a values rows e = absurd cc

range_by : (few same is under over : Bool) (a b c d : Kinds) → few ≡ false → (same ≡ true → is ≡ true) → under ≡ false → over ≡ false → cond few a (cond same (cond is [] b) (cond under c (cond over d []))) ≡ []
range_by true same is under over a b c d f s u o = absurd cc
range_by false true true under over a b c d f s u o = refl
range_by false true false under over a b c d f s u o = absurd (true≢false (sym (s refl)))
range_by false false is true over a b c d f s u o = absurd cc
range_by false false is false true a b c d f s u o = absurd cc
range_by false false is false false a b c d f s u o = refl

-- as many values as are wanted
range_none : (least most n : ℕ) → nat_le least n ≡ true → nat_le n most ≡ true → range_kinds least most n ≡ []
range_none least most n from to = range_by (nat_lt 0 least && n == 0) (least == most) (least == n) (nat_lt n least) (nat_lt most n) _ _ _ _
    (grind (arith, nat_tests)) (λ same. grind (arith, nat_tests)) (grind (arith, nat_tests)) (grind (arith, nat_tests))

use_none : (again : Bool) (a : Rule) (values : List Text) (rows : List Row) → use_passes again a values rows ≡ true → use_fault again a values rows ≡ []
use_none again a values rows e =
    let from = both (nat_le (unwrap_or_range a.range).start_inclusive (length values)) _ e in
    let to = both (nat_le (length values) (most_values a)) _ from.1 in
    past _ _ (range_none _ _ _ from.0 to.0) ∙ action_none (action_of a) again a (values_or_missing a values) rows to.1

use_by_none : (again : Bool) (o : Option Rule) (values : List Text) (rows : List Row) → option_map_or (λ a. use_passes again a values rows) o true ≡ true → option_map_or (λ a. use_fault again a values rows) o [] ≡ []
use_by_none again None values rows e = refl
use_by_none again (Some a) values rows e = use_none again a values rows e

pending_none : (c : List Rule) (again : Bool) (pending : Option (Text × List Text)) (rows : List Row)
    → option_map_or (λ (p : Text × List Text). option_map_or (λ a. use_passes again a p.1 rows) (arg_by_id c p.0) true) pending true ≡ true
    → option_map_or (λ (p : Text × List Text). option_map_or (λ a. use_fault again a p.1 rows) (arg_by_id c p.0) []) pending [] ≡ []
pending_none c again None rows e = refl
pending_none c again (Some p) rows e = use_by_none again (arg_by_id c p.0) p.1 rows e

settle_none : (c : List Rule) (again : Bool) (h : Held) → settle_passes c again h ≡ true → settle_fault c again h ≡ []
settle_none c again h e = pending_none c again h.pending h.rows e

react_none : (c : List Rule) (again : Bool) (a : Rule) (values : List Text) (h : Held) → react_passes c again a values h ≡ true → react_fault c again a values h ≡ []
react_none c again a values h e = in_turn (settle_passes c again h) _ _ _ e (settle_none c again h) (use_none again a values (settled c h).rows)

-- ---- the walk

option_none : (c : List Rule) (again : Bool) (a : Rule) (v : Option Text) (h : Held) → option_passes c again a v h ≡ true → option_fault c again a v h ≡ []
option_none c again a (Some v) h e = react_none c again a (v ∷ []) h e
option_none c again a None h e = settle_none c again h e

long_none : (c : List Rule) (again : Bool) (o : Option Rule) (v : Option Text) (h : Held) → long_passes c again o v h ≡ true → long_fault c again o v h ≡ []
long_none c again None v h e = absurd cc
long_none c again (Some a) v h e = by_choice (takes_values a) (option_passes c again a v h) (not (is_some v) && react_passes c again a [] h) _ _ e
    (option_none c again a v h) (λ flag. without (is_some v) (react_passes c again a [] h) (TooManyValues ∷ []) _ flag (react_none c again a [] h))

short_none : (c : List Rule) (again : Bool) (o : Option Rule) (rest : Text) (h : Held) (go : Held → Bool) (other : Held → Kinds) → ((k : Held) → go k ≡ true → other k ≡ []) → short_passes c again o rest h go ≡ true → short_fault c again o rest h other ≡ []
short_none c again None rest h go other same e = absurd cc
short_none c again (Some a) rest h go other same e = by_choice (takes_values a) (option_passes c again a (attached_value rest) h) (react_passes c again a [] h && go (reacted c a [] h)) _ _ e
    (option_none c again a (attached_value rest) h) (λ flag. in_turn (react_passes c again a [] h) (go (reacted c a [] h)) _ _ flag (react_none c again a [] h) (same (reacted c a [] h)))

bundle_step_none : (c : List Rule) (again : Bool) (x : Option ℕ) (flags : Text) (skip : ℕ) (h : Held) (go : Text → ℕ → Held → Bool) (other : Text → ℕ → Held → Kinds)
    → ((t : Text) (n : ℕ) (k : Held) → go t n k ≡ true → other t n k ≡ []) → bundle_step_passes c again x flags skip h go ≡ true → bundle_step_fault c again x flags skip h other ≡ []
bundle_step_none c again None flags skip h go other same e = refl
bundle_step_none c again (Some x) flags zero h go other same e =
    let rest = drop (length (encode_utf8 x)) flags in
    short_none c again (arg_by_short c x) rest h (go rest 0) (other rest 0) (same rest 0) e
bundle_step_none c again (Some x) flags (suc skip) h go other same e = same (drop (length (encode_utf8 x)) flags) skip h e

flags_none : (c : List Rule) (again : Bool) (k : ℕ) (flags : Text) (skip : ℕ) (h : Held) → flags_pass c again k flags skip h ≡ true → flags_fault c again k flags skip h ≡ []
unfolding flags_pass flags_fault
flags_none c again zero flags skip h e = refl
flags_none c again (suc k) flags skip h e = bundle_step_none c again (slice_get (chars flags) 0) flags skip h (flags_pass c again k) (flags_fault c again k) (flags_none c again k) e

short_word_none : (c : List Rule) (again : Bool) (o : Option Text) (h : Held) → option_map_or (λ flags. bundle_passes c again flags h) o true ≡ true → option_map_or (λ flags. bundle_fault c again flags h) o [] ≡ []
short_word_none c again None h e = refl
short_word_none c again (Some flags) h e = flags_none c again (length flags) flags h.skip (record h { skip = 0 }) e

flag_word_none : (c : List Rule) (again : Bool) (long : Option (Text × Option Text)) (word : Text) (h : Held) → flag_word_passes c again long word h ≡ true → flag_word_fault c again long word h ≡ []
flag_word_none c again (Some p) word h e = long_none c again (arg_by_long c p.0) p.1 h e
flag_word_none c again None word h e = short_word_none c again (short_of word) h e

other_none : (s : Shape) (met : Option Text) (word : Text) (h : Held) → other_passes s met word h ≡ true → other_fault s met word h ≡ []
other_none s (Some name) word h e = again_none (bytes_eq name (codes "help")) s.disable_help_subcommand (DisplayHelp ∷ InvalidSubcommand ∷ []) e
other_none s None word h e = or_step (bytes_eq word (45 ∷ 45 ∷ [])) _ _ e (flag_word_none s.rules s.args_override_self (long_of word) word h)

word_none : (s : Shape) (names : Names) (is_trailing : Bool) (waiting : Waiting) (word : Text) (h : Held) → word_passes s names is_trailing waiting word h ≡ true → word_fault s names is_trailing waiting word h ≡ []
word_none s names is_trailing waiting word h e = or_step is_trailing _ _ e (other_none s (subcommand_met names waiting word) word h)

positional_none : (c : List Rule) (again : Bool) (a : Rule) (h : Held) → positional_passes c again a h ≡ true → positional_fault c again a h ≡ []
positional_none c again a h e = or_step (is_pending a h.pending && takes_several a) _ _ e (settle_none c again h)

at_none : (s : Shape) (o : Option Rule) (h : Held) → option_map_or (λ a. positional_passes s.rules s.args_override_self a h) o false ≡ true → option_map_or (λ a. positional_fault s.rules s.args_override_self a h) o (stray_fault s) ≡ []
at_none s None h e = absurd cc
at_none s (Some a) h e = positional_none s.rules s.args_override_self a h e

step_none : (s : Shape) (position : ℕ) (h : Held) (step : Step) → step_passes s position h step ≡ true → step_fault s position h step ≡ []
step_none s position h value e = at_none s (arg_by_index s.rules position) h e
step_none s position h (next waiting) e = refl
step_none s position h (trailing p) e = refl
step_none s position h (subcommand name) e = refl

turn_none : (s : Shape) (names : Names) (w : Walk) (word : Text) → turn_passes s names w word ≡ true → turn_fault s names w word ≡ []
turn_none s names w word e =
    let met = word_met s.rules names w.is_trailing w.waiting w.position word w.held in
    or_step (is_some w.stopped) _ _ e (λ on. in_turn (word_passes s names w.is_trailing w.waiting word w.held) (step_passes s w.position met.0 met.1) _ _ on (word_none s names w.is_trailing w.waiting word w.held) (step_none s w.position met.0 met.1))

walk_none : (s : Shape) (names : Names) (w : Walk) (words : List Text) → walk_passes s names w words ≡ true → walk_fault s names w words ≡ []
unfolding walk_passes walk_fault
walk_none s names w [] e = refl
walk_none s names w (word ∷ words) e = in_turn (turn_passes s names w word) (walk_passes s names (walked s.rules names w word) words) _ _ e (turn_none s names w word) (walk_none s names (walked s.rules names w word) words)

-- ---- after the walk

request_none : (act : ArgAction) → not (is_request act) ≡ true → request_kinds act ≡ []
request_none Set e = refl
request_none SetTrue e = refl
request_none SetFalse e = refl
request_none Append e = refl
request_none Count e = refl
request_none action.Help e = absurd cc
request_none action.HelpShort e = absurd cc
request_none action.HelpLong e = absurd cc
request_none action.Version e = absurd cc

default_none : (rows : List Row) (a : Rule) → default_passes a ≡ true → default_fault rows a ≡ []
default_none rows a e = or_either (has_row a.id rows) (is_empty a.defaults) (not (is_request (action_of a)) && values_pass a a.defaults) _ e
    (λ given. in_turn (not (is_request (action_of a))) (values_pass a a.defaults) _ _ given (request_none (action_of a)) (values_none a a.defaults))

defaults_none : (c : List Rule) (rows : List Row) → list_all default_passes c ≡ true → defaults_fault rows c ≡ []
unfolding defaults_fault
defaults_none [] rows e = refl
defaults_none (a ∷ c) rows e = in_turn (default_passes a) (list_all default_passes c) _ _ e (default_none rows a) (defaults_none c (with_default rows a))

-- help is no answer, a command is there that is wanted, and each argument that is
no_help : (has wanted any : Bool) → (not wanted || (has || any)) ≡ true → (not has && (wanted && not any)) ≡ false
no_help true wanted any e = refl
no_help false false any e = refl
no_help false true true e = refl
no_help false true false e = absurd cc

no_command : (has wanted : Bool) → (not wanted || has) ≡ true → (not has && wanted) ≡ false
no_command true wanted e = refl
no_command false false e = refl
no_command false true e = absurd cc

is_there : (wanted given : Bool) → (not wanted || given) ≡ true → (wanted && not given) ≡ false
is_there true true e = refl
is_there true false e = absurd cc
is_there false given e = refl

either_none : (a b : Bool) → a ≡ false → b ≡ false → (a || b) ≡ false
either_none true b e d = absurd cc
either_none false b e d = d

none_missing : (rows : List Row) (c : List Rule) → list_all (λ (a : Rule). not a.required || is_given a.id rows) c ≡ true → list_any (λ (a : Rule). a.required && not (is_given a.id rows)) c ≡ false
none_missing rows [] e = refl
none_missing rows (a ∷ c) e =
    let each = both (not a.required || is_given a.id rows) _ e in
    either_none _ _ (is_there a.required (is_given a.id rows) each.0) (none_missing rows c each.1)

no_argument : (negates missing all : Bool) → (negates || all) ≡ true → (all ≡ true → missing ≡ false) → (not negates && missing) ≡ false
no_argument true missing all e f = refl
no_argument false missing all e f = f e

check_by : (a b c : Bool) (p q r : Kinds) → a ≡ false → b ≡ false → c ≡ false → cond a p (cond b q (cond c r [])) ≡ []
check_by true b c p q r x y z = absurd cc
check_by false true c p q r x y z = absurd cc
check_by false false true p q r x y z = absurd cc
check_by false false false p q r x y z = refl

check_none : (s : Shape) (rows : List Row) (has_subcommand : Bool) → is_valid s rows has_subcommand ≡ true → check_fault s rows has_subcommand ≡ []
check_none s rows has_subcommand e =
    let any = list_any (λ (r : Row). explicit_source r.source) rows in
    let help = both (not s.arg_required_else_help || (has_subcommand || any)) _ e in
    let command = both (not s.subcommand_required || has_subcommand) _ help.1 in
    let free = both (list_all (λ (a : Rule). a.is_free) s.rules) _ command.1 in
    check_by _ _ _ _ _ _ (no_help has_subcommand s.arg_required_else_help any help.0) (no_command has_subcommand s.subcommand_required command.0)
    (no_argument (s.subcommand_negates_reqs && has_subcommand) _ _ free.1 (none_missing rows s.rules))

level_none : (s : Shape) (names : Names) (h : Held) (words : List Text) (has_subcommand : Bool) (below : Kinds) → below ≡ [] → level_passes s names h words has_subcommand ≡ true → level_fault s names h words has_subcommand below ≡ []
level_none s names h words has_subcommand below none e =
    let end = (walk s.rules names h words).held in
    let walks = both (walk_passes s names (walk_from h) words) _ e in
    let settles = both (settle_passes s.rules s.args_override_self end) _ walks.1 in
    let defaults = both (list_all default_passes s.rules) _ settles.1 in
    past _ _ (walk_none s names (walk_from h) words walks.0)
    ∙ past _ _ none
    ∙ past _ _ (settle_none s.rules s.args_override_self end settles.0)
    ∙ past _ _ (defaults_none s.rules (settled s.rules end).rows defaults.0)
    ∙ check_none s (finished s.rules end) has_subcommand defaults.1

below_none : (o : Option Shape) (words : List Text) → option_map_or (λ s. level_passes s [] nothing_held words false) o true ≡ true → option_map_or (λ s. level_fault s [] nothing_held words false []) o [] ≡ []
below_none None words e = refl
below_none (Some s) words e = level_none s [] nothing_held words false [] refl e

entered_none : (a : App) (stop : Option (Text × List Text)) → entered_passes a stop ≡ true → entered_fault a stop ≡ []
entered_none a None e = refl
entered_none a (Some p) e = below_none (find (λ s. answers_to p.0 (label_of s)) a.subs) p.1 e

-- ---- the command line

-- where an application is simple and takes words, it has no error for them
no_fault : (a : App) (words : List Text) → takes a words ≡ true → fault_of a words ≡ []
no_fault a words e =
    let b = built a in
    let given = argument_words a words in
    let stop = (walk b.top.rules (names_of b) nothing_held given).stopped in
    let parts = both (entered_passes b stop) _ (both _ _ e).1 in
    level_none b.top (names_of b) nothing_held given (is_some (entered b stop)) (entered_fault b stop) (entered_none b stop parts.0) parts.1

pub taken_accepted : (words : List Text) → takes postcopy_words words ≡ true → error_kinds words ≡ []
taken_accepted words e = no_fault postcopy_words words e
