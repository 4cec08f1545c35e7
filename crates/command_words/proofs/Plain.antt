-- What the command line takes of plain names.
use Rattle.std.proofs.Common.{◌≡◌, ◌∙◌, Bool, true, false, List, [], ◌∷◌, map, Some, None, refl, sym, ap, subst, codes, cond, option_and_then}
use Rattle.std.specs.List.{AllByRecursion}
use Rattle.std.specs.Str.{bytes_eq}
use Rattle.std.proofs.lemmas.Slice.Eq.{bytes_eq-Decides}
use Rattle.clap.specs.Simple.{Shape, built, is_simple, new_shape}
use Rattle.clap.specs.Walk.{Held, finished, nothing_held}
use Rattle.clap.specs.Words.{Text}
use Rattle.clap.proofs.OnLiterals.{clap_on_literals}
use Rattle.command_words.specs.declared.building.Choices.{Choices}
use Rattle.command_words.specs.declared.requests.Request.{Request}
use Rattle.command_words.specs.declared.requests.Request.TheVariants.{One, Two, Migrate, Draw, Window}
use Rattle.command_words.specs.declared.requests.Carrier.TheVariants.{Memory}
use Rattle.command_words.specs.declared.requests.OneText.{OneText}
use Rattle.command_words.specs.declared.requests.OneText.TheVariants.{Certify, Audit, Explain}
use Rattle.command_words.specs.declared.requests.TwoTexts.{TwoTexts}
use Rattle.command_words.specs.declared.requests.TwoTexts.TheVariants.{Check, Replay, Steps}
use Rattle.command_words.specs.declared.requests.Takes.{Takes}
use Rattle.command_words.specs.declared.requests.Takes.TheVariants as by
use Rattle.migration_types.specs.declared.topic.Topic.TheVariants.{Report}
use Rattle.command_words.specs.Table.{carriers, carrier_name, format_name, formats, plain as asked_plainly, plain_audit, plain_explanation, no_pages}
use Rattle.command_words.specs.Words.{IsPlain, IsPlainName, asked, asked_by, asked_in, error_kinds, one_of, postcopy_words, program_words, with_command, with_names, with_texts}
use Rattle.command_words.proofs.Accepted.{taken_accepted}
use Rattle.command_words.proofs.Names.{Form, form_of, is_name}
use Rattle.command_words.proofs.Entered.{Enters, Holds, found_plainly, taken_plainly, takes_one, takes_two, took}

-- the command line accepts the words, and they ask for this
pub record IsTaken (words : List Text) (job : Request Text) : Type 0 where
  pub accepted : error_kinds words ≡ []
  pub given : asked words ≡ Some job

-- the parsers of the values of options, which lie at no place
abbrev choices : Choices
choices = record { carriers = one_of (map carrier_name carriers); formats = one_of (map format_name formats) }

abbrev first_of : List Shape → Shape
first_of [] = new_shape []
first_of (s ∷ rest) = s

-- a command on texts, as a program that has no other builds it
abbrev shape_of : Text → Request Text → Shape
shape_of name asked = first_of (built (with_command choices program_words (name, by.Texts asked))).subs

is_simple_line : is_simple postcopy_words ≡ true
is_simple_line = refl

-- words are taken, and ask for this, where a command takes the names
taken_by : (program command : Text) (names : List Text) (s : Shape) (h : Held) (job : Request Text) → Enters postcopy_words program command names s → Holds s names h → asked_in (s.name, finished s.rules h) ≡ Some job → IsTaken (program ∷ command ∷ names) job
taken_by program command names s h job enters holds asks = record {
  accepted = taken_accepted (program ∷ command ∷ names) (taken_plainly postcopy_words program command names s h enters holds);
  given = ap (option_and_then asked_in) (found_plainly postcopy_words program command names s h enters holds) ∙ asks;
}

abbrev check_shape : Shape
check_shape = shape_of (codes "check") (Two (Check asked_plainly) (codes "SESSION") (codes "CERT"))

check_enters : (program first second : Text) → Enters postcopy_words program (codes "check") (first ∷ second ∷ []) check_shape
unfolding clap_on_literals
check_enters program first second = record { simple = is_simple_line; arguments = refl; stops = refl; passes = refl; shape = refl }

taken_check : (program first second : Text) → Form first → Form second → IsTaken (program ∷ codes "check" ∷ first ∷ second ∷ []) (Two (Check asked_plainly) first second)
unfolding clap_on_literals
taken_check program first second f g =
    let h = (took check_shape 1 first nothing_held).held in
    taken_by program (codes "check") (first ∷ second ∷ []) check_shape (took check_shape 2 second h).held (Two (Check asked_plainly) first second) (check_enters program first second) (takes_two check_shape h first second (is_name first f) (is_name second g) refl refl refl refl) refl

abbrev certify_shape : Shape
certify_shape = shape_of (codes "certify") (One Certify (codes "SESSION"))

certify_enters : (program name : Text) → Enters postcopy_words program (codes "certify") (name ∷ []) certify_shape
unfolding clap_on_literals
certify_enters program name = record { simple = is_simple_line; arguments = refl; stops = refl; passes = refl; shape = refl }

taken_certify : (program name : Text) → Form name → IsTaken (program ∷ codes "certify" ∷ name ∷ []) (One Certify name)
unfolding clap_on_literals
taken_certify program name f = taken_by program (codes "certify") (name ∷ []) certify_shape (took certify_shape 1 name nothing_held).held (One Certify name) (certify_enters program name) (takes_one certify_shape name (is_name name f) refl refl) refl

abbrev audit_shape : Shape
audit_shape = shape_of (codes "audit") (One (Audit plain_audit) (codes "SESSION"))

audit_enters : (program name : Text) → Enters postcopy_words program (codes "audit") (name ∷ []) audit_shape
unfolding clap_on_literals
audit_enters program name = record { simple = is_simple_line; arguments = refl; stops = refl; passes = refl; shape = refl }

taken_audit : (program name : Text) → Form name → IsTaken (program ∷ codes "audit" ∷ name ∷ []) (One (Audit plain_audit) name)
unfolding clap_on_literals
taken_audit program name f = taken_by program (codes "audit") (name ∷ []) audit_shape (took audit_shape 1 name nothing_held).held (One (Audit plain_audit) name) (audit_enters program name) (takes_one audit_shape name (is_name name f) refl refl) refl

abbrev explain_shape : Shape
explain_shape = shape_of (codes "explain") (One (Explain plain_explanation) (codes "SESSION"))

explain_enters : (program name : Text) → Enters postcopy_words program (codes "explain") (name ∷ []) explain_shape
unfolding clap_on_literals
explain_enters program name = record { simple = is_simple_line; arguments = refl; stops = refl; passes = refl; shape = refl }

taken_explain : (program name : Text) → Form name → IsTaken (program ∷ codes "explain" ∷ name ∷ []) (One (Explain plain_explanation) name)
unfolding clap_on_literals
taken_explain program name f = taken_by program (codes "explain") (name ∷ []) explain_shape (took explain_shape 1 name nothing_held).held (One (Explain plain_explanation) name) (explain_enters program name) (takes_one explain_shape name (is_name name f) refl refl) refl

abbrev replay_shape : Shape
replay_shape = shape_of (codes "replay") (Two Replay (codes "SESSION") (codes "RUNS"))

replay_enters : (program first second : Text) → Enters postcopy_words program (codes "replay") (first ∷ second ∷ []) replay_shape
unfolding clap_on_literals
replay_enters program first second = record { simple = is_simple_line; arguments = refl; stops = refl; passes = refl; shape = refl }

taken_replay : (program first second : Text) → Form first → Form second → IsTaken (program ∷ codes "replay" ∷ first ∷ second ∷ []) (Two Replay first second)
unfolding clap_on_literals
taken_replay program first second f g =
    let h = (took replay_shape 1 first nothing_held).held in
    taken_by program (codes "replay") (first ∷ second ∷ []) replay_shape (took replay_shape 2 second h).held (Two Replay first second) (replay_enters program first second) (takes_two replay_shape h first second (is_name first f) (is_name second g) refl refl refl refl) refl

abbrev steps_shape : Shape
steps_shape = shape_of (codes "steps") (Two Steps (codes "SCRIPT") (codes "EVENTS"))

steps_enters : (program first second : Text) → Enters postcopy_words program (codes "steps") (first ∷ second ∷ []) steps_shape
unfolding clap_on_literals
steps_enters program first second = record { simple = is_simple_line; arguments = refl; stops = refl; passes = refl; shape = refl }

taken_steps : (program first second : Text) → Form first → Form second → IsTaken (program ∷ codes "steps" ∷ first ∷ second ∷ []) (Two Steps first second)
unfolding clap_on_literals
taken_steps program first second f g =
    let h = (took steps_shape 1 first nothing_held).held in
    taken_by program (codes "steps") (first ∷ second ∷ []) steps_shape (took steps_shape 2 second h).held (Two Steps first second) (steps_enters program first second) (takes_two steps_shape h first second (is_name first f) (is_name second g) refl refl refl refl) refl

abbrev migrate_shape : Shape
migrate_shape = shape_of (codes "migrate") (Migrate Memory (codes "SCRIPT"))

migrate_enters : (program name : Text) → Enters postcopy_words program (codes "migrate") (name ∷ []) migrate_shape
unfolding clap_on_literals
migrate_enters program name = record { simple = is_simple_line; arguments = refl; stops = refl; passes = refl; shape = refl }

taken_migrate : (program name : Text) → Form name → IsTaken (program ∷ codes "migrate" ∷ name ∷ []) (Migrate Memory name)
unfolding clap_on_literals
taken_migrate program name f = taken_by program (codes "migrate") (name ∷ []) migrate_shape (took migrate_shape 1 name nothing_held).held (Migrate Memory name) (migrate_enters program name) (takes_one migrate_shape name (is_name name f) refl refl) refl

abbrev draw_shape : Shape
draw_shape = shape_of (codes "draw") (Draw Report (codes "SESSION") (Some (codes "RUNS")))

draw_enters : (program name : Text) → Enters postcopy_words program (codes "draw") (name ∷ []) draw_shape
unfolding clap_on_literals
draw_enters program name = record { simple = is_simple_line; arguments = refl; stops = refl; passes = refl; shape = refl }

taken_draw : (program name : Text) → Form name → IsTaken (program ∷ codes "draw" ∷ name ∷ []) (Draw Report name None)
unfolding clap_on_literals
taken_draw program name f = taken_by program (codes "draw") (name ∷ []) draw_shape (took draw_shape 1 name nothing_held).held (Draw Report name None) (draw_enters program name) (takes_one draw_shape name (is_name name f) refl refl) refl

draw_along_enters : (program first second : Text) → Enters postcopy_words program (codes "draw") (first ∷ second ∷ []) draw_shape
unfolding clap_on_literals
draw_along_enters program first second = record { simple = is_simple_line; arguments = refl; stops = refl; passes = refl; shape = refl }

taken_draw_along : (program first second : Text) → Form first → Form second → IsTaken (program ∷ codes "draw" ∷ first ∷ second ∷ []) (Draw Report first (Some second))
unfolding clap_on_literals
taken_draw_along program first second f g =
    let h = (took draw_shape 1 first nothing_held).held in
    taken_by program (codes "draw") (first ∷ second ∷ []) draw_shape (took draw_shape 2 second h).held (Draw Report first (Some second)) (draw_along_enters program first second) (takes_two draw_shape h first second (is_name first f) (is_name second g) refl refl refl refl) refl

-- a command with so many names, which are plain, is taken
one_taken : (task : OneText) (command : Text) (taken : (program name : Text) → Form name → IsTaken (program ∷ command ∷ name ∷ []) (One task name)) (program word : Text) (names : List Text) (job : Request Text) → AllByRecursion IsPlainName names → with_texts names (One task word) ≡ Some job → IsTaken (program ∷ command ∷ names) job
one_taken task command taken program word [] job plain e = let none : None ≡ Some job = e in absurd cc
one_taken task command taken program word (name ∷ []) job plain e =
    let same : One task name ≡ job = cc in
    subst (IsTaken (program ∷ command ∷ name ∷ [])) same (taken program name (form_of name plain.0))
one_taken task command taken program word (name ∷ other ∷ []) job plain e = let none : None ≡ Some job = e in absurd cc
one_taken task command taken program word (name ∷ other ∷ third ∷ rest) job plain e = let none : None ≡ Some job = e in absurd cc

two_taken : (task : TwoTexts) (command : Text) (taken : (program first second : Text) → Form first → Form second → IsTaken (program ∷ command ∷ first ∷ second ∷ []) (Two task first second)) (program word other : Text) (names : List Text) (job : Request Text) → AllByRecursion IsPlainName names → with_texts names (Two task word other) ≡ Some job → IsTaken (program ∷ command ∷ names) job
two_taken task command taken program word other [] job plain e = let none : None ≡ Some job = e in absurd cc
two_taken task command taken program word other (name ∷ []) job plain e = let none : None ≡ Some job = e in absurd cc
two_taken task command taken program word other (first ∷ second ∷ []) job plain e =
    let same : Two task first second ≡ job = cc in
    subst (IsTaken (program ∷ command ∷ first ∷ second ∷ [])) same (taken program first second (form_of first plain.0) (form_of second plain.1.0))
two_taken task command taken program word other (first ∷ second ∷ third ∷ rest) job plain e = let none : None ≡ Some job = e in absurd cc

migrate_taken : (program word : Text) (names : List Text) (job : Request Text) → AllByRecursion IsPlainName names → with_texts names (Migrate Memory word) ≡ Some job → IsTaken (program ∷ codes "migrate" ∷ names) job
migrate_taken program word [] job plain e = let none : None ≡ Some job = e in absurd cc
migrate_taken program word (name ∷ []) job plain e =
    let same : Migrate Memory name ≡ job = cc in
    subst (IsTaken (program ∷ codes "migrate" ∷ name ∷ [])) same (taken_migrate program name (form_of name plain.0))
migrate_taken program word (name ∷ other ∷ []) job plain e = let none : None ≡ Some job = e in absurd cc
migrate_taken program word (name ∷ other ∷ third ∷ rest) job plain e = let none : None ≡ Some job = e in absurd cc

draw_taken : (program word further : Text) (names : List Text) (job : Request Text) → AllByRecursion IsPlainName names → with_texts names (Draw Report word (Some further)) ≡ Some job → IsTaken (program ∷ codes "draw" ∷ names) job
draw_taken program word further [] job plain e = let none : None ≡ Some job = e in absurd cc
draw_taken program word further (name ∷ []) job plain e =
    let same : Draw Report name None ≡ job = cc in
    subst (IsTaken (program ∷ codes "draw" ∷ name ∷ [])) same (taken_draw program name (form_of name plain.0))
draw_taken program word further (first ∷ second ∷ []) job plain e =
    let same : Draw Report first (Some second) ≡ job = cc in
    subst (IsTaken (program ∷ codes "draw" ∷ first ∷ second ∷ [])) same (taken_draw_along program first second (form_of first plain.0) (form_of second plain.1.0))
draw_taken program word further (name ∷ other ∷ third ∷ rest) job plain e = let none : None ≡ Some job = e in absurd cc

-- of a window nothing is said
no_window : (word : Text) (names : List Text) → with_texts names (Window no_pages word None) ≡ None
no_window word [] = refl
no_window word (name ∷ []) = refl
no_window word (name ∷ other ∷ []) = refl
no_window word (name ∷ other ∷ third ∷ rest) = refl

-- the row of a name is the first that has it
row_taken : (program name : Text) (names : List Text) (job : Request Text) → AllByRecursion IsPlainName names
    → (check certify audit explain replay steps migrate draw window session : Bool)
    → (check ≡ true → codes "check" ≡ name) → (certify ≡ true → codes "certify" ≡ name) → (audit ≡ true → codes "audit" ≡ name) → (explain ≡ true → codes "explain" ≡ name) → (replay ≡ true → codes "replay" ≡ name) → (steps ≡ true → codes "steps" ≡ name) → (migrate ≡ true → codes "migrate" ≡ name) → (draw ≡ true → codes "draw" ≡ name)
    → option_and_then (λ (row : Text × Takes Text). with_names names row.1) (cond check (Some (codes "check", by.Texts (Two (Check asked_plainly) (codes "SESSION") (codes "CERT")))) (cond certify (Some (codes "certify", by.Texts (One Certify (codes "SESSION")))) (cond audit (Some (codes "audit", by.Texts (One (Audit plain_audit) (codes "SESSION")))) (cond explain (Some (codes "explain", by.Texts (One (Explain plain_explanation) (codes "SESSION")))) (cond replay (Some (codes "replay", by.Texts (Two Replay (codes "SESSION") (codes "RUNS")))) (cond steps (Some (codes "steps", by.Texts (Two Steps (codes "SCRIPT") (codes "EVENTS")))) (cond migrate (Some (codes "migrate", by.Texts (Migrate Memory (codes "SCRIPT")))) (cond draw (Some (codes "draw", by.Texts (Draw Report (codes "SESSION") (Some (codes "RUNS"))))) (cond window (Some (codes "window", by.Texts (Window no_pages (codes "INPUT") None))) (cond session (Some (codes "session", by.Folders (codes "FOLDER"))) None)))))))))) ≡ Some job
    → IsTaken (program ∷ name ∷ names) job
row_taken program name names job plain true certify audit explain replay steps migrate draw window session a b c d f g h i e = subst (λ (x : Text). IsTaken (program ∷ x ∷ names) job) (a refl) (two_taken (Check asked_plainly) (codes "check") taken_check program _ _ names job plain e)
row_taken program name names job plain false true audit explain replay steps migrate draw window session a b c d f g h i e = subst (λ (x : Text). IsTaken (program ∷ x ∷ names) job) (b refl) (one_taken Certify (codes "certify") taken_certify program _ names job plain e)
row_taken program name names job plain false false true explain replay steps migrate draw window session a b c d f g h i e = subst (λ (x : Text). IsTaken (program ∷ x ∷ names) job) (c refl) (one_taken (Audit plain_audit) (codes "audit") taken_audit program _ names job plain e)
row_taken program name names job plain false false false true replay steps migrate draw window session a b c d f g h i e = subst (λ (x : Text). IsTaken (program ∷ x ∷ names) job) (d refl) (one_taken (Explain plain_explanation) (codes "explain") taken_explain program _ names job plain e)
row_taken program name names job plain false false false false true steps migrate draw window session a b c d f g h i e = subst (λ (x : Text). IsTaken (program ∷ x ∷ names) job) (f refl) (two_taken Replay (codes "replay") taken_replay program _ _ names job plain e)
row_taken program name names job plain false false false false false true migrate draw window session a b c d f g h i e = subst (λ (x : Text). IsTaken (program ∷ x ∷ names) job) (g refl) (two_taken Steps (codes "steps") taken_steps program _ _ names job plain e)
row_taken program name names job plain false false false false false false true draw window session a b c d f g h i e = subst (λ (x : Text). IsTaken (program ∷ x ∷ names) job) (h refl) (migrate_taken program _ names job plain e)
row_taken program name names job plain false false false false false false false true window session a b c d f g h i e = subst (λ (x : Text). IsTaken (program ∷ x ∷ names) job) (i refl) (draw_taken program _ _ names job plain e)
row_taken program name names job plain false false false false false false false false true session a b c d f g h i e = let none : None ≡ Some job = sym (no_window (codes "INPUT") names) ∙ e in absurd cc
row_taken program name names job plain false false false false false false false false false true a b c d f g h i e = let none : None ≡ Some job = e in absurd cc
row_taken program name names job plain false false false false false false false false false false a b c d f g h i e = let none : None ≡ Some job = e in absurd cc

same_text : (a b : Text) → bytes_eq a b ≡ true → a ≡ b
same_text a b e = (bytes_eq-Decides a b).0 e

-- plain words of a command are taken, and ask for it
pub taken_plain : (words : List Text) (name : Text) (names : List Text) (job : Request Text) → IsPlain words name names → asked_by name names ≡ Some job → IsTaken words job
taken_plain words name names job h e = rw h.words_are (row_taken h.program name names job h.plain _ _ _ _ _ _ _ _ _ _ (same_text (codes "check") name) (same_text (codes "certify") name) (same_text (codes "audit") name) (same_text (codes "explain") name) (same_text (codes "replay") name) (same_text (codes "steps") name) (same_text (codes "migrate") name) (same_text (codes "draw") name) e)
