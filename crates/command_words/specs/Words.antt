-- The words of the command line.
use Rattle.std.specs.Prelude.{◌≡◌, ◌≢◌, ◌<◌, ℕ, [], ◌∷◌, ◌++◌, ◌⊎◌, Bool, List, length, Option, Some, None, true, codes, fold, find, map, option_and_then, option_map, unwrap_or, if◌then◌else◌, false, is_some, not, ◌&&◌, ◌||◌, ◌==◌}
use Rattle.std.specs.List.{AllByRecursion}
use Rattle.std.specs.Option.{option_map_or}
use Rattle.std.specs.Str.{bytes_eq}
use Rattle.std.specs.Borrow.{Bor}
use Rattle.std.specs.Str.Parse.{digits_value, without_leading_plus}
use Rattle.clap.specs.Simple.{on_top}
use Rattle.clap.specs.declared.error.kind.ErrorKind.{ErrorKind}
use Rattle.clap.specs.declared.error.kind.ErrorKind.TheVariants.{ArgumentConflict, OutOfMemory}
use Rattle.clap.specs.ValueTests.{is_unsigned_in}
use Rattle.clap.specs.Words.{App, IsAmong, Kinds, Row, Rule, Text, all_of, fault_of, first_of, new_app, new_rule, subcommand_of, with_rule, with_subcommand}
use Rattle.command_words.specs.declared.requests.Request.{Request}
use Rattle.command_words.specs.declared.requests.Request.TheVariants.{One, Two, Migrate, Draw, Window}
use Rattle.command_words.specs.declared.requests.Pages.{Pages}
use Rattle.clap.specs.declared.builder.value_parser.ValueParser.{ValueParser}
use Rattle.clap.specs.declared.builder.value_parser.ValueParser.TheVariants as parser
use Rattle.command_words.specs.declared.requests.Carrier.{Carrier}
use Rattle.command_words.specs.declared.requests.Checks.{Checks}
use Rattle.command_words.specs.declared.requests.VerdictForm.{VerdictForm}
use Rattle.command_words.specs.declared.requests.VerdictForm.TheVariants as verdict
use Rattle.command_words.specs.declared.requests.ReportForm.{ReportForm}
use Rattle.command_words.specs.declared.requests.ReportForm.TheVariants as report
use Rattle.command_words.specs.declared.requests.StoryForm.{StoryForm}
use Rattle.command_words.specs.declared.requests.StoryForm.TheVariants as story
use Rattle.command_words.specs.declared.requests.Lists.{Lists}
use Rattle.command_words.specs.declared.requests.ListForm.{ListForm}
use Rattle.command_words.specs.declared.requests.ListForm.TheVariants as list
use Rattle.command_words.specs.declared.requests.Audits.{Audits}
use Rattle.command_words.specs.declared.requests.Explains.{Explains}
use Rattle.migration_types.specs.declared.topic.Topic.{Topic}
use Rattle.migration_types.specs.declared.topic.Topic.TheVariants.{Page, Line}
use Rattle.migration_types.specs.declared.topic.Topic.TheVariants as topic
use Rattle.command_words.specs.declared.requests.Lacking.{Lacking}
use Rattle.command_words.specs.declared.requests.Lacking.TheVariants.{Refused, Cut}
use Rattle.command_words.specs.declared.requests.Takes.{Takes}
use Rattle.command_words.specs.declared.requests.Takes.TheVariants as by
use Rattle.command_words.specs.declared.requests.Demand.{Demand}
use Rattle.command_words.specs.declared.requests.Demand.TheVariants as demand
use Rattle.command_words.specs.declared.requests.Format.{Format}
use Rattle.command_words.specs.declared.requests.Format.TheVariants as format
use Rattle.command_words.specs.declared.requests.OneText.{OneText}
use Rattle.command_words.specs.declared.requests.OneText.TheVariants.{Certify, Audit, Explain}
use Rattle.command_words.specs.declared.requests.TwoTexts.{TwoTexts}
use Rattle.command_words.specs.declared.requests.TwoTexts.TheVariants.{Check, Replay, Steps}
use Rattle.command_words.specs.declared.requests.TwoTexts.TheVariants as two
use Rattle.clap.specs.declared.builder.action.ArgAction.TheVariants.{Append, SetTrue}
use Rattle.command_words.specs.declared.requests.AnswerKind.{AnswerKind}
use Rattle.command_words.specs.declared.requests.AnswerKind.TheVariants.{Artifact, Report}
use Rattle.command_words.specs.declared.requests.Targets.{Targets}
use Rattle.command_words.specs.declared.building.Choices.{Choices}
use Rattle.command_words.specs.Table.{carriers, carrier_name, carrier_named, format_name, format_named, formats, table}

-- a required word
abbrev pub needed : Text → Rule
needed id = record (new_rule id) { required = true }

-- a required word that gives a number of pages
abbrev pub count_rule : Text → Rule
count_rule id = record (needed id) { parser = Some (parser.Unsigned 0 9223372036854775807) }

-- a required word that may be repeated
abbrev pub repeated : Text → Rule
repeated id = record (needed id) { action = Some Append }

-- the word for the text of a command; `audit` takes several sessions
abbrev pub text_word : OneText → Text → Rule
text_word (Audit audits) id = repeated id
text_word Certify id = needed id
text_word (Explain explains) id = needed id

-- an option with a value that this parser accepts, and with this default
abbrev pub choice_rule : Text → ValueParser → Text → Rule
choice_rule option parser otherwise = record (new_rule option) { long = Some option; value_names = 1; parser = Some parser; defaults = otherwise ∷ [] }

-- an option without a value
abbrev pub flag_rule : Text → Rule
flag_rule option = record (new_rule option) { long = Some option; action = Some SetTrue }

-- an option with a number as its value
abbrev pub number_rule : Text → Rule
number_rule option = record (new_rule option) { long = Some option; value_names = 1; parser = Some (parser.Unsigned 0 4294967295) }

-- a command with the option for the faults of all pages
abbrev pub with_all : App → App
with_all app = with_rule app (flag_rule (codes "all"))

-- a command with the option for a page
abbrev pub with_page : App → App
with_page app = with_rule app (number_rule (codes "page"))

-- a command with the option for a line of a session
abbrev pub with_line : App → App
with_line app = with_rule app (number_rule (codes "line"))

-- a command with the option for the file of its answer: `-o FILE` or `--output FILE`
abbrev pub output_rule : Rule
output_rule = record (new_rule (codes "output")) { short = Some 111; long = Some (codes "output"); value_names = 1 }

abbrev pub with_output : App → App
with_output app = with_rule app output_rule

-- a command with the option for the file of a recording's lines
abbrev pub with_lines : App → App
with_lines app = with_rule app (record (new_rule (codes "lines")) { long = Some (codes "lines"); value_names = 1 })

-- a command with the option that requires a session of a whole migration
abbrev pub with_complete : App → App
with_complete app = with_rule app (flag_rule (codes "complete"))

-- a command with the option that requires a session that says how each owed page came
abbrev pub with_complete_pages : App → App
with_complete_pages app = with_rule app (flag_rule (codes "complete-pages"))

-- a command with both of these options
abbrev pub with_demand : App → App
with_demand app = with_complete_pages (with_complete app)

-- a command with the option for the form of its answer; the default is lines of text
abbrev pub with_format : ValueParser → App → App
with_format parser app = with_rule app (choice_rule (codes "format") parser (format_name format.Text))

-- a command with the option for the first line alone
abbrev pub with_quiet : App → App
with_quiet app = with_rule app (flag_rule (codes "quiet"))

-- a command with the option that cuts a recording that lacks something
abbrev pub with_cut : App → App
with_cut app = with_rule app (flag_rule (codes "cut"))

-- a command on one text, and a command on two texts, with their options
abbrev pub with_one : ValueParser → OneText → App → App
with_one parser (Audit audits) app = with_format parser (with_quiet (with_all (with_demand app)))
with_one parser Certify app = app
with_one parser (Explain explains) app = with_format parser (with_lines (with_line (with_page (with_demand app))))

abbrev pub with_two : ValueParser → TwoTexts → App → App
with_two parser (Check checks) app = with_format parser (with_demand app)
with_two parser Replay app = app
with_two parser Steps app = app
with_two parser (two.Explain explains) app = app

-- a command with an optional word, if it has one
abbrev pub with_further : App → Option Text → App
with_further app None = app
with_further app (Some word) = with_rule app (new_rule word)

-- a command with a word for each of its texts, and its own options
abbrev pub with_words : Choices → App → Request Text → App
with_words choices app (One task word) = with_one choices.formats task (with_rule app (text_word task word))
with_words choices app (Two task first second) = with_two choices.formats task (with_rule (with_rule app (needed first)) (needed second))
with_words choices app (Migrate carrier word) = with_rule (with_rule app (needed word)) (choice_rule (codes "link") choices.carriers (carrier_name carrier))
with_words choices app (Draw topic word further) = with_page (with_further (with_rule app (needed word)) further)
with_words choices app (Window pages word lines) = with_lines (with_rule (with_rule (with_rule app (needed word)) (count_rule (codes "FIRST"))) (count_rule (codes "COUNT")))

-- a command with a word for each of its texts, or for its folders, and its own options
abbrev pub with_taken : Choices → App → Takes Text → App
with_taken choices app (by.Texts asked) = with_words choices app asked
with_taken choices app (by.Folders word) = with_cut (with_rule app (repeated word))

-- the command of a row of the table; each has the option for the file of its answer
abbrev pub command_words : Choices → Text × Takes Text → App
command_words choices row = with_output (with_taken choices (new_app row.0) row.1)

-- `postcopy`, which has a version and requires a command
abbrev pub program_words : App
program_words = on_top (λ s. record s { has_version = true; subcommand_required = true }) (new_app (codes "postcopy"))

-- a command line with the command of one more row
abbrev pub with_command : Choices → App → Text × Takes Text → App
with_command choices app row = with_subcommand app (command_words choices row).top

-- `postcopy` with the commands of the table, and with these parsers for the values of options
abbrev pub line_words : Choices → App
line_words choices = fold (with_command choices) program_words table

-- a value that is at no place in memory
abbrev pub placeless : {X : Type 0} → X → Bor X
placeless x = record { ref_ptr = (0, 0); now = x }

-- the parser that accepts these texts
abbrev pub one_of : List Text → ValueParser
one_of texts = parser.Names (placeless (map placeless texts))

-- `postcopy` with the commands of the table
abbrev pub postcopy_words : App
postcopy_words = line_words (record { carriers = one_of (map carrier_name carriers); formats = one_of (map format_name formats) })

-- the words that references point to
abbrev pub word_texts : List (Bor Text) → List Text
word_texts words = map (λ w. w.now) words

-- the text of a list of one
abbrev pub only : List Text → Option Text
only (text ∷ []) = Some text
only texts = None

-- the text that was given for a word, if only one was
abbrev pub only_of : Text → List Row → Option Text
only_of id rows = option_and_then only (all_of id rows)

-- two names, if both are there
abbrev pub both_names : TwoTexts → Option Text → Option Text → Option (Request Text)
both_names task None second = None
both_names task (Some first) None = None
both_names task (Some first) (Some second) = Some (Two task first second)

-- the carrier that the arguments name, or else this one
abbrev pub carrier_in : List Row → Carrier → Carrier
carrier_in rows otherwise = unwrap_or (option_and_then carrier_named (first_of (codes "link") rows)) otherwise

-- whether there is a text, and it is "true"
abbrev pub is_set : Option Text → Bool
is_set None = false
is_set (Some text) = bytes_eq text (codes "true")

-- what is required of a session: a whole migration, or how its pages came, if the arguments have that option, or else
-- that it is safe
abbrev pub demand_in : List Row → Demand
demand_in rows =
    if is_set (first_of (codes "complete") rows) then demand.Whole
    else if is_set (first_of (codes "complete-pages") rows) then demand.Pages else demand.Safety

-- whether this form is an object
abbrev pub is_json : Option Format → Bool
is_json (Some format.Json) = true
is_json (Some format.Text) = false
is_json None = false

-- whether an object is asked for
abbrev pub wants_object : List Row → Bool
wants_object rows = is_json (option_and_then format_named (first_of (codes "format") rows))

-- whether the faults of all pages are asked for, and whether the first line alone is
abbrev pub wants_all : List Row → Bool
wants_all rows = is_set (first_of (codes "all") rows)

abbrev pub wants_a_line : List Row → Bool
wants_a_line rows = is_set (first_of (codes "quiet") rows)

-- the form of the verdict on a certificate, and what is asked about a session with one
abbrev pub verdict_form_in : List Row → VerdictForm
verdict_form_in rows = if wants_object rows then verdict.Object else verdict.Line

abbrev pub checks_in : List Row → Checks
checks_in rows = record { demand = demand_in rows; form = verdict_form_in rows }

-- the form of a report: with the faults of all pages, the first line alone, lines, or an object; and what an audit asks
abbrev pub all_faults_form_in : List Row → ReportForm
all_faults_form_in rows = if wants_object rows then report.AllFaultsObject else report.AllFaults

abbrev pub short_form_in : List Row → ReportForm
short_form_in rows = if wants_a_line rows then report.FirstLine else report.Lines

abbrev pub report_form_in : List Row → ReportForm
report_form_in rows = if wants_all rows then all_faults_form_in rows else if wants_object rows then report.Object else short_form_in rows

abbrev pub audits_in : List Row → Audits
audits_in rows = record { demand = demand_in rows; form = report_form_in rows }

-- the form of the reports on several sessions, and what their audit asks
abbrev pub list_form_in : List Row → ListForm
list_form_in rows =
    if not (wants_object rows) then list.FirstLines else if wants_all rows then list.AllFaultsObjects else list.Objects

abbrev pub lists_in : List Row → Lists
lists_in rows = record { demand = demand_in rows; form = list_form_in rows }

-- the 32-bit number that a text gives, if it gives one
abbrev pub number_of : Text → Option ℕ
number_of text = if is_unsigned_in 0 4294967295 text then Some (digits_value 10 (without_leading_plus text)) else None

-- the number that the arguments have for an option
abbrev pub number_in : Text → List Row → Option ℕ
number_in option rows = option_and_then number_of (first_of option rows)

-- the number of pages that a text gives, if it gives one
abbrev pub count_of : Text → Option ℕ
count_of text = if is_unsigned_in 0 18446744073709551615 text then Some (digits_value 10 (without_leading_plus text)) else None

-- the number of pages that the arguments have for a word
abbrev pub count_in : Text → List Row → Option ℕ
count_in word rows = option_and_then count_of (first_of word rows)

abbrev pub pages_of : ℕ → ℕ → Pages
pages_of first count = record { first = first; count = count }

-- the window of these pages of the recording under this name, if all of them are there, with the file for its lines, if
-- there is one
abbrev pub window_given : Option Text → Option Text → Option ℕ → Option ℕ → Option (Request Text)
window_given lines None first count = None
window_given lines (Some name) None count = None
window_given lines (Some name) (Some first) None = None
window_given lines (Some name) (Some first) (Some count) = Some (Window (pages_of first count) name lines)

abbrev pub window_in : List Row → Text → Option (Request Text)
window_in rows word = window_given (first_of (codes "lines") rows) (first_of word rows) (count_in (codes "FIRST") rows) (count_in (codes "COUNT") rows)

-- the topic: the page that the arguments name, or else this one
abbrev pub page_in : List Row → Topic → Topic
page_in rows otherwise = unwrap_or (option_map Page (number_in (codes "page") rows)) otherwise

-- the topic: the line that the arguments name, or else the page, or else this one
abbrev pub topic_in : List Row → Topic → Topic
topic_in rows otherwise = unwrap_or (option_map Line (number_in (codes "line") rows)) (page_in rows otherwise)

-- the form of a story, and what an explanation asks
abbrev pub story_form_in : List Row → StoryForm
story_form_in rows = if wants_object rows then story.Object (topic_in rows topic.Report) else story.Words (topic_in rows topic.Report)

abbrev pub explains_in : List Row → Explains
explains_in rows = record { demand = demand_in rows; form = story_form_in rows }

-- a command on one text, and a command on two texts, with what the arguments ask for
abbrev pub one_in : List Row → OneText → OneText
one_in rows (Audit audits) = Audit (audits_in rows)
one_in rows Certify = Certify
one_in rows (Explain explains) = Explain (explains_in rows)

abbrev pub two_in : List Row → TwoTexts → TwoTexts
two_in rows (Check checks) = Check (checks_in rows)
two_in rows Replay = Replay
two_in rows Steps = Steps
two_in rows (two.Explain explains) = two.Explain explains

-- a command on one text; an explanation is a command on two if the file of a recording's lines is named
abbrev pub told_with : Option Text → OneText → Text → Request Text
told_with None task name = One task name
told_with (Some lines) (Explain explains) name = Two (two.Explain explains) name lines
told_with (Some lines) (Audit audits) name = One (Audit audits) name
told_with (Some lines) Certify name = One Certify name

-- the argument for an optional word
abbrev pub further_in : List Row → Option Text → Option Text
further_in rows word = option_and_then (λ id. first_of id rows) word

-- what is done with a recording that lacks something: it is cut if the arguments have that option
abbrev pub lacking_in : List Row → Lacking
lacking_in rows = if is_set (first_of (codes "cut") rows) then Cut else Refused

-- what a command on texts asks for, with the names among its arguments
abbrev pub texts_in : List Row → Request Text → Option (Request Text)
texts_in rows (One task word) = option_map (λ name. told_with (first_of (codes "lines") rows) (one_in rows task) name) (only_of word rows)
texts_in rows (Two task first second) = both_names (two_in rows task) (first_of first rows) (first_of second rows)
texts_in rows (Migrate carrier word) = option_map (λ name. Migrate (carrier_in rows carrier) name) (first_of word rows)
texts_in rows (Draw topic word further) = option_map (λ name. Draw (page_in rows topic) name (further_in rows further)) (first_of word rows)
texts_in rows (Window pages word lines) = window_in rows word

-- what a command asks for with the names among its arguments, if it is on texts
abbrev pub given_in : List Row → Takes Text → Option (Request Text)
given_in rows (by.Texts asked) = texts_in rows asked
given_in rows (by.Folders word) = None

-- what a command and its arguments ask for, by the table
abbrev pub asked_of : Text × List Row → Option (Request Text)
asked_of given = option_and_then (λ row. given_in given.1 row.1) (find (λ row. bytes_eq row.0 given.0) table)

-- some texts, if there are two or more
abbrev pub several : List Text → Option (List Text)
several (first ∷ second ∷ more) = Some (first ∷ second ∷ more)
several texts = None

-- the sessions among the arguments, if there are several
abbrev pub sessions_in : List Row → Option (List Text)
sessions_in rows = option_and_then several (all_of (codes "SESSION") rows)

-- whether the arguments have an option with a value
abbrev pub has : Text → List Row → Bool
has option rows = is_some (first_of option rows)

-- a page and a line clash with each other
abbrev pub topics_clash : List Row → Bool
topics_clash rows = has (codes "page") rows && has (codes "line") rows

-- The faults of all pages clash with the first line alone. That line is asked for by an option, or because there are
-- several sessions, with a line for each.
abbrev pub faults_clash : List Row → Bool
faults_clash rows =
    wants_all rows && (wants_a_line rows || (is_some (sessions_in rows) && not (wants_object rows)))

-- whether the arguments have options that clash
abbrev pub clashes : List Row → Bool
clashes rows = topics_clash rows || faults_clash rows

-- what this function gives for a command and its arguments, if the options do not clash
abbrev pub unclashed : {X : Type 0} → (Text × List Row → Option X) → Text × List Row → Option X
unclashed tell given = if clashes given.1 then None else tell given

-- what a command and its arguments ask for, if the options do not clash
abbrev pub asked_in : Text × List Row → Option (Request Text)
asked_in given = unclashed asked_of given

-- what the words ask for
abbrev pub asked : List Text → Option (Request Text)
asked words = option_and_then asked_in (subcommand_of postcopy_words words)

-- the sessions that `audit` was given, if there are several, with what is asked about each
abbrev pub several_among : List Row → Option (Lists × List Text)
several_among rows = option_map (λ names. (lists_in rows, names)) (sessions_in rows)

-- the sessions that a command and its arguments name to be audited
abbrev pub several_named : Text × List Row → Option (Lists × List Text)
several_named given = if bytes_eq given.0 (codes "audit") then several_among given.1 else None

-- the sessions that a command and its arguments ask to be audited, if they ask for nothing else
abbrev pub several_given : Text × List Row → Option (Lists × List Text)
several_given given = if is_some (asked_of given) then None else several_named given

-- the sessions that a command and its arguments ask to be audited, if they ask for nothing else and no options clash
abbrev pub several_in : Text × List Row → Option (Lists × List Text)
several_in given = unclashed several_given given

-- the sessions that the words ask to be audited
abbrev pub several_asked : List Text → Option (Lists × List Text)
several_asked words = option_and_then several_in (subcommand_of postcopy_words words)

-- the folders that `session` was given, with what is done if the recording lacks something
abbrev pub folders_among : List Row → Option (Lacking × List Text)
folders_among rows = option_map (λ names. (lacking_in rows, names)) (all_of (codes "FOLDER") rows)

-- the folders that a command and its arguments name for a session to be made of their files
abbrev pub folders_named : Text × List Row → Option (Lacking × List Text)
folders_named given = if bytes_eq given.0 (codes "session") then folders_among given.1 else None

-- the folders of which a command and its arguments ask a session to be made, if they ask for nothing else
abbrev pub folders_given : Text × List Row → Option (Lacking × List Text)
folders_given given = if is_some (asked_of given) then None else folders_named given

-- the folders of which a command and its arguments ask a session to be made, if they ask for nothing else and no
-- options clash
abbrev pub folders_in : Text × List Row → Option (Lacking × List Text)
folders_in given = unclashed folders_given given

-- the folders of which the words ask a session to be made
abbrev pub folders_asked : List Text → Option (Lacking × List Text)
folders_asked words = option_and_then folders_in (subcommand_of postcopy_words words)

-- whether a command was given options that clash
abbrev pub clash_in : Option (Text × List Row) → Bool
clash_in given = option_map_or (λ given. clashes given.1) given false

-- whether the words have options that clash
abbrev pub clashing : List Text → Bool
clashing words = clash_in (subcommand_of postcopy_words words)

-- why words that the command line accepts are refused: options clash, or memory ran out
abbrev pub IsRefusedFor : Bool → ErrorKind → Type 0
IsRefusedFor true kind = (kind ≡ ArgumentConflict) ⊎ (kind ≡ OutOfMemory)
IsRefusedFor false kind = kind ≡ OutOfMemory

-- the kinds of error that the command line may have for the words: none if it accepts them
abbrev pub error_kinds : List Text → Kinds
error_kinds words = fault_of postcopy_words words

-- why words are refused, if memory does not run out: the command line has an error of this kind for them; or it accepts
-- them, and options clash
abbrev pub IsKindFor : List Text → ErrorKind → Type 0
IsKindFor words kind = IsAmong kind (error_kinds words) ⊎ ((error_kinds words ≡ []) × (clashing words ≡ true) × (kind ≡ ArgumentConflict))

-- the command line accepts the words, and no options clash
abbrev pub AreAccepted : List Text → Type 0
AreAccepted words = (error_kinds words ≡ []) × (clashing words ≡ false)

-- the words, two or more, are refused: the command line has an error for them, or options clash
abbrev pub AreRefused : List Text → Type 0
AreRefused words = (1 < length words) × ((error_kinds words ≢ []) ⊎ (clashing words ≡ true))

-- the file that the arguments name for the answer
abbrev pub output_in : Option (Text × List Row) → Option Text
output_in given = option_and_then (λ given. first_of (codes "output") given.1) given

-- the file for the lines of a window, if one is named
abbrev pub lines_file_of : Request Text → Option Text
lines_file_of (Window pages name lines) = lines
lines_file_of (One task name) = None
lines_file_of (Two task first second) = None
lines_file_of (Migrate carrier name) = None
lines_file_of (Draw topic name further) = None

abbrev pub lines_file : Option (Request Text) → Option Text
lines_file asked = option_and_then lines_file_of asked

-- the files that the arguments name for what is written: the lines of a window, and the answer
abbrev pub targets_in : Option (Text × List Row) → Option Text × Option Text
targets_in given = (lines_file (option_and_then asked_in given), output_in given)

-- the names of these files
abbrev pub target_names : Targets → Option Text × Option Text
target_names targets = (option_map (λ name. name.now) targets.lines, option_map (λ name. name.now) targets.output)

-- the kind of a command's answer: a certificate from `certify`, a session from `steps`, `migrate` and `window`, a
-- picture from `draw`, and otherwise a report
abbrev pub answer_of : Request Text → AnswerKind
answer_of (One Certify name) = Artifact
answer_of (One (Audit audits) name) = Report
answer_of (One (Explain explains) name) = Report
answer_of (Two (Check checks) first second) = Report
answer_of (Two Replay first second) = Report
answer_of (Two Steps first second) = Artifact
answer_of (Two (two.Explain explains) first second) = Report
answer_of (Migrate carrier name) = Artifact
answer_of (Draw topic name further) = Artifact
answer_of (Window pages name lines) = Artifact

-- the kind of the answer to what is asked for: a command on named texts, or the session of the files in folders; it is a
-- report if neither is asked for
abbrev pub answer_kind : Option (Request Text) → Option (Lacking × List Text) → AnswerKind
answer_kind (Some asked) folders = answer_of asked
answer_kind None (Some folders) = Artifact
answer_kind None None = Report

abbrev pub is_report : AnswerKind → Bool
is_report Artifact = false
is_report Report = true

-- whether an answer with this status goes to its file: with 0 any answer, with 1 a report, and above 1 none
abbrev pub is_due : AnswerKind → ℕ → Bool
is_due kind status = (status == 0) || ((status == 1) && is_report kind)

-- a name that is no option: it is `-`, or does not begin with `-`
abbrev pub IsPlainName : Text → Type 0
IsPlainName name = (name ≡ codes "-") ⊎ ((rest : Text) → name ≢ codes "-" ++ rest)

-- A command with these names, if it has this many texts. `window` is left out, because its numbers may be invalid.
abbrev pub with_texts : List Text → Request Text → Option (Request Text)
with_texts (name ∷ []) (One task word) = Some (One task name)
with_texts (first ∷ second ∷ []) (Two task word other) = Some (Two task first second)
with_texts (name ∷ []) (Migrate carrier word) = Some (Migrate carrier name)
with_texts (name ∷ []) (Draw topic word further) = Some (Draw topic name None)
with_texts (first ∷ second ∷ []) (Draw topic word (Some further)) = Some (Draw topic first (Some second))
with_texts names asked = None

-- a command with these names, if it is on texts, and on this many
abbrev pub with_names : List Text → Takes Text → Option (Request Text)
with_names names (by.Texts asked) = with_texts names asked
with_names names (by.Folders word) = None

-- what the name of a command and the names of its texts ask for
abbrev pub asked_by : Text → List Text → Option (Request Text)
asked_by name names = option_and_then (λ row. with_names names row.1) (find (λ row. bytes_eq row.0 name) table)

-- the program's own name, the name of a command, and names that are no options
pub record IsPlain (words : List Text) (name : Text) (names : List Text) : Type 0 where
  pub program : Text
  pub words_are : words ≡ program ∷ name ∷ names
  pub plain : AllByRecursion IsPlainName names
