-- The table of commands: the name of each, and the words for its texts.
use Rattle.std.specs.Prelude.{List, Option, Some, None, map, find, codes, option_map, [], ◌∷◌}
use Rattle.std.specs.Str.{bytes_eq}
use Rattle.std.specs.Borrow.{Bor}
use Rattle.clap.specs.Words.{Text}
use Rattle.command_words.specs.declared.requests.Request.{Request}
use Rattle.command_words.specs.declared.requests.Request.TheVariants.{One, Two, Migrate, Draw, Window}
use Rattle.command_words.specs.declared.requests.Pages.{Pages}
use Rattle.command_words.specs.declared.requests.Carrier.{Carrier}
use Rattle.command_words.specs.declared.requests.Carrier.TheVariants.{Memory, Tcp}
use Rattle.command_words.specs.declared.requests.Checks.{Checks}
use Rattle.command_words.specs.declared.requests.Audits.{Audits}
use Rattle.command_words.specs.declared.requests.Explains.{Explains}
use Rattle.command_words.specs.declared.requests.Lists.{Lists}
use Rattle.command_words.specs.declared.requests.VerdictForm.TheVariants as verdict
use Rattle.command_words.specs.declared.requests.ReportForm.TheVariants as report
use Rattle.command_words.specs.declared.requests.StoryForm.TheVariants as story
use Rattle.command_words.specs.declared.requests.Several.{Several}
use Rattle.command_words.specs.declared.requests.Folders.{Folders}
use Rattle.command_words.specs.declared.requests.Lacking.{Lacking}
use Rattle.command_words.specs.declared.requests.Takes.{Takes}
use Rattle.command_words.specs.declared.requests.Takes.TheVariants as by
use Rattle.migration_types.specs.declared.topic.Topic.TheVariants as topic
use Rattle.command_words.specs.declared.requests.Intent.{Intent}
use Rattle.command_words.specs.declared.requests.Intent.TheVariants.{Job}
use Rattle.command_words.specs.declared.requests.Intent.TheVariants as intent
use Rattle.command_words.specs.declared.requests.Demand.TheVariants.{Safety}
use Rattle.command_words.specs.declared.requests.Format.{Format}
use Rattle.command_words.specs.declared.requests.Format.TheVariants as format
use Rattle.command_words.specs.declared.requests.OneText.TheVariants.{Certify, Audit, Explain}
use Rattle.command_words.specs.declared.requests.TwoTexts.TheVariants.{Check, Replay, Steps}
use Rattle.command_words.specs.declared.table.Word.{Word}
use Rattle.command_words.specs.declared.table.CommandRow.{CommandRow}

-- what `check` asks for without options: a safe session, and the verdict as a line
abbrev pub plain : Checks
plain = record { demand = Safety; form = verdict.Line }

-- what `audit` asks for without options: a safe session, and the report in lines
abbrev pub plain_audit : Audits
plain_audit = record { demand = Safety; form = report.Lines }

-- what `explain` asks for without options: a safe session, and the story of its report in words
abbrev pub plain_explanation : Explains
plain_explanation = record { demand = Safety; form = story.Words topic.Report }

-- no pages: a placeholder for those that the words of `window` give
abbrev pub no_pages : Pages
no_pages = record { first = 0; count = 0 }

-- what each of these asks for without options: `check SESSION CERT`, `certify SESSION`, `audit SESSION`, `explain
-- SESSION`, `replay SESSION RUNS`, `steps SCRIPT EVENTS`, `migrate SCRIPT`, `draw SESSION`, `draw SESSION RUNS`,
-- `window INPUT FIRST COUNT`, `session FOLDER`
abbrev pub table : List (Text × Takes Text)
table =
    (codes "check", by.Texts (Two (Check plain) (codes "SESSION") (codes "CERT"))) ∷
    (codes "certify", by.Texts (One Certify (codes "SESSION"))) ∷
    (codes "audit", by.Texts (One (Audit plain_audit) (codes "SESSION"))) ∷
    (codes "explain", by.Texts (One (Explain plain_explanation) (codes "SESSION"))) ∷
    (codes "replay", by.Texts (Two Replay (codes "SESSION") (codes "RUNS"))) ∷
    (codes "steps", by.Texts (Two Steps (codes "SCRIPT") (codes "EVENTS"))) ∷
    (codes "migrate", by.Texts (Migrate Memory (codes "SCRIPT"))) ∷
    (codes "draw", by.Texts (Draw topic.Report (codes "SESSION") (Some (codes "RUNS")))) ∷
    (codes "window", by.Texts (Window no_pages (codes "INPUT") None)) ∷
    (codes "session", by.Folders (codes "FOLDER")) ∷ []

-- the name of a carrier of a migration
abbrev pub carrier_name : Carrier → Text
carrier_name Memory = codes "memory"
carrier_name Tcp = codes "tcp"

-- the carriers of a migration
abbrev pub carriers : List Carrier
carriers = Memory ∷ Tcp ∷ []

-- the carrier with this name
abbrev pub carrier_named : Text → Option Carrier
carrier_named name = find (λ carrier. bytes_eq (carrier_name carrier) name) carriers

-- the name of the form of an answer
abbrev pub format_name : Format → Text
format_name format.Text = codes "text"
format_name format.Json = codes "json"

-- the forms of an answer that the option `--format` can name
abbrev pub formats : List Format
formats = format.Text ∷ format.Json ∷ []

-- the form with this name
abbrev pub format_named : Text → Option Format
format_named name = find (λ format. bytes_eq (format_name format) name) formats

-- a command, with another word for each of its texts
abbrev pub asked_map : {V W : Type 0} → (V → W) → Request V → Request W
asked_map f (One task word) = One task (f word)
asked_map f (Two task first second) = Two task (f first) (f second)
asked_map f (Migrate carrier word) = Migrate carrier (f word)
asked_map f (Draw topic word further) = Draw topic (f word) (option_map f further)
asked_map f (Window pages word lines) = Window pages (f word) (option_map f lines)

-- what is asked for, with the names of its texts
abbrev pub asked_names : Request (Bor Text) → Request Text
asked_names asked = asked_map (λ name. name.now) asked

-- the names of the sessions to audit, with what is asked about each
abbrev pub several_names : Several → Lists × List Text
several_names several = (several.lists, map (λ name. name.now) several.names.items)

-- the names of the folders of a recording, with what is done if it lacks something
abbrev pub folders_names : Folders → Lacking × List Text
folders_names folders = (folders.lacking, map (λ name. name.now) folders.names.items)

-- the command that is asked for
abbrev pub job_of : Intent → Option (Request Text)
job_of (Job job) = Some (asked_names job)
job_of (intent.Several several) = None
job_of (intent.Folders folders) = None

-- the sessions to audit
abbrev pub several_of : Intent → Option (Lists × List Text)
several_of (Job job) = None
several_of (intent.Several several) = Some (several_names several)
several_of (intent.Folders folders) = None

-- the folders of a recording
abbrev pub folders_of : Intent → Option (Lacking × List Text)
folders_of (Job job) = None
folders_of (intent.Several several) = None
folders_of (intent.Folders folders) = Some (folders_names folders)

-- what a row of the program's table asks for, with the names of its words
abbrev pub word_names : Request Word → Request Text
word_names asked = asked_map (λ word. word.name.now) asked

-- the name of a row's optional word
abbrev pub further_name : Option Word → Option Text
further_name word = option_map (λ w. w.name.now) word

-- what a row of the program's table takes, with the names of its words
abbrev pub taken_names : Takes Word → Takes Text
taken_names (by.Texts asked) = by.Texts (word_names asked)
taken_names (by.Folders word) = by.Folders word.name.now

-- a row of the program's table
abbrev pub row_of : CommandRow → Text × Takes Text
row_of row = (row.name.now, taken_names row.takes)

abbrev pub rows_of : List CommandRow → List (Text × Takes Text)
rows_of rows = map row_of rows
