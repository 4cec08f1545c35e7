-- What `check`, `audit`, `certify` and `explain` show if they end with status 0.
use Rattle.std.specs.Prelude.{◌≡◌, ◌≤◌, ◌⊎◌, List, [], Option, Some, None, IfSome, length, ℕ}
use Rattle.std.specs.List.{AllByRecursion}
use Rattle.clap.specs.Words.{Text}
use Rattle.command_words.specs.declared.requests.Request.{Request}
use Rattle.command_words.specs.declared.requests.Request.TheVariants.{One, Two}
use Rattle.command_words.specs.declared.requests.Checks.{Checks}
use Rattle.command_words.specs.declared.requests.Explains.{Explains}
use Rattle.command_words.specs.declared.requests.OneText.{OneText}
use Rattle.command_words.specs.declared.requests.TwoTexts.TheVariants.{Check, Explain}
use Rattle.command_words.specs.Words.{IsPlain, asked, asked_by, error_kinds, several_asked}
use Rattle.command_texts.specs.Told.{AreNamed, IsNamed, NoSession}
use Rattle.audit_model.specs.Laws.{IsMigrated}
use Rattle.judged_texts.specs.Checked.{HeadlineHolds, OfSpelled, SpellsOneSession}
use Rattle.text_access.specs.Names.{Files}
use Rattle.commands.specs.Told.{bare_job}

-- The words ask for this: they are the name of a command and names of its texts that are no options; or the command line
-- accepts them, with any options; or there are none.
abbrev pub AsksFor : List Text → Request Text → Type 0
AsksFor words job =
    ((name : Text) × (names : List Text) × IsPlain words name names × (asked_by name names ≡ Some job))
    ⊎ (((error_kinds words ≡ []) × (asked words ≡ Some job)) ⊎ ((length words ≤ 1) × (job ≡ bare_job)))

-- there was such a text, or there were such texts, and this holds
pub record Shows {T : Type 0} (AreTexts Holds : T → Type 0) : Type 0 where
  pub texts : T
  pub are_texts : AreTexts texts
  pub holds : Holds texts

-- the headline holds for a session and a certificate
abbrev pub HoldsOfBoth : List ℕ × List ℕ → Type 0
HoldsOfBoth texts = HeadlineHolds texts.0 texts.1

-- the text spells one session, and the claims of the headline hold for it, in each merging
pub record SpellsMigrated (session : List ℕ) : Type 0 where
  pub one_session : SpellsOneSession session
  pub migrated : OfSpelled session IsMigrated

-- What status 0 shows: the headline, if the words ask for `check`; and its claims for the session, if they ask for `audit`,
-- `certify` or `explain` of one, for `explain` with the lines of a second text, or for `audit` of several.
pub record CarriesHeadlines (words : List Text) (files : Files) (HasSession : List ℕ → List ℕ → Type 0) (input : Option (List ℕ)) : Type 0 where
  pub checked : (first second : List ℕ) (checks : Checks) → AsksFor words (Two (Check checks) first second) → Shows (AreNamed first second files HasSession NoSession input) HoldsOfBoth
  pub clean : (name : List ℕ) (task : OneText) → AsksFor words (One task name) → Shows (IsNamed name files HasSession input) SpellsMigrated
  pub lined : (first second : List ℕ) (explains : Explains) → AsksFor words (Two (Explain explains) first second) → Shows (AreNamed first second files HasSession NoSession input) (λ texts. SpellsMigrated texts.0)
  pub each : error_kinds words ≡ [] → IfSome (several_asked words) (λ asked. AllByRecursion (λ name. Shows (IsNamed name files HasSession None) SpellsMigrated) asked.1)
