-- What is put where, of an answer and of a table that goes beside it.
use Rattle.std.specs.Prelude.{◌≡◌, ◌⊎◌, ℕ, List, [], ◌++◌, Option, Some, None, if◌then◌else◌, not, nat_lt, ◌&&◌}
use Rattle.std.specs.Io.KnownBytes.{Appends}
use Rattle.command_words.specs.declared.requests.AnswerKind.{AnswerKind}
use Rattle.command_words.specs.Words.{is_due, is_report}
use Rattle.commands.specs.Saving.{Named, under}

-- a table gets this name, if there are both
abbrev pub under_if : Option (List ℕ) → Option (List ℕ) → Named
under_if name None = []
under_if name (Some table) = under name table

-- what the output gets of a text: all of it, if it gets no name
abbrev pub beside : Option (List ℕ) → List ℕ → List ℕ
beside None text = text
beside (Some name) text = []

-- the name that a text gets at this status, if it gets one
abbrev pub name_at : AnswerKind → ℕ → Option (List ℕ) → Option (List ℕ)
name_at kind status name = if is_due kind status then name else None

-- what is put of an answer: nothing above 1 if it is a certificate, a session or a picture, since it is a part of one
abbrev pub due_of : AnswerKind → ℕ → List ℕ → List ℕ
due_of kind status text = if not (is_report kind) && nat_lt 1 status then [] else text

-- both got their names, the one or the other first
abbrev pub AreBothNamed : Named → Named → Named → Named → Type 0
AreBothNamed one other old new = (new ≡ old ++ one ++ other) ⊎ (new ≡ old ++ other ++ one)

-- one of two got its name, or none
abbrev pub IsOneNamed : Named → Named → Named → Named → Type 0
IsOneNamed one other old new = (new ≡ old) ⊎ (new ≡ old ++ one) ⊎ (new ≡ old ++ other)

-- where texts go: those that have names, and what the output holds, as far as that is known
abbrev pub Places : Type 0
Places = Named × Option (List ℕ)

-- An answer of this kind with this status was put where it goes, and a table: each under the name of the two that is its
-- own, if it gets that, and else the answer on the output.
pub record IsPut (kind : AnswerKind) (status : ℕ) (names : Option (List ℕ) × Option (List ℕ)) (answer : List ℕ) (table : Option (List ℕ)) (old new : Places) : Type 0 where
  pub named : AreBothNamed (under (name_at kind status names.1) (due_of kind status answer)) (under_if (name_at kind status names.0) table) old.0 new.0
  pub written : Appends old.1 new.1 (beside (name_at kind status names.1) (due_of kind status answer))
