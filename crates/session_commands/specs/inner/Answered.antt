-- The answer of `window`, with the table of its lines.
use Rattle.std.specs.Prelude.{◌≡◌, ℕ, Bool, true, false, List, Option, Some, None, option_map}
use Rattle.std.specs.Global.{Vec}
use Rattle.migration_types.specs.Sessions.{Recorded}
use Rattle.text_lines.specs.Text.{IsRefusalLine, IsSpelling}
use Rattle.session_grammar.specs.Grammar.{SpellsSession}
use Rattle.command_texts.specs.declared.answer.Answer.{Answer}
use Rattle.command_texts.specs.declared.why.Why.{Why}
use Rattle.command_texts.specs.Answers.{Says}
use Rattle.command_texts.specs.Reasons.{place_of, told_place}
use Rattle.text_access.specs.Names.{Files}
use Rattle.windows.specs.declared.pages.Window.{Window}
use Rattle.windows.specs.Cuts.{IsBeyond, IsWindowOf}
use Rattle.windows.specs.Tables.{table_text}
use Rattle.session_commands.specs.Windows.{IsInput, IsRefusedUnder, IsWindowed, windowed_status, windowed_text}
use Rattle.session_commands.specs.declared.windowing.Windowed.{Windowed}
use Rattle.session_commands.specs.declared.windowing.Windowed.TheVariants.{SessionText, NoSuchPages, Seen}

-- it is the window of this recording, or there is none since the machine does not have these pages
abbrev pub IsFrom : Window → Recorded → Windowed → Type 0
IsFrom w s (SessionText line) = ⊥
IsFrom w s NoSuchPages = IsBeyond w s.geometry.pages
IsFrom w s (Seen out) = IsWindowOf w s out

pub record IsCutFrom (Is : Recorded → Type 0) (w : Window) (found : Windowed) : Type 0 where
  pub s : Recorded
  pub is : Is s
  pub from : IsFrom w s found

-- the result for a text that was read
abbrev pub IsCutFromText : List ℕ → Window → Windowed → Type 0
IsCutFromText text w (SessionText line) = IsRefusalLine SpellsSession text line
IsCutFromText text w found = IsCutFrom (λ s. IsSpelling SpellsSession s text) w found

-- the result for what is under a name, and why its text is refused, if it is
pub record IsCutUnder (w : Window) (name : List ℕ) (files : Files) (HasSession : List ℕ → List ℕ → Type 0) (input : Option (List ℕ)) (found : Windowed) (why : Option Why) : Type 0 where
  pub text : List ℕ
  pub is_input : IsInput name files HasSession input text
  pub is_windowed : IsWindowed w name files text found
  pub line : Option ℕ
  pub is_line : IsRefusedUnder name files text line
  pub is_place : option_map told_place why ≡ place_of name line

-- there is a table if it is asked for, and it is that of these lines
abbrev pub HasTable : Bool → List ℕ → Option (Vec ℕ) → Type 0
HasTable false lines table = table ≡ None
HasTable true lines None = ⊥
HasTable true lines (Some table) = table.items ≡ table_text lines

-- there is a table if there is a window and it is asked for
abbrev pub HasTableOf : Bool → Windowed → Option (Vec ℕ) → Type 0
HasTableOf lined (Seen cut) table = HasTable lined cut.lines.items table
HasTableOf lined other table = table ≡ None

-- the answer says what was found
abbrev pub IsTold : Bool → Windowed → Answer → Option (Vec ℕ) → Type 0
IsTold lined found answer table = Says answer (windowed_text found) (windowed_status found) × HasTableOf lined found table
