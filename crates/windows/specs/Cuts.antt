-- The results of cutting a window out of a recording.
use Rattle.std.specs.Prelude.{◌≡◌, ℕ, ◌+◌, ◌<◌, ◌≤◌, ◌⊎◌}
use Rattle.migration_types.specs.Sessions.{Recorded}
use Rattle.text_lines.specs.Text.{ended}
use Rattle.session_grammar.specs.Grammar.{session_lines}
use Rattle.audit_model.specs.Windows.{window}
use Rattle.windows.specs.declared.faults.CutFault.{CutFault}
use Rattle.windows.specs.declared.faults.CutFault.TheVariants.{Recording, Outside, Changed, Memory}
use Rattle.windows.specs.declared.pages.Window.{Window}
use Rattle.windows.specs.declared.session.WindowText.{WindowText}
use Rattle.windows.specs.Pages.{numbers_of}
use Rattle.windows.specs.Origins.{origins}

-- there are pages in the window, and a machine with this many pages has them all
abbrev pub IsOf : Window → ℕ → Type 0
IsOf w pages = (1 ≤ w.count) × (w.first + w.count ≤ pages)

-- there are none, or a machine with this many pages does not have them all
abbrev pub IsBeyond : Window → ℕ → Type 0
IsBeyond w pages = (w.count ≡ 0) ⊎ (pages < w.first + w.count)

-- this is the text of the session's window, and the lines of the session's text that its lines come from
pub record IsWindowOf (w : Window) (s : Recorded) (out : WindowText) : Type 0 where
  pub within : IsOf w s.geometry.pages
  pub text_is : out.text.items ≡ ended (session_lines (window (numbers_of w) w.count s))
  pub lines_are : out.lines.items ≡ origins (numbers_of w) s

-- this is the window of such a recording
pub record IsCutOf (Is : Recorded → Type 0) (w : Window) (out : WindowText) : Type 0 where
  pub s : Recorded
  pub is : Is s
  pub cut : IsWindowOf w s out

-- the machine of such a recording does not have these pages
pub record IsOutside (Is : Recorded → Type 0) (w : Window) : Type 0 where
  pub s : Recorded
  pub is : Is s
  pub outside : IsBeyond w s.geometry.pages

-- this is the one such recording
pub record IsOnly (Is : Recorded → Type 0) (s : Recorded) : Type 0 where
  pub is : Is s
  pub only : (t : Recorded) → Is t → t ≡ s

-- Why there is no window of such a recording. If it changed, there is not just one. Nothing is said if it was not gone
-- through, or memory ran out.
abbrev pub IsNotCutBy : {F : Type 0} → (Recorded → Type 0) → Window → CutFault F → Type 0
IsNotCutBy Is w (Recording fault) = Unit {0}
IsNotCutBy Is w Outside = IsOutside Is w
IsNotCutBy Is w Changed = (s : Recorded) → IsOnly Is s → ⊥
IsNotCutBy Is w Memory = Unit {0}
