-- The result of a pass.
use Rattle.std.specs.Prelude.{Result, Ok, Err}
use Rattle.migration_types.specs.Sessions.{Recorded}
use Rattle.windows.specs.declared.faults.CutFault.{CutFault}
use Rattle.windows.specs.declared.faults.CutFault.TheVariants.{Recording, Outside, Changed, Memory}
use Rattle.windows.specs.declared.marking.Marks.{Marks}
use Rattle.windows.specs.declared.pages.Window.{Window}
use Rattle.windows.specs.declared.visiting.Writing.{Writing}
use Rattle.windows.specs.Cuts.{IsBeyond, IsOf, IsOutside}
use Rattle.windows.specs.Pages.{numbers_of}
use Rattle.windows.specs.inner.Met.{AreSame, Found, Written}

-- a pass that writes met this much of a recording
pub record Meets {W : Type 0} (writing : Writing W) (d : Recorded) : Type 0 where
  pub found : Found (numbers_of writing.guide.window) writing.guide.known writing.found d
  pub written : Written (numbers_of writing.guide.window) writing.guide.known writing.sections d

-- why such a pass writes no window
abbrev pub IsUnwritten : {W F : Type 0} → Writing W → Window → CutFault F → Type 0
IsUnwritten writing w (Recording fault) = Unit {0}
IsUnwritten writing w Outside = IsBeyond w writing.found.machine.pages
IsUnwritten writing w Changed = ¬ AreSame writing.guide.known writing.found
IsUnwritten writing w Memory = Unit {0}

-- what a pass that goes by known marks finds in such a recording, whose machine has these pages
pub record IsFoundIn (Is : Recorded → Type 0) (w : Window) (known found : Marks) : Type 0 where
  pub s : Recorded
  pub is : Is s
  pub is_found : Found (numbers_of w) known found s
  pub inside : IsOf w s.geometry.pages

-- Why there is no window, if a later pass meets a machine without these pages: the recording has changed.
abbrev pub later : {F : Type 0} → CutFault F → CutFault F
later (Recording fault) = Recording fault
later Outside = Changed
later Changed = Changed
later Memory = Memory

-- the result of a later pass
abbrev pub found_later : {T F : Type 0} → Result T (CutFault F) → Result T (CutFault F)
found_later (Ok found) = Ok found
found_later (Err fault) = Err (later fault)

-- it finds other marks in such a recording than those that it goes by
pub record FindsOthers (Is : Recorded → Type 0) (w : Window) (known : Marks) : Type 0 where
  pub s : Recorded
  pub is : Is s
  pub found : Marks
  pub is_found : Found (numbers_of w) known found s
  pub others : ¬ AreSame known found

-- Why a pass that goes by known marks does not write a window of such a recording.
abbrev pub IsNotWrittenBy : {F : Type 0} → (Recorded → Type 0) → Window → Marks → CutFault F → Type 0
IsNotWrittenBy Is w known (Recording fault) = Unit {0}
IsNotWrittenBy Is w known Outside = IsOutside Is w
IsNotWrittenBy Is w known Changed = FindsOthers Is w known
IsNotWrittenBy Is w known Memory = Unit {0}
