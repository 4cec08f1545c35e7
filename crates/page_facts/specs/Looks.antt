-- The guest's first look that reaches a placement of each page.
use Rattle.std.specs.Prelude.{◌≡◌, ℕ, ◌≤◌, Bool, length, Option, Some, None, is_some}
use Rattle.migration_types.specs.declared.records.GuestRec.{GuestRec}
use Rattle.migration_types.specs.declared.records.GuestRec.TheVariants.{See}
use Rattle.migration_types.specs.Sessions.{Recorded}
use Rattle.audit_model.specs.Shape.{is_placement_of}
use Rattle.audit_model.specs.Faults.{looks_at}
use Rattle.page_store.specs.Tables.{Values}
use Rattle.page_facts.specs.Tables.{some_before, or_here, first_before, IsTable}
use Rattle.page_facts.specs.declared.looks.Looks.{Looks}

abbrev pub look_of : GuestRec → Option ℕ
look_of (See placement) = Some placement
look_of _ = None

-- the guest's first look, before its record n, at a placement of the page or at a later record of the pager
abbrev pub first_look : Recorded → ℕ → ℕ → Option ℕ
first_look s n page = first_before (λ m. looks_at s page) s.guest n

-- whether one of the pager's first records places the page
abbrev pub is_placed : Recorded → ℕ → ℕ → Bool
is_placed s reached page = some_before (λ m. is_placement_of page) s.pager reached

-- the table has each page's first look, and the looks reach this many records of the pager
pub record AreLooksOf (s : Recorded) (f : ℕ → Option ℕ) (looks : Looks) : Type 0 where
  pub table : IsTable s.geometry.pages looks.first f
  pub known : (page : ℕ) → is_some (f page) ≡ is_placed s looks.reached page
  pub within : looks.reached ≤ length s.pager

-- the table before guest record n
abbrev pub AreLooks : Recorded → ℕ → Looks → Type 0
AreLooks s n looks = AreLooksOf s (first_look s n) looks

-- guest record n is noted for the pages that the pager's first records place
abbrev pub AreNoted : Recorded → ℕ → ℕ → Values (Option ℕ) → Type 0
AreNoted s n reached table = IsTable s.geometry.pages table (λ page. or_here (first_look s n page) (is_placed s reached page) n)
