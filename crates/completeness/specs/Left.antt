-- How many pages the target was owed that never came.
use Rattle.std.specs.Prelude.{ℕ, zero, suc, if◌then◌else◌}
use Rattle.std.specs.List.{list_any}
use Rattle.migration_types.specs.Sessions.{Recorded}
use Rattle.audit_model.specs.Shape.{is_resume}
use Rattle.completeness.specs.Complete.{is_page_left}

-- how many of the pages below this number were owed, and never placed nor released at the target
abbrev pub left_below : Recorded → ℕ → ℕ
left_below s zero = 0
left_below s (suc n) = if is_page_left s n then suc (left_below s n) else left_below s n

-- how many of all pages, if the guest was resumed there
abbrev pub left_pages : Recorded → ℕ
left_pages s = if list_any is_resume s.guest then left_below s s.geometry.pages else 0
