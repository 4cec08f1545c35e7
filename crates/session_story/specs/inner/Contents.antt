-- Contents of a record compared with those of a page at the halt.
use Rattle.std.specs.Prelude.{◌≡◌, ℕ, Bool, false, not, ◌&&◌, List, Option, Some, None}
use Rattle.migration_types.specs.Sessions.{Recorded}
use Rattle.session_story.specs.Explained.{IsOtherIn}
use Rattle.session_story.specs.Giving.{is_unseen}
use Rattle.session_story.specs.declared.looks.Look.{Look}
use Rattle.session_story.specs.declared.values.CellValue.{CellValue}

-- the first cell in which the contents, if there are any, differ from the page's, if there is one
abbrev pub IsOtherAt : Recorded → ℕ → Option (List ℕ) → Option CellValue → Type 0
IsOtherAt s page None held = held ≡ None
IsOtherAt s page (Some content) held = IsOtherIn s page content held

-- whether a page whose first use at the target is a release or not is used before its first placement, if this look
-- reached furthest before that use
abbrev pub used_early : Option Look → Option ℕ → Bool → Bool
used_early seen None releases = false
used_early seen (Some place) releases = not releases && is_unseen seen place
