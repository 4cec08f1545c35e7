-- What was sent and placed of a page.
use Rattle.std.specs.Prelude.{ℕ, ◌<◌, Bool, not, ◌==◌, ◌&&◌, List, Option, Some, None, is_some, slice_get, if◌then◌else◌}
use Rattle.std.specs.Str.{bytes_eq}
use Rattle.migration_types.specs.declared.records.SourceRec.{SourceRec}
use Rattle.migration_types.specs.declared.records.SourceRec.TheVariants.{Send, Again}
use Rattle.migration_types.specs.declared.records.PagerRec.{PagerRec}
use Rattle.migration_types.specs.declared.records.PagerRec.TheVariants.{Place, Zero}
use Rattle.migration_types.specs.Memory.{page_of}
use Rattle.migration_types.specs.Sessions.{Recorded}
use Rattle.audit_model.specs.Names.{if_there}
use Rattle.audit_model.specs.Shape.{passes, is_send_of, is_placement_of, delivery}
use Rattle.page_store.specs.Frames.{Frames, memory_of}
use Rattle.page_facts.specs.Tables.{first_before, noted}

-- whether the contents differ from those of the page in these frames
abbrev pub differs : Frames → ℕ → List ℕ → Bool
differs f page content = not (bytes_eq content (page_of f.geometry.cells (memory_of f) page))

-- the page that a record sends or places is below this number
abbrev pub SourcePage : ℕ → SourceRec → Type 0
SourcePage pages (Send p content) = p < pages
SourcePage pages _ = Unit {0}

abbrev pub PagerPage : ℕ → PagerRec → Type 0
PagerPage pages (Place p got content) = p < pages
PagerPage pages (Zero p) = p < pages
PagerPage pages _ = Unit {0}

-- a second placement of the page
abbrev pub is_again : Recorded → ℕ → ℕ → PagerRec → Bool
is_again s page n r = is_placement_of page r && is_some (first_before (λ m. is_placement_of page) s.pager n)

-- the `send` of a page that record n of the source is, or that it repeats
abbrev pub sending_of : Recorded → ℕ → ℕ → SourceRec → Option ℕ
sending_of s page n (Send p content) = if p == page then Some n else None
sending_of s page n (Again k) = if passes (is_send_of page) (slice_get s.source k) then Some k else None
sending_of s page n _ = None

-- the `send` of a page whose contents a placement of the page has
abbrev pub origin_of : Recorded → ℕ → PagerRec → Option ℕ
origin_of s page (Place p got content) = if_there (λ n. if_there (sending_of s page n) (slice_get s.source n)) (delivery s got)
origin_of s page _ = None

-- the same of the placement of this number, if there is one
abbrev pub origin_at : Recorded → ℕ → Option ℕ → Option ℕ
origin_at s page None = None
origin_at s page (Some m) = if_there (origin_of s page) (slice_get s.pager m)

-- the numbers with this one at the page that a record places, if that page has none
abbrev pub placed_by : ℕ → PagerRec → (ℕ → Option ℕ) → ℕ → Option ℕ
placed_by n (Place p got content) at = noted p n at
placed_by n (Zero p) at = noted p n at
placed_by n _ at = at
