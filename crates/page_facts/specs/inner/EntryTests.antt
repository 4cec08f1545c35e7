-- Tests of a page's entry, given the facts of the page.
use Rattle.std.specs.Prelude.{ℕ, Bool, true, false, not, ◌==◌, ◌&&◌, ◌||◌, nat_lt, nat_le, Option, Some, None, slice_get}
use Rattle.migration_types.specs.declared.records.GuestRec.{GuestRec}
use Rattle.migration_types.specs.declared.records.GuestRec.TheVariants.{See}
use Rattle.migration_types.specs.declared.records.PagerRec.{PagerRec}
use Rattle.migration_types.specs.declared.records.PagerRec.TheVariants.{Zero}
use Rattle.migration_types.specs.Sessions.{Recorded}
use Rattle.migration_types.specs.declared.cert.First.{First}
use Rattle.migration_types.specs.declared.cert.Entry.{Entry}
use Rattle.migration_types.specs.declared.cert.Entry.TheVariants.{Nothing, Fresh, Source, Balloon}
use Rattle.audit_model.specs.Shape.{passes}
use Rattle.page_facts.specs.declared.facts.PageFacts.{PageFacts}

abbrev pub is_place : Option ℕ → ℕ → Bool
is_place None place = false
is_place (Some n) place = n == place

abbrev pub is_absent : Option ℕ → Bool
is_absent None = true
is_absent (Some n) = false

abbrev pub sees_from : ℕ → GuestRec → Bool
sees_from place (See k) = nat_le place k
sees_from place _ = false

abbrev pub zeroes : ℕ → PagerRec → Bool
zeroes page (Zero p) = p == page
zeroes page _ = false

-- whether guest record n is a look at this placement of the page, or at a later one; the page's first look is one
abbrev pub sees_by : Recorded → Option ℕ → ℕ → ℕ → Bool
sees_by s look place n = is_place look n || passes (sees_from place) (slice_get s.guest n)

abbrev pub covers : Recorded → Option ℕ → Option ℕ → ℕ → Option First → Bool
covers s look None place None = true
covers s look (Some touch) place (Some first) = (touch == first.access) && nat_lt first.see touch && sees_by s look place first.see
covers s look _ place _ = false

abbrev pub is_once : PageFacts → ℕ → Bool
is_once f place = is_place f.placement place && not f.again && not f.altered

abbrev pub is_right_of : Recorded → ℕ → PageFacts → Entry → Bool
is_right_of s page f Nothing = is_absent f.placement && is_absent f.touch
is_right_of s page f (Fresh first) = is_absent f.placement && is_place f.touch first && f.releases
is_right_of s page f (Source send place first) =
    is_place f.sent send && is_once f place && covers s f.look f.touch place first
is_right_of s page f (Balloon place first) =
    passes (zeroes page) (slice_get s.pager place) && is_once f place && covers s f.look f.touch place first

abbrev pub is_right_entry : Recorded → ℕ → PageFacts → Entry → Bool
is_right_entry s page f entry = not f.wrong_read && not f.wrong_send && is_right_of s page f entry
