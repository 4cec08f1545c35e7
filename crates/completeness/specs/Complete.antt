-- When the session of a migration is complete, and what is missing from one that is not.
use Rattle.std.specs.Prelude.{◌≡◌, ◌<◌, ◌≤◌, ℕ, zero, suc, Bool, true, false, not, ◌==◌, ◌&&◌, ◌||◌, ◌⊎◌, nat_lt, length, drop, slice_get, if◌then◌else◌}
use Rattle.std.specs.List.{list_any}
use Rattle.migration_types.specs.declared.records.SourceRec.{SourceRec}
use Rattle.migration_types.specs.declared.records.SourceRec.TheVariants.{Ask, Done, Back}
use Rattle.migration_types.specs.declared.records.LinkRec.{LinkRec}
use Rattle.migration_types.specs.declared.records.LinkRec.TheVariants.{Down, Up}
use Rattle.migration_types.specs.declared.records.PagerRec.{PagerRec}
use Rattle.migration_types.specs.declared.records.PagerRec.TheVariants.{Place, Zero, Skip, All}
use Rattle.migration_types.specs.Sessions.{Recorded}
use Rattle.audit_model.specs.Flat.{in_ledger, freed, at_halt}
use Rattle.audit_model.specs.Shape.{earlier, passes, is_halt, is_resume, is_taking, is_placement_of}
use Rattle.page_facts.specs.Tables.{some_before}
use Rattle.completeness.specs.declared.lack.Lack.{Lack}
use Rattle.completeness.specs.declared.lack.Lack.TheVariants as missing
use Rattle.completeness.specs.declared.lack.Extent.{Extent}
use Rattle.completeness.specs.declared.lack.Extent.TheVariants as extent

-- whether it says that every owed page is placed, or released at the target
abbrev pub is_all : PagerRec → Bool
is_all All = true
is_all _ = false

-- whether it says that the source learned that every owed page had come
abbrev pub is_done : SourceRec → Bool
is_done Done = true
is_done _ = false

-- whether it starts the guest again at the source
abbrev pub is_back : SourceRec → Bool
is_back Back = true
is_back _ = false

-- whether the guest returned to the source: it was started again there, and never resumed at the target
abbrev pub has_returned : Recorded → Bool
has_returned s = list_any is_back s.source && not (list_any is_resume s.guest)

-- whether it places or drops the packet that the pager's record of this number took
abbrev pub settles : ℕ → PagerRec → Bool
settles taken (Place page got content) = got == taken
settles taken (Skip got) = got == taken
settles taken _ = false

-- whether it places a page that the target was owed
abbrev pub places_owed : Recorded → PagerRec → Bool
places_owed s (Place page got content) = not (in_ledger s (at_halt s) page)
places_owed s (Zero page) = not (in_ledger s (at_halt s) page)
places_owed s _ = false

-- the number after the last of the pager's records before its record n that places an owed page, or 0 if none does
abbrev pub placed_to : Recorded → ℕ → ℕ
placed_to s zero = 0
placed_to s (suc n) = if passes (places_owed s) (slice_get s.pager n) then suc n else placed_to s n

-- whether an `all` follows the last placement of an owed page
abbrev pub has_end : Recorded → Bool
has_end s = list_any is_all (drop (placed_to s (length s.pager)) s.pager)

-- whether the pager's record of this number is such an `all`
abbrev pub is_end : Recorded → ℕ → Bool
is_end s n = not (nat_lt n (placed_to s (length s.pager))) && passes is_all (slice_get s.pager n)

-- the delivery of such an `all` up, and the source's record that takes this delivery
abbrev pub brings_end : Recorded → LinkRec → Bool
brings_end s (Up asking) = is_end s asking
brings_end s (Down sending) = false

abbrev pub takes_end : Recorded → SourceRec → Bool
takes_end s (Ask up) = passes (brings_end s) (slice_get s.link up)
takes_end s _ = false

-- whether source record n is a `done` after the `ask` of such an `all`; whether there is one
abbrev pub is_done_behind : Recorded → ℕ → SourceRec → Bool
is_done_behind s n r = is_done r && earlier (takes_end s) s.source n

abbrev pub has_done : Recorded → Bool
has_done s = some_before (is_done_behind s) s.source (length s.source)

-- whether the page was owed, and never placed nor released at the target
abbrev pub is_page_left : Recorded → ℕ → Bool
is_page_left s page = not (in_ledger s (at_halt s) page || (list_any (is_placement_of page) s.pager || freed s (length s.guest) page))

-- Whether the pager's record of this number took a packet that was neither placed nor dropped. The pager first takes
-- the processor state, which is neither.
abbrev pub is_taken_left : Recorded → ℕ → Bool
is_taken_left s zero = false
is_taken_left s (suc n) = passes is_taking (slice_get s.pager (suc n)) && not (list_any (settles (suc n)) s.pager)

-- The logs tell that the guest was halted and resumed, and that every owed page was placed, or released at the target.
pub record HasPages (s : Recorded) : Type 0 where
  pub halted : list_any is_halt s.guest ≡ true
  pub resumed : list_any is_resume s.guest ≡ true
  pub pages : (page : ℕ) → page < s.geometry.pages → is_page_left s page ≡ false

-- The logs tell of a whole migration, from the halt until the source learned that every owed page had come.
pub record IsWhole (s : Recorded) : Type 0 where
  pub has_pages : HasPages s
  pub all : has_end s ≡ true
  pub done : has_done s ≡ true
  pub taken : (n : ℕ) → is_taken_left s n ≡ false

-- the logs tell of a migration to this extent
abbrev pub IsComplete : Extent → Recorded → Type 0
IsComplete extent.Pages = HasPages
IsComplete extent.Whole = IsWhole

-- This is missing from the logs. If the guest returned to the source, everything after a resume is missing.
abbrev pub IsMissing : Recorded → Lack → Type 0
IsMissing s missing.Halt = list_any is_halt s.guest ≡ false
IsMissing s missing.Returned = has_returned s ≡ true
IsMissing s missing.Resume = list_any is_resume s.guest ≡ false
IsMissing s (missing.Page page) = (page < s.geometry.pages) × (is_page_left s page ≡ true)
IsMissing s missing.All = has_end s ≡ false
IsMissing s missing.Done = has_done s ≡ false
IsMissing s (missing.Taken n) = is_taken_left s n ≡ true

-- The order of what is missing: by its kind, and then by the number of the page or the record.
abbrev pub kind : Lack → ℕ
kind missing.Halt = 0
kind missing.Returned = 1
kind missing.Resume = 2
kind (missing.Page page) = 3
kind missing.All = 4
kind missing.Done = 5
kind (missing.Taken n) = 6

abbrev pub number : Lack → ℕ
number (missing.Page page) = page
number (missing.Taken n) = n
number _ = 0

-- whether a session that is complete to this extent must have this
abbrev pub is_asked : Extent → Lack → Bool
is_asked extent.Pages missing.Halt = true
is_asked extent.Pages missing.Returned = true
is_asked extent.Pages missing.Resume = true
is_asked extent.Pages (missing.Page page) = true
is_asked extent.Pages missing.All = false
is_asked extent.Pages missing.Done = false
is_asked extent.Pages (missing.Taken n) = false
is_asked extent.Whole m = true

-- this is missing, and nothing before it in the order is
pub record IsFirstMissing (s : Recorded) (m : Lack) : Type 0 where
  pub is_missing : IsMissing s m
  pub is_first : (other : Lack) → IsMissing s other →
      (kind m < kind other) ⊎ ((kind m ≡ kind other) × (number m ≤ number other))

-- The first thing that is missing is one that the extent requires. What it does not require comes last in the order, so
-- nothing that it requires comes after it.
pub record Lacks (e : Extent) (s : Recorded) (m : Lack) : Type 0 where
  pub asked : is_asked e m ≡ true
  pub is_first : IsFirstMissing s m
