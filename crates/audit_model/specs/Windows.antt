-- A session seen through a window: only the records of some pages, with pages and receipts numbered anew.
use Rattle.std.specs.Prelude.{◌≡◌, ℕ, zero, suc, ◌+◌, ◌-◌, ◌<◌, Bool, true, false, ◌&&◌, nat_lt, nat_le, max, List, [], ◌∷◌, length, map, Option, Some, None, slice_get, if◌then◌else◌}
use Rattle.std.specs.List.{range_with_len}
use Rattle.migration_types.specs.declared.pages.InitPage.{InitPage}
use Rattle.migration_types.specs.declared.records.LogName.{LogName}
use Rattle.migration_types.specs.declared.records.LogName.TheVariants.{Guest, Source, Link, Lane, Pager}
use Rattle.migration_types.specs.declared.records.GuestRec.{GuestRec}
use Rattle.migration_types.specs.declared.records.GuestRec.TheVariants.{Read, Write, Release, Miss, Halt, Resume, See}
use Rattle.migration_types.specs.declared.records.SourceRec.{SourceRec}
use Rattle.migration_types.specs.declared.records.SourceRec.TheVariants.{Halted, State, Send, Again, Ask, Done, Back}
use Rattle.migration_types.specs.declared.records.LinkRec.{LinkRec}
use Rattle.migration_types.specs.declared.records.LinkRec.TheVariants.{Down, Up}
use Rattle.migration_types.specs.declared.records.LaneRec.{LaneRec}
use Rattle.migration_types.specs.declared.records.LaneRec.TheVariants.{Down as LaneDown}
use Rattle.migration_types.specs.declared.records.PagerRec.{PagerRec}
use Rattle.migration_types.specs.declared.records.PagerRec.TheVariants.{Got, Pull, Ready, Fault, Join, Want, Place, Zero, Skip, All}
use Rattle.migration_types.specs.Receipts.{Name}
use Rattle.migration_types.specs.Sessions.{Recorded}
use Rattle.audit_model.specs.Flat.{before}
use Rattle.audit_model.specs.Shape.{passes, is_or_repeats}

-- the pages of a window, each with its number there; other pages have none
abbrev pub Numbers : Type 0
Numbers = ℕ → Option ℕ

-- the window of this many consecutive pages from one on
abbrev pub numbers_from : ℕ → ℕ → Numbers
numbers_from first count page = if nat_le first page && nat_lt page (first + count) then Some (page - first) else None

-- no two pages have the same number
abbrev pub IsNumbering : Numbers → Type 0
IsNumbering number = (p r q : ℕ) → number p ≡ Some q → number r ≡ Some q → p ≡ r

-- This many pages, in their order: the numbers rise with the pages, and are below the count.
pub record IsWindow (number : Numbers) (count : ℕ) : Type 0 where
  pub rising : (p r q t : ℕ) → number p ≡ Some q → number r ≡ Some t → p < r → q < t
  pub below : (p q : ℕ) → number p ≡ Some q → q < count

-- whether a page, if there is one, is in the window
abbrev pub is_seen : Option ℕ → Bool
is_seen None = false
is_seen (Some q) = true

-- the page's number; for a page outside, any number will do
abbrev pub new_page : Option ℕ → ℕ
new_page None = 0
new_page (Some q) = q

-- the records of a log that are kept, given a mark for each
abbrev pub kept_in : {A : Type 0} → List Bool → List A → List A
kept_in [] log = []
kept_in (mark ∷ marks) [] = []
kept_in (true ∷ marks) (x ∷ log) = x ∷ kept_in marks log
kept_in (false ∷ marks) (x ∷ log) = kept_in marks log

-- one more, if there is a mark and it says to keep the record
abbrev pub tallied : Option Bool → ℕ → ℕ
tallied None k = k
tallied (Some true) k = suc k
tallied (Some false) k = k

-- how many records before this place are kept
abbrev pub rank : List Bool → ℕ → ℕ
rank marks zero = 0
rank marks (suc n) = tallied (slice_get marks n) (rank marks n)

-- The kept records: those of no page, those of a page of the window, and those that name a kept record. They are
-- defined in order: what is sent and asked for, its delivery, the taking of that, and what names such a taking. Only
-- looks follow another rule.

-- whether it sends the state or a page of the window
abbrev pub keeps_sending : Numbers → SourceRec → Bool
keeps_sending number State = true
keeps_sending number (Send p content) = is_seen (number p)
keeps_sending number _ = false

-- whether it asks for a page of the window, or says that all pages are placed
abbrev pub keeps_asking : Numbers → PagerRec → Bool
keeps_asking number (Want p) = is_seen (number p)
keeps_asking number All = true
keeps_asking number _ = false

-- whether it misses a page of the window
abbrev pub keeps_miss : Numbers → GuestRec → Bool
keeps_miss number (Miss vcpu p) = is_seen (number p)
keeps_miss number _ = false

-- whether it places a page of the window
abbrev pub keeps_placement : Numbers → PagerRec → Bool
keeps_placement number (Place p got content) = is_seen (number p)
keeps_placement number (Zero p) = is_seen (number p)
keeps_placement number _ = false

-- whether a delivery is of a kept record
abbrev pub keeps_link : Recorded → Numbers → LinkRec → Bool
keeps_link s number (Down sending) = passes (is_or_repeats s (keeps_sending number)) (slice_get s.source sending)
keeps_link s number (Up asking) = passes (keeps_asking number) (slice_get s.pager asking)

abbrev pub keeps_lane : Recorded → Numbers → LaneRec → Bool
keeps_lane s number (LaneDown sending) = passes (is_or_repeats s (keeps_sending number)) (slice_get s.source sending)

-- whether it takes a kept delivery
abbrev pub keeps_taking : Recorded → Numbers → PagerRec → Bool
keeps_taking s number (Got down) = passes (keeps_link s number) (slice_get s.link down)
keeps_taking s number (Pull down) = passes (keeps_lane s number) (slice_get s.lane down)
keeps_taking s number _ = false

-- whether a record of the source is kept
abbrev pub keeps_source : Recorded → Numbers → SourceRec → Bool
keeps_source s number (Halted halt) = true
keeps_source s number State = true
keeps_source s number (Send p content) = is_seen (number p)
keeps_source s number (Again sending) = passes (keeps_sending number) (slice_get s.source sending)
keeps_source s number (Ask up) = passes (keeps_link s number) (slice_get s.link up)
keeps_source s number Done = true
keeps_source s number Back = true

-- whether a record of the pager is kept
abbrev pub keeps_pager : Recorded → Numbers → PagerRec → Bool
keeps_pager s number (Got down) = passes (keeps_link s number) (slice_get s.link down)
keeps_pager s number (Pull down) = passes (keeps_lane s number) (slice_get s.lane down)
keeps_pager s number Ready = true
keeps_pager s number (Fault miss) = passes (keeps_miss number) (slice_get s.guest miss)
keeps_pager s number (Join want) = passes (keeps_asking number) (slice_get s.pager want)
keeps_pager s number (Want p) = is_seen (number p)
keeps_pager s number (Place p got content) = is_seen (number p)
keeps_pager s number (Zero p) = is_seen (number p)
keeps_pager s number (Skip got) = passes (keeps_taking s number) (slice_get s.pager got)
keeps_pager s number All = true

-- one more than the place of the newest record before n that passes the test, or 0 if there is none
abbrev pub newest : {A : Type 0} → (A → Bool) → List A → ℕ → ℕ
newest test log zero = 0
newest test log (suc n) = if passes test (slice_get log n) then suc n else newest test log n

-- how far a look at a placement reaches in the window: just past the newest placement there that is no later, or 0 if
-- there is none
abbrev pub reach : Recorded → Numbers → ℕ → ℕ
reach s number placement = newest (keeps_placement number) s.pager (suc placement)

-- how far looks reach after a record of the guest, given how far they reached before it
abbrev pub further : Recorded → Numbers → GuestRec → ℕ → ℕ
further s number (See placement) far = max far (reach s number placement)
further s number _ far = far

-- how far the furthest look before guest record n reaches
abbrev pub furthest : Recorded → Numbers → ℕ → ℕ
furthest s number n = before (further s number) 0 s.guest n

-- whether guest record n is kept; a look is kept if it reaches further than each look before it
abbrev pub keeps_guest : Recorded → Numbers → ℕ → GuestRec → Bool
keeps_guest s number n (Read vcpu p c value) = is_seen (number p)
keeps_guest s number n (Write vcpu p c value) = is_seen (number p)
keeps_guest s number n (Release vcpu p) = is_seen (number p)
keeps_guest s number n (Miss vcpu p) = is_seen (number p)
keeps_guest s number n Halt = true
keeps_guest s number n (Resume ready) = true
keeps_guest s number n (See placement) = nat_lt (furthest s number n) (reach s number placement)

-- the marks of a log: for each record, whether it is kept
abbrev pub marks : Recorded → Numbers → LogName → List Bool
marks s number Guest = map (λ n. passes (keeps_guest s number n) (slice_get s.guest n)) (range_with_len 0 (length s.guest))
marks s number Source = map (keeps_source s number) s.source
marks s number Link = map (keeps_link s number) s.link
marks s number Lane = map (keeps_lane s number) s.lane
marks s number Pager = map (keeps_pager s number) s.pager

-- the number of a log's record in the window: how many before it are kept
abbrev pub moved_to : Recorded → Numbers → LogName → ℕ → ℕ
moved_to s number log n = rank (marks s number log) n

-- A record with its page and what it names numbered anew. A look names the newest placement of the window that it saw.
abbrev pub new_guest : Recorded → Numbers → GuestRec → GuestRec
new_guest s number (Read vcpu p c value) = Read vcpu (new_page (number p)) c value
new_guest s number (Write vcpu p c value) = Write vcpu (new_page (number p)) c value
new_guest s number (Release vcpu p) = Release vcpu (new_page (number p))
new_guest s number (Miss vcpu p) = Miss vcpu (new_page (number p))
new_guest s number Halt = Halt
new_guest s number (Resume ready) = Resume (moved_to s number Pager ready)
new_guest s number (See placement) = See (moved_to s number Pager (reach s number placement - 1))

abbrev pub new_source : Recorded → Numbers → SourceRec → SourceRec
new_source s number (Halted halt) = Halted (moved_to s number Guest halt)
new_source s number State = State
new_source s number (Send p content) = Send (new_page (number p)) content
new_source s number (Again sending) = Again (moved_to s number Source sending)
new_source s number (Ask up) = Ask (moved_to s number Link up)
new_source s number Done = Done
new_source s number Back = Back

abbrev pub new_link : Recorded → Numbers → LinkRec → LinkRec
new_link s number (Down sending) = Down (moved_to s number Source sending)
new_link s number (Up asking) = Up (moved_to s number Pager asking)

abbrev pub new_lane : Recorded → Numbers → LaneRec → LaneRec
new_lane s number (LaneDown sending) = LaneDown (moved_to s number Source sending)

abbrev pub new_pager : Recorded → Numbers → PagerRec → PagerRec
new_pager s number (Got down) = Got (moved_to s number Link down)
new_pager s number (Pull down) = Pull (moved_to s number Lane down)
new_pager s number Ready = Ready
new_pager s number (Fault miss) = Fault (moved_to s number Guest miss)
new_pager s number (Join want) = Join (moved_to s number Pager want)
new_pager s number (Want p) = Want (new_page (number p))
new_pager s number (Place p got content) = Place (new_page (number p)) (moved_to s number Pager got) content
new_pager s number (Zero p) = Zero (new_page (number p))
new_pager s number (Skip got) = Skip (moved_to s number Pager got)
new_pager s number All = All

-- the pages of the window that do not begin as zeros
abbrev pub keeps_init : Numbers → InitPage → Bool
keeps_init number given = is_seen (number given.page)

abbrev pub new_init : Numbers → InitPage → InitPage
new_init number given = record { page = new_page (number given.page); cells = given.cells }

-- a session through a window of this many pages: the kept records, numbered anew
abbrev pub window : Numbers → ℕ → Recorded → Recorded
window number count s = record {
  version = s.version;
  geometry = record { size = s.geometry.size; pages = count; cells = s.geometry.cells };
  init = map (new_init number) (kept_in (map (keeps_init number) s.init) s.init);
  guest = map (new_guest s number) (kept_in (marks s number Guest) s.guest);
  source = map (new_source s number) (kept_in (marks s number Source) s.source);
  link = map (new_link s number) (kept_in (marks s number Link) s.link);
  lane = map (new_lane s number) (kept_in (marks s number Lane) s.lane);
  pager = map (new_pager s number) (kept_in (marks s number Pager) s.pager);
}

-- the name in the window of the record with this name
abbrev pub new_name : Recorded → Numbers → Name → Name
new_name s number name = (name.0, moved_to s number name.0 name.1)

-- whether a mark says to keep the record
abbrev pub is_marked : Option Bool → Bool
is_marked None = false
is_marked (Some mark) = mark

-- the record with this name is kept
abbrev pub IsInWindow : Recorded → Numbers → Name → Type 0
IsInWindow s number name = is_marked (slice_get (marks s number name.0) name.1) ≡ true
