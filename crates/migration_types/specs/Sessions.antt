-- Recorded sessions and their limits.
use Rattle.std.specs.Prelude.{ℕ, ◌+◌, ◌<◌, ◌≤◌, ◌^◌, List, length}
use Rattle.std.specs.List.{AllByRecursion}
use Rattle.migration_types.specs.Contents.{IsContent}
use Rattle.migration_types.specs.declared.pages.InitPage.{InitPage}
use Rattle.migration_types.specs.declared.version.Version.{Version}
use Rattle.migration_types.specs.declared.version.Version.TheVariants.{One, Two}
use Rattle.migration_types.specs.declared.records.LogName.{LogName}
use Rattle.migration_types.specs.declared.records.LogName.TheVariants.{Guest, Source, Link, Lane, Pager}
use Rattle.migration_types.specs.declared.records.GuestRec.{GuestRec}
use Rattle.migration_types.specs.declared.records.GuestRec.TheVariants.{Read, Write, Release, Miss, Halt, Resume, See}
use Rattle.migration_types.specs.declared.records.SourceRec.{SourceRec}
use Rattle.migration_types.specs.declared.records.SourceRec.TheVariants.{Halted, State, Send, Again, Ask, Done, Back}
use Rattle.migration_types.specs.declared.records.LinkRec.{LinkRec}
use Rattle.migration_types.specs.declared.records.LinkRec.TheVariants.{Down, Up}
use Rattle.migration_types.specs.declared.records.LaneRec.{LaneRec}
use Rattle.migration_types.specs.declared.records.LaneRec.TheVariants.{Down as LaneDown}
use Rattle.migration_types.specs.declared.records.PagerRec.{PagerRec}
use Rattle.migration_types.specs.declared.records.PagerRec.TheVariants.{Got, Pull, Ready, Fault, Join, Want, Place, Zero, Skip, All}
use Rattle.migration_types.specs.declared.session.Logs.{Logs}
use Rattle.migration_types.specs.declared.size.Size.{Size}
use Rattle.migration_types.specs.declared.size.Size.TheVariants.{Small, Large}
use Rattle.migration_types.specs.Limits.{HasSize, limits, longest_log, vcpus}
use Rattle.migration_types.specs.Extents.{Extent, IsExtent}
use Rattle.migration_types.specs.Pages.{AreInitPages}
use Rattle.migration_types.specs.Receipts.{Name}

-- What was recorded, and in which version: the machine, the pages that do not begin as zeros, and the parties' logs.
pub record Recorded : Type 0 where
  pub version : Version
  pub geometry : Extent
  pub init : List InitPage
  pub guest : List GuestRec
  pub source : List SourceRec
  pub link : List LinkRec
  pub lane : List LaneRec
  pub pager : List PagerRec

-- what was recorded, made of its parts
abbrev pub recorded : Version → Extent → List InitPage → Logs → Recorded
recorded version geometry init logs = record { version = version; geometry = geometry; init = init; guest = logs.guest; source = logs.source; link = logs.link; lane = logs.lane; pager = logs.pager }

-- a record's number is its place in its log
abbrev pub IsNumber : Size → ℕ → Type 0
IsNumber size n = n < (limits size).records

-- only the second version has a lane
abbrev pub HasLane : Version → Type 0
HasLane One = ⊥
HasLane Two = Unit {0}

-- the logs that a version has
abbrev pub HasLog : Version → LogName → Type 0
HasLog version Lane = HasLane version
HasLog version _ = Unit {0}

-- Only texts of the third version, which are of the large size, may say that the source started its guest again.
abbrev pub HasBack : Size → Type 0
HasBack Small = ⊥
HasBack Large = Unit {0}

-- the records of the source that sessions of a size have
abbrev pub HasSourceRec : Size → SourceRec → Type 0
HasSourceRec size Back = HasBack size
HasSourceRec size _ = Unit {0}

-- The page, cell and processor numbers of a record are within the machine, and its record numbers are below `past`.
abbrev pub GuestRecIn : ℕ → Extent → GuestRec → Type 0
GuestRecIn past e (Read vcpu page cell value) = (vcpu < vcpus) × (page < e.pages) × (cell < e.cells) × (value < 2 ^ 64)
GuestRecIn past e (Write vcpu page cell value) = (vcpu < vcpus) × (page < e.pages) × (cell < e.cells) × (value < 2 ^ 64)
GuestRecIn past e (Release vcpu page) = (vcpu < vcpus) × (page < e.pages)
GuestRecIn past e (Miss vcpu page) = (vcpu < vcpus) × (page < e.pages)
GuestRecIn past e Halt = Unit {0}
GuestRecIn past e (Resume ready) = ready < past
GuestRecIn past e (See placement) = placement < past

abbrev pub SourceRecIn : ℕ → Extent → SourceRec → Type 0
SourceRecIn past e (Halted halt) = halt < past
SourceRecIn past e State = Unit {0}
SourceRecIn past e (Send page contents) = (page < e.pages) × IsContent e.cells contents
SourceRecIn past e (Again sending) = sending < past
SourceRecIn past e (Ask up) = up < past
SourceRecIn past e Done = Unit {0}
SourceRecIn past e Back = HasBack e.size

abbrev pub LinkRecIn : ℕ → LinkRec → Type 0
LinkRecIn past (Down sending) = sending < past
LinkRecIn past (Up asking) = asking < past

abbrev pub LaneRecIn : ℕ → Version → LaneRec → Type 0
LaneRecIn past version (LaneDown sending) = HasLane version × (sending < past)

abbrev pub PagerRecIn : ℕ → Version → Extent → PagerRec → Type 0
PagerRecIn past version e (Got down) = down < past
PagerRecIn past version e (Pull down) = HasLane version × (down < past)
PagerRecIn past version e Ready = Unit {0}
PagerRecIn past version e (Fault miss) = miss < past
PagerRecIn past version e (Join want) = want < past
PagerRecIn past version e (Want page) = page < e.pages
PagerRecIn past version e (Place page got contents) = (page < e.pages) × (got < past) × IsContent e.cells contents
PagerRecIn past version e (Zero page) = page < e.pages
PagerRecIn past version e (Skip got) = got < past
PagerRecIn past version e All = Unit {0}

-- a record is within the limits of the machine's size
abbrev pub GuestRecFits : Extent → GuestRec → Type 0
GuestRecFits e = GuestRecIn (limits e.size).records e

abbrev pub SourceRecFits : Extent → SourceRec → Type 0
SourceRecFits e = SourceRecIn (limits e.size).records e

abbrev pub LinkRecFits : Extent → LinkRec → Type 0
LinkRecFits e = LinkRecIn (limits e.size).records

abbrev pub LaneRecFits : Version → Extent → LaneRec → Type 0
LaneRecFits version e = LaneRecIn (limits e.size).records version

abbrev pub PagerRecFits : Version → Extent → PagerRec → Type 0
PagerRecFits version e = PagerRecIn (limits e.size).records version e

-- how many records a log has
abbrev pub log_length : Recorded → LogName → ℕ
log_length s Guest = length s.guest
log_length s Source = length s.source
log_length s Link = length s.link
log_length s Lane = length s.lane
log_length s Pager = length s.pager

-- What was recorded has a size that its version allows, and is within the limits of that size and within the greatest
-- limits. In the first version, there are no records of the lane.
pub record IsSession (s : Recorded) : Type 0 where
  pub size : HasSize s.version s.geometry.size
  pub geometry : IsExtent s.geometry
  pub init : AreInitPages s.geometry s.init
  pub few_guest : length s.guest ≤ longest_log
  pub few_source : length s.source ≤ longest_log
  pub few_link : length s.link ≤ longest_log
  pub few_lane : length s.lane ≤ longest_log
  pub few_pager : length s.pager ≤ longest_log
  pub own : (log : LogName) → log_length s log ≤ (limits s.geometry.size).records
  pub guest : AllByRecursion (GuestRecFits s.geometry) s.guest
  pub source : AllByRecursion (SourceRecFits s.geometry) s.source
  pub link : AllByRecursion (LinkRecFits s.geometry) s.link
  pub lane : AllByRecursion (LaneRecFits s.version s.geometry) s.lane
  pub pager : AllByRecursion (PagerRecFits s.version s.geometry) s.pager

-- how many lines the text of a session has for a lane with this many records, between the link's records and the
-- pager's
abbrev pub lane_lines : Version → ℕ → ℕ
lane_lines One count = 0
lane_lines Two count = 1 + count

-- The line of a record in the text of a session. Before the guest's records there are five lines and the lines of the
-- initial pages. Before each other log's records there is one line; the first version has none for the lane.
abbrev pub line_of : Recorded → Name → ℕ
line_of s (Guest, n) = 6 + length s.init + n
line_of s (Source, n) = 7 + length s.init + length s.guest + n
line_of s (Link, n) = 8 + length s.init + length s.guest + length s.source + n
line_of s (Lane, n) = 9 + length s.init + length s.guest + length s.source + length s.link + n
line_of s (Pager, n) = 9 + length s.init + length s.guest + length s.source + length s.link + lane_lines s.version (length s.lane) + n
