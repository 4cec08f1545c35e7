-- What a pass knows about a recording so far.
use Rattle.std.specs.Prelude.{◌≡◌, ℕ, Bool, List, [], map, length, None}
use Rattle.migration_types.specs.declared.pages.InitPage.{InitPage}
use Rattle.migration_types.specs.declared.records.GuestRec.{GuestRec}
use Rattle.migration_types.specs.declared.records.SourceRec.{SourceRec}
use Rattle.migration_types.specs.declared.records.PagerRec.{PagerRec}
use Rattle.migration_types.specs.declared.records.LogName.TheVariants.{Guest, Source, Link, Lane, Pager}
use Rattle.migration_types.specs.declared.version.Version.TheVariants.{One}
use Rattle.migration_types.specs.declared.size.Size.TheVariants.{Small}
use Rattle.migration_types.specs.Sessions.{Recorded}
use Rattle.text_lines.specs.Text.{ended}
use Rattle.session_grammar.specs.Grammar.{page_line}
use Rattle.session_grammar.specs.Records.{guest_line, source_line, link_line, lane_line, pager_line}
use Rattle.recordings.specs.Wide.{extent_of}
use Rattle.audit_model.specs.Windows.{Numbers, kept_in, keeps_sending, keeps_asking, keeps_miss, keeps_placement, keeps_init, new_init, marks as marks_in}
use Rattle.windows.specs.declared.marking.Guide.{Guide}
use Rattle.windows.specs.declared.marking.Marks.{Marks}
use Rattle.windows.specs.declared.marking.GuestMarks.{GuestMarks}
use Rattle.windows.specs.declared.marking.SourceMarks.{SourceMarks}
use Rattle.windows.specs.declared.marking.PagerMarks.{PagerMarks}
use Rattle.windows.specs.declared.sections.Section.{Section}
use Rattle.windows.specs.declared.sections.Sections.{Sections}
use Rattle.windows.specs.inner.Marks.{past}
use Rattle.windows.specs.inner.Guided.{repeats_by, source_by, link_by, lane_by, taking_by, pager_by, guest_marks, far_after, new_guest_by, new_source_by, new_link_by, new_lane_by, new_pager_by}

-- the marks of no records
abbrev pub no_guest : GuestMarks
no_guest = record { misses = []; kept = []; far = None }

abbrev pub no_source : SourceMarks
no_source = record { sendings = []; repeats = []; kept = [] }

abbrev pub no_pager : PagerMarks
no_pager = record { askings = []; placements = []; takings = []; kept = [] }

abbrev pub no_marks : Marks
no_marks = record { machine = record { version = One; size = Small; pages = 0; cells = 0 }; init = []; guest = no_guest; source = no_source; link = []; lane = []; pager = no_pager }

-- no pages, and the marks of no records
abbrev pub no_guide : Guide
no_guide = record { window = record { first = 0; count = 0 }; known = no_marks }

pub record IsNothing (marks : Marks) : Type 0 where
  pub init : marks.init ≡ []
  pub guest : marks.guest ≡ no_guest
  pub source : marks.source ≡ no_source
  pub link : marks.link ≡ []
  pub lane : marks.lane ≡ []
  pub pager : marks.pager ≡ no_pager

-- the marks of a log, and what other logs need to know about it
pub record GuestFound (number : Numbers) (known : Marks) (marks : GuestMarks) (log : List GuestRec) : Type 0 where
  pub misses : marks.misses ≡ map (keeps_miss number) log
  pub kept : marks.kept ≡ guest_marks number known 0 log
  pub far : past marks.far ≡ far_after known 0 log

pub record SourceFound (number : Numbers) (known : Marks) (marks : SourceMarks) (log : List SourceRec) : Type 0 where
  pub sendings : marks.sendings ≡ map (keeps_sending number) log
  pub repeats : marks.repeats ≡ map (repeats_by number known) log
  pub kept : marks.kept ≡ map (source_by number known) log

pub record PagerFound (number : Numbers) (known : Marks) (link lane : List Bool) (marks : PagerMarks) (log : List PagerRec) : Type 0 where
  pub askings : marks.askings ≡ map (keeps_asking number) log
  pub placements : marks.placements ≡ map (keeps_placement number) log
  pub takings : marks.takings ≡ map (taking_by link lane) log
  pub kept : marks.kept ≡ map (pager_by number known) log

-- the marks of all logs
pub record Found (number : Numbers) (known marks : Marks) (d : Recorded) : Type 0 where
  pub version : marks.machine.version ≡ d.version
  pub extent : extent_of marks.machine ≡ d.geometry
  pub init : marks.init ≡ map (keeps_init number) d.init
  pub guest : GuestFound number known marks.guest d.guest
  pub source : SourceFound number known marks.source d.source
  pub link : marks.link ≡ map (link_by known marks.source.repeats) d.link
  pub lane : marks.lane ≡ map (lane_by marks.source.repeats) d.lane
  pub pager : PagerFound number known marks.link marks.lane marks.pager d.pager

-- this many lines, each ended by LF
pub record IsSection (section : Section) (lines : List (List ℕ)) : Type 0 where
  pub counted : section.count ≡ length lines
  pub text : section.lines.items ≡ ended lines

-- the lines of the kept records of a log, numbered anew
abbrev pub lines_of : {A : Type 0} → (A → List ℕ) → (A → A) → List Bool → List A → List (List ℕ)
lines_of line new marks log = map line (map new (kept_in marks log))

-- the lines of the window's initial pages, numbered anew
abbrev pub init_lines : Numbers → List InitPage → List (List ℕ)
init_lines number init = lines_of page_line (new_init number) (map (keeps_init number) init) init

-- the lines of all kept records, numbered anew, by the known marks
pub record Written (number : Numbers) (known : Marks) (sections : Sections) (d : Recorded) : Type 0 where
  pub init : IsSection sections.init (init_lines number d.init)
  pub guest : IsSection sections.guest (lines_of guest_line (new_guest_by number known) known.guest.kept d.guest)
  pub source : IsSection sections.source (lines_of source_line (new_source_by number known) known.source.kept d.source)
  pub link : IsSection sections.link (lines_of link_line (new_link_by known) known.link d.link)
  pub lane : IsSection sections.lane (lines_of lane_line (new_lane_by known) known.lane d.lane)
  pub pager : IsSection sections.pager (lines_of pager_line (new_pager_by number known) known.pager.kept d.pager)

-- sections without lines
pub record IsBlank (sections : Sections) : Type 0 where
  pub init : IsSection sections.init []
  pub guest : IsSection sections.guest []
  pub source : IsSection sections.source []
  pub link : IsSection sections.link []
  pub lane : IsSection sections.lane []
  pub pager : IsSection sections.pager []

-- all marks are the same
pub record AreSame (a b : Marks) : Type 0 where
  pub misses : a.guest.misses ≡ b.guest.misses
  pub guest : a.guest.kept ≡ b.guest.kept
  pub sendings : a.source.sendings ≡ b.source.sendings
  pub repeats : a.source.repeats ≡ b.source.repeats
  pub source : a.source.kept ≡ b.source.kept
  pub link : a.link ≡ b.link
  pub lane : a.lane ≡ b.lane
  pub askings : a.pager.askings ≡ b.pager.askings
  pub placements : a.pager.placements ≡ b.pager.placements
  pub takings : a.pager.takings ≡ b.pager.takings
  pub pager : a.pager.kept ≡ b.pager.kept

-- the marks are those of this recording
pub record AreRight (number : Numbers) (known : Marks) (s : Recorded) : Type 0 where
  pub guest : known.guest.kept ≡ marks_in s number Guest
  pub source : known.source.kept ≡ marks_in s number Source
  pub link : known.link ≡ marks_in s number Link
  pub lane : known.lane ≡ marks_in s number Lane
  pub pager : known.pager.kept ≡ marks_in s number Pager
