-- Worked runs: what the events of a script record, in which order, and what a list of calls changes in one book.
use Rattle.std.specs.Prelude.{◌≡◌, ℕ, Bool, true, false, List, [], ◌∷◌, length, ◌<◌, Option, Some, None}
use Rattle.migration_types.specs.declared.size.Size.TheVariants.{Small}
use Rattle.migration_types.specs.Extents.{Extent}
use Rattle.migration_types.specs.Limits.{most_records}
use Rattle.migration_types.specs.Memory.{initial}
use Rattle.migration_types.specs.PageSets.{no_page}
use Rattle.migration_types.specs.Receipts.{Name}
use Rattle.migration_types.specs.Sessions.{Recorded}
use Rattle.migration_types.specs.declared.pages.InitPage.{InitPage}
use Rattle.migration_types.specs.declared.version.Version.{Version}
use Rattle.migration_types.specs.declared.version.Version.TheVariants.{One, Two}
use Rattle.migration_types.specs.declared.records.GuestRec.{GuestRec}
use Rattle.migration_types.specs.declared.records.GuestRec.TheVariants.{Halt, Miss, Read, Release, Resume, See}
use Rattle.migration_types.specs.declared.records.LinkRec.{LinkRec}
use Rattle.migration_types.specs.declared.records.LinkRec.TheVariants.{Down, Up}
use Rattle.migration_types.specs.declared.records.LaneRec.{LaneRec}
use Rattle.migration_types.specs.declared.records.LaneRec.TheVariants.{Down as LaneDown}
use Rattle.migration_types.specs.declared.records.LogName.TheVariants.{Guest, Lane, Link, Pager, Source as FromSource}
use Rattle.migration_types.specs.declared.records.PagerRec.{PagerRec}
use Rattle.migration_types.specs.declared.records.PagerRec.TheVariants.{All, Fault, Got, Join, Place, Pull, Ready, Skip, Want, Zero}
use Rattle.migration_types.specs.declared.records.SourceRec.{SourceRec}
use Rattle.migration_types.specs.declared.records.SourceRec.TheVariants.{Again, Ask, Done, Halted, Send, State}
use Rattle.migration_events.specs.declared.events.Direction.TheVariants.{Down as Downward, Lane as OverLane, Up as Upward}
use Rattle.migration_events.specs.declared.events.Event.{Event}
use Rattle.migration_events.specs.declared.events.Event.TheVariants.{GuestStep, Halt as HaltGuest, LinkTurn, PagerDeliver, PagerFault, PagerFlush, PagerPop, PagerPull, PagerTick, Push, Serve, SourceTick}
use Rattle.migration_events.specs.declared.events.Fate.TheVariants.{Back, Deliver, Lose, Repeat}
use Rattle.migration_events.specs.declared.ops.Op.{Op}
use Rattle.migration_events.specs.declared.ops.Op.TheVariants.{Read as ReadCell, Release as ReleasePage}
use Rattle.page_stream.specs.declared.Packet.{Packet}
use Rattle.page_stream.specs.declared.Packet.TheVariants.{All as AllPacket, Page as PagePacket, Want as WantPacket}
use Rattle.active_push.specs.SourcePart.{Offer, SourcePart, halted_source, source_push, source_serve, source_tick}
use Rattle.target_side.specs.GuestPart.{new_guest}
use Rattle.target_side.specs.PagerPart.{deliver}
use Rattle.migration_model.specs.Events.{run, start, step}
use Rattle.migration_model.specs.Books.{After, Before, Books, Recording, Scripted, Vcpu, session_of}

-- what a run recorded, and in which order
abbrev pub recording : Option Recording → Option (Recorded × List Name)
recording None = None
recording (Some core) = Some (session_of core.books, core.order)

-- these events of this script record this session, in this order
abbrev pub Records : Scripted → List Event → Recorded → List Name → Type 0
Records script events session order = recording (run events (start script)) ≡ Some (session, order)

-- a run that was worked out by hand: a script with its events, the logs that they leave, and the order
pub record Worked : Type 0 where
  pub script : Scripted
  pub events : List Event
  pub guest : List GuestRec
  pub source : List SourceRec
  pub link : List LinkRec
  pub lane : List LaneRec
  pub pager : List PagerRec
  pub order : List Name

-- the session of the script with these logs
abbrev pub session_worked : Worked → Recorded
session_worked w = record { version = w.script.version; geometry = w.script.geometry; init = w.script.init; guest = w.guest; source = w.source; link = w.link; lane = w.lane; pager = w.pager }

abbrev pub ComesOut : Worked → Type 0
ComesOut w = Records w.script w.events (session_worked w) w.order

-- a small machine of this many pages of one cell
abbrev pub small_machine : ℕ → Extent
small_machine pages = record { size = Small; pages = pages; cells = 1 }

-- a script with this many pages of one cell and one pivot
abbrev pub small_script : Version → ℕ → List InitPage → ℕ → Bool → List Vcpu → Scripted
small_script version pages init window has_lane vcpus = record { version = version; geometry = small_machine pages; init = init; pivots = 1; window = window; has_lane = has_lane; vcpus = vcpus }

-- a page of one cell
abbrev pub holding : ℕ → ℕ → InitPage
holding page value = record { page = page; cells = value ∷ [] }

-- a virtual processor with these operations before its move, and these after it
abbrev pub doing : List Op → List Op → Vcpu
doing before after = record { before_move = before; after_move = after }

-- Two virtual processors miss the same page. The page is lost on its way and sent again.
abbrev pub run_of_two : Worked
run_of_two = record {
  script = small_script One 2 (holding 1 7 ∷ []) 4 false (doing [] (ReadCell 1 0 ∷ []) ∷ doing [] (ReadCell 1 0 ∷ []) ∷ []);
  events =
      HaltGuest ∷ LinkTurn Downward Deliver ∷ PagerPop ∷ PagerDeliver ∷ GuestStep 0 ∷ GuestStep 1 ∷ PagerFault ∷ PagerFault ∷ PagerFlush
      ∷ LinkTurn Upward Deliver ∷ Serve ∷ LinkTurn Downward Lose ∷ PagerTick ∷ LinkTurn Upward Deliver ∷ Serve ∷ LinkTurn Downward Deliver ∷ PagerPop
      ∷ PagerDeliver ∷ GuestStep 0 ∷ GuestStep 1 ∷ [];
  guest = Halt ∷ Resume 1 ∷ Miss 0 1 ∷ Miss 1 1 ∷ See 8 ∷ Read 0 1 0 7 ∷ Read 1 1 0 7 ∷ [];
  source = Halted 0 ∷ State ∷ Ask 1 ∷ Send 1 (7 ∷ []) ∷ Ask 2 ∷ Again 3 ∷ [];
  link = Down 1 ∷ Up 3 ∷ Up 6 ∷ Down 5 ∷ [];
  lane = [];
  pager = Got 0 ∷ Ready ∷ Fault 2 ∷ Want 1 ∷ Fault 3 ∷ Join 3 ∷ Want 1 ∷ Got 3 ∷ Place 1 7 (7 ∷ []) ∷ [];
  order =
      (Guest, 0) ∷ (FromSource, 0) ∷ (FromSource, 1) ∷ (Link, 0) ∷ (Pager, 0) ∷ (Pager, 1) ∷ (Guest, 1) ∷ (Guest, 2) ∷ (Guest, 3)
      ∷ (Pager, 2) ∷ (Pager, 3) ∷ (Pager, 4) ∷ (Pager, 5) ∷ (Link, 1) ∷ (FromSource, 2) ∷ (FromSource, 3) ∷ (Pager, 6) ∷ (Link, 2)
      ∷ (FromSource, 4) ∷ (FromSource, 5) ∷ (Link, 3) ∷ (Pager, 7) ∷ (Pager, 8) ∷ (Guest, 4) ∷ (Guest, 5) ∷ (Guest, 6) ∷ [];
}

-- A page comes before the state, a state comes twice, and a released page is missed.
abbrev pub run_of_one : Worked
run_of_one = record {
  script = small_script One 2 [] 2 false (doing (ReleasePage 1 ∷ []) (ReadCell 1 0 ∷ []) ∷ []);
  events =
      GuestStep 0 ∷ HaltGuest ∷ Push ∷ Push ∷ SourceTick ∷ LinkTurn Downward Back ∷ LinkTurn Downward Repeat ∷ PagerPop ∷ LinkTurn Downward Deliver ∷ PagerPop
      ∷ PagerDeliver ∷ LinkTurn Downward Deliver ∷ PagerPop ∷ LinkTurn Downward Deliver ∷ PagerPop ∷ PagerTick ∷ PagerDeliver ∷ GuestStep 0 ∷ PagerFault
      ∷ GuestStep 0 ∷ LinkTurn Upward Deliver ∷ Serve ∷ PagerTick ∷ LinkTurn Upward Deliver ∷ Serve ∷ [];
  guest = Release 0 1 ∷ Halt ∷ Resume 1 ∷ Miss 0 1 ∷ See 8 ∷ Read 0 1 0 0 ∷ [];
  source = Halted 1 ∷ State ∷ Send 0 (0 ∷ []) ∷ Again 1 ∷ Ask 4 ∷ Again 2 ∷ Ask 5 ∷ Done ∷ [];
  link = Down 2 ∷ Down 3 ∷ Down 1 ∷ Down 2 ∷ Up 5 ∷ Up 9 ∷ [];
  lane = [];
  pager = Got 1 ∷ Ready ∷ Got 2 ∷ Skip 2 ∷ Got 3 ∷ Want 0 ∷ Place 0 4 (0 ∷ []) ∷ Fault 3 ∷ Zero 1 ∷ All ∷ [];
  order =
      (Guest, 0) ∷ (Guest, 1) ∷ (FromSource, 0) ∷ (FromSource, 1) ∷ (FromSource, 2) ∷ (FromSource, 3) ∷ (Link, 0) ∷ (Link, 1) ∷ (Pager, 0)
      ∷ (Pager, 1) ∷ (Guest, 2) ∷ (Link, 2) ∷ (Pager, 2) ∷ (Pager, 3) ∷ (Link, 3) ∷ (Pager, 4) ∷ (Pager, 5) ∷ (Pager, 6) ∷ (Guest, 3)
      ∷ (Pager, 7) ∷ (Pager, 8) ∷ (Guest, 4) ∷ (Guest, 5) ∷ (Link, 4) ∷ (FromSource, 4) ∷ (FromSource, 5) ∷ (Pager, 9) ∷ (Link, 5)
      ∷ (FromSource, 6) ∷ (FromSource, 7) ∷ [];
}

-- A page is released at the target before it comes.
abbrev pub run_of_release : Worked
run_of_release = record {
  script = small_script Two 1 (holding 0 6 ∷ []) 4 false (doing [] (ReleasePage 0 ∷ ReadCell 0 0 ∷ []) ∷ []);
  events =
      HaltGuest ∷ Push ∷ LinkTurn Downward Deliver ∷ PagerPop ∷ PagerDeliver ∷ GuestStep 0 ∷ LinkTurn Downward Deliver ∷ PagerPop ∷ PagerDeliver
      ∷ GuestStep 0 ∷ [];
  guest = Halt ∷ Resume 1 ∷ Release 0 0 ∷ Read 0 0 0 0 ∷ [];
  source = Halted 0 ∷ State ∷ Send 0 (6 ∷ []) ∷ [];
  link = Down 1 ∷ Down 2 ∷ [];
  lane = [];
  pager = Got 0 ∷ Ready ∷ Got 1 ∷ Skip 2 ∷ [];
  order =
      (Guest, 0) ∷ (FromSource, 0) ∷ (FromSource, 1) ∷ (FromSource, 2) ∷ (Link, 0) ∷ (Pager, 0) ∷ (Pager, 1) ∷ (Guest, 1) ∷ (Guest, 2)
      ∷ (Link, 1) ∷ (Pager, 2) ∷ (Pager, 3) ∷ (Guest, 3) ∷ [];
}

-- A page is pushed over the lane.
abbrev pub run_of_lane : Worked
run_of_lane = record {
  script = small_script Two 1 (holding 0 6 ∷ []) 4 true (doing [] (ReadCell 0 0 ∷ []) ∷ []);
  events =
      HaltGuest ∷ Push ∷ LinkTurn Downward Deliver ∷ PagerPop ∷ PagerDeliver ∷ LinkTurn OverLane Deliver ∷ PagerPull ∷ PagerDeliver
      ∷ GuestStep 0 ∷ [];
  guest = Halt ∷ Resume 1 ∷ See 3 ∷ Read 0 0 0 6 ∷ [];
  source = Halted 0 ∷ State ∷ Send 0 (6 ∷ []) ∷ [];
  link = Down 1 ∷ [];
  lane = LaneDown 2 ∷ [];
  pager = Got 0 ∷ Ready ∷ Pull 0 ∷ Place 0 2 (6 ∷ []) ∷ [];
  order =
      (Guest, 0) ∷ (FromSource, 0) ∷ (FromSource, 1) ∷ (FromSource, 2) ∷ (Link, 0) ∷ (Pager, 0) ∷ (Pager, 1) ∷ (Guest, 1) ∷ (Lane, 0)
      ∷ (Pager, 2) ∷ (Pager, 3) ∷ (Guest, 2) ∷ (Guest, 3) ∷ [];
}

abbrev pub worked_runs : List Worked
worked_runs = run_of_two ∷ run_of_one ∷ run_of_release ∷ run_of_lane ∷ []

-- the virtual processors that the next delivery of the pager wakes
abbrev pub woken_in : Books → List ℕ
woken_in (Before h) = []
woken_in (After a) = (deliver a.pager a.target).woken

abbrev pub woken_next : Option Recording → List ℕ
woken_next None = []
woken_next (Some core) = woken_in core.books

-- calls on the source's book
pub data Call : Type 0 where
  Pushes : Call
  Serves : ℕ → Packet → Call
  Ticks : Call

abbrev pub called : Call → SourcePart → Offer
called Pushes b = source_push b
called (Serves up packet) b = source_serve up packet b
called Ticks b = source_tick b

-- the packets that these calls offer, in turn, and the log that they leave
abbrev pub offers : List Call → SourcePart → List (Option Packet) × List SourceRec
offers [] b = ([], b.log)
offers (call ∷ calls) b = ((called call b).packet ∷ (offers calls (called call b).book).0, (offers calls (called call b).book).1)

-- the source's book at the halt, of a machine of two pages of one cell, of which the second holds 7
abbrev pub small_source : SourcePart
small_source = halted_source (small_machine 2) (initial (record { page = 1; cells = 7 ∷ [] } ∷ [])) no_page 1 0

-- A page is pushed. The other is wanted twice. Then the source is told that all pages are placed.
abbrev pub source_calls : List Call
source_calls = Pushes ∷ Serves 3 (WantPacket 3 1) ∷ Serves 4 (WantPacket 5 1) ∷ Serves 5 (AllPacket 9) ∷ Pushes ∷ Ticks ∷ []

abbrev pub source_offers : List (Option Packet)
source_offers = Some (PagePacket 2 0 (0 ∷ [])) ∷ Some (PagePacket 4 1 (7 ∷ [])) ∷ Some (PagePacket 6 1 (7 ∷ [])) ∷ None ∷ None ∷ None ∷ []

abbrev pub source_records : List SourceRec
source_records = Halted 0 ∷ State ∷ Send 0 (0 ∷ []) ∷ Ask 3 ∷ Send 1 (7 ∷ []) ∷ Ask 4 ∷ Again 4 ∷ Ask 5 ∷ Done ∷ []

-- a guest with this log, which has a page of one cell to read
abbrev pub core_with : List GuestRec → Recording
core_with log = record {
  books = Before (record {
    version = One;
    init = [];
    pivots = 1;
    window = 1;
    has_lane = false;
    vcpus = record { before_move = ReadCell 0 0 ∷ []; after_move = [] } ∷ [];
    guest = record (new_guest (small_machine 1) []) { log = log };
  });
  order = [];
}

-- a read is refused exactly if the log has no room for a record; an event that appends nothing is never refused
pub record IsRefusedWhenFull : Type 0 where
  pub refused : (log : List GuestRec) → length log ≡ most_records → step (GuestStep 0) (core_with log) ≡ None
  pub taken : (log : List GuestRec) → length log < most_records → (core : Recording) × (step (GuestStep 0) (core_with log) ≡ Some core)
  pub silent : (log : List GuestRec) → length log ≡ most_records → step Push (core_with log) ≡ Some (core_with log)
