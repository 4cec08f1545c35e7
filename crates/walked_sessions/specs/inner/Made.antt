-- A text that is being made.
use Rattle.std.specs.Prelude.{◌≡◌, ℕ, ◌+◌, List, [], ◌∷◌, ◌++◌, take, length, Option, Some, None}
use Rattle.std.specs.Fmt.{decimal}
use Rattle.std.specs.Io.KnownBytes.{Appends, Keeps}
use Rattle.migration_types.specs.declared.pages.InitPage.{InitPage}
use Rattle.migration_types.specs.declared.records.LaneRec.{LaneRec}
use Rattle.migration_types.specs.declared.records.LogName.{LogName}
use Rattle.migration_types.specs.declared.records.LogName.TheVariants.{Guest, Source, Link, Lane, Pager}
use Rattle.migration_types.specs.declared.version.Version.{Version}
use Rattle.migration_types.specs.declared.version.Version.TheVariants.{One, Two}
use Rattle.migration_types.specs.Extents.{Extent}
use Rattle.migration_types.specs.Sessions.{Recorded}
use Rattle.audit_model.specs.Mergings.{Cursors}
use Rattle.text_lines.specs.Text.{ended}
use Rattle.session_grammar.specs.Grammar.{header, pages_key, cells_key, init_key}
use Rattle.session_grammar.specs.declared.stage.Stage.{Stage}
use Rattle.session_grammar.specs.declared.stage.Stage.TheVariants as stage
use Rattle.recordings.specs.inner.Held.{SessionDraft, Part, IsWhole, held_onto, NoGuest, NoSource, NoLink, NoLane, NoPager, came_at, announced_at}
use Rattle.recordings.specs.declared.machine.WideMachine.{WideMachine}
use Rattle.recordings.specs.Wide.{extent_of, guest_of, source_of, link_of, lane_of, pager_of}
use Rattle.recordings.specs.declared.wide.Wide.{Wide}
use Rattle.recordings.specs.declared.wide.Wide.TheVariants as wide
use Rattle.recorder_files.specs.declared.fronts.Front.{Front}
use Rattle.recorder_files.specs.Fronts.{cursors_of}
use Rattle.walked_sessions.specs.declared.write_faults.PushFault.{PushFault}
use Rattle.walked_sessions.specs.declared.text.ListKind.{ListKind}
use Rattle.walked_sessions.specs.declared.text.ListKind.TheVariants as section
use Rattle.walked_sessions.specs.declared.text.Text.{Text}

abbrev pub no_front : Front
no_front = record { guest = 0; source = 0; link = 0; lane = 0; pager = 0 }

abbrev pub stage_of : ListKind → Stage
stage_of section.Init = stage.Init
stage_of section.Guest = stage.Guest
stage_of section.Source = stage.Source
stage_of section.Link = stage.Link
stage_of section.Lane = stage.Lane
stage_of section.Pager = stage.Pager

-- the list of a log's records
abbrev pub list_of : LogName → ListKind
list_of Guest = section.Guest
list_of Source = section.Source
list_of Link = section.Link
list_of Lane = section.Lane
list_of Pager = section.Pager

-- the place of a list among the lists of a text
abbrev pub rank : ListKind → ℕ
rank section.Init = 0
rank section.Guest = 1
rank section.Source = 2
rank section.Link = 3
rank section.Lane = 4
rank section.Pager = 5

-- how many lines the lane's log has in the text, if the front has this many
abbrev pub lane_count : Version → ℕ → ℕ
lane_count One n = 0
lane_count Two n = n

-- what is announced of a recording's logs, and what was met of them in the front
abbrev pub cut_part : {X : Type 0} → ℕ → List X → Part X
cut_part n log = record { count = n; items = take n log }

abbrev pub lane_part : Version → ℕ → List LaneRec → Part LaneRec
lane_part version n log = cut_part (lane_count version n) log

abbrev pub draft_of : ℕ → Cursors → Recorded → SessionDraft
draft_of init c s = record {
  version = s.version;
  geometry = s.geometry;
  next_page = 0;
  init = record { count = init; items = s.init };
  guest = cut_part (c Guest) s.guest;
  source = cut_part (c Source) s.source;
  link = cut_part (c Link) s.link;
  lane = lane_part s.version (c Lane) s.lane;
  pager = cut_part (c Pager) s.pager;
}

-- the numbers that the text announces
pub record AreCounts (t : Text) (d : SessionDraft) : Type 0 where
  pub version : d.version ≡ t.version
  pub init : d.init.count ≡ t.init
  pub guest : d.guest.count ≡ t.front.guest
  pub source : d.source.count ≡ t.front.source
  pub link : d.link.count ≡ t.front.link
  pub lane : d.lane.count ≡ lane_count t.version t.front.lane
  pub pager : d.pager.count ≡ t.front.pager

-- the lists before this one are complete, and nothing was written of those after it
abbrev pub Lives : ListKind → SessionDraft → Type 0
Lives section.Init d = NoGuest d
Lives section.Guest d = IsWhole d.init × NoSource d
Lives section.Source d = IsWhole d.init × IsWhole d.guest × NoLink d
Lives section.Link d = IsWhole d.init × IsWhole d.guest × IsWhole d.source × NoLane d
Lives section.Lane d = IsWhole d.init × IsWhole d.guest × IsWhole d.source × IsWhole d.link × (d.version ≡ Two) × NoPager d
Lives section.Pager d = IsWhole d.init × IsWhole d.guest × IsWhole d.source × IsWhole d.link × IsWhole d.lane

-- these bytes, and then those of the text, are the lines of what was met
pub record Stands (before : List ℕ) (t : Text) (d : SessionDraft) : Type 0 where
  pub counts : AreCounts t d
  pub lives : Lives t.section d
  pub came : t.left + came_at (stage_of t.section) d ≡ announced_at (stage_of t.section) d
  pub text : before ++ t.bytes.items ≡ ended (held_onto (stage_of t.section) d [])

-- what the text announces stays the same
pub record IsSame (old new : Text) : Type 0 where
  pub front : new.front ≡ old.front
  pub init : new.init ≡ old.init
  pub version : new.version ≡ old.version

-- the lines of a machine and the number of its initial pages
abbrev pub head_text : Version → Extent → ℕ → List ℕ
head_text version e init = ended (header version e.size ∷ (pages_key ++ decimal e.pages) ∷ (cells_key ++ decimal e.cells) ∷ (init_key ++ decimal init) ∷ [])

-- these lines were appended
pub record IsHead (old new : Text) (machine : WideMachine) : Type 0 where
  pub front : new.front ≡ old.front
  pub init : new.init ≡ old.init
  pub bytes : new.bytes.items ≡ old.bytes.items ++ head_text machine.version (extent_of machine) old.init

pub record IsMachineSaid (old new : Text) (machine : WideMachine) : Type 0 where
  pub head : IsHead old new machine
  pub version : new.version ≡ machine.version
  pub section : new.section ≡ section.Init
  pub left : new.left ≡ old.init

-- a list ended, and another began
pub record Begins (old new : Text) (next : ListKind) (key : List ℕ) (count : ℕ) : Type 0 where
  pub same : IsSame old new
  pub none : old.left ≡ 0
  pub section : new.section ≡ next
  pub left : new.left ≡ count
  pub bytes : new.bytes.items ≡ old.bytes.items ++ (key ++ (decimal count ++ 10 ∷ []))

-- the turn of a list's line came
pub record Takes (old new : Text) (at : ListKind) : Type 0 where
  pub same : IsSame old new
  pub was : old.section ≡ at
  pub section : new.section ≡ at
  pub left : new.left + 1 ≡ old.left
  pub bytes : new.bytes ≡ old.bytes

-- one more item
abbrev pub with_item : {X : Type 0} → Part X → X → Part X
with_item part x = record { count = part.count; items = part.items ++ x ∷ [] }

abbrev pub and_init : SessionDraft → InitPage → SessionDraft
and_init d x = record d { init = with_item d.init x }

abbrev pub and_record : SessionDraft → Wide → SessionDraft
and_record d (wide.Guest rec) = record d { guest = with_item d.guest (guest_of rec) }
and_record d (wide.Source rec) = record d { source = with_item d.source (source_of rec) }
and_record d (wide.Link rec) = record d { link = with_item d.link (link_of rec) }
and_record d (wide.Lane rec) = record d { lane = with_item d.lane (lane_of rec) }
and_record d (wide.Pager rec) = record d { pager = with_item d.pager (pager_of rec) }

-- the whole text follows these bytes
pub record IsEnded (before : List ℕ) (t : Text) (d : SessionDraft) : Type 0 where
  pub init : IsWhole d.init
  pub guest : IsWhole d.guest
  pub source : IsWhole d.source
  pub link : IsWhole d.link
  pub lane : IsWhole d.lane
  pub pager : IsWhole d.pager
  pub text : before ++ t.bytes.items ≡ ended (held_onto stage.Done d [])

-- the bytes at the front of an output that it had before, if they are known
abbrev pub front_of : Option (List ℕ) → Option (List ℕ) → Option (List ℕ)
front_of None known = None
front_of (Some start) None = None
front_of (Some start) (Some known) = Some (take (length start) known)

-- an output keeps what it had before
abbrev pub IsKept : Option (List ℕ) → Option (List ℕ) → Type 0
IsKept start known = front_of start known ≡ start

-- what was written, with the bytes of the text, is the lines of what was met
pub record Holds (start known : Option (List ℕ)) (t : Text) (d : SessionDraft) : Type 0 where
  pub before : List ℕ
  pub written : Appends start known before
  pub stands : Stands before t d

-- nothing was met
pub record IsNothing (start : Option (List ℕ)) (cut : Front) (pages : ℕ) (known : Option (List ℕ)) (t : Text) (fault : Option PushFault) : Type 0 where
  pub front : t.front ≡ cut
  pub init : t.init ≡ pages
  pub bytes : t.bytes.items ≡ []
  pub kept : Keeps start known
  pub no_fault : fault ≡ None

-- this much of a recording was met by a writer that has no fault
pub record MeetsWell (start : Option (List ℕ)) (cut : Front) (pages : ℕ) (known : Option (List ℕ)) (t : Text) (s : Recorded) : Type 0 where
  pub front : t.front ≡ cut
  pub init : t.init ≡ pages
  pub holds : Holds start known t (draft_of t.init (cursors_of cut) s)

abbrev pub Meets : Option (List ℕ) → Front → ℕ → Option (List ℕ) → Text → Option PushFault → Recorded → Type 0
Meets start cut pages known t fault s = fault ≡ None → MeetsWell start cut pages known t s
