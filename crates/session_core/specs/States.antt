-- A migration before its halt and from it on: what it holds, and what that is in the events.
use Rattle.std.specs.Prelude.{◌≡◌, List, is_some, map}
use Rattle.std.specs.List.{AllByRecursion}
use Rattle.migration_types.specs.declared.version.Version.{Version}
use Rattle.migration_types.specs.Extents.{Extent}
use Rattle.migration_events.specs.Ops.{OpFits, LateOpFits}
use Rattle.guest_script.specs.declared.script.Scenario.{Scenario}
use Rattle.guest_script.specs.declared.vcpus.Vcpu.{Vcpu as Scheduled}
use Rattle.active_push.specs.Books.{SourceKept, part_of as source_of}
use Rattle.link_book.specs.Links.{Linked}
use Rattle.target_side.specs.Guests.{GuestKept, part_of as guest_of}
use Rattle.target_side.specs.Kept.{Kept, part_of as target_of, geometry_of}
use Rattle.target_side.specs.PagerLists.{PagerLists, part_of as pager_of}
use Rattle.migration_model.specs.Books.{Vcpu, Scripted, BooksBefore, BooksAfter, books_before}

-- a virtual processor of the script, as the events see it
abbrev pub vcpu_of : Scheduled → Vcpu
vcpu_of vcpu = record { before_move = vcpu.before_move; after_move = vcpu.after_move }

abbrev pub scripted_of : Scenario → Scripted
scripted_of s = record { version = s.version; geometry = s.geometry; init = s.init; pivots = s.pivots; window = s.window; has_lane = is_some s.lane; vcpus = map vcpu_of s.vcpus }

-- before the halt: the script, what each virtual processor has left to do, and the guest's book
pub record BeforeLists : Type 0 where
  pub script : Scenario
  pub vcpus : List Vcpu
  pub guest : GuestKept

-- from the halt on: the script, what each virtual processor has left to do, and the four books
pub record AfterLists : Type 0 where
  pub script : Scenario
  pub vcpus : List Vcpu
  pub source : SourceKept
  pub link : Linked
  pub pager : PagerLists
  pub target : Kept

-- what they are in the events
abbrev pub home_of : BeforeLists → BooksBefore
home_of h = books_before (scripted_of h.script) h.vcpus (guest_of h.guest)

abbrev pub away_of : AfterLists → BooksAfter
away_of a = record {
  version = a.script.version;
  init = a.script.init;
  window = a.script.window;
  has_lane = is_some a.script.lane;
  vcpus = a.vcpus;
  source = source_of a.source;
  link = a.link.part;
  pager = pager_of a.pager;
  target = target_of a.target;
}

-- The machine has what a virtual processor has left to do. If it releases a page after its move, scripts of this
-- version allow that.
pub record LeftFits (version : Version) (e : Extent) (vcpu : Vcpu) : Type 0 where
  pub before_move : AllByRecursion (OpFits e) vcpu.before_move
  pub after_move : AllByRecursion (LateOpFits version e) vcpu.after_move

-- all is of the script's machine
pub record IsBefore (h : BeforeLists) : Type 0 where
  pub guest : h.guest.frames.geometry ≡ h.script.geometry
  pub vcpus : AllByRecursion (LeftFits h.script.version h.script.geometry) h.vcpus

pub record IsAfter (a : AfterLists) : Type 0 where
  pub source : a.source.frames.geometry ≡ a.script.geometry
  pub pager : a.pager.geometry ≡ a.script.geometry
  pub target : geometry_of a.target ≡ a.script.geometry
  pub vcpus : AllByRecursion (LeftFits a.script.version a.script.geometry) a.vcpus
