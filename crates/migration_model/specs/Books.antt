-- All books together, what they record, and the script that a guest follows.
use Rattle.std.specs.Prelude.{◌≡◌, ℕ, ◌≤◌, ◌-◌, Bool, List, [], ◌++◌, length, IsTrue}
use Rattle.std.specs.List.{AllByRecursion}
use Rattle.migration_types.specs.declared.pages.InitPage.{InitPage}
use Rattle.migration_types.specs.declared.records.LogName.{LogName}
use Rattle.migration_types.specs.declared.records.LogName.TheVariants.{Guest, Source, Link, Lane, Pager}
use Rattle.migration_types.specs.Extents.{Extent, IsExtent}
use Rattle.migration_types.specs.Pages.{AreInitPages}
use Rattle.migration_types.specs.Receipts.{Name}
use Rattle.migration_types.specs.Sessions.{Recorded, HasLane}
use Rattle.migration_types.specs.declared.size.Size.TheVariants.{Small}
use Rattle.migration_types.specs.declared.version.Version.{Version}
use Rattle.audit_model.specs.Mergings.{run_names}
use Rattle.active_push.specs.SourcePart.{SourcePart}
use Rattle.link_book.specs.LinkPart.{LinkPart}
use Rattle.target_side.specs.GuestPart.{GuestPart}
use Rattle.migration_events.specs.declared.ops.Op.{Op}
use Rattle.migration_events.specs.Ops.{OpFits, LateOpFits}
use Rattle.target_side.specs.TargetPart.{TargetPart}
use Rattle.target_side.specs.PagerPart.{PagerPart}

-- what a virtual processor has left to do, before its move and after it
pub record Vcpu : Type 0 where
  pub before_move : List Op
  pub after_move : List Op

-- The version, the machine, the pages that do not begin as zeros, the greatest number of pivots, the window of the
-- channel of pushed pages, whether there is a lane, which is that channel then, and the virtual processors.
pub record Scripted : Type 0 where
  pub version : Version
  pub geometry : Extent
  pub init : List InitPage
  pub pivots : ℕ
  pub window : ℕ
  pub has_lane : Bool
  pub vcpus : List Vcpu

pub record VcpuFits (version : Version) (e : Extent) (vcpu : Vcpu) : Type 0 where
  pub before_move : AllByRecursion (OpFits e) vcpu.before_move
  pub after_move : AllByRecursion (LateOpFits version e) vcpu.after_move

-- what a script says is within all limits that the law needs; its machine is of the small size
pub record IsScript (script : Scripted) : Type 0 where
  pub geometry : IsExtent script.geometry
  pub small : script.geometry.size ≡ Small
  pub init : AreInitPages script.geometry script.init
  pub lane : IsTrue script.has_lane → HasLane script.version
  pub few_vcpus : length script.vcpus ≤ 64
  pub vcpus : AllByRecursion (VcpuFits script.version script.geometry) script.vcpus

-- the books before the halt, which is only the guest's
pub record BooksBefore : Type 0 where
  pub version : Version
  pub init : List InitPage
  pub pivots : ℕ
  pub window : ℕ
  pub has_lane : Bool
  pub vcpus : List Vcpu
  pub guest : GuestPart

-- the books of a script, with what its virtual processors have left to do
abbrev pub books_before : Scripted → List Vcpu → GuestPart → BooksBefore
books_before script vcpus guest = record { version = script.version; init = script.init; pivots = script.pivots; window = script.window; has_lane = script.has_lane; vcpus = vcpus; guest = guest }

-- the books from the halt on
pub record BooksAfter : Type 0 where
  pub version : Version
  pub init : List InitPage
  pub window : ℕ
  pub has_lane : Bool
  pub vcpus : List Vcpu
  pub source : SourcePart
  pub link : LinkPart
  pub pager : PagerPart
  pub target : TargetPart

pub data Books : Type 0 where
  Before : BooksBefore → Books
  After : BooksAfter → Books

-- what the books have recorded, in the version of the script
abbrev pub session_before : BooksBefore → Recorded
session_before h = record { version = h.version; geometry = h.guest.geometry; init = h.init; guest = h.guest.log; source = []; link = []; lane = []; pager = [] }

abbrev pub session_after : BooksAfter → Recorded
session_after a = record {
  version = a.version;
  geometry = a.source.geometry;
  init = a.init;
  guest = a.target.log;
  source = a.source.log;
  link = a.link.log;
  lane = a.link.lane_log;
  pager = a.pager.log;
}

abbrev pub session_of : Books → Recorded
session_of (Before h) = session_before h
session_of (After a) = session_after a

-- the books, and the recorded order
pub record Recording : Type 0 where
  pub books : Books
  pub order : List Name

-- the names of the new records of a log
abbrev pub grown : {A : Type 0} → LogName → List A → List A → List Name
grown log old new = run_names log (length old) (length new - length old)

-- the names of the new records of a session: the guest's, the source's, the link's, the lane's and then the pager's
abbrev pub new_names : Recorded → Recorded → List Name
new_names s t = grown Guest s.guest t.guest ++ grown Source s.source t.source ++ grown Link s.link t.link ++ grown Lane s.lane t.lane ++ grown Pager s.pager t.pager
