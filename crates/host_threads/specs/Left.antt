-- What the books leave after the last event.
use Rattle.std.specs.Prelude.{◌≡◌, List, Option, Some, None}
use Rattle.migration_types.specs.declared.records.PagerRec.{PagerRec}
use Rattle.migration_types.specs.declared.session.Logs.{Logs}
use Rattle.page_store.specs.Frames.{Frames}
use Rattle.active_push.specs.Books.{SourceKept}
use Rattle.link_book.specs.LinkPart.{LinkPart}
use Rattle.host_threads.specs.declared.side.TargetSide.{TargetSide}
use Rattle.host_threads.specs.declared.side.TargetSide.TheVariants.{Guest, Moving, Target}

-- the logs of the books and the frames at the target, or nothing if the guest has not halted
abbrev pub IsLeft : Option SourceKept → LinkPart → List PagerRec → TargetSide → Option (Logs × Frames) → Type 0
IsLeft None link pager side left = left ≡ None
IsLeft (Some s) link pager (Guest b) left = left ≡ None
IsLeft (Some s) link pager Moving left = left ≡ None
IsLeft (Some s) link pager (Target t) left = left ≡ Some (record { guest = t.held.log; source = s.log; link = link.log; lane = link.lane_log; pager = pager }, t.held.frames)
