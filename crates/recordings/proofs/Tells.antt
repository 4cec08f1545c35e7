-- A line tells the page or the record.
use Rattle.std.proofs.Common.{◌≡◌, ◌≤◌, ◌^◌, ℕ, List, arith}
use Rattle.migration_types.specs.declared.version.Version.{Version}
use Rattle.migration_types.specs.Extents.{Extent}
use Rattle.session_grammar.specs.Records.{guest_line, source_line, link_line, lane_line, pager_line}
use Rattle.session_grammar.proofs.Tells.{AreNarrow, guest_tells, source_tells, link_tells, lane_tells, pager_tells}
use Rattle.recordings.specs.Recordings.{IsMachine, IsGuestRecOf, IsSourceRecOf, IsLinkRecOf, IsLaneRecOf, IsPagerRecOf}

-- no two of these have the same line
abbrev pub Tell : {X : Type 0} → (X → Type 0) → (X → List ℕ) → Type 0
Tell {X} IsOne line = (r s : X) → IsOne r → IsOne s → line r ≡ line s → r ≡ s

narrow : (e : Extent) → IsMachine e → AreNarrow e
narrow e h = let pages = h.few_pages in let cells = h.few_cells in record { pages = omega arith; cells = omega arith }

count_narrow : 2 ^ 63 ≤ 2 ^ 64
count_narrow = omega arith

pub guest_tell : (e : Extent) → IsMachine e → Tell (IsGuestRecOf e) guest_line
guest_tell e h = guest_tells (2 ^ 63) count_narrow e (narrow e h)

pub source_tell : (e : Extent) → IsMachine e → Tell (IsSourceRecOf e) source_line
source_tell e h = source_tells (2 ^ 63) count_narrow e (narrow e h)

pub link_tell : Tell IsLinkRecOf link_line
link_tell = link_tells (2 ^ 63) count_narrow

pub lane_tell : (version : Version) → Tell (IsLaneRecOf version) lane_line
lane_tell version = lane_tells (2 ^ 63) count_narrow version

pub pager_tell : (version : Version) (e : Extent) → IsMachine e → Tell (IsPagerRecOf version e) pager_line
pager_tell version e h = pager_tells (2 ^ 63) count_narrow version e (narrow e h)
