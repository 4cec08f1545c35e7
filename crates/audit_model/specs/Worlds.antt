-- The world before each record of a merging, which is decided by how many records of each log were taken.
use Rattle.std.specs.Prelude.{◌≡◌, ℕ, zero, suc, ◌<◌, ◌≤◌, Bool, true, false, ◌||◌, ◌==◌, List, ◌++◌, Some, slice_get}
use Rattle.migration_types.specs.declared.records.LogName.{LogName}
use Rattle.migration_types.specs.declared.records.LogName.TheVariants.{Guest, Pager}
use Rattle.migration_types.specs.declared.records.GuestRec.{GuestRec}
use Rattle.migration_types.specs.declared.records.GuestRec.TheVariants.{Read, Write, Release}
use Rattle.migration_types.specs.Receipts.{Name}
use Rattle.migration_types.specs.Sessions.{Recorded}
use Rattle.audit_model.specs.Names.{log_length, receipt}
use Rattle.audit_model.specs.Mergings.{IsMerging, Cursors, at_start}
use Rattle.audit_model.specs.Walks.{cursors_from}
use Rattle.audit_model.specs.Flat.{changed, flat, freed, in_ledger, Home, AtSource, Nowhere, AtTarget, home, at_halt, marked_late}
use Rattle.audit_model.specs.Shape.{is_placement_of, earlier}
use Rattle.audit_model.specs.World.{World, world_after}

-- a consistent cut: if a receipt was taken, the record that it names was taken too
pub record IsConsistentCut (s : Recorded) (c : Cursors) : Type 0 where
  pub within : (log : LogName) → c log ≤ log_length s log
  pub sent_taken : (name sent : Name) → name.1 < c name.0 → receipt s name ≡ Some sent → sent.1 < c sent.0

-- the number of the guest record up to which the source's memory has come: it stays at the halt
abbrev pub come_to : Home → ℕ → ℕ → ℕ
come_to AtSource n halt = n
come_to Nowhere n halt = halt
come_to AtTarget n halt = halt

-- whether a page is touched after this record, given where the guest is
abbrev pub touch_after : Home → ℕ → GuestRec → Bool → Bool
touch_after h page (Read vcpu p c value) old = marked_late h (p == page) old
touch_after h page (Write vcpu p c value) old = marked_late h (p == page) old
touch_after h page (Release vcpu p) old = marked_late h (p == page) old
touch_after h page _ old = old

-- the pages that the guest has touched at the target before its record n
abbrev pub touched : Recorded → ℕ → ℕ → Bool
touched s zero page = false
touched s (suc n) page = changed (touch_after (home s n) page) (slice_get s.guest n) (touched s n page)

-- the pages that the pager has placed before its record n
abbrev pub placed_before : Recorded → ℕ → ℕ → Bool
placed_before s n page = earlier (is_placement_of page) s.pager n

-- the pages that are resident at guest record g and pager record p: placed, or released at the target
abbrev pub resident_before : Recorded → ℕ → ℕ → ℕ → Bool
resident_before s g p page = placed_before s p page || freed s g page

-- the world at guest record g and pager record p, with the guest at h
pub record IsWorld (s : Recorded) (h : Home) (g p : ℕ) (w : World) : Type 0 where
  pub home_is : w.home ≡ h
  pub source_is : (page cell : ℕ) → w.source page cell ≡ flat s (come_to h g (at_halt s)) page cell
  pub ledger_is : (page : ℕ) → w.ledger page ≡ in_ledger s (come_to h g (at_halt s)) page
  pub touched_is : (page : ℕ) → w.touched page ≡ touched s g page
  pub placed_is : (page : ℕ) → w.placed page ≡ placed_before s p page
  pub resident_is : (page : ℕ) → w.resident page ≡ resident_before s g p page

-- the cut is consistent, and the world is the one at its cursors
pub record IsAt (s : Recorded) (c : Cursors) (w : World) : Type 0 where
  pub cut : IsConsistentCut s c
  pub world : IsWorld s (home s (c Guest)) (c Guest) (c Pager) w

-- at each point of each merging, the cut is consistent, and its cursors decide the world
abbrev pub FollowsCursors : Recorded → Type 0
FollowsCursors s =
    (order : List Name) → IsMerging s order → (past rest : List Name) → order ≡ past ++ rest →
    IsAt s (cursors_from at_start past) (world_after s past)

-- at each point of each merging, the target's memory on the resident pages is the flat machine's
abbrev pub TargetIsFlat : Recorded → Type 0
TargetIsFlat s =
    (order : List Name) → IsMerging s order → (past rest : List Name) → order ≡ past ++ rest →
    (page cell : ℕ) → cell < s.geometry.cells → (world_after s past).resident page ≡ true →
    (world_after s past).target page cell ≡ flat s (cursors_from at_start past Guest) page cell
