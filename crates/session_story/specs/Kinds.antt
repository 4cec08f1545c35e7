-- The faults of a page by kind: for each reason, how many records of the page are faults, and the first of them.
use Rattle.std.specs.Prelude.{◌≡◌, ◌↔◌, ℕ, ◌+◌, ◌<◌, Contains, List, length, Some, slice_get}
use Rattle.std.specs.List.{AllPairs}
use Rattle.migration_types.specs.declared.records.LogName.{LogName}
use Rattle.migration_types.specs.declared.records.LogName.TheVariants.{Guest, Source, Pager}
use Rattle.migration_types.specs.Sessions.{Recorded}
use Rattle.audit_model.specs.declared.reasons.PageReason.{PageReason}
use Rattle.audit_model.specs.declared.reasons.PageReason.TheVariants.{Read, Early, Given, Stale, Twice, Altered, Unfit, Over}
use Rattle.audit_model.specs.Faults.{IsPageFault}
use Rattle.page_facts.specs.PageFaults.{page_at}
use Rattle.session_story.specs.declared.kinds.Tally.{Tally}
use Rattle.session_story.specs.declared.kinds.Kinds.{Kinds}

-- the log whose records may be faults for this reason
abbrev pub log_of : PageReason → LogName
log_of Read = Guest
log_of Early = Guest
log_of Given = Source
log_of Stale = Source
log_of Twice = Pager
log_of Altered = Pager
log_of Unfit = Pager
log_of Over = Pager

-- record n of that log is of the page, and a fault for this reason
abbrev pub IsFaultFor : Recorded → ℕ → PageReason → ℕ → Type 0
IsFaultFor s page reason n = IsPageFault s reason (log_of reason, n) × (page_at s (log_of reason, n) ≡ Some page)

-- the places of all records that are faults of the page for this reason
pub record AreFaultsFor (s : Recorded) (page : ℕ) (reason : PageReason) (places : List ℕ) : Type 0 where
  pub ascending : AllPairs (λ m n. m < n) places
  pub exactly : (n : ℕ) → Contains places n ↔ IsFaultFor s page reason n

-- how many there are, and the first of them
pub record IsTally (s : Recorded) (page : ℕ) (reason : PageReason) (t : Tally) : Type 0 where
  pub places : List ℕ
  pub faults : AreFaultsFor s page reason places
  pub count : t.count ≡ length places
  pub first : t.first ≡ slice_get places 0

-- the tally of a reason
abbrev pub tally_of : PageReason → Kinds → Tally
tally_of Read k = k.read
tally_of Early k = k.early
tally_of Given k = k.given
tally_of Stale k = k.stale
tally_of Twice k = k.twice
tally_of Altered k = k.altered
tally_of Unfit k = k.unfit
tally_of Over k = k.over

-- how many faults there are in all
abbrev pub in_all : Kinds → ℕ
in_all k = k.read.count + k.early.count + k.given.count + k.stale.count + k.twice.count + k.altered.count + k.unfit.count + k.over.count

-- the tally of each reason, of a page
abbrev pub AreKinds : Recorded → ℕ → Kinds → Type 0
AreKinds s page kinds = (reason : PageReason) → IsTally s page reason (tally_of reason kinds)
