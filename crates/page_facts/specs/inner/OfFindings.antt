-- The first fault of a page by its findings.
use Rattle.std.specs.Prelude.{ℕ, Bool, ◌==◌, ◌&&◌, ◌||◌, nat_lt, Option, Some, None, slice_get, if◌then◌else◌}
use Rattle.migration_types.specs.declared.records.LogName.{LogName}
use Rattle.migration_types.specs.declared.records.LogName.TheVariants.{Guest, Source, Pager}
use Rattle.migration_types.specs.declared.records.PagerRec.{PagerRec}
use Rattle.migration_types.specs.declared.records.PagerRec.TheVariants.{Zero}
use Rattle.migration_types.specs.Receipts.{log_index}
use Rattle.migration_types.specs.Sessions.{Recorded}
use Rattle.audit_model.specs.declared.reasons.PageReason.{PageReason}
use Rattle.audit_model.specs.declared.reasons.PageReason.TheVariants.{Read as WrongRead, Early, Given, Stale, Twice, Altered, Unfit, Over}
use Rattle.page_facts.specs.declared.findings.Findings.{Findings}
use Rattle.page_facts.specs.declared.page_fault.PageFault.{PageFault}
use Rattle.page_facts.specs.inner.Frontier.{is_before}

abbrev pub fault : ℕ → LogName → ℕ → PageReason → PageFault
fault page log place reason = record { page = page; log = log; place = place; reason = reason }

-- the first touch, if no look before it covers it
abbrev pub uncovered_of : Option ℕ → Option ℕ → Option ℕ
uncovered_of None look = None
uncovered_of (Some touch) look = if is_before look touch then None else Some touch

-- the early access: an uncovered first touch that is not a release
abbrev pub early_of : Findings → Option ℕ
early_of f = if f.releases then None else uncovered_of f.touch f.look

-- the placement that may come after a release: the first one, if the first touch is an uncovered release
abbrev pub over_at : Option ℕ → Option ℕ → Option ℕ
over_at None placement = None
over_at (Some touch) placement = placement

abbrev pub over_of : Findings → Option ℕ
over_of f = if f.releases then over_at (uncovered_of f.touch f.look) f.placement else None

-- the fault of this page's record, if there is one
abbrev pub told : ℕ → LogName → PageReason → Option ℕ → Option PageFault
told page log reason None = None
told page log reason (Some n) = Some (fault page log n reason)

-- whether a fault's line is less than the other's
abbrev pub precedes : PageFault → PageFault → Bool
precedes a b = nat_lt (log_index a.log) (log_index b.log) || ((log_index a.log == log_index b.log) && nat_lt a.place b.place)

-- the fault with the least line, or the first if both are of one record
abbrev pub least : Option PageFault → Option PageFault → Option PageFault
least None other = other
least (Some f) None = Some f
least (Some f) (Some g) = if precedes g f then Some g else Some f

abbrev pub placed_reason : PagerRec → PageReason
placed_reason (Zero page) = Unfit
placed_reason _ = Altered

abbrev pub reason_of : Option PagerRec → PageReason
reason_of None = Altered
reason_of (Some r) = placed_reason r

abbrev pub altered_reason : Recorded → Option ℕ → PageReason
altered_reason s None = Altered
altered_reason s (Some n) = reason_of (slice_get s.pager n)

abbrev pub sent_reason : Bool → PageReason
sent_reason released = if released then Given else Stale

abbrev pub or_next : Option PageFault → Option PageFault → Option PageFault
or_next None next = next
or_next (Some f) next = Some f

abbrev pub guest_fault : ℕ → Findings → Option PageFault
guest_fault page f = least (told page Guest WrongRead f.wrong_read) (told page Guest Early (early_of f))

abbrev pub source_fault : ℕ → Findings → Option PageFault
source_fault page f = told page Source (sent_reason f.released) f.wrong_send

abbrev pub pager_fault : Recorded → ℕ → Findings → Option PageFault
pager_fault s page f =
    least (told page Pager Twice f.again)
    (least (told page Pager (altered_reason s f.altered) f.altered) (told page Pager Over (over_of f)))

abbrev pub page_fault : Recorded → ℕ → Findings → Option PageFault
page_fault s page f = or_next (guest_fault page f) (or_next (source_fault page f) (pager_fault s page f))
