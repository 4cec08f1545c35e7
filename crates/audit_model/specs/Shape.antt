-- The right shape of a session: what each record needs to have none of the five faults of shape.
use Rattle.std.specs.Prelude.{◌≡◌, ℕ, zero, suc, Bool, true, false, not, ◌==◌, ◌&&◌, ◌||◌, nat_lt, List, length, Option, Some, None, is_some, slice_get}
use Rattle.std.specs.List.{list_any}
use Rattle.std.specs.Option.{option_map}
use Rattle.migration_types.specs.declared.records.LogName.TheVariants.{Guest, Source, Link, Lane, Pager}
use Rattle.migration_types.specs.declared.records.GuestRec.{GuestRec}
use Rattle.migration_types.specs.declared.records.GuestRec.TheVariants.{Read, Write, Release, Miss, Halt, Resume, See}
use Rattle.migration_types.specs.declared.records.SourceRec.{SourceRec}
use Rattle.migration_types.specs.declared.records.SourceRec.TheVariants.{Halted, State, Send, Again, Ask, Back}
use Rattle.migration_types.specs.declared.records.LinkRec.{LinkRec}
use Rattle.migration_types.specs.declared.records.LinkRec.TheVariants.{Down, Up}
use Rattle.migration_types.specs.declared.records.LaneRec.{LaneRec}
use Rattle.migration_types.specs.declared.records.LaneRec.TheVariants.{Down as LaneDown}
use Rattle.migration_types.specs.declared.records.PagerRec.{PagerRec}
use Rattle.migration_types.specs.declared.records.PagerRec.TheVariants.{Got, Pull, Ready, Fault, Join, Want, Place, Zero, Skip, All}
use Rattle.migration_types.specs.declared.version.Version.{Version}
use Rattle.migration_types.specs.declared.version.Version.TheVariants.{One, Two}
use Rattle.migration_types.specs.Sessions.{Recorded}
use Rattle.audit_model.specs.declared.reasons.ShapeReason.{ShapeReason}
use Rattle.audit_model.specs.declared.reasons.ShapeReason.TheVariants.{Phases, Named, Start, SecondSend, Both}
use Rattle.migration_types.specs.Receipts.{Name}
use Rattle.audit_model.specs.Names.{if_there}
use Rattle.audit_model.specs.Flat.{before}

-- whether there is a record and it passes the test
abbrev pub passes : {A : Type 0} → (A → Bool) → Option A → Bool
passes test None = false
passes test (Some x) = test x

-- whether it is a halt
abbrev pub is_halt : GuestRec → Bool
is_halt Halt = true
is_halt _ = false

-- whether it is a resume
abbrev pub is_resume : GuestRec → Bool
is_resume (Resume ready) = true
is_resume _ = false

-- whether it is a release
abbrev pub is_release : GuestRec → Bool
is_release (Release vcpu p) = true
is_release _ = false

-- whether it is a miss
abbrev pub is_miss : GuestRec → Bool
is_miss (Miss vcpu p) = true
is_miss _ = false

-- whether it sends the processor state
abbrev pub is_state : SourceRec → Bool
is_state State = true
is_state _ = false

-- whether it sends the page
abbrev pub is_send_of : ℕ → SourceRec → Bool
is_send_of page (Send p content) = p == page
is_send_of page _ = false

-- whether it is a first sending, which an `again` may repeat
abbrev pub is_sending : SourceRec → Bool
is_sending State = true
is_sending (Send p content) = true
is_sending _ = false

-- whether the link or the lane delivers it down
abbrev pub goes_down : SourceRec → Bool
goes_down State = true
goes_down (Send p content) = true
goes_down (Again sending) = true
goes_down _ = false

-- whether it is a delivery down
abbrev pub is_down : LinkRec → Bool
is_down (Down sending) = true
is_down (Up asking) = false

-- whether it is a delivery up
abbrev pub is_up : LinkRec → Bool
is_up (Down sending) = false
is_up (Up asking) = true

-- whether it says that the pager is ready
abbrev pub is_ready : PagerRec → Bool
is_ready Ready = true
is_ready _ = false

-- whether it takes a delivery, of the link or of the lane
abbrev pub is_taking : PagerRec → Bool
is_taking (Got down) = true
is_taking (Pull down) = true
is_taking _ = false

-- whether it asks for a page
abbrev pub is_want : PagerRec → Bool
is_want (Want p) = true
is_want _ = false

-- whether the link delivers it up
abbrev pub goes_up : PagerRec → Bool
goes_up (Want p) = true
goes_up All = true
goes_up _ = false

-- whether it is a placement of some page
abbrev pub is_placement : PagerRec → Bool
is_placement (Place p got content) = true
is_placement (Zero p) = true
is_placement _ = false

-- whether it is a placement of this page
abbrev pub is_placement_of : ℕ → PagerRec → Bool
is_placement_of page (Place p got content) = p == page
is_placement_of page (Zero p) = p == page
is_placement_of page _ = false

-- the source's record that a delivery down delivers
abbrev pub down_sending : LinkRec → Option ℕ
down_sending (Down sending) = Some sending
down_sending (Up asking) = None

-- the source's record that a delivery of the lane delivers
abbrev pub lane_sending : LaneRec → ℕ
lane_sending (LaneDown sending) = sending

-- the source's record whose delivery the pager's record takes
abbrev pub taken_sending : Recorded → PagerRec → Option ℕ
taken_sending s (Got down) = if_there down_sending (slice_get s.link down)
taken_sending s (Pull down) = option_map lane_sending (slice_get s.lane down)
taken_sending s _ = None

-- the source's record whose delivery a `got` or a `pull` takes
abbrev pub delivery : Recorded → ℕ → Option ℕ
delivery s got = if_there (taken_sending s) (slice_get s.pager got)

-- whether a record of the source passes the test, or is an `again` of one that does
abbrev pub is_or_repeats : Recorded → (SourceRec → Bool) → SourceRec → Bool
is_or_repeats s test (Again sending) = passes test (slice_get s.source sending)
is_or_repeats s test r = test r

-- whether a `got` or a `pull` takes the delivery of a record that passes the test, or of an `again` of one
abbrev pub delivers : Recorded → (SourceRec → Bool) → ℕ → Bool
delivers s test got = passes (λ sending. passes (is_or_repeats s test) (slice_get s.source sending)) (delivery s got)

-- whether an earlier record passes the test
abbrev pub earlier : {A : Type 0} → (A → Bool) → List A → ℕ → Bool
earlier test log n = before (λ x found. test x || found) false log n

-- whether the phase allows a release: in the first version, only before the halt
abbrev pub may_release : Version → Bool → Bool → Bool
may_release One halted resumed = not halted && not resumed
may_release Two halted resumed = not halted || resumed

-- whether the phase allows the record, given the version and whether there was a halt and a resume
abbrev pub in_phase_by : Version → Bool → Bool → GuestRec → Bool
in_phase_by version halted resumed Halt = not halted
in_phase_by version halted resumed (Resume ready) = not resumed && halted
in_phase_by version halted resumed (Read vcpu p c value) = not halted || resumed
in_phase_by version halted resumed (Write vcpu p c value) = not halted || resumed
in_phase_by version halted resumed (Release vcpu p) = may_release version halted resumed
in_phase_by version halted resumed (Miss vcpu p) = resumed
in_phase_by version halted resumed (See placement) = resumed

-- whether the phase allows guest record n
abbrev pub in_phase : Recorded → ℕ → GuestRec → Bool
in_phase s n r = in_phase_by s.version (earlier is_halt s.guest n) (earlier is_resume s.guest n) r

-- whether a record of the guest names a record of the kind that it must
abbrev pub guest_named : Recorded → GuestRec → Bool
guest_named s (Resume ready) = passes is_ready (slice_get s.pager ready)
guest_named s (See placement) = passes is_placement (slice_get s.pager placement)
guest_named s _ = true

-- whether source record n names a record of the kind that it must
abbrev pub source_named : Recorded → ℕ → SourceRec → Bool
source_named s n (Halted halt) = passes is_halt (slice_get s.guest halt)
source_named s n (Ask up) = passes is_up (slice_get s.link up)
source_named s n (Again sending) = nat_lt sending n && passes is_sending (slice_get s.source sending)
source_named s n _ = true

-- whether a record of the link names a record of the kind that it must
abbrev pub link_named : Recorded → LinkRec → Bool
link_named s (Down sending) = passes goes_down (slice_get s.source sending)
link_named s (Up asking) = passes goes_up (slice_get s.pager asking)

-- whether a record of the lane names a record of the kind that it must
abbrev pub lane_named : Recorded → LaneRec → Bool
lane_named s (LaneDown sending) = passes goes_down (slice_get s.source sending)

-- whether pager record n names a record of the kind that it must
abbrev pub pager_named : Recorded → ℕ → PagerRec → Bool
pager_named s n (Got down) = passes is_down (slice_get s.link down)
pager_named s n (Pull down) = is_some (slice_get s.lane down)
pager_named s n (Fault miss) = passes is_miss (slice_get s.guest miss)
pager_named s n (Join want) = nat_lt want n && passes is_want (slice_get s.pager want)
pager_named s n (Skip got) = nat_lt got n && passes is_taking (slice_get s.pager got)
pager_named s n (Place p got content) = nat_lt got n && delivers s (is_send_of p) got
pager_named s n _ = true

-- The source's log begins with `halted` and the state, and has them nowhere else. It has `back` only at its end.
abbrev pub source_start : Recorded → ℕ → SourceRec → Bool
source_start s zero (Halted halt) = nat_lt 1 (length s.source)
source_start s zero _ = false
source_start s (suc zero) State = true
source_start s (suc zero) _ = false
source_start s (suc (suc n)) (Halted halt) = false
source_start s (suc (suc n)) State = false
source_start s (suc (suc n)) Back = length s.source == suc (suc (suc n))
source_start s (suc (suc n)) _ = true

-- The pager's log begins with the state's `got` or `pull` and then `ready`, and has `ready` nowhere else.
abbrev pub pager_start : Recorded → ℕ → PagerRec → Bool
pager_start s zero (Got down) = delivers s is_state 0
pager_start s zero (Pull down) = delivers s is_state 0
pager_start s zero _ = false
pager_start s (suc zero) Ready = true
pager_start s (suc zero) _ = false
pager_start s (suc (suc n)) Ready = false
pager_start s (suc (suc n)) _ = true

-- whether source record n is not a second send of its page
abbrev pub is_first_send : Recorded → ℕ → SourceRec → Bool
is_first_send s n (Send p content) = not (earlier (is_send_of p) s.source n)
is_first_send s n _ = true

-- whether the source's record does not start a guest again that was resumed at the target
abbrev pub is_alone : Recorded → SourceRec → Bool
is_alone s Back = not (list_any is_resume s.guest)
is_alone s _ = true

-- whether the record passes the test, if there is one
abbrev pub keeps : {A : Type 0} → (A → Bool) → Option A → Bool
keeps test None = true
keeps test (Some x) = test x

-- whether the record with this name has no fault of this reason
abbrev pub is_right : Recorded → ShapeReason → Name → Bool
is_right s Phases (Guest, n) = keeps (in_phase s n) (slice_get s.guest n)
is_right s Named (Guest, n) = keeps (guest_named s) (slice_get s.guest n)
is_right s Named (Source, n) = keeps (source_named s n) (slice_get s.source n)
is_right s Named (Link, n) = keeps (link_named s) (slice_get s.link n)
is_right s Named (Lane, n) = keeps (lane_named s) (slice_get s.lane n)
is_right s Named (Pager, n) = keeps (pager_named s n) (slice_get s.pager n)
is_right s Start (Source, n) = keeps (source_start s n) (slice_get s.source n)
is_right s Start (Pager, n) = keeps (pager_start s n) (slice_get s.pager n)
is_right s SecondSend (Source, n) = keeps (is_first_send s n) (slice_get s.source n)
is_right s Both (Source, n) = keeps (is_alone s) (slice_get s.source n)
is_right s _ _ = true

-- a session has the right shape when no record has a fault
abbrev pub IsRightShape : Recorded → Type 0
IsRightShape s = (reason : ShapeReason) (name : Name) → is_right s reason name ≡ true
