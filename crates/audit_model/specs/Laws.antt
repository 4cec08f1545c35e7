-- The laws: what a right certificate means in every merging, and what a fault of a page means.
use Rattle.std.specs.Prelude.{◌≡◌, ◌≢◌, ◌↔◌, ℕ, true, false, List, [], Some, Contains, slice_get}
use Rattle.migration_types.specs.declared.records.LogName.TheVariants.{Guest, Pager}
use Rattle.migration_types.specs.declared.records.GuestRec.{GuestRec}
use Rattle.migration_types.specs.declared.records.GuestRec.TheVariants.{Read, Release}
use Rattle.migration_types.specs.declared.records.SourceRec.TheVariants.{Send}
use Rattle.migration_types.specs.declared.records.PagerRec.{PagerRec}
use Rattle.migration_types.specs.declared.records.PagerRec.TheVariants.{Pull, Place, Zero}
use Rattle.migration_types.specs.declared.cert.First.{First}
use Rattle.migration_types.specs.declared.cert.Run.{Run}
use Rattle.migration_types.specs.declared.cert.Entry.{Entry}
use Rattle.migration_types.specs.declared.cert.Entry.TheVariants.{Fresh, Source, Balloon}
use Rattle.migration_types.specs.Certs.{Certified}
use Rattle.migration_types.specs.declared.version.Version.TheVariants.{One}
use Rattle.migration_types.specs.Receipts.{Name}
use Rattle.migration_types.specs.Sessions.{Recorded, IsSession}
use Rattle.audit_model.specs.Fitting.{Fits}
use Rattle.audit_model.specs.declared.reasons.PageReason.{PageReason}
use Rattle.audit_model.specs.declared.reasons.PageReason.TheVariants.{Early, Over}
use Rattle.audit_model.specs.Mergings.{IsMerging, HasMerging, StandsAfter, spelled}
use Rattle.audit_model.specs.Flat.{flat, freed, in_ledger, AtTarget, home, at_halt}
use Rattle.audit_model.specs.World.{World, world_after, memory_at, Demand, IsSafe}
use Rattle.audit_model.specs.Shape.{IsRightShape, is_placement_of}
use Rattle.audit_model.specs.Certificates.{is_access_of, IsRightEntry, IsRightCertificate}
use Rattle.audit_model.specs.Faults.{IsEarly, IsOver, IsPageFault, HasNoPageFault}
use Rattle.audit_model.specs.Delayed.{IsFirstPlacement, IsDelayedOrder}

-- a session within its limits, of the right shape, with a right certificate
pub record IsCertified (s : Recorded) (c : Certified) : Type 0 where
  pub is_session : IsSession s
  pub shape : IsRightShape s
  pub certificate : IsRightCertificate s c

-- a record of the guest at its place in an order, and the world just before it
pub record GuestAt (s : Recorded) (order : List Name) (n : ℕ) (r : GuestRec) (w : World) : Type 0 where
  pub earlier : List Name
  pub stands : StandsAfter order earlier (Guest, n)
  pub is : slice_get s.guest n ≡ Some r
  pub world : w ≡ world_after s earlier

-- a record of the pager at its place in an order, and the world just before it
pub record PagerAt (s : Recorded) (order : List Name) (n : ℕ) (r : PagerRec) (w : World) : Type 0 where
  pub earlier : List Name
  pub stands : StandsAfter order earlier (Pager, n)
  pub is : slice_get s.pager n ≡ Some r
  pub world : w ≡ world_after s earlier

-- in each merging, a read or write after handover finds its page resident
abbrev pub FindsResident : Recorded → Type 0
FindsResident s =
    (order : List Name) → IsMerging s order → (n page : ℕ) (r : GuestRec) (w : World) →
    GuestAt s order n r w → is_access_of page r ≡ true → home s n ≡ AtTarget → w.resident page ≡ true

-- In each merging, a read gives the value in the memory where the guest is, which is that of one machine that never
-- moved.
abbrev pub ReadsFlat : Recorded → Type 0
ReadsFlat s =
    (order : List Name) → IsMerging s order → (n vcpu page cell value : ℕ) (w : World) →
    GuestAt s order n (Read vcpu page cell value) w → (value ≡ memory_at w.home w page cell) × (value ≡ flat s n page cell)

-- a page is placed at most once
abbrev pub PlacedOnce : Recorded → Type 0
PlacedOnce s =
    (page n m : ℕ) (r t : PagerRec) → slice_get s.pager n ≡ Some r → slice_get s.pager m ≡ Some t →
    is_placement_of page r ≡ true → is_placement_of page t ≡ true → n ≡ m

-- in each merging, a placement comes before any read, write or release of its page at the target
abbrev pub PlacedUntouched : Recorded → Type 0
PlacedUntouched s =
    (order : List Name) → IsMerging s order → (n page : ℕ) (r : PagerRec) (w : World) →
    PagerAt s order n r w → is_placement_of page r ≡ true → w.touched page ≡ false

-- a released page is never sent, and is placed as zeros
pub record ReleasedAsZeros (s : Recorded) : Type 0 where
  pub unsent : (page n : ℕ) (content : List ℕ) → in_ledger s (at_halt s) page ≡ true → slice_get s.source n ≡ Some (Send page content) → ⊥
  pub zeroed : (page n : ℕ) (r : PagerRec) → in_ledger s (at_halt s) page ≡ true → slice_get s.pager n ≡ Some r → is_placement_of page r ≡ true → r ≡ Zero page

-- what a right certificate promises
pub record IsMigrated (s : Recorded) : Type 0 where
  pub safe : IsSafe s
  pub has_merging : HasMerging s
  pub finds_resident : FindsResident s
  pub reads_flat : ReadsFlat s
  pub placed_once : PlacedOnce s
  pub placed_untouched : PlacedUntouched s
  pub released_as_zeros : ReleasedAsZeros s

-- a session within its limits, of the right shape, in which no page has a fault
pub record IsFaultless (s : Recorded) : Type 0 where
  pub is_session : IsSession s
  pub shape : IsRightShape s
  pub clean : HasNoPageFault s

-- in this order, the demand fails at the record with this name
abbrev pub BreaksAt : Recorded → List Name → Name → Type 0
BreaksAt s order name = (earlier : List Name) → StandsAfter order earlier name → Demand s name (world_after s earlier) → ⊥

-- a fault of a page, other than Early and Over, breaks the demand at its record in every merging
abbrev pub FaultsBreak : Recorded → Type 0
FaultsBreak s =
    (order : List Name) → IsMerging s order → (reason : PageReason) (name : Name) → reason ≢ Early → reason ≢ Over →
    IsPageFault s reason name → BreaksAt s order name

-- an access without a look at its page's placement breaks the demand if that placement is delayed
abbrev pub DelayedBreaks : Recorded → Type 0
DelayedBreaks s =
    (order : List Name) → IsMerging s order → (n page place : ℕ) (r : GuestRec) → slice_get s.guest n ≡ Some r →
    IsEarly s n r page → IsFirstPlacement s page place → (delayed : List Name) →
    IsDelayedOrder s order (Pager, place) delayed → IsMerging s delayed × BreaksAt s delayed (Guest, n)

-- a placement that may come after a release of its page at the target breaks the demand if it is delayed
abbrev pub DelayedOver : Recorded → Type 0
DelayedOver s =
    (order : List Name) → IsMerging s order → (place : ℕ) → IsPageFault s Over (Pager, place) → (delayed : List Name) →
    IsDelayedOrder s order (Pager, place) delayed → IsMerging s delayed × BreaksAt s delayed (Pager, place)

-- in this order, no placement of the page comes before the record with this name
abbrev pub UnplacedBefore : Recorded → List Name → ℕ → Name → Type 0
UnplacedBefore s order page name =
    (earlier : List Name) → StandsAfter order earlier name → (m : ℕ) (t : PagerRec) → slice_get s.pager m ≡ Some t →
    is_placement_of page t ≡ true → Contains earlier (Pager, m) → ⊥

-- if its page's first placement is delayed, each placement of the page comes after such an access
abbrev pub DelayedUnplaced : Recorded → Type 0
DelayedUnplaced s =
    (order : List Name) → IsMerging s order → (n page place : ℕ) (r : GuestRec) → slice_get s.guest n ≡ Some r →
    IsEarly s n r page → IsFirstPlacement s page place → (delayed : List Name) →
    IsDelayedOrder s order (Pager, place) delayed → UnplacedBefore s delayed page (Guest, n)

-- each merging has a delayed order for each record of the pager
abbrev pub HasDelayedOrders : Recorded → Type 0
HasDelayedOrders s =
    (order : List Name) → IsMerging s order → (place : ℕ) → (delayed : List Name) × IsDelayedOrder s order (Pager, place) delayed

-- an access after handover to a page without a placement breaks the demand in every merging
abbrev pub UnplacedBreaks : Recorded → Type 0
UnplacedBreaks s =
    (order : List Name) → IsMerging s order → (n page : ℕ) (r : GuestRec) → slice_get s.guest n ≡ Some r →
    IsEarly s n r page → ((m : ℕ) (t : PagerRec) → slice_get s.pager m ≡ Some t → is_placement_of page t ≡ false) →
    BreaksAt s order (Guest, n)

-- If there is a merging, a session of any size that fits and has the right shape is safe exactly when no page has a
-- fault.
abbrev pub SafeExactlyIfClean : Recorded → Type 0
SafeExactlyIfClean s = Fits s → IsRightShape s → HasMerging s → IsSafe s ↔ HasNoPageFault s

-- over runs that spell a merging, a session in which no page has a fault has a right certificate
abbrev pub HasCertificate : Recorded → Type 0
HasCertificate s =
    (runs : List Run) → IsMerging s (spelled runs) →
    (entries : List Entry) × IsRightCertificate s (record { version = s.version; size = s.geometry.size; entries = entries; runs = runs })

-- A session of the first version has nothing that is new in the second. No page is released at the target, so none is
-- freed there, no placement is over such a release, and no right certificate has a fresh page. If the session fits, the
-- lane is empty, and the pager pulls nothing from it.
pub record IsPlain (s : Recorded) : Type 0 where
  pub releases_before : (n vcpu page : ℕ) → slice_get s.guest n ≡ Some (Release vcpu page) → home s n ≡ AtTarget → ⊥
  pub none_freed : (n page : ℕ) → freed s n page ≡ false
  pub none_over : (page : ℕ) → IsOver s page → ⊥
  pub none_fresh : (page first : ℕ) → IsRightEntry s page (Fresh first) → ⊥
  pub no_lane : Fits s → s.lane ≡ []
  pub none_pulled : Fits s → (n down : ℕ) → slice_get s.pager n ≡ Some (Pull down) → ⊥

abbrev pub FirstVersionIsPlain : Recorded → Type 0
FirstVersionIsPlain s = s.version ≡ One → IsRightShape s → IsPlain s

-- a session with a right certificate in which a page comes from the source, and is accessed at the target
pub record CertifiedFromSource : Type 0 where
  pub session : Recorded
  pub certificate : Certified
  pub is_certified : IsCertified session certificate
  pub page : ℕ
  pub send : ℕ
  pub place : ℕ
  pub first : First
  pub entry : slice_get certificate.entries page ≡ Some (Source send place (Some first))

-- one in which that page comes over the lane
pub record CertifiedOverLane : Type 0 where
  pub sourced : CertifiedFromSource
  pub pull : ℕ
  pub down : ℕ
  pub content : List ℕ
  pub placement : slice_get sourced.session.pager sourced.place ≡ Some (Place sourced.page pull content)
  pub pulls : slice_get sourced.session.pager pull ≡ Some (Pull down)

-- a session with a right certificate in which a released page comes back as zeros, and is accessed at the target
pub record CertifiedBalloon : Type 0 where
  pub session : Recorded
  pub certificate : Certified
  pub is_certified : IsCertified session certificate
  pub page : ℕ
  pub place : ℕ
  pub first : First
  pub entry : slice_get certificate.entries page ≡ Some (Balloon place (Some first))

-- a session with a right certificate in which a page is released at the target, and never comes
pub record CertifiedFresh : Type 0 where
  pub session : Recorded
  pub certificate : Certified
  pub is_certified : IsCertified session certificate
  pub page : ℕ
  pub first : ℕ
  pub entry : slice_get certificate.entries page ≡ Some (Fresh first)
