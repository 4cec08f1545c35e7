-- The page and the place of a record that is a fault.
use Rattle.std.proofs.Common.{◌≡◌, ℕ, ◌<◌, List, Option, Some, None, refl}
use Rattle.std.specs.Prelude.{slice_get}
use Rattle.migration_types.specs.declared.records.LogName.TheVariants.{Guest, Source, Link, Lane, Pager}
use Rattle.migration_types.specs.declared.records.GuestRec.{GuestRec}
use Rattle.migration_types.specs.declared.records.GuestRec.TheVariants.{Read, Write, Release, Miss, Halt, Resume, See}
use Rattle.migration_types.specs.declared.records.SourceRec.{SourceRec}
use Rattle.migration_types.specs.declared.records.SourceRec.TheVariants.{Halted, State, Send, Again, Ask, Done, Back}
use Rattle.migration_types.specs.declared.records.PagerRec.{PagerRec}
use Rattle.migration_types.specs.declared.records.PagerRec.TheVariants.{Got, Pull, Ready, Fault, Join, Want, Place, Zero, Skip, All}
use Rattle.migration_types.specs.Receipts.{Name}
use Rattle.migration_types.specs.Sessions.{Recorded, IsSession}
use Rattle.audit_model.specs.declared.reasons.PageReason.{PageReason}
use Rattle.audit_model.specs.declared.reasons.PageReason.TheVariants.{Read as WrongRead, Early, Given, Stale, Twice, Altered, Unfit, Over}
use Rattle.audit_model.specs.Names.{if_there}
use Rattle.audit_model.specs.Faults.{GuestFault, SourceFault, PagerFault, if_fault, IsPageFault}
use Rattle.migration_types.specs.Paged.{guest_page, source_page, pager_page}
use Rattle.page_facts.specs.PageFaults.{page_at}
use Rattle.page_facts.proofs.Within.{guest_within, source_within, pager_within}

guest_paged : (s : Recorded) (reason : PageReason) (n : ℕ) (r : GuestRec) → guest_page r ≡ None → GuestFault s reason n r → ⊥
guest_paged s reason n (Read v p c x) e f = absurd (cc)
guest_paged s reason n (Write v p c x) e f = absurd (cc)
guest_paged s reason n (Release v p) e f = absurd (cc)
guest_paged s WrongRead n (Miss v p) e f = absurd f
guest_paged s Early n (Miss v p) e f = let access = f.1.is_access in absurd (cc)
guest_paged s Given n (Miss v p) e f = absurd f
guest_paged s Stale n (Miss v p) e f = absurd f
guest_paged s Twice n (Miss v p) e f = absurd f
guest_paged s Altered n (Miss v p) e f = absurd f
guest_paged s Unfit n (Miss v p) e f = absurd f
guest_paged s Over n (Miss v p) e f = absurd f
guest_paged s WrongRead n Halt e f = absurd f
guest_paged s Early n Halt e f = let access = f.1.is_access in absurd (cc)
guest_paged s Given n Halt e f = absurd f
guest_paged s Stale n Halt e f = absurd f
guest_paged s Twice n Halt e f = absurd f
guest_paged s Altered n Halt e f = absurd f
guest_paged s Unfit n Halt e f = absurd f
guest_paged s Over n Halt e f = absurd f
guest_paged s WrongRead n (Resume i) e f = absurd f
guest_paged s Early n (Resume i) e f = let access = f.1.is_access in absurd (cc)
guest_paged s Given n (Resume i) e f = absurd f
guest_paged s Stale n (Resume i) e f = absurd f
guest_paged s Twice n (Resume i) e f = absurd f
guest_paged s Altered n (Resume i) e f = absurd f
guest_paged s Unfit n (Resume i) e f = absurd f
guest_paged s Over n (Resume i) e f = absurd f
guest_paged s WrongRead n (See k) e f = absurd f
guest_paged s Early n (See k) e f = let access = f.1.is_access in absurd (cc)
guest_paged s Given n (See k) e f = absurd f
guest_paged s Stale n (See k) e f = absurd f
guest_paged s Twice n (See k) e f = absurd f
guest_paged s Altered n (See k) e f = absurd f
guest_paged s Unfit n (See k) e f = absurd f
guest_paged s Over n (See k) e f = absurd f

source_paged : (s : Recorded) (reason : PageReason) (n : ℕ) (r : SourceRec) → source_page r ≡ None → SourceFault s reason r → ⊥
source_paged s reason n (Send p x) e f = absurd (cc)
source_paged s WrongRead n (Halted h) e f = absurd f
source_paged s Early n (Halted h) e f = absurd f
source_paged s Given n (Halted h) e f = absurd f
source_paged s Stale n (Halted h) e f = absurd f
source_paged s Twice n (Halted h) e f = absurd f
source_paged s Altered n (Halted h) e f = absurd f
source_paged s Unfit n (Halted h) e f = absurd f
source_paged s Over n (Halted h) e f = absurd f
source_paged s WrongRead n State e f = absurd f
source_paged s Early n State e f = absurd f
source_paged s Given n State e f = absurd f
source_paged s Stale n State e f = absurd f
source_paged s Twice n State e f = absurd f
source_paged s Altered n State e f = absurd f
source_paged s Unfit n State e f = absurd f
source_paged s Over n State e f = absurd f
source_paged s WrongRead n (Again i) e f = absurd f
source_paged s Early n (Again i) e f = absurd f
source_paged s Given n (Again i) e f = absurd f
source_paged s Stale n (Again i) e f = absurd f
source_paged s Twice n (Again i) e f = absurd f
source_paged s Altered n (Again i) e f = absurd f
source_paged s Unfit n (Again i) e f = absurd f
source_paged s Over n (Again i) e f = absurd f
source_paged s WrongRead n (Ask i) e f = absurd f
source_paged s Early n (Ask i) e f = absurd f
source_paged s Given n (Ask i) e f = absurd f
source_paged s Stale n (Ask i) e f = absurd f
source_paged s Twice n (Ask i) e f = absurd f
source_paged s Altered n (Ask i) e f = absurd f
source_paged s Unfit n (Ask i) e f = absurd f
source_paged s Over n (Ask i) e f = absurd f
source_paged s WrongRead n Done e f = absurd f
source_paged s WrongRead n Back e f = absurd f
source_paged s Early n Done e f = absurd f
source_paged s Early n Back e f = absurd f
source_paged s Given n Done e f = absurd f
source_paged s Given n Back e f = absurd f
source_paged s Stale n Done e f = absurd f
source_paged s Stale n Back e f = absurd f
source_paged s Twice n Done e f = absurd f
source_paged s Twice n Back e f = absurd f
source_paged s Altered n Done e f = absurd f
source_paged s Altered n Back e f = absurd f
source_paged s Unfit n Done e f = absurd f
source_paged s Unfit n Back e f = absurd f
source_paged s Over n Done e f = absurd f
source_paged s Over n Back e f = absurd f

pager_paged : (s : Recorded) (reason : PageReason) (n : ℕ) (r : PagerRec) → pager_page r ≡ None → PagerFault s reason n r → ⊥
pager_paged s reason n (Place p g x) e f = absurd (cc)
pager_paged s reason n (Zero p) e f = absurd (cc)
pager_paged s WrongRead n (Got d) e f = absurd f
pager_paged s Early n (Got d) e f = absurd f
pager_paged s Given n (Got d) e f = absurd f
pager_paged s Stale n (Got d) e f = absurd f
pager_paged s Twice n (Got d) e f = absurd f
pager_paged s Altered n (Got d) e f = absurd f
pager_paged s Unfit n (Got d) e f = absurd f
pager_paged s Over n (Got d) e f = absurd f
pager_paged s WrongRead n (Pull d) e f = absurd f
pager_paged s Early n (Pull d) e f = absurd f
pager_paged s Given n (Pull d) e f = absurd f
pager_paged s Stale n (Pull d) e f = absurd f
pager_paged s Twice n (Pull d) e f = absurd f
pager_paged s Altered n (Pull d) e f = absurd f
pager_paged s Unfit n (Pull d) e f = absurd f
pager_paged s Over n (Pull d) e f = absurd f
pager_paged s WrongRead n Ready e f = absurd f
pager_paged s Early n Ready e f = absurd f
pager_paged s Given n Ready e f = absurd f
pager_paged s Stale n Ready e f = absurd f
pager_paged s Twice n Ready e f = absurd f
pager_paged s Altered n Ready e f = absurd f
pager_paged s Unfit n Ready e f = absurd f
pager_paged s Over n Ready e f = absurd f
pager_paged s WrongRead n (Fault i) e f = absurd f
pager_paged s Early n (Fault i) e f = absurd f
pager_paged s Given n (Fault i) e f = absurd f
pager_paged s Stale n (Fault i) e f = absurd f
pager_paged s Twice n (Fault i) e f = absurd f
pager_paged s Altered n (Fault i) e f = absurd f
pager_paged s Unfit n (Fault i) e f = absurd f
pager_paged s Over n (Fault i) e f = absurd f
pager_paged s WrongRead n (Join i) e f = absurd f
pager_paged s Early n (Join i) e f = absurd f
pager_paged s Given n (Join i) e f = absurd f
pager_paged s Stale n (Join i) e f = absurd f
pager_paged s Twice n (Join i) e f = absurd f
pager_paged s Altered n (Join i) e f = absurd f
pager_paged s Unfit n (Join i) e f = absurd f
pager_paged s Over n (Join i) e f = absurd f
pager_paged s WrongRead n (Want p) e f = absurd f
pager_paged s Early n (Want p) e f = absurd f
pager_paged s Given n (Want p) e f = absurd f
pager_paged s Stale n (Want p) e f = absurd f
pager_paged s Twice n (Want p) e f = absurd f
pager_paged s Altered n (Want p) e f = absurd f
pager_paged s Unfit n (Want p) e f = absurd f
pager_paged s Over n (Want p) e f = absurd f
pager_paged s WrongRead n (Skip i) e f = absurd f
pager_paged s Early n (Skip i) e f = absurd f
pager_paged s Given n (Skip i) e f = absurd f
pager_paged s Stale n (Skip i) e f = absurd f
pager_paged s Twice n (Skip i) e f = absurd f
pager_paged s Altered n (Skip i) e f = absurd f
pager_paged s Unfit n (Skip i) e f = absurd f
pager_paged s Over n (Skip i) e f = absurd f
pager_paged s WrongRead n All e f = absurd f
pager_paged s Early n All e f = absurd f
pager_paged s Given n All e f = absurd f
pager_paged s Stale n All e f = absurd f
pager_paged s Twice n All e f = absurd f
pager_paged s Altered n All e f = absurd f
pager_paged s Unfit n All e f = absurd f
pager_paged s Over n All e f = absurd f

paged_there : {A : Type 0} (page_of : A → Option ℕ) (fault : A → Type 0) → ((r : A) → page_of r ≡ None → fault r → ⊥) → (o : Option A) → if_there page_of o ≡ None → if_fault fault o → ⊥
paged_there page_of fault each None e f = f
paged_there page_of fault each (Some r) e f = each r e f

-- a fault is of a page
pub fault_paged : (s : Recorded) (reason : PageReason) (name : Name) → IsPageFault s reason name → page_at s name ≡ None → ⊥
fault_paged s reason (Guest, n) f e = paged_there guest_page (GuestFault s reason n) (guest_paged s reason n) (slice_get s.guest n) e f
fault_paged s reason (Source, n) f e = paged_there source_page (SourceFault s reason) (source_paged s reason n) (slice_get s.source n) e f
fault_paged s reason (Link, n) f e = f
fault_paged s reason (Lane, n) f e = f
fault_paged s reason (Pager, n) f e = paged_there pager_page (PagerFault s reason n) (pager_paged s reason n) (slice_get s.pager n) e f

below_at : {A : Type 0} (page_of : A → Option ℕ) (pages : ℕ) (log : List A) (n p : ℕ) → ((m q : ℕ) (r : A) → slice_get log m ≡ Some r → page_of r ≡ Some q → q < pages) → (o : Option A) → slice_get log n ≡ o → if_there page_of o ≡ Some p → p < pages
below_at page_of pages log n p each None is e = absurd (cc)
below_at page_of pages log n p each (Some r) is e = each n p r is e

-- the page of a record is one of the machine's
pub page_below : (s : Recorded) → IsSession s → (name : Name) (p : ℕ) → page_at s name ≡ Some p → p < s.geometry.pages
page_below s fits (Guest, n) p e = below_at guest_page s.geometry.pages s.guest n p (guest_within s.geometry s.guest fits.guest).each (slice_get s.guest n) refl e
page_below s fits (Source, n) p e = below_at source_page s.geometry.pages s.source n p (source_within s.geometry s.source fits.source).each (slice_get s.source n) refl e
page_below s fits (Link, n) p e = absurd (cc)
page_below s fits (Lane, n) p e = absurd (cc)
page_below s fits (Pager, n) p e = below_at pager_page s.geometry.pages s.pager n p (pager_within s.version s.geometry s.pager fits.pager).each (slice_get s.pager n) refl e

-- a wrong read, and an early access, is a record of the guest
pub guest_read : (s : Recorded) (name : Name) → IsPageFault s WrongRead name → name.0 ≡ Guest
guest_read s (Guest, n) f = refl
guest_read s (Link, n) f = absurd f
guest_read s (Lane, n) f = absurd f
guest_read s (Source, n) f = go (slice_get s.source n) f
  where
    go : (o : Option SourceRec) → if_fault (SourceFault s WrongRead) o → Source ≡ Guest
    go None f = absurd f
    go (Some r) f = absurd f
guest_read s (Pager, n) f = go (slice_get s.pager n) f
  where
    go : (o : Option PagerRec) → if_fault (PagerFault s WrongRead n) o → Pager ≡ Guest
    go None f = absurd f
    go (Some r) f = absurd f

pub guest_early : (s : Recorded) (name : Name) → IsPageFault s Early name → name.0 ≡ Guest
guest_early s (Guest, n) f = refl
guest_early s (Link, n) f = absurd f
guest_early s (Lane, n) f = absurd f
guest_early s (Source, n) f = go (slice_get s.source n) f
  where
    go : (o : Option SourceRec) → if_fault (SourceFault s Early) o → Source ≡ Guest
    go None f = absurd f
    go (Some r) f = absurd f
guest_early s (Pager, n) f = go (slice_get s.pager n) f
  where
    go : (o : Option PagerRec) → if_fault (PagerFault s Early n) o → Pager ≡ Guest
    go None f = absurd f
    go (Some r) f = absurd f
