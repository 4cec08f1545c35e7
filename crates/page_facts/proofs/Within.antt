-- The records of a session are of the machine's pages.
use Rattle.std.proofs.Common.{◌≡◌, ℕ, ◌<◌, List, Option, Some, subst}
use Rattle.std.specs.List.{AllByRecursion}
use Rattle.migration_types.specs.declared.records.GuestRec.{GuestRec}
use Rattle.migration_types.specs.declared.records.GuestRec.TheVariants.{Read, Write, Release, Miss, Halt, Resume, See}
use Rattle.migration_types.specs.declared.records.SourceRec.{SourceRec}
use Rattle.migration_types.specs.declared.records.SourceRec.TheVariants.{Halted, State, Send, Again, Ask, Done, Back}
use Rattle.migration_types.specs.declared.records.PagerRec.{PagerRec}
use Rattle.migration_types.specs.declared.records.PagerRec.TheVariants.{Got, Pull, Ready, Fault, Join, Want, Place, Zero, Skip, All}
use Rattle.migration_types.specs.Extents.{Extent}
use Rattle.migration_types.specs.declared.version.Version.{Version}
use Rattle.migration_types.specs.Sessions.{GuestRecFits, SourceRecFits, PagerRecFits}
use Rattle.audit_model.proofs.Lists.{each_at}
use Rattle.migration_types.specs.Paged.{guest_page, source_page, pager_page}
use Rattle.migration_types.specs.Paged.{AreWithin}

within : {A : Type 0} (page_of : A → Option ℕ) (Fits : A → Type 0) (pages : ℕ) (log : List A) → ((r : A) (p : ℕ) → Fits r → page_of r ≡ Some p → p < pages) → AllByRecursion Fits log → AreWithin page_of pages log
within page_of Fits pages log each all = record { each = λ n p r is e. each r p (each_at Fits log n r all is) e }

pub guest_within : (e : Extent) (log : List GuestRec) → AllByRecursion (GuestRecFits e) log → AreWithin guest_page e.pages log
guest_within e log all = within guest_page (GuestRecFits e) e.pages log go all
  where
    go : (r : GuestRec) (p : ℕ) → GuestRecFits e r → guest_page r ≡ Some p → p < e.pages
    go (Read v q c x) p fits is = let same : q ≡ p = cc in subst (λ k. k < e.pages) same fits.1
    go (Write v q c x) p fits is = let same : q ≡ p = cc in subst (λ k. k < e.pages) same fits.1
    go (Release v q) p fits is = let same : q ≡ p = cc in subst (λ k. k < e.pages) same fits.1
    go (Miss v q) p fits is = absurd (cc)
    go Halt p fits is = absurd (cc)
    go (Resume i) p fits is = absurd (cc)
    go (See k) p fits is = absurd (cc)

pub source_within : (e : Extent) (log : List SourceRec) → AllByRecursion (SourceRecFits e) log → AreWithin source_page e.pages log
source_within e log all = within source_page (SourceRecFits e) e.pages log go all
  where
    go : (r : SourceRec) (p : ℕ) → SourceRecFits e r → source_page r ≡ Some p → p < e.pages
    go (Send q content) p fits is = let same : q ≡ p = cc in subst (λ k. k < e.pages) same fits.0
    go (Halted h) p fits is = absurd (cc)
    go State p fits is = absurd (cc)
    go (Again i) p fits is = absurd (cc)
    go (Ask i) p fits is = absurd (cc)
    go Done p fits is = absurd (cc)
    go Back p fits is = absurd (cc)

pub pager_within : (version : Version) (e : Extent) (log : List PagerRec) → AllByRecursion (PagerRecFits version e) log → AreWithin pager_page e.pages log
pager_within version e log all = within pager_page (PagerRecFits version e) e.pages log go all
  where
    go : (r : PagerRec) (p : ℕ) → PagerRecFits version e r → pager_page r ≡ Some p → p < e.pages
    go (Place q got content) p fits is = let same : q ≡ p = cc in subst (λ k. k < e.pages) same fits.0
    go (Zero q) p fits is = let same : q ≡ p = cc in subst (λ k. k < e.pages) same fits
    go (Got d) p fits is = absurd (cc)
    go (Pull d) p fits is = absurd (cc)
    go Ready p fits is = absurd (cc)
    go (Fault i) p fits is = absurd (cc)
    go (Join w) p fits is = absurd (cc)
    go (Want q) p fits is = absurd (cc)
    go (Skip k) p fits is = absurd (cc)
    go All p fits is = absurd (cc)
