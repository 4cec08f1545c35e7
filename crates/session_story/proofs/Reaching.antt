-- The page that a record is about.
use Rattle.std.proofs.Common.{◌≡◌, ℕ, zero, suc, ◌+◌, ◌<◌, List, Option, Some, None, refl, ap, subst, arith}
use Rattle.std.specs.Prelude.{slice_get}
use Rattle.std.specs.List.{AllByRecursion}
use Rattle.migration_types.specs.declared.records.LogName.TheVariants.{Guest, Source, Link, Lane, Pager}
use Rattle.migration_types.specs.declared.records.GuestRec.{GuestRec}
use Rattle.migration_types.specs.declared.records.GuestRec.TheVariants.{Read, Write, Release, Miss, Halt, Resume, See}
use Rattle.migration_types.specs.declared.records.SourceRec.{SourceRec}
use Rattle.migration_types.specs.declared.records.SourceRec.TheVariants.{Halted, State, Send, Again, Ask, Done, Back}
use Rattle.migration_types.specs.declared.records.LinkRec.{LinkRec}
use Rattle.migration_types.specs.declared.records.LinkRec.TheVariants.{Down, Up}
use Rattle.migration_types.specs.declared.records.LaneRec.{LaneRec}
use Rattle.migration_types.specs.declared.records.LaneRec.TheVariants.{Down as LaneDown}
use Rattle.migration_types.specs.declared.records.PagerRec.{PagerRec}
use Rattle.migration_types.specs.declared.records.PagerRec.TheVariants.{Got, Pull, Ready, Fault, Join, Want, Place, Zero, Skip, All}
use Rattle.migration_types.specs.Receipts.{Name}
use Rattle.migration_types.specs.Sessions.{Recorded, IsSession, GuestRecFits, SourceRecFits, LinkRecFits, LaneRecFits, PagerRecFits}
use Rattle.audit_model.proofs.Lists.{each_at}
use Rattle.session_story.specs.Subjects.{about, about_in, guest_about, source_about, link_about, lane_about, pager_about, page_by, page_within}
use Rattle.session_story.specs.declared.subjects.About.{About}
use Rattle.session_story.specs.declared.subjects.About.TheVariants.{Page, Record, Nothing}

-- one step on the way to a page
pub step : (s : Recorded) (name : Name) (steps : ℕ) → 0 < steps → (n : ℕ) → n + 1 ≡ steps → page_within steps s name ≡ page_by (page_within n s) (about s name)
step s name zero lt n e = absurd (omega arith)
step s name (suc k) lt n e = ap (λ (m : ℕ). page_by (page_within m s) (about s name)) (omega (arith, e))

-- ---- it is one of the machine's

below_in : {A : Type 0} (about_of : A → About) (Fits : A → Type 0) (pages : ℕ) (log : List A) (n p : ℕ) → AllByRecursion Fits log → ((r : A) → Fits r → about_of r ≡ Page p → p < pages) → about_in about_of (slice_get log n) ≡ Page p → p < pages
below_in about_of Fits pages log n p all each is = go (slice_get log n) refl is
  where
    go : (o : Option _) → slice_get log n ≡ o → about_in about_of o ≡ Page p → p < pages
    go None at is = absurd (cc)
    go (Some r) at is = each r (each_at Fits log n r all at) is

module _ (s : Recorded) (fits : IsSession s) where
  guest_below : (p : ℕ) (r : GuestRec) → GuestRecFits s.geometry r → guest_about r ≡ Page p → p < s.geometry.pages
  guest_below p (Read v q c x) fit is = let same : q ≡ p = cc in subst (λ k. k < s.geometry.pages) same fit.1
  guest_below p (Write v q c x) fit is = let same : q ≡ p = cc in subst (λ k. k < s.geometry.pages) same fit.1
  guest_below p (Release v q) fit is = let same : q ≡ p = cc in subst (λ k. k < s.geometry.pages) same fit.1
  guest_below p (Miss v q) fit is = let same : q ≡ p = cc in subst (λ k. k < s.geometry.pages) same fit.1
  guest_below p Halt fit is = absurd (cc)
  guest_below p (Resume i) fit is = absurd (cc)
  guest_below p (See k) fit is = absurd (cc)

  source_below : (p : ℕ) (r : SourceRec) → SourceRecFits s.geometry r → source_about r ≡ Page p → p < s.geometry.pages
  source_below p (Halted h) fit is = absurd (cc)
  source_below p State fit is = absurd (cc)
  source_below p (Send q content) fit is = let same : q ≡ p = cc in subst (λ k. k < s.geometry.pages) same fit.0
  source_below p (Again i) fit is = absurd (cc)
  source_below p (Ask i) fit is = absurd (cc)
  source_below p Done fit is = absurd (cc)
  source_below p Back fit is = absurd (cc)

  link_below : (p : ℕ) (r : LinkRec) → LinkRecFits s.geometry r → link_about r ≡ Page p → p < s.geometry.pages
  link_below p (Down i) fit is = absurd (cc)
  link_below p (Up i) fit is = absurd (cc)

  lane_below : (p : ℕ) (r : LaneRec) → LaneRecFits s.version s.geometry r → lane_about r ≡ Page p → p < s.geometry.pages
  lane_below p (LaneDown i) fit is = absurd (cc)

  pager_below : (p : ℕ) (r : PagerRec) → PagerRecFits s.version s.geometry r → pager_about r ≡ Page p → p < s.geometry.pages
  pager_below p (Got d) fit is = absurd (cc)
  pager_below p (Pull d) fit is = absurd (cc)
  pager_below p Ready fit is = absurd (cc)
  pager_below p (Fault i) fit is = absurd (cc)
  pager_below p (Join w) fit is = absurd (cc)
  pager_below p (Want q) fit is = let same : q ≡ p = cc in subst (λ k. k < s.geometry.pages) same fit
  pager_below p (Place q got content) fit is = let same : q ≡ p = cc in subst (λ k. k < s.geometry.pages) same fit.0
  pager_below p (Zero q) fit is = let same : q ≡ p = cc in subst (λ k. k < s.geometry.pages) same fit
  pager_below p (Skip k) fit is = absurd (cc)
  pager_below p All fit is = absurd (cc)

  about_below : (name : Name) (p : ℕ) → about s name ≡ Page p → p < s.geometry.pages
  about_below (Guest, n) p is = below_in guest_about (GuestRecFits s.geometry) s.geometry.pages s.guest n p fits.guest (guest_below p) is
  about_below (Source, n) p is = below_in source_about (SourceRecFits s.geometry) s.geometry.pages s.source n p fits.source (source_below p) is
  about_below (Link, n) p is = below_in link_about (LinkRecFits s.geometry) s.geometry.pages s.link n p fits.link (link_below p) is
  about_below (Lane, n) p is = below_in lane_about (LaneRecFits s.version s.geometry) s.geometry.pages s.lane n p fits.lane (lane_below p) is
  about_below (Pager, n) p is = below_in pager_about (PagerRecFits s.version s.geometry) s.geometry.pages s.pager n p fits.pager (pager_below p) is

  pub within_below : (steps : ℕ) (name : Name) (p : ℕ) → page_within steps s name ≡ Some p → p < s.geometry.pages
  within_below zero name p is = absurd (cc)
  within_below (suc steps) name p is = go (λ next. within_below steps next p) (about s name) refl is
    where
      go : ((next : Name) → page_within steps s next ≡ Some p → p < s.geometry.pages) → (a : About) → about s name ≡ a → page_by (page_within steps s) a ≡ Some p → p < s.geometry.pages
      go rest (Page q) at is = let same : q ≡ p = cc in subst (λ k. k < s.geometry.pages) same (about_below name q at)
      go rest (Record log place) at is = rest (log, place) is
      go rest Nothing at is = absurd (cc)
