-- The pages that records send and place.
use Rattle.std.proofs.Common.{◌≡◌, ℕ, Bool, false, Option, refl, sym}
use Rattle.migration_types.specs.declared.records.PagerRec.{PagerRec}
use Rattle.migration_types.specs.declared.records.PagerRec.TheVariants.{Got, Pull, Ready, Fault, Join, Want, Place, Zero, Skip, All}
use Rattle.migration_types.specs.Extents.{Extent}
use Rattle.migration_types.specs.declared.version.Version.{Version}
use Rattle.migration_types.specs.Sessions.{PagerRecFits}
use Rattle.audit_model.specs.Shape.{is_placement_of}
use Rattle.page_store.specs.Tables.{or_here}
use Rattle.page_store.proofs.Noting.{noted_none}
use Rattle.page_facts.specs.Moved.{PagerPage, placed_by}
use Rattle.page_facts.proofs.Judging.{here_by}

pub pager_page : (version : Version) (e : Extent) (r : PagerRec) → PagerRecFits version e r → PagerPage e.pages r
pager_page version e (Place p got content) f = f.0
pager_page version e (Zero p) f = f
pager_page version e (Got d) f = tt
pager_page version e (Pull d) f = tt
pager_page version e Ready f = tt
pager_page version e (Fault m) f = tt
pager_page version e (Join w) f = tt
pager_page version e (Want p) f = tt
pager_page version e (Skip g) f = tt
pager_page version e All f = tt

-- ---- placements

abbrev pub places : ℕ → ℕ → PagerRec → Bool
places page n = is_placement_of page

pub placed_here : (n : ℕ) (r : PagerRec) (f : ℕ → Option ℕ) → placed_by n r f ≡ here_by places n r f
placed_here n r f = go r
  where
    none : (p : ℕ) → f p ≡ or_here (f p) false n
    none p = sym (noted_none (f p) n)

    go : (r : PagerRec) → placed_by n r f ≡ here_by places n r f
    go (Place q got content) = refl
    go (Zero q) = refl
    go (Got d) = λ i p. none p i
    go (Pull d) = λ i p. none p i
    go Ready = λ i p. none p i
    go (Fault m) = λ i p. none p i
    go (Join w) = λ i p. none p i
    go (Want q) = λ i p. none p i
    go (Skip g) = λ i p. none p i
    go All = λ i p. none p i
