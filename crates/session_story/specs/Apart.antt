-- The pages of a misshapen session that its misshapen records do not touch, and the faulty ones among these.
use Rattle.std.specs.Prelude.{◌≡◌, ◌≢◌, ℕ, ◌<◌, true, false, List, Some, slice_get}
use Rattle.std.specs.List.{All, AllPairs}
use Rattle.migration_types.specs.declared.records.LogName.TheVariants.{Guest}
use Rattle.migration_types.specs.declared.records.GuestRec.TheVariants.{See}
use Rattle.migration_types.specs.Receipts.{Name}
use Rattle.migration_types.specs.Sessions.{Recorded}
use Rattle.audit_model.specs.declared.reasons.ShapeReason.{ShapeReason}
use Rattle.audit_model.specs.Shape.{is_right}
use Rattle.audit_model.specs.WindowLaws.{StartsRight}
use Rattle.page_facts.specs.PageFaults.{IsClean}
use Rattle.page_facts.specs.FaultyPages.{IsFaultyPage}
use Rattle.page_facts.specs.declared.faulty.FaultyPage.{FaultyPage}
use Rattle.session_story.specs.Subjects.{page_of}

-- A page that misshapen records do not touch: the session starts as it must, its looks have the right shape, and each
-- misshapen record is about another page.
pub record IsApart (s : Recorded) (page : ℕ) : Type 0 where
  pub starts : StartsRight s
  pub looks : (reason : ShapeReason) (n placement : ℕ) → slice_get s.guest n ≡ Some (See placement) → is_right s reason (Guest, n) ≡ true
  pub others : (reason : ShapeReason) (name : Name) → is_right s reason name ≡ false → (other : ℕ) × (page_of s name ≡ Some other) × (other ≢ page)

-- Of the pages that misshapen records do not touch, those with a fault, in ascending order, each with its first fault.
-- Such a page of the machine that is not in the list is clean.
pub record AreFaultyApart (s : Recorded) (found : List FaultyPage) : Type 0 where
  pub ascending : AllPairs (λ a b. a.fault.page < b.fault.page) found
  pub within : All (λ f. f.fault.page < s.geometry.pages) found
  pub apart : All (λ f. IsApart s f.fault.page) found
  pub faulty : All (IsFaultyPage s) found
  pub others : (page : ℕ) → page < s.geometry.pages → IsApart s page → All (λ f. f.fault.page ≢ page) found → IsClean s page
