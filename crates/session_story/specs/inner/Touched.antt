-- The pages that misshapen records touch, and the least of the faulty ones among the others.
use Rattle.std.specs.Prelude.{◌≡◌, ◌≢◌, ℕ, Bool, true, false, not, ◌||◌, nat_le, List, Contains, Option, Some, None, slice_get, if◌then◌else◌}
use Rattle.std.specs.List.{All}
use Rattle.migration_types.specs.declared.records.LogName.TheVariants.{Guest}
use Rattle.migration_types.specs.declared.records.GuestRec.{GuestRec}
use Rattle.migration_types.specs.declared.records.GuestRec.TheVariants.{See}
use Rattle.migration_types.specs.Receipts.{Name}
use Rattle.migration_types.specs.Sessions.{Recorded}
use Rattle.audit_model.specs.declared.reasons.ShapeReason.TheVariants.{Start}
use Rattle.audit_model.specs.Shape.{is_right, passes}
use Rattle.page_facts.specs.declared.faulty.FaultyPage.{FaultyPage}
use Rattle.page_store.specs.Tables.{Values, pages_of, values}
use Rattle.cert_check.specs.ShapeFaults.{name_of}
use Rattle.cert_check.specs.declared.verdict.ShapeFault.{ShapeFault}
use Rattle.session_story.specs.Apart.{IsApart}
use Rattle.session_story.specs.Subjects.{page_of}

-- whether it looks at a placement
abbrev pub looks : GuestRec → Bool
looks (See placement) = true
looks _ = false

-- whether the record with this name looks at a placement
abbrev pub is_look : Recorded → Name → Bool
is_look s (Guest, n) = passes looks (slice_get s.guest n)
is_look s _ = false

-- The one page that a misshapen record touches, which it is about. None if it may touch any page: it is a look, it is
-- of the start, or it is about no page.
abbrev pub page_touched : Recorded → Name → Option ℕ
page_touched s name = if is_look s name || not (is_right s Start name) then None else page_of s name

-- the page that this misshapen record touches is another one
abbrev pub Leaves : Recorded → ℕ → ShapeFault → Type 0
Leaves s page fault = (other : ℕ) × (page_touched s (name_of fault) ≡ Some other) × (other ≢ page)

-- marks for exactly the pages that these misshapen records touch, which touch one page each
pub record AreTouched (s : Recorded) (faults : List ShapeFault) (marks : Values Bool) : Type 0 where
  pub pages_are : pages_of marks ≡ s.geometry.pages
  pub left : (page : ℕ) → values marks page ≡ false → All (Leaves s page) faults
  pub touched : (page : ℕ) → values marks page ≡ true → (fault : ShapeFault) × Contains faults fault × (page_touched s (name_of fault) ≡ Some page)

-- marks for exactly the pages that are not apart
pub record AreNotApart (s : Recorded) (marks : Values Bool) : Type 0 where
  pub pages_are : pages_of marks ≡ s.geometry.pages
  pub apart : (page : ℕ) → values marks page ≡ false → IsApart s page
  pub not_apart : (page : ℕ) → values marks page ≡ true → IsApart s page → ⊥

-- no page is apart
abbrev pub NoneApart : Recorded → Type 0
NoneApart s = (page : ℕ) → IsApart s page → ⊥

-- the page whose fault has the lesser line, or the first if the lines are the same
abbrev pub lesser : Option FaultyPage → FaultyPage → FaultyPage
lesser None page = page
lesser (Some one) page = if nat_le one.line page.line then one else page
