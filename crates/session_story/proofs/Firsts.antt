-- The first fault of a page, and the pages that have one.
use Rattle.std.proofs.Common.{◌≡◌, ◌≢◌, ℕ, ◌<◌, List, [], ◌∷◌, length, Option, Some, None, refl, sym, ap, ◌∙◌, subst, arith}
use Rattle.std.proofs.lemmas.List.Elements.{All-nil}
use Rattle.migration_types.specs.Receipts.{Name}
use Rattle.migration_types.specs.Sessions.{Recorded, IsSession}
use Rattle.audit_model.specs.declared.reasons.PageReason.{PageReason}
use Rattle.audit_model.specs.Faults.{IsPageFault}
use Rattle.page_facts.specs.declared.page_fault.PageFault.{PageFault}
use Rattle.page_facts.specs.PageFaults.{page_at, IsFirstFault}
use Rattle.page_facts.specs.declared.faulty.FaultyPage.{FaultyPage}
use Rattle.page_facts.specs.FaultyPages.{AreFaultyPages}
use Rattle.session_story.specs.declared.fault_stories.FaultStory.{FaultStory}
use Rattle.session_story.specs.declared.topic_stories.FullPageStory.{FullPageStory}
use Rattle.session_story.specs.Explained.{IsFaultStory}
use Rattle.session_story.proofs.Paged.{fault_paged, page_below}
use Rattle.session_story.specs.Topics.{IsFirstFaultStory, IsPageTold, IsToldOfItsPage}

module _ (s : Recorded) where
  pub is_fault : (page : ℕ) (f : PageFault) → IsFirstFault s page f → IsPageFault s f.reason (f.log, f.place)
  is_fault page f first = first.is_reason.is_fault

  pub is_of_page : (page : ℕ) (f : PageFault) → IsFirstFault s page f → page_at s (f.log, f.place) ≡ Some page
  is_of_page page f first = first.is_of ∙ ap (λ (p : ℕ). Some p) first.is_among

  pub first_story : (page : ℕ) (f : PageFault) (story : FaultStory) → IsFirstFault s page f → story.fault ≡ f → IsFaultStory s story → IsFirstFaultStory s page story
  first_story page f story first same is = record { is_first = subst (λ (g : PageFault). IsFirstFault s page g) (sym same) first; story = is }

  -- what is told of the page that a record is of
  pub told_of_its : (at own : Option ℕ) (page : ℕ) (t : FullPageStory) → at ≡ own → at ≡ Some page → IsPageTold s page t → IsToldOfItsPage s own (Some t)
  told_of_its at own page t same is told = subst (λ (o : Option ℕ). IsToldOfItsPage s o (Some t)) (sym is ∙ same) told

-- a session with a fault of a page has a page with a fault
pub some_faulty : (s : Recorded) → IsSession s → (reason : PageReason) (name : Name) (found : List FaultyPage) → IsPageFault s reason name → AreFaultyPages s found → 0 < length found
some_faulty s fits reason name (f ∷ found) fault are = omega arith
some_faulty s fits reason name [] fault are = go (page_at s name) refl
  where
    go : (o : Option ℕ) → page_at s name ≡ o → 0 < 0
    go None at = absurd (fault_paged s reason name fault at)
    go (Some page) at =
        let clean = are.others page (page_below s fits name page at) (All-nil (λ (f : FaultyPage). f.fault.page ≢ page)) in
        absurd (clean.each page name refl at reason fault)
