-- What went wrong with a page first.
use Rattle.std.proofs.Common.{◌≡◌, ℕ, ◌&&◌, not, Bool, true, false, refl, Option, Some, None, MatchOption, sym, ap, ◌∙◌}
use Rattle.std.proofs.lemmas.Bool.{and_parts, eqb-true}
use Rattle.migration_types.specs.Sessions.{Recorded}
use Rattle.page_facts.specs.Findings.{IsFindings}
use Rattle.page_facts.specs.declared.findings.Findings.{Findings}
use Rattle.page_facts.specs.Judged.{releases_at}
use Rattle.session_story.specs.Amended.{is_number}
use Rattle.session_story.specs.Explained.{IsExplained, IsGivenRight, IsLookBeforeTouch, IsMissing, IsPlacedOnce, IsPlacedOver, IsUnexplained, IsUnplaced, IsUsedEarly, IsWrong, first_placement, first_touch, is_unplaced, is_used_by}
use Rattle.session_story.specs.inner.Contents.{used_early}
use Rattle.session_story.specs.Giving.{IsGiver, is_unseen}
use Rattle.session_story.specs.Values.{IsOtherAtHalt}
use Rattle.session_story.proofs.Givers.{one_giver, unseen_follow}
use Rattle.session_story.specs.declared.looks.Look.{Look}
use Rattle.session_story.specs.declared.values.CellValue.{CellValue}
use Rattle.session_story.specs.declared.fault_stories.PageCause.{PageCause}
use Rattle.session_story.specs.declared.fault_stories.PageCause.TheVariants.{Sent, Placed, Zeroed, Again as PlacedAgain, Over as PlacedOver, Early as UsedEarly, Unplaced, Lost, Unrecorded}

-- a page that is found to be placed, or not to need it, is not one that is never placed
pub is_placed : (s : Recorded) (page : ℕ) (f : Findings) → IsFindings s page f → is_unplaced f ≡ false → IsUnplaced s page → ⊥
is_placed s page f is needs_none never =
    let placement = is.placement in
    let touch = is.touch in
    let releases = is.releases in
    absurd (cc)

-- and one that is found to be neither is
pub not_placed : (s : Recorded) (page : ℕ) (f : Findings) → IsFindings s page f → is_unplaced f ≡ true → IsUnplaced s page
not_placed s page f is needs =
    let placement = is.placement in
    let touch = is.touch in
    let releases = is.releases in
    cc

-- ---- a page that comes right at first

module _ (s : Recorded) (page : ℕ) (f : Findings) (is : IsFindings s page f) where
  pub used : (seen : Option Look) (touch : ℕ) → IsLookBeforeTouch s page seen → f.touch ≡ Some touch → used_early seen f.placement f.releases ≡ true → IsUsedEarly s page touch seen
  used seen touch look at early = go f.placement refl early
    where
      first : first_touch s page ≡ Some touch
      first = sym is.touch ∙ at

      kept : (b : Bool) → not b ≡ true → b ≡ false
      kept true e = sym e
      kept false e = refl

      go : (o : Option ℕ) → f.placement ≡ o → used_early seen o f.releases ≡ true → IsUsedEarly s page touch seen
      go None there e = absurd (cc)
      go (Some place) there e =
          let parts = and_parts (not f.releases) (is_unseen seen place) e in
          record {
            place = place;
            is_first = sym is.placement ∙ there;
            is_touch = first;
            needs = ap (λ (o : Option ℕ). releases_at s o) (sym is.touch) ∙ (sym is.releases ∙ kept f.releases parts.0);
            follows = (unseen_follow s touch seen (look touch first) place).0 parts.1;
            seen = look touch first;
          }

  pub unused : (seen : Option Look) → IsLookBeforeTouch s page seen → used_early seen f.placement f.releases ≡ false → (touch : ℕ) (look : Option Look) → IsUsedEarly s page touch look → ⊥
  unused seen look late touch l early =
      let there : f.placement ≡ Some early.place = is.placement ∙ early.is_first in
      let needs : f.releases ≡ false = is.releases ∙ (ap (λ (o : Option ℕ). releases_at s o) is.touch ∙ early.needs) in
      let unseen : is_unseen seen early.place ≡ true = (unseen_follow s touch seen (look touch early.is_touch) early.place).1 early.follows in
      let holds : used_early seen f.placement f.releases ≡ true = ap (λ (o : Option ℕ). used_early seen o f.releases) there ∙ (ap (λ b. not b && is_unseen seen early.place) needs ∙ unseen) in
      absurd (cc)

  pub untouched : f.touch ≡ None → (touch : ℕ) (look : Option Look) → IsUsedEarly s page touch look → ⊥
  untouched none touch look early = let both : None ≡ Some touch = sym none ∙ is.touch ∙ early.is_touch in absurd (cc)

  pub none_missing : is_unplaced f ≡ false → ((touch : ℕ) (look : Option Look) → IsUsedEarly s page touch look → ⊥) → (c : PageCause) → IsMissing s page c → ⊥
  none_missing needs_none late (Sent w) missing = missing
  none_missing needs_none late (Placed w) missing = missing
  none_missing needs_none late (Zeroed n) missing = missing
  none_missing needs_none late (PlacedAgain n) missing = missing
  none_missing needs_none late (PlacedOver n look) missing = missing
  none_missing needs_none late (UsedEarly touch look) missing = late touch look missing
  none_missing needs_none late Unplaced missing = is_placed s page f is needs_none missing
  none_missing needs_none late (Lost l) missing = missing
  none_missing needs_none late Unrecorded missing = missing

-- ---- what gives the read its value

-- it is the first placement
pub is_it : (o : Option ℕ) (q : ℕ) → is_number o q ≡ true → o ≡ Some q
is_it None q e = absurd (cc)
is_it (Some m) q e = ap (λ (k : ℕ). Some k) (eqb-true m q e)

module _ (s : Recorded) (n page : ℕ) where
  -- where nothing gives it, nothing gives a wrong one, or one again
  pub none_wrong : ((q : ℕ) → IsGiver s n q → ⊥) → IsGivenRight s n page
  none_wrong none place held wrong = none place wrong.gives

  pub none_again : ((q : ℕ) → IsGiver s n q → ⊥) → IsPlacedOnce s n page
  none_again none q again = none q again.gives

  pub not_wrong : ((h : CellValue) → IsOtherAtHalt s n h → ⊥) → IsGivenRight s n page
  not_wrong none place held wrong = none held wrong.other

  pub once : (q : ℕ) → first_placement s page ≡ Some q → IsGiver s n q → IsPlacedOnce s n page
  once q first gives p again = again.is_later (first ∙ ap (λ (k : ℕ). Some k) (one_giver s n q p gives again.gives))

  pub not_over : releases_at s (first_touch s page) ≡ false → (place : ℕ) (look : Option Look) → IsPlacedOver s n page place look → ⊥
  not_over kept place look given = let both : false ≡ true = sym kept ∙ given.releases in absurd (cc)

  -- a page that is not given a wrong value, nor again, nor over a release, is missing or it is not
  pub then_missing : IsGivenRight s n page → IsPlacedOnce s n page → ((place : ℕ) (look : Option Look) → IsPlacedOver s n page place look → ⊥) → (m : Option PageCause) → MatchOption m ((c : PageCause) → IsMissing s page c → ⊥) (IsMissing s page) → MatchOption m ((c : PageCause) → IsWrong s n page c → ⊥) (IsWrong s n page)
  then_missing right only over (Some c) is = go c is
    where
      go : (c : PageCause) → IsMissing s page c → IsWrong s n page c
      go (Sent w) missing = absurd missing
      go (Placed w) missing = absurd missing
      go (Zeroed k) missing = absurd missing
      go (PlacedAgain k) missing = absurd missing
      go (PlacedOver k look) missing = absurd missing
      go (UsedEarly touch look) missing = (right, (only, missing))
      go Unplaced missing = (right, (only, missing))
      go (Lost l) missing = absurd missing
      go Unrecorded missing = absurd missing
  then_missing right only over None none = λ c wrong. go c wrong
    where
      go : (c : PageCause) → IsWrong s n page c → ⊥
      go (Sent w) wrong = right wrong.placement w.held wrong.given
      go (Placed w) wrong = right w.place w.held wrong.given
      go (Zeroed k) wrong = right k wrong.0 wrong.1.given
      go (PlacedAgain k) wrong = only k wrong
      go (PlacedOver k look) wrong = over k look wrong.1
      go (UsedEarly touch look) wrong = none (UsedEarly touch look) wrong.1.1
      go Unplaced wrong = none Unplaced wrong.1.1
      go (Lost l) wrong = wrong.1.1
      go Unrecorded wrong = wrong.1.1

  -- a read at the target
  pub explained : is_used_by (first_touch s page) n ≡ true → (m : Option PageCause) → MatchOption m ((c : PageCause) → IsWrong s n page c → ⊥) (IsWrong s n page) → MatchOption m (IsUnexplained s n page) (IsExplained s n page)
  explained late (Some c) wrong = (late, wrong)
  explained late None none = λ c wrong. none c wrong.1
