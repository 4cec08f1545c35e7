-- Pages whose numbers rise, by recursion.
use Rattle.std.specs.Prelude.{◌≡◌, ℕ, zero, suc, ◌+◌, ◌<◌, ◌≤◌, List, [], ◌∷◌, length, map, refl, slice_index}
use Rattle.std.proofs.Common.{arith, subst}
use Rattle.std.specs.List.{AllByRecursion}
use Rattle.std.specs.List.Sorted.{IsStrictlyIncreasing}
use Rattle.migration_types.specs.declared.pages.InitPage.{InitPage}
use Rattle.migration_types.specs.Extents.{Extent}
use Rattle.migration_types.specs.Pages.{InitPageFits, AreInitPages}
use Rattle.migration_types.specs.Sessions.{Recorded, IsSession}

abbrev pub number_of : InitPage → ℕ
number_of p = p.page

-- the page numbers rise from low on, and high is the next after them
abbrev pub Rise : ℕ → List InitPage → ℕ → Type 0
Rise low [] high = low ≡ high
Rise low (p ∷ ps) high = (low ≤ p.page) × Rise (p.page + 1) ps high

-- pages whose numbers rise are few
pub rise_long : (low high : ℕ) (ps : List InitPage) → Rise low ps high → low + length ps ≤ high
rise_long low high [] r = omega arith
rise_long low high (p ∷ ps) r = let k = rise_long (p.page + 1) high ps r.1 in omega (arith, r.0)

later_rising : (x : ℕ) (xs : List ℕ) → IsStrictlyIncreasing (x ∷ xs) → IsStrictlyIncreasing xs
later_rising x xs h k lt =
    let next : suc k + 1 ≡ suc (k + 1) = omega arith in
    subst (λ (j : ℕ). slice_index (x ∷ xs) (suc k) < slice_index (x ∷ xs) j) next (h (suc k) (omega (arith, lt)))

rise_from : (e : Extent) (low : ℕ) (ps : List InitPage) → AllByRecursion (InitPageFits e) ps → IsStrictlyIncreasing (map number_of ps) → low ≤ e.pages → (0 < length (map number_of ps) → low ≤ slice_index (map number_of ps) 0) → (high : ℕ) × (high ≤ e.pages) × Rise low ps high
rise_from e low [] each rising le first = (low, le, refl)
rise_from e low (p ∷ ps) each rising le first =
    let below = each.0.page in
    let rest = rise_from e (p.page + 1) ps each.1 (later_rising p.page (map number_of ps) rising) (omega arith) (λ lt. let next = rising 0 (omega (arith, lt)) in omega (arith, next)) in
    (rest.0, rest.1, (first (omega arith), rest.2))

-- the page numbers of a session rise
pub rise_of : (e : Extent) (ps : List InitPage) → AreInitPages e ps → (high : ℕ) × (high ≤ e.pages) × Rise 0 ps high
rise_of e ps h = rise_from e 0 ps h.each h.rising (omega arith) (λ lt. omega arith)

-- pages whose numbers rise are in order
pub rise_increases : (low high : ℕ) (ps : List InitPage) → Rise low ps high → IsStrictlyIncreasing (map number_of ps)
rise_increases low high [] r k lt = absurd (omega arith)
rise_increases low high (p ∷ []) r k lt = absurd (omega arith)
rise_increases low high (p ∷ q ∷ ps) r zero lt = omega (arith, r.1.0)
rise_increases low high (p ∷ q ∷ ps) r (suc k) lt =
    let next : suc (k + 1) ≡ suc k + 1 = omega arith in
    subst (λ (j : ℕ). slice_index (map number_of (p ∷ q ∷ ps)) (suc k) < slice_index (map number_of (p ∷ q ∷ ps)) j) next (rise_increases (p.page + 1) high (q ∷ ps) r.1 k (omega arith))

-- a session has at most as many pages as its machine
pub few_init : (s : Recorded) → IsSession s → length s.init ≤ s.geometry.pages
few_init s fits =
    let r = rise_of s.geometry s.init fits.init in
    let long = rise_long 0 r.0 s.init r.2 in
    let top = r.1 in
    omega arith
