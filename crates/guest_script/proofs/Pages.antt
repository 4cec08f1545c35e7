-- Initial pages, one after another.
use Rattle.std.proofs.Common.{◌≡◌, ℕ, zero, suc, ◌+◌, ◌<◌, ◌≤◌, List, [], ◌∷◌, ◌++◌, length, map, take, get_or, refl, sym, ap, subst, arith}
use Rattle.std.specs.List.{AllByRecursion}
use Rattle.std.specs.List.Sorted.{IsStrictlyIncreasing}
use Rattle.std.proofs.lemmas.List.{take_more}
use Rattle.std.proofs.lemmas.List.Kept.{AllPairs-from_increasing}
use Rattle.std.proofs.lemmas.List.Quantifiers.{all_pairs_push}
use Rattle.migration_types.specs.declared.pages.InitPage.{InitPage}
use Rattle.migration_types.specs.Extents.{Extent}
use Rattle.migration_types.specs.Pages.{AreInitPages, InitPageFits}
use Rattle.guest_script.specs.ScriptFaults.{IsFirstWrong}
use Rattle.guest_script.proofs.Lists.{all_append, all_at}

abbrev pub numbers : List InitPage → List ℕ
numbers ps = map (λ p. p.page) ps

-- the pages have numbers below this one
abbrev pub AreBelow : ℕ → List InitPage → Type 0
AreBelow n ps = AllByRecursion (λ p. p.page < n) ps

wider : (m n : ℕ) (ps : List InitPage) → m ≤ n → AreBelow m ps → AreBelow n ps
wider m n [] le h = tt
wider m n (p ∷ ps) le h = (omega (arith, le, h.0), wider m n ps le h.1)

below_each : (n : ℕ) (ps : List InitPage) → ((k d : ℕ) → k < length (numbers ps) → get_or (numbers ps) k d < n) → AreBelow n ps
below_each n [] h = tt
below_each n (p ∷ ps) h = (h 0 0 (omega arith), below_each n ps (λ k d lt. h (suc k) d (omega (arith, lt))))

front_at : (ps qs : List InitPage) (k d : ℕ) → k < length (numbers ps) → get_or (numbers (ps ++ qs)) k d ≡ get_or (numbers ps) k d
front_at [] qs k d lt = absurd (omega (arith, lt))
front_at (p ∷ ps) qs zero d lt = refl
front_at (p ∷ ps) qs (suc k) d lt = front_at ps qs k d (omega (arith, lt))

last_at : (ps : List InitPage) (p : InitPage) (d : ℕ) → get_or (numbers (ps ++ p ∷ [])) (length (numbers ps)) d ≡ p.page
last_at [] p d = refl
last_at (q ∷ ps) p d = last_at ps p d

long : (ps qs : List InitPage) → length (numbers (ps ++ qs)) ≡ length (numbers ps) + length qs
long [] [] = refl
long [] (q ∷ qs) = let n = long [] qs in omega (arith, n)
long (p ∷ ps) qs = let n = long ps qs in omega (arith, n)

-- the first of rising pages rise
pub rise_front : (ps qs : List InitPage) → IsStrictlyIncreasing (numbers (ps ++ qs)) → IsStrictlyIncreasing (numbers ps)
rise_front ps qs h k lt =
    let less = h k (omega (arith, lt, long ps qs)) in
    omega (arith, less, front_at ps qs k 0 (omega (arith, lt)), front_at ps qs (k + 1) 0 lt)

numbers_push : (ps : List InitPage) (p : InitPage) → numbers (ps ++ p ∷ []) ≡ numbers ps ++ p.page ∷ []
numbers_push [] p = refl
numbers_push (q ∷ ps) p = ap (λ (t : List ℕ). q.page ∷ t) (numbers_push ps p)

below_at : (n : ℕ) (ps : List InitPage) (k d : ℕ) → AreBelow n ps → k < length (numbers ps) → get_or (numbers ps) k d < n
below_at n [] k d h lt = absurd (omega (arith, lt))
below_at n (p ∷ ps) zero d h lt = h.0
below_at n (p ∷ ps) (suc k) d h lt = below_at n ps k d h.1 (omega (arith, lt))

-- where all are below the next page, they rise with it
rise_push : (ps : List InitPage) (p : InitPage) → IsStrictlyIncreasing (numbers ps) → AreBelow p.page ps → IsStrictlyIncreasing (numbers (ps ++ p ∷ []))
rise_push ps p h below = subst IsStrictlyIncreasing (sym (numbers_push ps p)) (λ k lt. all_pairs_push (λ (x y : ℕ). x < y) (numbers ps) p.page (AllPairs-from_increasing (numbers ps) h) (λ j d less. below_at p.page ps j d below less) k (k + 1) 0 (omega arith) lt)

-- and where they rise with it, all are below it
below_last : (ps : List InitPage) (p : InitPage) → IsStrictlyIncreasing (numbers (ps ++ p ∷ [])) → AreBelow p.page ps
below_last ps p h = below_each p.page ps (λ k d lt.
    let less = AllPairs-from_increasing (numbers (ps ++ p ∷ [])) h k (length (numbers ps)) d lt (omega (arith, long ps (p ∷ []))) in
    omega (arith, less, front_at ps (p ∷ []) k d lt, last_at ps p d))

-- pages that stand, and the least number that the next may have
pub record Stand (e : Extent) (ps : List InitPage) (least : ℕ) : Type 0 where
  pub fit : AreInitPages e ps
  pub below : AreBelow least ps
  pub is_least : (n : ℕ) → AreBelow n ps → least ≤ n

-- one page more
pub page_more : (e : Extent) (ps : List InitPage) (n : ℕ) (p : InitPage) (least : ℕ) → n < length ps → p ≡ get_or ps n p
    → Stand e (take n ps) least → (least ≤ p.page) × InitPageFits e p
    → Stand e (take (n + 1) ps) (p.page + 1)
page_more e ps n p least lt is stand fits =
    let more : take (n + 1) ps ≡ take n ps ++ p ∷ [] = subst (λ (x : InitPage). take (n + 1) ps ≡ take n ps ++ x ∷ []) (sym is) (take_more ps n p lt) in
    let front = take n ps in
    rw more (record {
      fit = record {
        each = all_append (InitPageFits e) front (p ∷ []) stand.fit.each (fits.1, tt);
        rising = rise_push front p stand.fit.rising (wider least p.page front fits.0 stand.below);
      };
      below = all_append (λ (q : InitPage). q.page < p.page + 1) front (p ∷ []) (wider least (p.page + 1) front (omega (arith, fits.0)) stand.below) (omega arith, tt);
      is_least = λ m h. let less = all_at (λ (q : InitPage). q.page < m) front p [] h in omega (arith, less);
    })

-- a page that may not stand there
pub page_wrong : (e : Extent) (ps : List InitPage) (n : ℕ) (p : InitPage) (least : ℕ) → n < length ps → p ≡ get_or ps n p
    → Stand e (take n ps) least → ((least ≤ p.page) × InitPageFits e p → ⊥)
    → IsFirstWrong (AreInitPages e) ps n
page_wrong e ps n p least lt is stand wrong =
    let more : take (n + 1) ps ≡ take n ps ++ p ∷ [] = subst (λ (x : InitPage). take (n + 1) ps ≡ take n ps ++ x ∷ []) (sym is) (take_more ps n p lt) in (
      stand.fit,
      λ h.
          let whole : AreInitPages e (take n ps ++ p ∷ []) = subst (AreInitPages e) more h in
          wrong (stand.is_least p.page (below_last (take n ps) p whole.rising), all_at (InitPageFits e) (take n ps) p [] whole.each),
    )
