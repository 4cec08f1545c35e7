-- The steps of what a log's records need of another log.
use Rattle.std.proofs.Common.{◌≡◌, ℕ, zero, suc, ◌+◌, ◌<◌, ◌≤◌, Bool, true, false, List, [], ◌∷◌, ◌++◌, length, get_or, Option, refl, sym, ap, subst, ◌∙◌, arith, leb}
use Rattle.std.specs.Prelude.{nat_lt, nat_le, if◌then◌else◌}
use Rattle.std.specs.List.Sorted.{IsPartitionPoint, IsNonDecreasingBy}
use Rattle.std.proofs.lemmas.Bool.Decides.{nat_tests}
use Rattle.std.proofs.lemmas.List.{append-nil}
use Rattle.migration_types.specs.declared.records.LogName.{LogName}
use Rattle.migration_types.specs.Receipts.{Name}
use Rattle.std.specs.Global.{Vec}
use Rattle.recorder_files.specs.declared.steps.Step.{Step}
use Rattle.recorder_files.specs.declared.steps.Steps.{Steps}
use Rattle.recorder_files.specs.Reaches.{need, needed_on, steps_on, AreSteps}
use Rattle.recorder_files.specs.inner.Reaches.{before_need}

pub needed_end : (other : LogName) (low : ℕ) (names : List (Option Name)) (named : Option Name) → needed_on other low (names ++ named ∷ []) ≡ needed_on other (needed_on other low names) (named ∷ [])
needed_end other low [] named = refl
needed_end other low (x ∷ names) named = needed_end other (if nat_lt low (need other x) then need other x else low) names named

pub steps_end : (other : LogName) (low place : ℕ) (names : List (Option Name)) (named : Option Name) → steps_on other low place (names ++ named ∷ []) ≡ steps_on other low place names ++ steps_on other (needed_on other low names) (place + length names) (named ∷ [])
steps_end other low place [] named = ap (λ p. steps_on other low p (named ∷ [])) (omega arith)
steps_end other low place (x ∷ names) named = go (λ m. steps_end other m (suc place) names named ∙ ap (λ p. steps_on other m (suc place) names ++ steps_on other (needed_on other m names) p (named ∷ [])) (omega arith)) (nat_lt low (need other x))
  where
    go : ((m : ℕ) → steps_on other m (suc place) (names ++ named ∷ []) ≡ steps_on other m (suc place) names ++ steps_on other (needed_on other m names) (place + suc (length names)) (named ∷ [])) → (b : Bool) →
        (if b then record { needed = need other x; place = place } ∷ steps_on other (need other x) (suc place) (names ++ named ∷ []) else steps_on other low (suc place) (names ++ named ∷ []))
        ≡ (if b then record { needed = need other x; place = place } ∷ steps_on other (need other x) (suc place) names else steps_on other low (suc place) names)
        ++ steps_on other (needed_on other (if b then need other x else low) names) (place + suc (length names)) (named ∷ [])
    go later true = ap (λ xs. record { needed = need other x; place = place } ∷ xs) (later (need other x))
    go later false = later low

-- each step needs more than the one before it
abbrev RisesFrom : ℕ → List Step → Type 0
RisesFrom low [] = Unit {0}
RisesFrom low (step ∷ steps) = (low < step.needed) × RisesFrom step.needed steps

steps_rise : (other : LogName) (low place : ℕ) (names : List (Option Name)) → RisesFrom low (steps_on other low place names)
steps_rise other low place [] = tt
steps_rise other low place (x ∷ names) = go (λ m. steps_rise other m (suc place) names) (nat_lt low (need other x)) refl
  where
    go : ((m : ℕ) → RisesFrom m (steps_on other m (suc place) names)) → (b : Bool) → nat_lt low (need other x) ≡ b → RisesFrom low (if b then record { needed = need other x; place = place } ∷ steps_on other (need other x) (suc place) names else steps_on other low (suc place) names)
    go later true e = (grind (arith, nat_tests), later (need other x))
    go later false e = later low

least : (low : ℕ) (steps : List Step) (i : ℕ) (d : Step) → RisesFrom low steps → i < length steps → low < (get_or steps i d).needed
least low [] i d r lt = absurd (omega arith)
least low (step ∷ steps) zero d r lt = r.0
least low (step ∷ steps) (suc i) d r lt = let b = least step.needed steps i d r.1 (omega arith) in let a = r.0 in omega (arith, a, b)

rising : (low : ℕ) (steps : List Step) → RisesFrom low steps → IsNonDecreasingBy (λ s. s.needed) steps
rising low [] r i j d le lt = absurd (omega arith)
rising low (step ∷ steps) r zero zero d le lt = omega arith
rising low (step ∷ steps) r zero (suc j) d le lt = let b = least step.needed steps j d r.1 (omega arith) in omega (arith, b)
rising low (step ∷ steps) r (suc i) zero d le lt = absurd (omega arith)
rising low (step ∷ steps) r (suc i) (suc j) d le lt = rising step.needed steps r.1 i j d (omega arith) (omega arith)

-- the place of the first step that needs more than there are, or a count where there is none
abbrev stop : List Step → ℕ → ℕ → ℕ
stop [] there count = count
stop (step ∷ steps) there count = if nat_le step.needed there then stop steps there count else step.place

stop_is : (other : LogName) (low place there count : ℕ) (names : List (Option Name)) → low ≤ there → count ≡ place + length names → stop (steps_on other low place names) there count ≡ place + before_need other there names
stop_is other low place there count [] le e = e
stop_is other low place there count (x ∷ names) le e = go (λ m h. stop_is other m (suc place) there count names h (omega arith) ∙ omega arith) (nat_lt low (need other x)) (nat_le (need other x) there) refl refl
  where
    go : ((m : ℕ) → m ≤ there → stop (steps_on other m (suc place) names) there count ≡ place + suc (before_need other there names)) → (b t : Bool) → nat_lt low (need other x) ≡ b → nat_le (need other x) there ≡ t →
        stop (if b then record { needed = need other x; place = place } ∷ steps_on other (need other x) (suc place) names else steps_on other low (suc place) names) there count
        ≡ place + (if t then suc (before_need other there names) else 0)
    go later true true p q = rw q (later (need other x) (grind (arith, nat_tests)))
    go later true false p q = rw q (omega arith)
    go later false true p q = later low le
    go later false false p q = let h : there < need other x = grind (arith, nat_tests) in let k : need other x ≤ low = grind (arith, nat_tests) in absurd (omega arith)

-- a search that goes by what steps need finds it
found : (steps : List Step) (there count i : ℕ) (d : Step) → i < length steps → IsPartitionPoint (λ y. leb y.needed there ≡ true) (λ y. leb y.needed there ≡ false) steps i → stop steps there count ≡ (get_or steps i d).place
found [] there count i d lt point = absurd (omega arith)
found (step ∷ steps) there count zero d lt point = let h : nat_le step.needed there ≡ false = point.1 0 d (omega arith) lt in rw h refl
found (step ∷ steps) there count (suc i) d lt point = let h : nat_le step.needed there ≡ true = point.0 0 d (omega arith) (omega arith) in rw h (found steps there count i d (omega arith) ((λ k e a b. point.0 (suc k) e (omega arith) (omega arith)), (λ k e a b. point.1 (suc k) e (omega arith) (omega arith))))

not_found : (steps : List Step) (there count : ℕ) → ((k : ℕ) (d : Step) → k < length steps → nat_le (get_or steps k d).needed there ≡ true) → stop steps there count ≡ count
not_found [] there count all = refl
not_found (step ∷ steps) there count all = let h : nat_le step.needed there ≡ true = all 0 step (omega arith) in rw h (not_found steps there count (λ k d lt. all (suc k) d (omega arith)))

abbrev pub PartsAt : ℕ → List Step → ℕ → Type 0
PartsAt there steps i = IsPartitionPoint (λ y. leb y.needed there ≡ true) (λ y. leb y.needed there ≡ false) steps i

pub steps_parted : (other : LogName) (names : List (Option Name)) (steps : List Step) → steps ≡ steps_on other 0 0 names → IsNonDecreasingBy (λ s. s.needed) steps
steps_parted other names steps e = subst (λ xs. IsNonDecreasingBy (λ (s : Step). s.needed) xs) (sym e) (rising 0 (steps_on other 0 0 names) (steps_rise other 0 0 names))

pub at_step : (other : LogName) (names : List (Option Name)) (there i : ℕ) (xs steps : List Step) (step : Step) → xs ≡ steps → steps ≡ steps_on other 0 0 names → i < length steps → PartsAt there xs i → step ≡ get_or steps i step → step.place ≡ before_need other there names
at_step other names there i xs steps step same e lt point at =
    ap (λ s. s.place) at
    ∙ sym (found steps there (length names) i step lt (subst (λ ys. PartsAt there ys i) same point))
    ∙ ap (λ ys. stop ys there (length names)) e
    ∙ stop_is other 0 0 there (length names) names (omega arith) (omega arith)
    ∙ omega arith

pub behind_steps : (other : LogName) (names : List (Option Name)) (there i : ℕ) (xs steps : List Step) → xs ≡ steps → steps ≡ steps_on other 0 0 names → length steps ≤ i → PartsAt there xs i → length names ≡ before_need other there names
behind_steps other names there i xs steps same e le point =
    let here = subst (λ ys. PartsAt there ys i) same point in
    sym (not_found steps there (length names) (λ k d lt. here.0 k d (omega arith) (omega arith)))
    ∙ ap (λ ys. stop ys there (length names)) e
    ∙ stop_is other 0 0 there (length names) names (omega arith) (omega arith)
    ∙ omega arith

-- one more record
pub more_needed : (other : LogName) (names : List (Option Name)) (named : Option Name) (old : Steps) (steps : Vec Step) (expected place needed : ℕ) → AreSteps old other names → place ≡ length names → needed ≡ need other named → old.needed < needed → steps.items ≡ old.steps.items ++ record { needed = needed; place = place } ∷ [] → AreSteps (record { needed = needed; steps = steps; expected = expected }) other (names ++ named ∷ [])
more_needed other names named old steps expected place needed is e n lt more = record {
  needed = n ∙ sym (ap (λ b. if b then need other named else needed_on other 0 names) high) ∙ sym (needed_end other 0 names named);
  items = more
      ∙ ap (λ xs. xs ++ record { needed = needed; place = place } ∷ []) is.items
      ∙ ap (λ m. steps_on other 0 0 names ++ record { needed = m; place = place } ∷ []) n
      ∙ ap (λ p. steps_on other 0 0 names ++ record { needed = need other named; place = p } ∷ []) (e ∙ omega arith)
      ∙ sym (ap (λ b. steps_on other 0 0 names ++ (if b then record { needed = need other named; place = 0 + length names } ∷ [] else [])) high)
      ∙ sym (steps_end other 0 0 names named);
}
  where
    high : nat_lt (needed_on other 0 names) (need other named) ≡ true
    high = let h : needed_on other 0 names < need other named = omega (arith, is.needed, n, lt) in grind (arith, nat_tests, h)

pub no_more_needed : (other : LogName) (names : List (Option Name)) (named : Option Name) (old : Steps) (place needed : ℕ) → AreSteps old other names → place ≡ length names → needed ≡ need other named → needed ≤ old.needed → AreSteps old other (names ++ named ∷ [])
no_more_needed other names named old place needed is e n le = record {
  needed = is.needed ∙ sym (ap (λ b. if b then need other named else needed_on other 0 names) low) ∙ sym (needed_end other 0 names named);
  items = is.items
      ∙ sym (append-nil (steps_on other 0 0 names))
      ∙ sym (ap (λ b. steps_on other 0 0 names ++ (if b then record { needed = need other named; place = 0 + length names } ∷ [] else [])) low)
      ∙ sym (steps_end other 0 0 names named);
}
  where
    low : nat_lt (needed_on other 0 names) (need other named) ≡ false
    low = let h : need other named ≤ needed_on other 0 names = omega (arith, is.needed, n, le) in grind (arith, nat_tests, h)
