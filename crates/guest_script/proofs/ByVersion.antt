-- Laws of what a script's text has by its version.
use Rattle.std.proofs.Common.{◌≡◌, ◌≢◌, ℕ, ◌+◌, ◌≤◌, List, ◌∷◌, ◌++◌, length, get_or, refl, sym, ap, ◌∙◌, arith}
use Rattle.std.specs.Prelude.{codes, Option, Some, None}
use Rattle.std.proofs.lemmas.List.{append_cancel_left}
use Rattle.migration_types.specs.declared.version.Version.{Version}
use Rattle.migration_types.specs.declared.version.Version.TheVariants.{One, Two}
use Rattle.migration_events.specs.declared.events.Fate.{Fate}
use Rattle.guest_script.specs.Scenarios.{LaneFits}
use Rattle.guest_script.specs.Scripts.{script_header, lane_key, fates_text, with_lanes}
use Rattle.guest_script.proofs.TextLists.{cons_parts}
use Rattle.guest_script.proofs.ScriptTells.{fates_tell}

-- the digit that headers differ in
abbrev digit : List ℕ → ℕ
digit line = get_or line 16 0

pub header_tells : (a b : Version) → script_header a ≡ script_header b → a ≡ b
header_tells One One e = refl
header_tells One Two e = let same = ap digit e in absurd (omega (arith, same))
header_tells Two One e = let same = ap digit e in absurd (omega (arith, same))
header_tells Two Two e = refl

pub no_header : (line : List ℕ) (version : Version) → line ≢ script_header One → line ≢ script_header Two → line ≢ script_header version
no_header line One one two = one
no_header line Two one two = two

-- ---- the number of links that carry packets down, and the lane

pub with_lanes_same : (a b : Version) (l k : Option (List Fate)) (more : List (List ℕ)) → a ≡ b → l ≡ k → with_lanes a l more ≡ with_lanes b k more
with_lanes_same a b l k more p q = cc

pub lanes_append : (version : Version) (lane : Option (List Fate)) (a b : List (List ℕ)) → with_lanes version lane a ++ b ≡ with_lanes version lane (a ++ b)
lanes_append One lane a b = refl
lanes_append Two None a b = refl
lanes_append Two (Some fates) a b = refl

pub lanes_short : (version : Version) (lane : Option (List Fate)) (more : List (List ℕ)) → length (with_lanes version lane more) ≤ length more + 2
lanes_short One lane more = omega arith
lanes_short Two None more = omega arith
lanes_short Two (Some fates) more = omega arith

pub lanes_long : (version : Version) (lane : Option (List Fate)) (more : List (List ℕ)) → length more ≤ length (with_lanes version lane more)
lanes_long One lane more = omega arith
lanes_long Two None more = omega arith
lanes_long Two (Some fates) more = omega arith

-- scripts of the first version have no lane
pub no_lane : (lane : Option (List Fate)) → LaneFits One lane → lane ≡ None
no_lane None fits = refl
no_lane (Some fates) fits = absurd fits.0

not_both : codes "lanes 1" ≡ codes "lanes 2" → ⊥
not_both e = let last = ap (λ (l : List ℕ). get_or l 6 0) e in omega (arith, last)

pub one_lane : (lane : Option (List Fate)) (line : List ℕ) (more rest : List (List ℕ)) → line ≡ codes "lanes 1" → line ∷ more ≡ with_lanes Two lane rest → (lane ≡ None) × (more ≡ rest)
one_lane None line more rest is e = (refl, (cons_parts line (codes "lanes 1") more rest e).1)
one_lane (Some fates) line more rest is e = absurd (not_both (sym is ∙ (cons_parts line (codes "lanes 2") more ((lane_key ++ fates_text fates) ∷ rest) e).0))

pub two_lanes : (lane : Option (List Fate)) (line : List ℕ) (more rest : List (List ℕ)) → line ≡ codes "lanes 2" → line ∷ more ≡ with_lanes Two lane rest → (fates : List Fate) × (lane ≡ Some fates) × (more ≡ (lane_key ++ fates_text fates) ∷ rest)
two_lanes None line more rest is e = absurd (not_both (sym (cons_parts line (codes "lanes 1") more rest e).0 ∙ is))
two_lanes (Some fates) line more rest is e = (fates, refl, (cons_parts line (codes "lanes 2") more ((lane_key ++ fates_text fates) ∷ rest) e).1)

second_lanes : (l k : Option (List Fate)) (x y : List (List ℕ)) → with_lanes Two l x ≡ with_lanes Two k y → (l ≡ k) × (x ≡ y)
second_lanes None k x y e = let come = one_lane k (codes "lanes 1") x y refl e in (sym come.0, come.1)
second_lanes (Some fates) k x y e =
    let line = lane_key ++ fates_text fates in
    let come = two_lanes k (codes "lanes 2") (line ∷ x) y refl e in
    let parts = cons_parts line (lane_key ++ fates_text come.0) x y come.2 in
    (ap Some (fates_tell fates come.0 (append_cancel_left lane_key (fates_text fates) (fates_text come.0) parts.0)) ∙ sym come.1, parts.1)

-- the lane and what stands behind it
pub lanes_tell : (a b : Version) (l k : Option (List Fate)) (x y : List (List ℕ)) → a ≡ b → LaneFits a l → LaneFits b k → with_lanes a l x ≡ with_lanes b k y → (l ≡ k) × (x ≡ y)
lanes_tell One One l k x y is p q e = (no_lane l p ∙ sym (no_lane k q), e)
lanes_tell One Two l k x y is p q e = absurd cc
lanes_tell Two One l k x y is p q e = absurd cc
lanes_tell Two Two l k x y is p q e = second_lanes l k x y e
