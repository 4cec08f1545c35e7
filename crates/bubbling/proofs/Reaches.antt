-- The edges of pivots, each at its place.
use Rattle.std.proofs.Common.{◌≡◌, ◌≢◌, ℕ, zero, suc, ◌<◌, ◌≤◌, Bool, true, false, cond, List, [], ◌∷◌, length, take, get_or, set, Option, Some, None, refl, sym, ap, ◌∙◌, subst, arith}
use Rattle.std.specs.Prelude.{◌==◌}
use Rattle.std.specs.List.{Contains}
use Rattle.std.proofs.lemmas.Bool.{eqb-true, eq-eqb, ne_eqb}
use Rattle.std.proofs.lemmas.List.{get_or-set_same, length-set}
use Rattle.migration_types.specs.PageSets.{Pages, without_page}
use Rattle.bubbling.specs.Bubbling.{Ring, Bubbling, IsRing, AreDistinct, in_turn, turned, faulted, unsent, edges_of, NoneInward, HasMoved}
use Rattle.bubbling.specs.declared.edges.Edges.{Edges}
use Rattle.bubbling.specs.Edges.{at_page, edges_in, IsOnEdge, IsOutward, IsReach, IsAtRest, AreReaches}

abbrev no_edges : Edges
no_edges = record { first = 0; past = 0 }

-- as many edges as pivots
pub reaches_length : (pages : ℕ) (s : Pages) (ps : List ℕ) (es : List Edges) → AreReaches pages s ps es → length es ≡ length ps
reaches_length pages s [] [] h = refl
reaches_length pages s [] (e ∷ es) h = absurd h
reaches_length pages s (p ∷ ps) [] h = absurd h
reaches_length pages s (p ∷ ps) (e ∷ es) h = ap suc (reaches_length pages s ps es h.1)

pub reach_at : (pages : ℕ) (s : Pages) (ps : List ℕ) (es : List Edges) (j : ℕ) (d : Edges) → AreReaches pages s ps es → j < length ps → IsReach pages s (get_or ps j 0) (get_or es j d)
reach_at pages s [] [] j d h lt = absurd (omega arith)
reach_at pages s [] (e ∷ es) j d h lt = absurd h
reach_at pages s (p ∷ ps) [] j d h lt = absurd h
reach_at pages s (p ∷ ps) (e ∷ es) zero d h lt = h.0
reach_at pages s (p ∷ ps) (e ∷ es) (suc j) d h lt = reach_at pages s ps es j d h.1 (omega arith)

-- a set with fewer pages
pub reach_fewer : (pages : ℕ) (s t : Pages) (p : ℕ) (e : Edges) → ((q : ℕ) → s q ≡ false → t q ≡ false) → IsReach pages s p e → IsReach pages t p e
reach_fewer pages s t p e fewer h = record { low = h.low; high = h.high; start = h.start; end = h.end; none = λ q ge lt. fewer q (h.none q ge lt) }

pub reaches_fewer : (pages : ℕ) (s t : Pages) (ps : List ℕ) (es : List Edges) → ((q : ℕ) → s q ≡ false → t q ≡ false) → AreReaches pages s ps es → AreReaches pages t ps es
reaches_fewer pages s t [] [] fewer h = tt
reaches_fewer pages s t [] (e ∷ es) fewer h = absurd h
reaches_fewer pages s t (p ∷ ps) [] fewer h = absurd h
reaches_fewer pages s t (p ∷ ps) (e ∷ es) fewer h = (reach_fewer pages s t p e fewer h.0, reaches_fewer pages s t ps es fewer h.1)

-- one pivot's edges moved
pub reaches_set : (pages : ℕ) (s : Pages) (ps : List ℕ) (es : List Edges) (j : ℕ) (e : Edges) → AreReaches pages s ps es → IsReach pages s (get_or ps j 0) e → AreReaches pages s ps (set es j e)
reaches_set pages s [] [] j e h r = tt
reaches_set pages s [] (f ∷ es) j e h r = absurd h
reaches_set pages s (p ∷ ps) [] j e h r = absurd h
reaches_set pages s (p ∷ ps) (f ∷ es) zero e h r = (r, h.1)
reaches_set pages s (p ∷ ps) (f ∷ es) (suc j) e h r = (h.0, reaches_set pages s ps es j e h.1 r)

-- a new pivot before the others, of which the last may be dropped
reaches_take : (n pages : ℕ) (s : Pages) (ps : List ℕ) (es : List Edges) → AreReaches pages s ps es → AreReaches pages s (take n ps) (take n es)
reaches_take zero pages s ps es h = tt
reaches_take (suc n) pages s [] [] h = tt
reaches_take (suc n) pages s [] (e ∷ es) h = absurd h
reaches_take (suc n) pages s (p ∷ ps) [] h = absurd h
reaches_take (suc n) pages s (p ∷ ps) (e ∷ es) h = (h.0, reaches_take n pages s ps es h.1)

new_reach : (pages : ℕ) (s : Pages) (page : ℕ) → page < pages → IsReach pages s page (at_page page)
new_reach pages s page lt = record { low = omega arith; high = omega arith; start = omega arith; end = omega arith; none = λ q ge below. absurd (omega arith) }

pub reaches_new : (n pages : ℕ) (s : Pages) (page : ℕ) (ps : List ℕ) (es : List Edges) → page < pages → AreReaches pages s ps es → AreReaches pages s (take n (page ∷ ps)) (take n (at_page page ∷ es))
reaches_new n pages s page ps es lt h = reaches_take n pages s (page ∷ ps) (at_page page ∷ es) (new_reach pages s page lt, h)

-- the edges that are found for a page are those at its place
pub edges_at : (ps : List ℕ) (es : List Edges) (j : ℕ) (d : Edges) → AreDistinct ps → length es ≡ length ps → j < length ps → edges_in (get_or ps j 0) ps es ≡ Some (get_or es j d)
edges_at [] es j d distinct same lt = absurd (omega arith)
edges_at (p ∷ ps) [] j d distinct same lt = absurd (omega (arith, same))
edges_at (p ∷ ps) (e ∷ es) zero d distinct same lt = ap (λ b. cond b (Some e) (edges_in p ps es)) (eq-eqb p p refl)
edges_at (p ∷ ps) (e ∷ es) (suc j) d distinct same lt =
    let differs : p ≢ get_or ps j 0 = distinct 0 (suc j) (omega arith) lt in
    ap (λ b. cond b (Some e) (edges_in (get_or ps j 0) ps es)) (ne_eqb p (get_or ps j 0) differs)
    ∙ edges_at ps es j d (λ k l less in_list. distinct (suc k) (suc l) (omega arith) (omega arith)) (omega (arith, same)) (omega arith)

pub edges_none : (page : ℕ) (ps : List ℕ) (es : List Edges) → (Contains ps page → ⊥) → edges_in page ps es ≡ None
edges_none page [] es new = refl
edges_none page (p ∷ ps) [] new = refl
edges_none page (p ∷ ps) (e ∷ es) new =
    let differs : p ≢ page = λ same. new (0, omega arith, same) in
    ap (λ b. cond b (Some e) (edges_in page ps es)) (ne_eqb p page differs)
    ∙ edges_none page ps es (λ h. new (suc h.0, omega (arith, h.1), h.2))

-- what is found is of a pivot
pub found_reach : (pages : ℕ) (s : Pages) (page : ℕ) (ps : List ℕ) (es : List Edges) (e : Edges) → AreReaches pages s ps es → edges_in page ps es ≡ Some e → IsReach pages s page e
found_reach pages s page [] es e h is = absurd (cc)
found_reach pages s page (p ∷ ps) [] e h is = absurd (cc)
found_reach pages s page (p ∷ ps) (f ∷ es) e h is = go (λ at. found_reach pages s page ps es e h.1 at) (p == page) refl is
  where
    go : (edges_in page ps es ≡ Some e → IsReach pages s page e) → (b : Bool) → (p == page) ≡ b → cond b (Some f) (edges_in page ps es) ≡ Some e → IsReach pages s page e
    go rest true at found =
        let same : f ≡ e = cc in
        subst (λ k. IsReach pages s k e) (eqb-true p page at) (subst (IsReach pages s p) same h.0)
    go rest false at found = rest found

same_outward : (e f : Edges) → e ≡ f → IsOutward e f
same_outward e f same = subst (IsOutward e) same (omega arith, omega arith)

some_same : (o : Option Edges) (e f : Edges) → o ≡ Some e → o ≡ Some f → e ≡ f
some_same o e f a b = cc

pub kept_outward : (page : ℕ) (ps : List ℕ) (es : List Edges) (e f : Edges) → edges_in page ps es ≡ Some e → edges_in page ps es ≡ Some f → IsOutward e f
kept_outward page ps es e f was is = same_outward e f (some_same (edges_in page ps es) e f was is)

-- one pivot's edges moved outward
pub set_outward : (page : ℕ) (ps : List ℕ) (es : List Edges) (j : ℕ) (d new e f : Edges) → j < length es → IsOutward (get_or es j d) new → edges_in page ps es ≡ Some e → edges_in page ps (set es j new) ≡ Some f → IsOutward e f
set_outward page [] es j d new e f lt out was is = absurd (cc)
set_outward page (p ∷ ps) [] j d new e f lt out was is = absurd (cc)
set_outward page (p ∷ ps) (x ∷ es) zero d new e f lt out was is = go (p == page) was is
  where
    go : (b : Bool) → cond b (Some x) (edges_in page ps es) ≡ Some e → cond b (Some new) (edges_in page ps es) ≡ Some f → IsOutward e f
    go true a b =
        let old : x ≡ e = cc in
        let now : new ≡ f = cc in
        subst (IsOutward e) now (subst (λ k. IsOutward k new) old out)
    go false a b = kept_outward page ps es e f a b
set_outward page (p ∷ ps) (x ∷ es) (suc j) d new e f lt out was is = go (λ a b. set_outward page ps es j d new e f (omega arith) out a b) (p == page) was is
  where
    go : (edges_in page ps es ≡ Some e → edges_in page ps (set es j new) ≡ Some f → IsOutward e f) → (b : Bool) → cond b (Some x) (edges_in page ps es) ≡ Some e → cond b (Some x) (edges_in page ps (set es j new)) ≡ Some f → IsOutward e f
    go rest true a b = same_outward e f (some_same (Some x) e f a b)
    go rest false a b = rest a b

pub set_others : (page : ℕ) (ps : List ℕ) (es : List Edges) (j : ℕ) (new : Edges) → j < length ps → page ≢ get_or ps j 0 → edges_in page ps (set es j new) ≡ edges_in page ps es
set_others page [] es j new lt differs = refl
set_others page (p ∷ ps) [] j new lt differs = refl
set_others page (p ∷ ps) (x ∷ es) zero new lt differs =
    let apart : (p == page) ≡ false = ne_eqb p page (λ same. differs (sym same)) in
    ap (λ b. cond b (Some new) (edges_in page ps es)) apart ∙ sym (ap (λ b. cond b (Some x) (edges_in page ps es)) apart)
set_others page (p ∷ ps) (x ∷ es) (suc j) new lt differs = ap (λ o. cond (p == page) (Some x) o) (set_others page ps es j new (omega arith) differs)

-- a new pivot leaves the edges of those that are kept
take_found : (n page : ℕ) (ps : List ℕ) (es : List Edges) (f : Edges) → edges_in page (take n ps) (take n es) ≡ Some f → edges_in page ps es ≡ Some f
take_found zero page ps es f is = absurd (cc)
take_found (suc n) page [] es f is = absurd (cc)
take_found (suc n) page (p ∷ ps) [] f is = absurd (cc)
take_found (suc n) page (p ∷ ps) (x ∷ es) f is = go (λ at. take_found n page ps es f at) (p == page) is
  where
    go : (edges_in page (take n ps) (take n es) ≡ Some f → edges_in page ps es ≡ Some f) → (b : Bool) → cond b (Some x) (edges_in page (take n ps) (take n es)) ≡ Some f → cond b (Some x) (edges_in page ps es) ≡ Some f
    go rest true at = at
    go rest false at = rest at

pub new_outward : (n page : ℕ) (ps : List ℕ) (es : List Edges) (x : Edges) (p : ℕ) (e f : Edges) → (Contains ps page → ⊥) → edges_in p ps es ≡ Some e → edges_in p (take n (page ∷ ps)) (take n (x ∷ es)) ≡ Some f → IsOutward e f
new_outward n page ps es x p e f new was is = go (page == p) refl (take_found n p (page ∷ ps) (x ∷ es) f is)
  where
    go : (b : Bool) → (page == p) ≡ b → cond b (Some x) (edges_in p ps es) ≡ Some f → IsOutward e f
    go true same found =
        let none : edges_in p ps es ≡ None = edges_none p ps es (λ h. new (subst (Contains ps) (sym (eqb-true page p same)) h)) in
        absurd (clash (edges_in p ps es) none was)
      where
        clash : (o : Option Edges) → o ≡ None → o ≡ Some e → ⊥
        clash o a b = cc
    go false differs found = kept_outward p ps es e f was found

-- the pivot in turn
pub in_turn_within : (pages : ℕ) (s : Pages) (r : Ring) (es : List Edges) (turn : ℕ) → IsRing r → AreReaches pages s r.pivots es → turn ≡ r.turn → turn < length es
in_turn_within pages s r es turn is h at = omega (arith, reaches_length pages s r.pivots es h, at, is.turn)

pub in_turn_reach : (pages : ℕ) (s : Pages) (r : Ring) (es : List Edges) (turn : ℕ) (e : Edges) → IsRing r → AreReaches pages s r.pivots es → turn ≡ r.turn → e ≡ get_or es turn e → IsReach pages s (in_turn r) e
in_turn_reach pages s r es turn e is h at here =
    subst (λ f. IsReach pages s (in_turn r) f) (sym (here ∙ ap (λ k. get_or es k e) at)) (reach_at pages s r.pivots es r.turn e h is.turn)

pub moved_reach : (pages : ℕ) (s : Pages) (pivot : ℕ) (e f : Edges) → IsReach pages s pivot e → IsOutward e f → f.past ≤ pages → ((q : ℕ) → f.first ≤ q → q < f.past → s q ≡ false) → IsReach pages s pivot f
moved_reach pages s pivot e f h out end none = record { low = omega (arith, h.low, out.0); high = omega (arith, h.high, out.1); start = omega (arith, h.start, out.0); end = end; none = none }

pub still_false : (s : Pages) (page q : ℕ) → s q ≡ false → without_page page s q ≡ false
still_false s page q is = go (page == q)
  where
    go : (b : Bool) → cond b false (s q) ≡ false
    go true = refl
    go false = is

pub next_keeps : (pages : ℕ) (s t : Pages) (r after : Ring) (es fs : List Edges) (turn page : ℕ) (f : Edges) → AreReaches pages s r.pivots es → IsReach pages s (in_turn r) f → turn ≡ r.turn → after ≡ turned r → fs ≡ set es turn f → t ≡ without_page page s → AreReaches pages t after.pivots fs
next_keeps pages s t r after es fs turn page f h reach at turns puts takes =
    let moved : AreReaches pages s r.pivots (set es turn f) = subst (λ k. AreReaches pages s r.pivots (set es k f)) (sym at) (reaches_set pages s r.pivots es r.turn f h reach) in
    let fewer : AreReaches pages t r.pivots (set es turn f) = reaches_fewer pages s t r.pivots (set es turn f) (λ q is. ap (λ (u : Pages). u q) takes ∙ still_false s page q is) moved in
    subst (λ (k : Ring). AreReaches pages t k.pivots fs) (sym turns) (subst (λ gs. AreReaches pages t r.pivots gs) (sym puts) fewer)

-- what is seen of the edges after a turn was passed
pub next_moved : (before after : Bubbling) (turn page : ℕ) (f : Edges) → IsRing before.ring → length before.edges ≡ length before.ring.pivots → turn ≡ before.ring.turn → after.ring ≡ turned before.ring → after.edges ≡ set before.edges turn f
    → IsOnEdge page f → IsAtRest before.geometry.pages (unsent before) f → HasMoved before after (in_turn before.ring) page
next_moved before after turn page f is same at turns puts on_edge rest = record { edges = f; is = found; on_edge = on_edge; at_rest = rest; others = others }
  where
    ps : List ℕ
    ps = before.ring.pivots

    pivots : (q : ℕ) → edges_of q after ≡ edges_in q ps (set before.edges turn f)
    pivots q = ap (λ (r : Ring). edges_in q r.pivots after.edges) turns ∙ ap (edges_in q ps) puts

    within : before.ring.turn < length before.edges
    within = omega (arith, same, is.turn)

    found : edges_of (in_turn before.ring) after ≡ Some f
    found =
        pivots (in_turn before.ring)
        ∙ ap (λ k. edges_in (in_turn before.ring) ps (set before.edges k f)) at
        ∙ edges_at ps (set before.edges before.ring.turn f) before.ring.turn f is.distinct (length-set before.edges before.ring.turn f ∙ same) is.turn
        ∙ ap Some (get_or-set_same before.edges before.ring.turn f f within)

    others : (q : ℕ) → q ≢ in_turn before.ring → edges_of q after ≡ edges_of q before
    others q differs =
        pivots q
        ∙ ap (λ k. edges_in q ps (set before.edges k f)) at
        ∙ set_others q ps before.edges before.ring.turn f is.turn differs

pub next_outward : (before after : Bubbling) (turn : ℕ) (old f : Edges) → turn < length before.edges → old ≡ get_or before.edges turn old → IsOutward old f → after.ring ≡ turned before.ring → after.edges ≡ set before.edges turn f → NoneInward before after
next_outward before after turn old f lt here out turns puts pivot e g was is =
    let now : edges_in pivot before.ring.pivots (set before.edges turn f) ≡ Some g = sym (ap (λ (r : Ring). edges_in pivot r.pivots after.edges) turns ∙ ap (edges_in pivot before.ring.pivots) puts) ∙ is in
    set_outward pivot before.ring.pivots before.edges turn old f e g lt (subst (λ k. IsOutward k f) here out) was now

pub fault_outward : (before after : Bubbling) (page : ℕ) → (Contains before.ring.pivots page → ⊥) → after.ring ≡ faulted page before.ring → after.edges ≡ take before.ring.most (at_page page ∷ before.edges) → NoneInward before after
fault_outward before after page new ring edges pivot e f was is =
    let now : edges_in pivot (take before.ring.most (page ∷ before.ring.pivots)) (take before.ring.most (at_page page ∷ before.edges)) ≡ Some f = sym (ap (λ (r : Ring). edges_in pivot r.pivots after.edges) ring ∙ ap (edges_in pivot (take before.ring.most (page ∷ before.ring.pivots))) edges) ∙ is in
    new_outward before.ring.most page before.ring.pivots before.edges (at_page page) pivot e f new was now
