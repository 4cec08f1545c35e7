-- A page that is given another presence.
use Rattle.std.proofs.Common.{◌≡◌, ◌⊎◌, inl, inr, ℕ, ◌<◌, Bool, true, false, cond, List, length, get_or, set, Option, Some, refl, sym, ap, ◌∙◌, subst, arith, eq-eqb}
use Rattle.std.specs.Prelude.{◌==◌, nat_lt}
use Rattle.std.proofs.lemmas.Bool.{cases_eq, eqb-true, lt-ltb, ne_eqb}
use Rattle.std.proofs.lemmas.List.{get_or-set_same, get_or-set_other}
use Rattle.migration_types.specs.Extents.{Extent}
use Rattle.migration_types.specs.PageSets.{with_page}
use Rattle.residency.specs.declared.Presence.{Presence}
use Rattle.residency.specs.declared.Presence.TheVariants.{Absent, Placed, Freed}
use Rattle.residency.specs.Placements.{Places, presence, number_of, is_freed, placements, freed, with_placement, is_resident, IsWith}

abbrev at : Extent → List Presence → Option ℕ → Places
at e pages frontier = record { geometry = e; pages = pages; frontier = frontier }

-- the page has what it is given, and the others stay
given : (e : Extent) (pages : List Presence) (frontier : Option ℕ) (page : ℕ) (x : Presence) (q : ℕ) → length pages ≡ e.pages → page < e.pages → presence (at e (set pages page x) frontier) q ≡ cond (page == q) x (presence (at e pages frontier) q)
given e pages frontier page x q sized lt = go (cases_eq page q)
  where
    go : (page ≡ q) ⊎ (page ≡ q → ⊥) → presence (at e (set pages page x) frontier) q ≡ cond (page == q) x (presence (at e pages frontier) q)
    go (inl same) =
        ap (λ b. cond b (get_or (set pages page x) q Absent) Absent) (lt-ltb q e.pages (subst (λ k. k < e.pages) same lt))
        ∙ ap (λ k. get_or (set pages page x) k Absent) (sym same)
        ∙ get_or-set_same pages page x Absent (subst (λ n. page < n) (sym sized) lt)
        ∙ sym (ap (λ b. cond b x (presence (at e pages frontier) q)) (eq-eqb page q same))
    go (inr other) =
        ap (λ y. cond (nat_lt q e.pages) y Absent) (get_or-set_other pages page q x Absent (λ h. other (sym h)))
        ∙ sym (ap (λ b. cond b x (presence (at e pages frontier) q)) (ne_eqb page q other))

-- what is not resident is absent
is_absent : (x : Presence) → is_resident (number_of x) (is_freed x) ≡ false → x ≡ Absent
is_absent Absent e = refl
is_absent (Placed number) e = absurd (cc)
is_absent Freed e = absurd (cc)

number_given : (b : Bool) (number : ℕ) (x : Presence) → number_of (cond b (Placed number) x) ≡ cond b (Some number) (number_of x)
number_given true number x = refl
number_given false number x = refl

freed_given : (b : Bool) (x : Presence) → is_freed (cond b Freed x) ≡ cond b true (is_freed x)
freed_given true x = refl
freed_given false x = refl

-- a part of a presence that an absent page and a page with another presence have alike stays
part_stays : {A : Type 0} (part : Presence → A) (x : Presence) (page q : ℕ) (before : ℕ → Presence) → before page ≡ Absent → part x ≡ part Absent → part (cond (page == q) x (before q)) ≡ part (before q)
part_stays {A} part x page q before absent alike = go (page == q) refl
  where
    go : (b : Bool) → (page == q) ≡ b → part (cond b x (before q)) ≡ part (before q)
    go true e = alike ∙ sym (ap part (ap before (sym (eqb-true page q e)) ∙ absent))
    go false e = refl

pub is_placed : (p : Places) (e : Extent) (pages : List Presence) (frontier : Option ℕ) (page number : ℕ) → at e pages frontier ≡ p → length pages ≡ e.pages → page < p.geometry.pages → is_resident (placements p page) (freed p page) ≡ false → IsWith p (at e (set pages page (Placed number)) frontier) (with_placement page number (placements p)) (freed p) p.frontier
is_placed p e pages frontier page number is sized lt absent =
    subst (λ (p : Places). page < p.geometry.pages → is_resident (placements p page) (freed p page) ≡ false → IsWith p (at e (set pages page (Placed number)) frontier) (with_placement page number (placements p)) (freed p) p.frontier) is
    (λ lt absent.
    let before = presence (at e pages frontier) in
    let none = is_absent (before page) absent in
    record {
      geometry = refl;
      placements_are = λ i q. (ap number_of (given e pages frontier page (Placed number) q sized lt) ∙ number_given (page == q) number (before q)) i;
      freed_are = λ i q. (ap is_freed (given e pages frontier page (Placed number) q sized lt) ∙ part_stays is_freed (Placed number) page q before none refl) i;
      frontier_is = refl;
    }) lt absent

pub is_released : (p : Places) (e : Extent) (pages : List Presence) (frontier : Option ℕ) (page : ℕ) → at e pages frontier ≡ p → length pages ≡ e.pages → page < p.geometry.pages → is_resident (placements p page) (freed p page) ≡ false → IsWith p (at e (set pages page Freed) frontier) (placements p) (with_page page (freed p)) p.frontier
is_released p e pages frontier page is sized lt absent =
    subst (λ (p : Places). page < p.geometry.pages → is_resident (placements p page) (freed p page) ≡ false → IsWith p (at e (set pages page Freed) frontier) (placements p) (with_page page (freed p)) p.frontier) is
    (λ lt absent.
    let before = presence (at e pages frontier) in
    let none = is_absent (before page) absent in
    record {
      geometry = refl;
      placements_are = λ i q. (ap number_of (given e pages frontier page Freed q sized lt) ∙ part_stays number_of Freed page q before none refl) i;
      freed_are = λ i q. (ap is_freed (given e pages frontier page Freed q sized lt) ∙ freed_given (page == q) (before q)) i;
      frontier_is = refl;
    }) lt absent
