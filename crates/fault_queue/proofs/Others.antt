-- Who waits beside the entries of some pages.
use Rattle.std.proofs.Common.{◌≡◌, ℕ, Bool, true, false, cond, not, ◌&&◌, ◌||◌, List, [], ◌∷◌, Vec, refl, sym, ap, ◌∙◌}
use Rattle.std.specs.Prelude.{◌==◌}
use Rattle.std.specs.List.{list_any}
use Rattle.fault_queue.specs.Waiting.{Waiting, is_waiting, without, without_all}
use Rattle.fault_queue.proofs.Maps.{entries}

-- whether a virtual processor waits in an entry, of a page that is none of these
abbrev waits_in : ℕ → List ℕ → Waiting → Bool
waits_in vcpu pages e = list_any (λ v. v == vcpu) e.vcpus && not (list_any (λ p. p == e.page) pages)

-- one page's entry is left out before the others'
first_left : (vcpu page : ℕ) (pages : List ℕ) (es : List Waiting) → list_any (waits_in vcpu pages) (without page es) ≡ list_any (waits_in vcpu (page ∷ pages)) es
first_left vcpu page pages [] = refl
first_left vcpu page pages (e ∷ es) = go (first_left vcpu page pages es) (page == e.page) (list_any (λ v. v == vcpu) e.vcpus) (list_any (λ p. p == e.page) pages) refl refl
  where
    go : list_any (waits_in vcpu pages) (without page es) ≡ list_any (waits_in vcpu (page ∷ pages)) es → (same waits there : Bool) → list_any (λ v. v == vcpu) e.vcpus ≡ waits → list_any (λ p. p == e.page) pages ≡ there →
        list_any (waits_in vcpu pages) (cond (not same) (e ∷ without page es) (without page es)) ≡ ((waits && not (same || there)) || list_any (waits_in vcpu (page ∷ pages)) es)
    go rest true true there w t = rest
    go rest true false there w t = rest
    go rest false waits there w t =
        ap (λ b. (b && not (list_any (λ p. p == e.page) pages)) || list_any (waits_in vcpu pages) (without page es)) w
        ∙ ap (λ b. (waits && not b) || list_any (waits_in vcpu pages) (without page es)) t
        ∙ ap (λ b. (waits && not there) || b) rest

all_left : (vcpu : ℕ) (pages : List ℕ) (es : List Waiting) → is_waiting vcpu (without_all pages es) ≡ list_any (waits_in vcpu pages) es
all_left vcpu [] [] = refl
all_left vcpu [] (e ∷ es) = go (list_any (λ v. v == vcpu) e.vcpus) (all_left vcpu [] es)
  where
    go : (waits : Bool) → is_waiting vcpu es ≡ list_any (waits_in vcpu []) es → (waits || is_waiting vcpu es) ≡ ((waits && true) || list_any (waits_in vcpu []) es)
    go true rest = refl
    go false rest = rest
all_left vcpu (page ∷ pages) es = all_left vcpu pages (without page es) ∙ first_left vcpu page pages es

of_pairs : {A : Type 0} (vcpu : ℕ) (pages : List ℕ) (es : List (ℕ × Vec ℕ A)) → list_any (λ e. list_any (λ x. x == vcpu) e.1.items && not (list_any (λ p. p == e.0) pages)) es ≡ list_any (waits_in vcpu pages) (entries es)
of_pairs vcpu pages [] = refl
of_pairs vcpu pages (e ∷ es) = ap (λ b. (list_any (λ x. x == vcpu) e.1.items && not (list_any (λ p. p == e.0) pages)) || b) (of_pairs vcpu pages es)

pub others_wait : {A : Type 0} (vcpu : ℕ) (pages : List ℕ) (es : List (ℕ × Vec ℕ A)) → list_any (λ e. list_any (λ x. x == vcpu) e.1.items && not (list_any (λ p. p == e.0) pages)) es ≡ is_waiting vcpu (without_all pages (entries es))
others_wait vcpu pages es = of_pairs vcpu pages es ∙ sym (all_left vcpu pages (entries es))
