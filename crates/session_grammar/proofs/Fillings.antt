-- The pages and items that a list lacks.
use Rattle.std.proofs.Common.{◌≡◌, ℕ, zero, suc, ◌+◌, ◌-◌, ◌<◌, ◌≤◌, ◌^◌, List, [], ◌∷◌, ◌++◌, length, map, replicate, refl, sym, ap, subst, length-append, arith}
use Rattle.std.specs.List.{AllByRecursion}
use Rattle.std.proofs.lemmas.List.{length-map, length-replicate}
use Rattle.migration_types.specs.declared.pages.InitPage.{InitPage}
use Rattle.migration_types.specs.declared.version.Version.{Version}
use Rattle.migration_types.specs.Extents.{Extent}
use Rattle.migration_types.specs.Pages.{InitPageFits}
use Rattle.session_grammar.specs.inner.InitPages.{Rise}
use Rattle.session_grammar.specs.inner.Held.{Part, IsWhole, InitFits}
use Rattle.session_grammar.proofs.Lists.{all_append, all_replicate}
use Rattle.session_grammar.proofs.Sections.{with_items}

-- pages that go on rising, each with a cell that is not 0
abbrev pub page_at : ℕ → ℕ → InitPage
page_at cells n = record { page = n; cells = 1 ∷ replicate (cells - 1) 0 }

pub pages_from : ℕ → ℕ → ℕ → List InitPage
pages_from cells n zero = []
pages_from cells n (suc m) = page_at cells n ∷ pages_from cells (n + 1) m

page_fits : (e : Extent) (n : ℕ) → 1 ≤ e.cells → n < e.pages → InitPageFits e (page_at e.cells n)
page_fits e n some lt =
    record {
      page = lt;
      content = record { count = omega (arith, length-replicate {A = ℕ} (e.cells - 1) 0); each = (omega arith, all_replicate (λ x. x < 2 ^ 64) (e.cells - 1) 0 (omega arith)) };
      not_zeros = λ zeros. absurd (omega (arith, zeros.0));
    }

pub pages_fit : (e : Extent) (n m : ℕ) → 1 ≤ e.cells → n + m ≤ e.pages → AllByRecursion (InitPageFits e) (pages_from e.cells n m)
unfolding pages_from
pages_fit e n zero h le = tt
pages_fit e n (suc m) h le = (page_fits e n h (omega arith), pages_fit e (n + 1) m h (omega arith))

pub pages_count : (c n m : ℕ) → length (pages_from c n m) ≡ m
unfolding pages_from
pages_count c n zero = refl
pages_count c n (suc m) = ap suc (pages_count c (n + 1) m)

pub pages_rise : (c n m : ℕ) → Rise n (pages_from c n m) (n + m)
unfolding pages_from
pages_rise c n zero = omega arith
pages_rise c n (suc m) = (omega arith, let e : n + suc m ≡ n + 1 + m = omega arith in subst (λ (high : ℕ). Rise (n + 1) (pages_from c (n + 1) m) high) (sym e) (pages_rise c (n + 1) m))

pub rise_append : (low mid high : ℕ) (xs ys : List InitPage) → Rise low xs mid → Rise mid ys high → Rise low (xs ++ ys) high
rise_append low mid high [] ys r s = subst (λ (n : ℕ). Rise n ys high) (sym r) s
rise_append low mid high (x ∷ xs) ys r s = (r.0, rise_append (x.page + 1) mid high xs ys r.1 s)

-- initial pages that came go on to all that were announced
pub init_filled : (version : Version) (e : Extent) (next : ℕ) (part : Part InitPage) → InitFits version e next part → (more : List InitPage) × (top : ℕ) × InitFits version e top (with_items part more) × IsWhole (with_items part more)
init_filled version e next part f =
    let m = part.count - length part.items in
    let more = pages_from e.cells next m in
    let within = f.within in
    let len = pages_count e.cells next m in
    let room = f.room in
    let both = length-append part.items more in (
      more,
      next + m,
      record {
        size = f.size;
        geometry = f.geometry;
        within = omega arith;
        each = all_append (InitPageFits e) part.items more f.each (pages_fit e next m f.geometry.some_cells room);
        rising = rise_append 0 next (next + m) part.items more f.rising (pages_rise e.cells next m);
        room = omega arith;
      },
      omega arith,
    )

-- a list without what follows it is too short
pub no_rest : {X : Type 0} (spell : X → List ℕ) (xs ys : List X) (rest : List (List ℕ)) → map spell xs ++ rest ≡ map spell ys ++ [] → length ys ≤ length xs → 0 < length rest → ⊥
no_rest spell xs ys rest e le some =
    let l : length (map spell xs ++ rest) ≡ length (map spell ys ++ []) = ap (λ (t : List (List ℕ)). length t) e in
    absurd (omega (arith, l, length-append (map spell xs) rest, length-append (map spell ys) [], length-map xs spell, length-map ys spell))
