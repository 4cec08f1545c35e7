-- A range at the start.
use Rattle.std.proofs.Common.{◌≡◌, ◌≢◌, ℕ, ◌+◌, ◌≤◌, Bool, true, false, cond, List, ◌∷◌, length, refl, sym, ap, ◌∙◌, arith, eq-eqb}
use Rattle.std.specs.Prelude.{slice_index, ◌==◌}
use Rattle.std.proofs.lemmas.Bool.{eqb-true}
use Rattle.std.proofs.lemmas.Option.{slice_get_within}
use Rattle.migration_types.specs.declared.pages.InitPage.{InitPage}
use Rattle.migration_types.specs.Extents.{Extent}
use Rattle.migration_types.specs.Memory.{Memory, initial, with_content}
use Rattle.migration_types.specs.Sessions.{Recorded}
use Rattle.page_facts.specs.declared.range.PageState.{PageState}
use Rattle.page_facts.specs.declared.range.Range.{Range}
use Rattle.page_facts.specs.Judged.{releases_at}
use Rattle.page_facts.specs.Ranges.{IsRange}
use Rattle.page_facts.specs.Begun.{AreBegun, IsGiven}
use Rattle.page_facts.proofs.Ranging.{unlike}

same_test : (p first i k : ℕ) → p ≡ first + i → (i == k) ≡ (p == first + k)
same_test p first i k at = go (i == k) refl
  where
    go : (b : Bool) → (i == k) ≡ b → (i == k) ≡ (p == first + k)
    go true e = let same = eqb-true i k e in e ∙ sym (eq-eqb p (first + k) (omega (arith, at, same)))
    go false e =
        let ne : i ≢ k = λ same. absurd (let t = eq-eqb i k same in cc) in
        e ∙ sym (unlike p (first + k) (λ same. ne (omega (arith, at, same))))

-- a page of the range is given
pub content_at : (p first i k : ℕ) (content : List ℕ) (m : Memory) → p ≡ first + i → with_content i content m k ≡ with_content p content (λ q. m k) (first + k)
content_at p first i k content m at = λ j c. ap (λ b. cond b (slice_index content c) (m k c)) (same_test p first i k at) j

-- a page of no range is given
pub content_off : (p q : ℕ) (content : List ℕ) (m : ℕ → ℕ) → p ≢ q → m ≡ with_content p content (λ r. m) q
content_off p q content m ne = λ j c. sym (ap (λ b. cond b (slice_index content c) (m c)) (unlike p q ne)) j

pub begun_more : (s : Recorded) (first count : ℕ) (given : InitPage) (rest : List InitPage) (old new : Range) → IsGiven given old new → AreBegun s first count rest old → AreBegun s first count (given ∷ rest) new
begun_more s first count given rest old new on was = record {
  first_is = on.first ∙ was.first_is;
  many = ap (λ x. length x.items) on.seen ∙ was.many;
  pages = ap (λ (e : Extent). e.pages) on.geometry ∙ was.pages;
  cells = ap (λ (e : Extent). e.cells) on.geometry ∙ was.cells;
  late = on.late ∙ was.late;
  unseen = record { each = λ k v at. was.unseen.each k v (sym (ap (λ x. Rattle.std.specs.Prelude.slice_get x.items k) on.seen) ∙ at) };
  each = λ k lt.
      on.each k (let m = was.many in omega (arith, lt, m))
      ∙ ap (λ (m : ℕ → ℕ). with_content given.page given.cells (λ p. m) (old.first + k)) (was.each k lt)
      ∙ ap (λ f. with_content given.page given.cells (λ p. initial rest (first + k)) (f + k)) was.first_is;
}

pub begun_range : (s : Recorded) (first count : ℕ) (g : Range) → first + count ≤ s.geometry.pages → AreBegun s first count s.init g → IsRange s 0 g
begun_range s first count g le was = record {
  late = was.late;
  seen = record {
    pages = was.pages ∙ sym was.many;
    cells = was.cells;
    within = let a = was.first_is in let b = was.many in omega (arith, le, a, b);
    each = λ k v at.
        let is = was.unseen.each k v at in
        let lt = slice_get_within g.seen.items k v at in
        record {
          memory = was.each k (let m = was.many in omega (arith, lt, m)) ∙ ap (λ f. initial s.init (f + k)) (sym was.first_is);
          released = ap (λ (x : PageState). x.released) is;
          wrong = ap (λ (x : PageState). x.wrong) is;
          touch = ap (λ (x : PageState). x.touch) is;
          releases = ap (λ (x : PageState). x.releases) is ∙ sym (ap (λ (x : PageState). releases_at s x.touch) is);
        };
  };
}
