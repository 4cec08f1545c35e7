-- Contents that are not zeros, and what is known of the number that the next page may have.
use Rattle.std.specs.Prelude.{◌≡◌, ℕ, ◌+◌, ◌≤◌, List, [], ◌∷◌, ◌++◌, refl}
use Rattle.std.proofs.Common.{arith}
use Rattle.migration_types.specs.declared.pages.InitPage.{InitPage}
use Rattle.migration_types.specs.Contents.{IsContent}
use Rattle.migration_types.specs.Pages.{AreZeros}
pub use Rattle.session_grammar.specs.Pages.{next_from}
pub use Rattle.migration_types.specs.inner.InitPages.{number_of, Rise, rise_long, rise_of, rise_increases, few_init}

-- one value for each of this many cells, not all of them zero
pub record IsInitContent (cells : ℕ) (xs : List ℕ) : Type 0 where
  pub content : IsContent cells xs
  pub not_zeros : AreZeros xs → ⊥

pub next_push : (low : ℕ) (ps : List InitPage) (p : InitPage) → next_from low (ps ++ p ∷ []) ≡ p.page + 1
next_push low [] p = refl
next_push low (q ∷ ps) p = next_push (q.page + 1) ps p

-- only the last page before decides where a page is allowed
pub pages_by_last : (a b : List InitPage) (x y : InitPage) → next_from 0 (a ++ x ∷ []) ≤ y.page → next_from 0 (b ++ x ∷ []) ≤ y.page
pages_by_last a b x y le = omega (arith, next_push 0 a x, next_push 0 b x)
