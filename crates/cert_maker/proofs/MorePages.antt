-- The entries of one page more, and of more pages behind them.
use Rattle.std.proofs.Common.{◌≡◌, ℕ, ◌+◌, List, [], ◌∷◌, ◌++◌, length, sym, ap, ◌∙◌, subst, arith}
use Rattle.std.proofs.lemmas.List.{length-append}
use Rattle.migration_types.specs.declared.cert.Entry.{Entry}
use Rattle.migration_types.specs.Sessions.{Recorded}
use Rattle.page_facts.proofs.Growing.{each_more, each_joined, pushed_length}
use Rattle.cert_maker.specs.Made.{IsMadeEntry, AreMadeFrom}
use Rattle.cert_maker.specs.inner.Entries.{AreMade}

module _ (s : Recorded) where
  pub made_none : (first : ℕ) → AreMadeFrom s first 0 []
  made_none first = record { pages = omega arith; each = λ k entry is. absurd (cc) }

  pub made_more : (first count page : ℕ) (old new : List Entry) (entry : Entry) → new ≡ old ++ entry ∷ [] → page ≡ first + count → AreMadeFrom s first count old → IsMadeEntry s page entry → AreMadeFrom s first (count + 1) new
  made_more first count page old new entry e here are made = record {
    pages = pushed_length old new entry e ∙ ap (λ (k : ℕ). k + 1) are.pages;
    each = each_more (λ k x. IsMadeEntry s (first + k) x) old new entry e are.each (subst (λ (p : ℕ). IsMadeEntry s p entry) (here ∙ ap (λ (k : ℕ). first + k) (sym are.pages)) made);
  }

  pub made_joined : (first count more : ℕ) (xs ys new : List Entry) → new ≡ xs ++ ys → AreMadeFrom s first count xs → AreMadeFrom s (first + count) more ys → AreMadeFrom s first (count + more) new
  made_joined first count more xs ys new e low high = record {
    pages = let a = low.pages in let b = high.pages in let both = ap (λ (zs : List Entry). length zs) e ∙ length-append xs ys in omega (arith, a, b, both);
    each = each_joined (λ k x. IsMadeEntry s (first + k) x) xs ys new e low.each (λ k x is. let a = low.pages in let here : (first + count) + k ≡ first + (length xs + k) = omega (arith, a) in subst (λ (p : ℕ). IsMadeEntry s p x) here (high.each k x is));
  }

  -- from page 0 on, as many as there are
  pub made_of_all : (entries : List Entry) → AreMadeFrom s 0 s.geometry.pages entries → AreMade s entries
  made_of_all entries are = record {
    pages = are.pages;
    each = λ page x is. let here : 0 + page ≡ page = omega arith in subst (λ (p : ℕ). IsMadeEntry s p x) here (are.each page x is);
  }
