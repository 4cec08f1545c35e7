-- The least reason whose test holds.
use Rattle.std.proofs.Common.{◌≡◌, ℕ, zero, suc, ◌<◌, ◌≤◌, ◌⊎◌, inl, inr, Bool, true, false, Option, Some, None, refl, sym, ap, ◌∙◌, subst, arith}
use Rattle.std.proofs.lemmas.Bool.{cases_lt}
use Rattle.audit_model.specs.declared.reasons.PageReason.{PageReason}
use Rattle.audit_model.specs.declared.reasons.PageReason.TheVariants.{Read, Early, Given, Stale, Twice, Altered, Unfit, Over}
use Rattle.audit_model.specs.Reasons.{page_rank}
use Rattle.page_facts.specs.inner.FirstOfLog.{or_else, least_reason}

-- reasons with the same number are the same
abbrev of_rank : ℕ → PageReason
of_rank zero = Read
of_rank (suc zero) = Early
of_rank (suc (suc zero)) = Given
of_rank (suc (suc (suc zero))) = Stale
of_rank (suc (suc (suc (suc zero)))) = Twice
of_rank (suc (suc (suc (suc (suc zero))))) = Altered
of_rank (suc (suc (suc (suc (suc (suc zero)))))) = Unfit
of_rank (suc (suc (suc (suc (suc (suc (suc n))))))) = Over

rank_back : (r : PageReason) → of_rank (page_rank r) ≡ r
rank_back Read = refl
rank_back Early = refl
rank_back Given = refl
rank_back Stale = refl
rank_back Twice = refl
rank_back Altered = refl
rank_back Unfit = refl
rank_back Over = refl

pub same_rank : (a b : PageReason) → page_rank a ≡ page_rank b → a ≡ b
same_rank a b e = sym (rank_back a) ∙ ap of_rank e ∙ rank_back b

split_rank : (u r : PageReason) → page_rank u ≤ page_rank r → (r ≡ u) ⊎ (suc (page_rank u) ≤ page_rank r)
split_rank u r le = go (cases_lt (page_rank u) (page_rank r))
  where
    go : (page_rank u < page_rank r) ⊎ (page_rank r ≤ page_rank u) → (r ≡ u) ⊎ (suc (page_rank u) ≤ page_rank r)
    go (inl lt) = inr (omega arith)
    go (inr ge) = inl (same_rank r u (omega arith))

pub most_rank : (r : PageReason) → page_rank r ≤ 7
most_rank Read = omega arith
most_rank Early = omega arith
most_rank Given = omega arith
most_rank Stale = omega arith
most_rank Twice = omega arith
most_rank Altered = omega arith
most_rank Unfit = omega arith
most_rank Over = omega arith

pub least_rank : (r : PageReason) → 0 ≤ page_rank r
least_rank Read = omega arith
least_rank Early = omega arith
least_rank Given = omega arith
least_rank Stale = omega arith
least_rank Twice = omega arith
least_rank Altered = omega arith
least_rank Unfit = omega arith
least_rank Over = omega arith

-- of the reasons from a number on, the least whose test holds, or that there is none
pub record IsLeastFrom (test : PageReason → Bool) (k : ℕ) (o : Option PageReason) : Type 0 where
  pub none : o ≡ None → (r : PageReason) → k ≤ page_rank r → test r ≡ false
  pub holds : (t : PageReason) → o ≡ Some t → test t ≡ true
  pub least : (t : PageReason) → o ≡ Some t → (r : PageReason) → k ≤ page_rank r → test r ≡ true → page_rank t ≤ page_rank r

one_more : (test : PageReason → Bool) (u : PageReason) (o : Option PageReason) → IsLeastFrom test (suc (page_rank u)) o → IsLeastFrom test (page_rank u) (or_else (test u) u o)
one_more test u o rest = go (test u) refl
  where
    go : (b : Bool) → test u ≡ b → IsLeastFrom test (page_rank u) (or_else b u o)
    go true is = record {
      none = λ e r le. absurd (cc);
      holds = λ t e. let same : u ≡ t = cc in subst (λ v. test v ≡ true) same is;
      least = λ t e r le h. let same : u ≡ t = cc in subst (λ v. page_rank v ≤ page_rank r) same le;
    }
    go false is = record {
      none = λ e r le. none e r (split_rank u r le);
      holds = rest.holds;
      least = λ t e r le h. least t e r h (split_rank u r le);
    }
      where
        none : o ≡ None → (r : PageReason) → (r ≡ u) ⊎ (suc (page_rank u) ≤ page_rank r) → test r ≡ false
        none e r (inl same) = ap test same ∙ is
        none e r (inr more) = rest.none e r more

        least : (t : PageReason) → o ≡ Some t → (r : PageReason) → test r ≡ true → (r ≡ u) ⊎ (suc (page_rank u) ≤ page_rank r) → page_rank t ≤ page_rank r
        least t e r h (inl same) = let f : test r ≡ false = ap test same ∙ is in absurd (cc)
        least t e r h (inr more) = rest.least t e r more h

no_more : (test : PageReason → Bool) → IsLeastFrom test 8 None
no_more test = record {
  none = λ e r le. let most = most_rank r in absurd (omega arith);
  holds = λ t e. absurd (cc);
  least = λ t e r le h. absurd (cc);
}

pub least_is : (test : PageReason → Bool) → IsLeastFrom test 0 (least_reason test)
least_is test = one_more test Read _ (one_more test Early _ (one_more test Given _ (one_more test Stale _ (one_more test Twice _ (one_more test Altered _ (one_more test Unfit _ (one_more test Over _ (no_more test))))))))
