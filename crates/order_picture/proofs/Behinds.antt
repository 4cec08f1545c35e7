-- The records of a log from a place on.
use Rattle.std.proofs.Common.{◌≡◌, ℕ, suc, ◌+◌, ◌-◌, ◌<◌, ◌≤◌, Bool, true, false, cond, List, [], ◌∷◌, ◌++◌, sym, ap, ◌∙◌, arith}
use Rattle.std.specs.Prelude.{filter}
use Rattle.std.proofs.lemmas.List.{append_assoc, append-nil}
use Rattle.migration_types.specs.declared.records.LogName.{LogName}
use Rattle.migration_types.specs.Receipts.{Name}
use Rattle.audit_model.specs.Mergings.{run_names}

-- the next one, and those after it
pub run_next : (log : LogName) (place len : ℕ) → place < len → run_names log place (len - place) ≡ (log, place) ∷ run_names log (place + 1) (len - (place + 1))
run_next log place len lt =
    let more : len - place ≡ suc (len - (place + 1)) = omega (arith, lt) in
    let next : suc place ≡ place + 1 = omega arith in
    ap (λ (n : ℕ). run_names log place n) more ∙ ap (λ (n : ℕ). (log, place) ∷ run_names log n (len - (place + 1))) next

-- none is left
pub run_over : (log : LogName) (place len : ℕ) → len ≤ place → run_names log place (len - place) ≡ []
run_over log place len le =
    let none : len - place ≡ 0 = omega (arith, le) in
    ap (λ (n : ℕ). run_names log place n) none

module _ (p : Name → Bool) where
  one_then : (front : List Name) (name : Name) (more : List Name) → (front ++ filter p (name ∷ [])) ++ filter p more ≡ front ++ filter p (name ∷ more)
  one_then front name more = by_test (p name)
    where
      by_test : (b : Bool) → (front ++ cond b (name ∷ []) []) ++ filter p more ≡ front ++ cond b (name ∷ filter p more) (filter p more)
      by_test true = append_assoc front (name ∷ []) (filter p more)
      by_test false = append_assoc front [] (filter p more)

  -- of the records of a log, the next one and those after it
  pub one_more : (log : LogName) (place len : ℕ) → place < len → (front : List Name) → (front ++ filter p ((log, place) ∷ [])) ++ filter p (run_names log (place + 1) (len - (place + 1))) ≡ front ++ filter p (run_names log place (len - place))
  one_more log place len lt front =
      one_then front (log, place) (run_names log (place + 1) (len - (place + 1)))
      ∙ ap (λ (ns : List Name). front ++ filter p ns) (sym (run_next log place len lt))

  pub none_more : (log : LogName) (place len : ℕ) → len ≤ place → (front : List Name) → front ++ filter p (run_names log place (len - place)) ≡ front
  none_more log place len le front = ap (λ (ns : List Name). front ++ filter p ns) (run_over log place len le) ∙ append-nil front
