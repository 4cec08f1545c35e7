-- The history that is stored as two lists, as both grow.
use Rattle.std.proofs.Common.{◌≡◌, ℕ, suc, ◌<◌, ◌≤◌, ◌+◌, ◌==◌, Bool, true, false, cond, List, [], ◌∷◌, ◌++◌, length, refl, sym, ap, ◌∙◌, map, arith, append_assoc}
use Rattle.std.specs.List.{AllByRecursion}
use Rattle.std.proofs.lemmas.Bool.{eq-eqb, ne_eqb}
use Rattle.std.proofs.lemmas.List.{append-nil}
use Rattle.migration_types.specs.declared.records.GuestRec.{GuestRec}
use Rattle.target_side.specs.declared.target.Placement.{Placement}
use Rattle.target_side.specs.History.{Happening, Did, Placed}
use Rattle.target_side.specs.inner.Woven.{placed_after, woven, IsWithin}

-- with no placement it is the guest's log
pub woven_alone : (n : ℕ) (log : List GuestRec) → woven n log [] ≡ map Did log
woven_alone n [] = refl
woven_alone n (r ∷ log) = ap (λ (h : List Happening). Did r ∷ h) (woven_alone (suc n) log)

pub within_more : (m n : ℕ) (ps : List Placement) → m ≤ n → AllByRecursion (IsWithin m) ps → AllByRecursion (IsWithin n) ps
within_more m n [] le all = tt
within_more m n (p ∷ ps) le all = ((let h = all.0 in omega (arith, h)), within_more m n ps le all.1)

pub within_push : (n : ℕ) (ps : List Placement) (p : Placement) → AllByRecursion (IsWithin n) ps → p.after ≤ n → AllByRecursion (IsWithin n) (ps ++ p ∷ [])
within_push n [] p all le = (le, tt)
within_push n (q ∷ ps) p all le = (all.0, within_push n ps p all.1 le)

-- no placement was made after more records
none_after : (m n : ℕ) (ps : List Placement) → m < n → AllByRecursion (IsWithin m) ps → placed_after n ps ≡ []
none_after m n [] lt all = refl
none_after m n (p ∷ ps) lt all =
    let here = all.0 in
    ap (λ b. cond b (Placed p.page p.number p.contents ∷ placed_after n ps) (placed_after n ps)) (ne_eqb p.after n (λ h. absurd (omega (arith, here, h))))
    ∙ none_after m n ps lt all.1

-- past all placements it is the guest's log
woven_past : (m n : ℕ) (log : List GuestRec) (ps : List Placement) → m < n → AllByRecursion (IsWithin m) ps → woven n log ps ≡ map Did log
woven_past m n [] ps lt all = none_after m n ps lt all
woven_past m n (r ∷ log) ps lt all =
    ap (λ (h : List Happening). h ++ Did r ∷ woven (suc n) log ps) (none_after m n ps lt all)
    ∙ ap (λ (h : List Happening). Did r ∷ h) (woven_past m (suc n) log ps (omega arith) all)

-- the guest's log grows
pub woven_records : (m n : ℕ) (log records : List GuestRec) (ps : List Placement) → m ≡ n + length log → AllByRecursion (IsWithin m) ps → woven n (log ++ records) ps ≡ woven n log ps ++ map Did records
woven_records m n [] [] ps is all = sym (append-nil (placed_after n ps))
woven_records m n [] (r ∷ records) ps is all = ap (λ (h : List Happening). placed_after n ps ++ Did r ∷ h) (woven_past m (suc n) records ps (omega (arith, is)) all)
woven_records m n (x ∷ log) records ps is all =
    ap (λ (h : List Happening). placed_after n ps ++ Did x ∷ h) (woven_records m (suc n) log records ps (omega (arith, is)) all)
    ∙ sym (append_assoc (placed_after n ps) (Did x ∷ woven (suc n) log ps) (map Did records))

-- one placement more
after_here : (n : ℕ) (ps : List Placement) (p : Placement) → p.after ≡ n → placed_after n (ps ++ p ∷ []) ≡ placed_after n ps ++ Placed p.page p.number p.contents ∷ []
after_here n [] p is = ap (λ b. cond b (Placed p.page p.number p.contents ∷ []) []) (eq-eqb p.after n is)
after_here n (q ∷ ps) p is = go (q.after == n) (after_here n ps p is)
  where
    here : List Happening
    here = Placed p.page p.number p.contents ∷ []

    go : (b : Bool) → placed_after n (ps ++ p ∷ []) ≡ placed_after n ps ++ here → cond b (Placed q.page q.number q.contents ∷ placed_after n (ps ++ p ∷ [])) (placed_after n (ps ++ p ∷ [])) ≡ cond b (Placed q.page q.number q.contents ∷ placed_after n ps) (placed_after n ps) ++ here
    go true rest = ap (λ (h : List Happening). Placed q.page q.number q.contents ∷ h) rest
    go false rest = rest

after_elsewhere : (n : ℕ) (ps : List Placement) (p : Placement) → n < p.after → placed_after n (ps ++ p ∷ []) ≡ placed_after n ps
after_elsewhere n [] p lt = ap (λ b. cond b (Placed p.page p.number p.contents ∷ []) []) (ne_eqb p.after n (λ h. absurd (omega (arith, lt, h))))
after_elsewhere n (q ∷ ps) p lt = ap (λ (h : List Happening). cond (q.after == n) (Placed q.page q.number q.contents ∷ h) h) (after_elsewhere n ps p lt)

pub woven_placement : (n : ℕ) (log : List GuestRec) (ps : List Placement) (p : Placement) → p.after ≡ n + length log → woven n log (ps ++ p ∷ []) ≡ woven n log ps ++ Placed p.page p.number p.contents ∷ []
woven_placement n [] ps p is = after_here n ps p (omega (arith, is))
woven_placement n (r ∷ log) ps p is =
    ap (λ (h : List Happening). h ++ Did r ∷ woven (suc n) log (ps ++ p ∷ [])) (after_elsewhere n ps p (omega (arith, is)))
    ∙ ap (λ (h : List Happening). placed_after n ps ++ Did r ∷ h) (woven_placement (suc n) log ps p (omega (arith, is)))
    ∙ sym (append_assoc (placed_after n ps) (Did r ∷ woven (suc n) log ps) (Placed p.page p.number p.contents ∷ []))
