-- Faults in the order of their lines.
use Rattle.std.proofs.Common.{◌≡◌, ◌<◌, ◌⊎◌, inl, inr, true, ◌&&◌, sym, arith, eq-eqb}
use Rattle.std.specs.Prelude.{nat_lt, ◌==◌}
use Rattle.std.proofs.lemmas.Bool.{cases_order, eqb-true, ltb-true, lt-ltb, or_cases, and_parts, and_from, or_left, or_right}
use Rattle.migration_types.specs.Receipts.{Name, log_index}
use Rattle.page_facts.specs.declared.page_fault.PageFault.{PageFault}
use Rattle.page_facts.specs.PageFaults.{Precedes}
use Rattle.page_facts.specs.inner.OfFindings.{precedes}

-- a fault's line is less, or it is not
pub precedes_is : (a b : PageFault) → precedes a b ≡ true → Precedes (a.log, a.place) (b.log, b.place)
precedes_is a b e = go (or_cases (nat_lt (log_index a.log) (log_index b.log)) ((log_index a.log == log_index b.log) && nat_lt a.place b.place) e)
  where
    go : (nat_lt (log_index a.log) (log_index b.log) ≡ true) ⊎ (((log_index a.log == log_index b.log) && nat_lt a.place b.place) ≡ true) → Precedes (a.log, a.place) (b.log, b.place)
    go (inl t) = inl (ltb-true (log_index a.log) (log_index b.log) t)
    go (inr t) = let p = and_parts (log_index a.log == log_index b.log) (nat_lt a.place b.place) t in inr (eqb-true (log_index a.log) (log_index b.log) p.0, ltb-true a.place b.place p.1)

pub is_precedes : (a b : PageFault) → Precedes (a.log, a.place) (b.log, b.place) → precedes a b ≡ true
is_precedes a b (inl lt) = or_left (nat_lt (log_index a.log) (log_index b.log)) ((log_index a.log == log_index b.log) && nat_lt a.place b.place) (lt-ltb (log_index a.log) (log_index b.log) lt)
is_precedes a b (inr p) = or_right (nat_lt (log_index a.log) (log_index b.log)) ((log_index a.log == log_index b.log) && nat_lt a.place b.place) (and_from (log_index a.log == log_index b.log) (nat_lt a.place b.place) (eq-eqb (log_index a.log) (log_index b.log) p.0) (lt-ltb a.place b.place p.1))

-- lines are in order
pub passes_on : (a b c : Name) → Precedes a b → Precedes b c → Precedes a c
passes_on a b c (inl x) (inl y) = inl (omega (arith, x, y))
passes_on a b c (inl x) (inr y) = let e = y.0 in inl (omega (arith, x, e))
passes_on a b c (inr x) (inl y) = let e = x.0 in inl (omega (arith, e, y))
passes_on a b c (inr x) (inr y) = let e = x.0 in let f = y.0 in let p = x.1 in let q = y.1 in inr (omega (arith, e, f), omega (arith, p, q))

-- what does not follow another comes before all that follow it
pub before_both : (a b c : Name) → Precedes a b → (Precedes c b → ⊥) → Precedes a c
before_both a b c less no_less = go (cases_order (log_index b.0) (log_index c.0))
  where
    by : log_index b.0 ≡ log_index c.0 → (b.1 ≡ c.1) ⊎ ((b.1 < c.1) ⊎ (c.1 < b.1)) → Precedes a b → Precedes a c
    by e (inr (inr gt)) _ = absurd (no_less (inr (sym e, gt)))
    by e (inl same) (inl x) = inl (omega (arith, e, x))
    by e (inl same) (inr x) = let f = x.0 in let p = x.1 in inr (omega (arith, e, f), omega (arith, p, same))
    by e (inr (inl lt)) (inl x) = inl (omega (arith, e, x))
    by e (inr (inl lt)) (inr x) = let f = x.0 in let p = x.1 in inr (omega (arith, e, f), omega (arith, p, lt))

    go : (log_index b.0 ≡ log_index c.0) ⊎ ((log_index b.0 < log_index c.0) ⊎ (log_index c.0 < log_index b.0)) → Precedes a c
    go (inl e) = by e (cases_order b.1 c.1) less
    go (inr (inl lt)) = passes_on a b c less (inl lt)
    go (inr (inr gt)) = absurd (no_less (inl gt))
