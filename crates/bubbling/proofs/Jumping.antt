-- What stays known of pages that are gone.
use Rattle.std.proofs.Common.{◌≡◌, ℕ, ◌-◌, ◌<◌, Bool, false, List, length, set, sym, ap, ◌∙◌, subst, arith}
use Rattle.std.proofs.lemmas.List.{length-set}
use Rattle.migration_types.specs.PageSets.{Pages}
use Rattle.bubbling.specs.declared.jumps.Sweep.{Sweep}
use Rattle.bubbling.specs.Bubbling.{marked}
use Rattle.bubbling.specs.inner.Jumps.{page_at, AreJumps}
use Rattle.bubbling.proofs.Reaches.{still_false}
use Rattle.bubbling.proofs.Sizes.{marked_set}

-- one page more is gone
pub jumps_without : (sweep : Sweep) (marks : List Bool) (jumps : List ℕ) (q : ℕ) → q < length marks → AreJumps sweep marks jumps → AreJumps sweep (set marks q false) jumps
jumps_without sweep marks jumps q lt are = record {
  count = are.count ∙ sym size;
  end = λ place within. omega (arith, size, are.end place (omega (arith, size)));
  none = λ place within k ge less.
      let was = are.none place (omega (arith, size)) k ge less in
      let now : marked (set marks q false) (page_at sweep (length marks) k) ≡ false = ap (λ (s : Pages). s (page_at sweep (length marks) k)) (marked_set marks q lt) ∙ still_false (marked marks) q (page_at sweep (length marks) k) was in
      subst (λ n. marked (set marks q false) (page_at sweep n k) ≡ false) (sym size) now;
}
  where
    size : length (set marks q false) ≡ length marks
    size = length-set marks q false
