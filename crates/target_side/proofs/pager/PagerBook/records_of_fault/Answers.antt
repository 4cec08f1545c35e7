use Rattle.std.proofs.Common.{◌≡◌, true, false, Some, None, sym, ◌∙◌, subst, arith}
use Rattle.std.specs.Prelude.{is_some, slice_get}
use Rattle.std.proofs.lemmas.Grind.{common_steps}
use Rattle.target_side.specs.Kept.{part_of as target_of}
use Rattle.target_side.specs.PagerLists.{PagerLists, part_of, IsKept}
use Rattle.target_side.proofs.Counting.{counts_early, counts_none, counts_one, counts_two}
use Rattle.target_side.proofs.pager.PagerBook.records_of_fault.Goals as goal

pub returns-then-is_none-clause-count : goal.returns-then-is_none-clause-count
returns-then-is_none-clause-count c =
    let early : is_some c.self.inside.released ≡ false = grind (arith, common_steps) in
    omega (arith, counts_early (part_of c.args.self.now) (target_of c.args.target.now) (subst (λ (v : PagerLists). is_some v.released ≡ false) c.self.view_is early))

pub returns-in_default-clause-count : goal.returns-in_default-clause-count
returns-in_default-clause-count c =
    let none : slice_get (target_of c.args.target.now).misses 0 ≡ None = grind (arith, common_steps) in
    omega (arith, counts_none (part_of c.args.self.now) (target_of c.args.target.now) none)

pub returns-then-is_only_learned-clause-count : goal.returns-then-is_only_learned-clause-count
returns-then-is_only_learned-clause-count c =
    let there : is_some c.self.inside.released ≡ true = grind (arith, common_steps) in
    let ready = subst (λ (v : PagerLists). is_some v.released ≡ true) c.self.view_is there in
    let first : slice_get (target_of c.args.target.now).misses 0 ≡ Some c.in-Some.missing = sym c.in-Some.ensures.oldest in
    counts_one (part_of c.args.self.now) (target_of c.args.target.now) c.in-Some.missing ready first (sym c.is_only_learned.ensures ∙ c.if-is_only_learned.true)

pub returns-else-is_only_learned-clause-count : goal.returns-else-is_only_learned-clause-count
returns-else-is_only_learned-clause-count c =
    let there : is_some c.self.inside.released ≡ true = grind (arith, common_steps) in
    let ready = subst (λ (v : PagerLists). is_some v.released ≡ true) c.self.view_is there in
    let first : slice_get (target_of c.args.target.now).misses 0 ≡ Some c.in-Some.missing = sym c.in-Some.ensures.oldest in
    let kept = subst (λ (v : PagerLists). IsKept (part_of v)) c.self.view_is c.self.invariant.kept in
    counts_two (part_of c.args.self.now) (target_of c.args.target.now) c.in-Some.missing ready first kept (sym c.is_only_learned.ensures ∙ c.if-is_only_learned.false)
