use Rattle.std.proofs.Common.{ℕ, ◌+◌, ◌<◌, true, false, Option, length, sym, ◌∙◌, subst, arith}
use Rattle.std.proofs.lemmas.Option.{MatchOption-at_none}
use Rattle.page_facts.specs.Entries.{AreRight, IsFirstWrong, AreJudged}
use Rattle.page_facts.specs.inner.EntryAt.{IsRightAt}
use Rattle.page_facts.proofs.Parts.{right_more, first_wrong}
use Rattle.page_facts.proofs.entries.EntriesQuestion.take.Goals as goal

pub returns-then-is_right_at : goal.returns-then-is_right_at
returns-then-is_right_at c = λ first count here old.
    let s = c.args.session.now in
    let entries = c.args.self.now.entries.now in
    let right = MatchOption-at_none (AreRight s entries first (first + count)) (IsFirstWrong s entries first) c.in_default.is old in
    let own = subst (λ (p : ℕ). IsRightAt s entries p true) here c.if-is_right_at.ensures in
    subst (λ (o : Option ℕ). AreJudged s entries first (first + (count + 1)) o) (sym c.in_default.is) (right_more s entries first count right own)

pub returns : goal.returns
returns c = λ first count here old.
    let s = c.args.session.now in
    let entries = c.args.self.now.entries.now in
    let right = MatchOption-at_none (AreRight s entries first (first + count)) (IsFirstWrong s entries first) c.in_default.is old in
    let own = subst (λ (p : ℕ). IsRightAt s entries p false) here c.if-is_right_at.ensures in
    let some : first + count < length entries = omega (arith, c.requires.asked, c.requires.page, here) in
    subst (λ (p : ℕ). IsFirstWrong s entries first p) (sym (c.index.ensures.value ∙ here)) (first_wrong s entries first count some right own)
