use Rattle.std.proofs.Common.{◌≡◌, ℕ, ◌+◌, subst, arith}
use Rattle.std.proofs.lemmas.Option.{MatchOption-at_none}
use Rattle.page_facts.specs.Entries.{AreRight, IsFirstWrong, AreJudged}
use Rattle.page_facts.proofs.Parts.{judged_joined}
use Rattle.page_facts.proofs.entries.EntriesQuestion.add.Goals as goal

pub returns-in-None : goal.returns-in-None
returns-in-None c = λ s first count more low high.
    let entries = c.args.self.now.entries.now in
    let mid = first + count in
    let right = MatchOption-at_none (AreRight s entries first mid) (IsFirstWrong s entries first) c.in-None.is low in
    let whole : mid + more ≡ first + (count + more) = omega arith in
    subst (λ (to : ℕ). AreJudged s entries first to c.args.next) whole (judged_joined s entries first mid (mid + more) c.args.next right high)
