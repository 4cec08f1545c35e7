use Rattle.std.proofs.Common.{◌≡◌, ◌++◌, drop}
use Rattle.std.specs.List.{flat_map}
use Rattle.audit_model.specs.Reasons.{page_reasons}
use Rattle.story_words.specs.Sentences.{kind_told}
use Rattle.story_words.proofs.kinds.push_each.Given as goal

abbrev pub invariant-loop-reason : goal.invariant-loop-reason
invariant-loop-reason l = l.out.items ++ flat_map (kind_told l.kinds) (drop l.reason-index l.reason-items) ≡ l.fn.out.items ++ flat_map (kind_told l.kinds) page_reasons
