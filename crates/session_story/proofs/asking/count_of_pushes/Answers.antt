use Rattle.std.proofs.Common.{◌≡◌, ◌+◌, List, length, sym, ap, ◌∙◌, arith}
use Rattle.migration_types.specs.declared.records.SourceRec.{SourceRec}
use Rattle.page_facts.proofs.Reading.{read_at}
use Rattle.page_store.specs.Tables.{values}
use Rattle.session_story.specs.Counted.{is_push}
use Rattle.session_story.specs.Scans.{how_many}
use Rattle.session_story.proofs.Scanning.{one_more, no_more, few_pass}
use Rattle.session_story.proofs.Unasked.{asked_on, unasked_is}
use Rattle.session_story.proofs.asking.count_of_pushes.Goals as goal
use Rattle.session_story.proofs.asking.count_of_pushes.Goals.{then-is_unasked, else-is_unasked}

pub overflow_add-count : goal.overflow_add-count
overflow_add-count c =
    let s = c.args.session.now in
    let all = ap (λ (xs : List SourceRec). length xs) c.source-source.ensures in
    let few = few_pass (is_push s) s.source c.loop-n.n in
    let count = c.loop-n.invariant.1 in
    omega (arith, few, count, all, c.loop-n-test.true, c.keeps_limits.ensures.few_source)

pub loop-n-preserved : goal.loop-n-preserved
loop-n-preserved c =
    let s = c.args.session.now in
    let n = c.loop-n.n in
    let rec = c.index-source-n.result in
    let is = read_at c.source-source.result.now s.source n rec c.source-source.ensures c.loop-n-test.true c.index-source-n.is in
    let here = sym (unasked_is s n rec (values c.loop-n.asked) c.loop-n.invariant.0.values_are) ∙ sym c.is_unasked.ensures in
    let count : c.if-is_unasked.count ≡ how_many (is_push s) s.source (n + 1) =
    elim c.if-is_unasked.branch [
      | then-is_unasked w ↦
          let more = one_more (is_push s) s.source n rec is (here ∙ w.if-is_unasked.true) in
          w.count-is ∙ ap (λ k. k + 1) c.loop-n.invariant.1 ∙ sym (more ∙ omega arith)
      | else-is_unasked w ↦ w.count-is ∙ c.loop-n.invariant.1 ∙ sym (no_more (is_push s) s.source n rec is (here ∙ w.if-is_unasked.false))
    ]
    in
    (asked_on s n rec c.loop-n.asked c.take_record.new.asked is c.loop-n.invariant.0 c.take_record.ensures, count)
