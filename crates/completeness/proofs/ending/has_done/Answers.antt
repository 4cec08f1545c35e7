use Rattle.std.proofs.Common.{◌+◌, ◌||◌, ◌&&◌, List, length, ap, ap₂, sym, ◌∙◌, arith}
use Rattle.migration_types.specs.declared.records.SourceRec.{SourceRec}
use Rattle.page_facts.specs.Tables.{some_before}
use Rattle.page_facts.proofs.Reading.{read_at}
use Rattle.page_facts.proofs.Looking.{some_up}
use Rattle.completeness.specs.Complete.{is_done, is_done_behind, takes_end}
use Rattle.completeness.proofs.Records.{some_on, earlier_on}
use Rattle.completeness.proofs.ending.has_done.Goals as goal

pub returns-then-is_done_behind : goal.returns-then-is_done_behind
returns-then-is_done_behind c =
    let s = c.args.session.now in
    let n = c.loop-n.n in
    let rec = c.index-source-n.result in
    let all = ap (λ (xs : List SourceRec). length xs) c.source-source.ensures in
    let is = read_at c.source-source.result.now s.source n rec c.source-source.ensures c.loop-n-test.true c.index-source-n.is in
    let here = ap (λ b. is_done rec && b) (sym c.loop-n.invariant.0) ∙ sym c.is_done_behind.ensures ∙ c.if-is_done_behind.true in
    sym (some_up (is_done_behind s) s.source (n + 1) (length s.source) (omega (arith, all, c.loop-n-test.true)) (some_on (is_done_behind s) s.source n rec is ∙ ap (λ b. b || some_before (is_done_behind s) s.source n) here))

pub loop-n-preserved : goal.loop-n-preserved
loop-n-preserved c =
    let s = c.args.session.now in
    let n = c.loop-n.n in
    let rec = c.index-source-n.result in
    let is = read_at c.source-source.result.now s.source n rec c.source-source.ensures c.loop-n-test.true c.index-source-n.is in
    let here = ap (λ b. is_done rec && b) (sym c.loop-n.invariant.0) ∙ sym c.is_done_behind.ensures ∙ c.if-is_done_behind.false in (
      c.is_told-told.ensures ∙ ap (λ b. takes_end s rec || b) c.loop-n.invariant.0 ∙ sym (earlier_on (takes_end s) s.source n rec is),
      some_on (is_done_behind s) s.source n rec is ∙ ap₂ (λ a b. a || b) here c.loop-n.invariant.1,
    )
