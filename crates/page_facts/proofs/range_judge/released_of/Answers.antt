use Rattle.std.proofs.Common.{◌≡◌, ◌+◌, refl, sym, ap, ◌∙◌, arith}
use Rattle.audit_model.specs.Flat.{in_ledger, at_halt}
use Rattle.page_facts.proofs.Growing.{each_more, pushed_length}
use Rattle.page_facts.proofs.Reading.{read_at}
use Rattle.page_facts.proofs.range_judge.released_of.Goals as goal

pub loop-index-preserved : goal.loop-index-preserved
loop-index-preserved c =
    let s = c.args._session.now in
    let g = c.args.range.now in
    let old = c.loop-index.released.items in
    let v = c.index.result.now in
    let new = c.push.new.self.items in
    let many = c.loop-index.invariant.many in
    let lt = c.loop-index-test.true in
    let is = read_at g.seen.items g.seen.items c.loop-index.index v refl (omega (arith, lt)) c.index.ensures in
    let seen = c.requires.each c.loop-index.index v is in
    record {
      many = pushed_length old new v.released c.in_ok-push.ensures.items ∙ ap (λ k. k + 1) many;
      each = record {
        each = each_more (λ k b. b ≡ in_ledger s (at_halt s) (g.first + k)) old new v.released c.in_ok-push.ensures.items c.loop-index.invariant.each.each
            (seen.released ∙ ap (λ k. in_ledger s (at_halt s) (g.first + k)) (sym many));
      };
    }
