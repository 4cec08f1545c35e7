use Rattle.std.proofs.Common.{◌+◌, refl, sym, ap, ◌∙◌, subst, arith}
use Rattle.migration_types.specs.Extents.{Extent}
use Rattle.page_facts.proofs.Reading.{read_at}
use Rattle.page_facts.specs.declared.looks.Looks.{Looks}
use Rattle.page_facts.specs.Looks.{AreLooks}
use Rattle.page_facts.proofs.Looking.{looks_more, looks_kept}
use Rattle.page_facts.proofs.looks.first_looks.Goals as goal
use Rattle.page_facts.proofs.looks.first_looks.Goals.{in-Some, in_default}

pub loop-n-init : goal.loop-n-init
loop-n-init c = record {
  table = record {
    pages_are = c.in_ok-first.ensures.pages ∙ c.pages.ensures ∙ ap (λ (e : Extent). e.pages) c.geometry.ensures;
    values_are = c.in_ok-first.ensures.values;
  };
  known = λ p. refl;
  within = omega arith;
}

pub loop-n-preserved : goal.loop-n-preserved
loop-n-preserved c =
    let s = c.args.session.now in
    let n = c.loop-n.n in
    let rec = c.index-guest-n.result in
    let is = read_at c.guest-guest.result.now s.guest n rec c.guest-guest.ensures c.loop-n-test.true c.index-guest-n.is in
    elim c.match-look_of.branch [
      | in-Some w ↦ subst (λ (x : Looks). AreLooks s (n + 1) x) (sym w.looks-is) (looks_more s n w.in-Some.placement rec _ is (sym c.look_of.ensures ∙ w.in-Some.is) w.take_look.ensures)
      | in_default w ↦ subst (λ (x : Looks). AreLooks s (n + 1) x) (sym w.looks-is) (looks_kept s n rec _ is (sym c.look_of.ensures ∙ w.in_default.is) c.loop-n.invariant)
    ]
