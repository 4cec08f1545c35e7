use Rattle.std.proofs.Common.{◌≡◌, List, length, refl, ap, ◌∙◌, arith}
use Rattle.migration_types.specs.declared.records.GuestRec.{GuestRec}
use Rattle.migration_types.specs.Extents.{Extent}
use Rattle.audit_model.specs.Flat.{freed}
use Rattle.page_facts.proofs.Reading.{read_at}
use Rattle.completeness.proofs.Walking.{freed_on}
use Rattle.completeness.proofs.pages.freed_pages.Goals as goal

pub loop-n-init : goal.loop-n-init
loop-n-init c = record {
  home_is = refl;
  table = record {
    pages_are = c.in_ok-freed.ensures.pages ∙ c.pages.ensures ∙ ap (λ (e : Extent). e.pages) c.geometry.ensures;
    values_are = c.in_ok-freed.ensures.values;
  };
}

pub loop-n-preserved : goal.loop-n-preserved
loop-n-preserved c =
    let s = c.args.session.now in
    let n = c.loop-n.n in
    let rec = c.index-guest-n.result in
    let is = read_at c.guest-guest.result.now s.guest n rec c.guest-guest.ensures c.loop-n-test.true c.index-guest-n.is in
    freed_on s n rec c.loop-n.home c.home_after-home.result c.loop-n.freed c.take_release.new.freed is c.loop-n.invariant c.take_release.ensures c.home_after-home.ensures

pub returns : goal.returns
returns c =
    let s = c.args.session.now in
    let n = c.loop-n.n in
    let all = ap (λ (xs : List GuestRec). length xs) c.guest-guest.ensures in
    let auto = c.loop-n.auto in
    let end : n ≡ length s.guest = omega (arith, all, c.loop-n-test.false, auto.n-end) in
    record {
      pages_are = c.loop-n.invariant.table.pages_are;
      values_are = c.loop-n.invariant.table.values_are ∙ ap (freed s) end;
    }
