use Rattle.std.proofs.Common.{List, length, refl, sym, ap, subst, arith}
use Rattle.migration_types.specs.declared.records.GuestRec.{GuestRec}
use Rattle.migration_types.specs.Sessions.{GuestRecFits}
use Rattle.audit_model.specs.Flat.{flat}
use Rattle.audit_model.proofs.Lists.{each_at}
use Rattle.page_facts.specs.Ranges.{CellFits}
use Rattle.page_facts.proofs.Framing.{cell_fits}
use Rattle.page_facts.proofs.Reading.{read_at}
use Rattle.session_story.specs.inner.Cells.{IsPage}
use Rattle.session_story.proofs.Faulting.{wrongly}
use Rattle.session_story.proofs.Setting.{cells_on}
use Rattle.session_story.proofs.Tallying.{few_noted, none_noted, noted}
use Rattle.session_story.proofs.kinds.wrong_reads.Goals as goal

pub loop-n-init : goal.loop-n-init
loop-n-init c = record {
  tally = none_noted (wrongly c.args.session.now c.args.page) c.args.session.now.guest _ refl refl;
  cells = c.in_ok-cells.ensures;
}

pub reads_other-requires : goal.reads_other-requires
reads_other-requires c =
    let s = c.args.session.now in
    let n = c.loop-n.n in
    let r = c.index-guest-n.result in
    let many = ap (λ (xs : List GuestRec). length xs) c.guest-guest.ensures in
    let is = read_at c.guest-guest.result.now s.guest n r c.guest-guest.ensures (omega (arith, many, c.loop-n-test.true)) c.index-guest-n.is in
    let fits = each_at (GuestRecFits s.geometry) s.guest n r c.keeps_limits.ensures.guest is in
    rw c.deref.ensures.value (subst (λ k. CellFits k r) (sym c.loop-n.invariant.cells.size) (cell_fits s.geometry r fits))

pub note-requires : goal.note-requires
note-requires c =
    let few = few_noted (wrongly c.args.session.now c.args.page) c.args.session.now.guest c.loop-n.n c.loop-n.tally c.loop-n.invariant.tally in
    let many = ap (λ (xs : List GuestRec). length xs) c.guest-guest.ensures in
    omega (arith, few, many, c.loop-n-test.true, c.keeps_limits.ensures.few_guest)

pub loop-n-preserved : goal.loop-n-preserved
loop-n-preserved c =
    let s = c.args.session.now in
    let page = c.args.page in
    let n = c.loop-n.n in
    let r = c.index-guest-n.result in
    let i = c.loop-n.invariant in
    let many = ap (λ (xs : List GuestRec). length xs) c.guest-guest.ensures in
    let is = read_at c.guest-guest.result.now s.guest n r c.guest-guest.ensures (omega (arith, many, c.loop-n-test.true)) c.index-guest-n.is in
    let shown : IsPage c.loop-n.cells.items (flat s n page) (length c.loop-n.cells.items) = subst (λ k. IsPage c.loop-n.cells.items (flat s n page) k) (sym i.cells.size) i.cells in
    let cells : IsPage c.deref.result.now (flat s n page) (length c.deref.result.now) = subst (λ xs. IsPage xs (flat s n page) (length xs)) (sym c.deref.ensures.value) shown in
    record {
      tally = noted (wrongly s page) s.guest n r c.reads_other.result c.loop-n.tally c.note.new.tally is (c.reads_other.ensures (flat s n page) cells) c.note.ensures i.tally;
      cells = cells_on s page n s.geometry.cells r c.change.new.cells.items is (c.change.ensures (flat s n page) s.geometry.cells i.cells);
    }
