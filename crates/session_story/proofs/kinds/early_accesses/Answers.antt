use Rattle.std.proofs.Common.{List, length, refl, ap, ◌∙◌, arith}
use Rattle.migration_types.specs.declared.records.GuestRec.{GuestRec}
use Rattle.page_facts.proofs.Reading.{read_at}
use Rattle.session_story.proofs.Faulting.{early, early_on, freed_on, late_on}
use Rattle.session_story.proofs.Tallying.{few_noted, none_noted, noted}
use Rattle.session_story.proofs.kinds.early_accesses.Goals as goal

pub loop-n-init : goal.loop-n-init
loop-n-init c = record {
  tally = none_noted (early c.args.session.now c.args.page.now.page) c.args.session.now.guest _ refl refl;
  late = refl;
  freed = refl;
}

pub note-requires : goal.note-requires
note-requires c =
    let few = few_noted (early c.args.session.now c.args.page.now.page) c.args.session.now.guest c.loop-n.n c.loop-n.tally c.loop-n.invariant.tally in
    let many = ap (λ (xs : List GuestRec). length xs) c.guest-guest.ensures in
    omega (arith, few, many, c.loop-n-test.true, c.keeps_limits.ensures.few_guest)

pub loop-n-preserved : goal.loop-n-preserved
loop-n-preserved c =
    let s = c.args.session.now in
    let t = c.args.page.now in
    let n = c.loop-n.n in
    let r = c.index-guest-n.result in
    let i = c.loop-n.invariant in
    let many = ap (λ (xs : List GuestRec). length xs) c.guest-guest.ensures in
    let is = read_at c.guest-guest.result.now s.guest n r c.guest-guest.ensures (omega (arith, many, c.loop-n-test.true)) c.index-guest-n.is in
    let same = c.is_early.ensures ∙ early_on s t c.requires n r c.loop-n.late c.loop-n.freed (omega (arith, many, c.loop-n-test.true)) i.late i.freed in
    record {
      tally = noted (early s t.page) s.guest n r c.is_early.result c.loop-n.tally c.note.new.tally is same c.note.ensures i.tally;
      late = c.late_after-late.ensures ∙ late_on s t.page n r c.loop-n.late is i.late;
      freed = c.freed_after-freed.ensures ∙ freed_on s t.page n r c.loop-n.late c.loop-n.freed is i.late i.freed;
    }
