use Rattle.std.proofs.Common.{List, get_or, take, sym, ap, ◌∙◌, subst, arith}
use Rattle.std.proofs.lemmas.List.{get_or_default, take_all, take_more}
use Rattle.migration_types.specs.declared.records.LogName.TheVariants.{Guest}
use Rattle.migration_types.specs.Extents.{Extent}
use Rattle.audit_model.specs.declared.reasons.ShapeReason.TheVariants.{Phases}
use Rattle.cert_check.specs.declared.verdict.ShapeFault.{ShapeFault}
use Rattle.session_story.specs.inner.Touched.{AreTouched}
use Rattle.session_story.proofs.Untouched.{apart_by, none_apart, none_touched, one_touched, touched_below}
use Rattle.session_story.proofs.apart.marked.Goals as goal

-- what stands in the place of a misshapen record past the last one
abbrev no_fault : ShapeFault
no_fault = record { line = 0; log = Guest; place = 0; reason = Phases }

pub loop-fault-init : goal.loop-fault-init
loop-fault-init c = none_touched c.args.session.now c.in_ok-marks.marks (c.in_ok-marks.ensures.pages ∙ c.pages.ensures ∙ ap (λ (g : Extent). g.pages) c.geometry.ensures) c.in_ok-marks.ensures.values

pub set-requires : goal.set-requires
set-requires c =
    let below = touched_below c.args.session.now c.keeps_limits.ensures _ c.in-Some.page (sym c.page_touched.ensures ∙ c.in-Some.is) in
    omega (arith, below, c.loop-fault.invariant.pages_are)

pub loop-fault-preserved : goal.loop-fault-preserved
loop-fault-preserved c =
    let s = c.args.session.now in
    let faults = c.args.faults.now in
    let k = c.loop-fault.fault-index in
    subst (λ (xs : List ShapeFault). AreTouched s xs c.set.new.self) (sym (take_more faults k no_fault c.loop-fault-test.true))
    (one_touched s (take k faults) (get_or faults k no_fault) c.in-Some.page c.loop-fault.marks c.set.new.self c.loop-fault.invariant (sym c.page_touched.ensures ∙ c.in-Some.is) c.set.ensures)

pub returns-in_default : goal.returns-in_default
returns-in_default c =
    let faults = c.args.faults.now in
    let k = c.loop-fault.fault-index in
    let f = get_or faults k no_fault in
    none_apart c.args.session.now faults c.requires f (k, c.loop-fault-test.true, get_or_default faults k f no_fault c.loop-fault-test.true) (sym c.page_touched.ensures ∙ c.in_default.is)

pub returns : goal.returns
returns c =
    let faults = c.args.faults.now in
    let all = take_all c.loop-fault.fault-index faults c.loop-fault-test.false in
    apart_by c.args.session.now faults c.requires c.loop-fault.marks (subst (λ (xs : List ShapeFault). AreTouched c.args.session.now xs c.loop-fault.marks) all c.loop-fault.invariant)
