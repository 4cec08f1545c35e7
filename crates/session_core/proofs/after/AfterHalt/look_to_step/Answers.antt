use Rattle.std.proofs.Common.{◌≡◌, true, false, refl, sym, subst}
use Rattle.std.specs.Prelude.{slice_get}
use Rattle.target_side.specs.TargetPart.{target_access}
use Rattle.migration_model.specs.Books.{BooksAfter, session_after}
use Rattle.migration_model.specs.Events.{away_step, has_room}
use Rattle.session_core.specs.States.{AfterLists, away_of}
use Rattle.session_core.specs.inner.Steps.{next}
use Rattle.session_core.proofs.Operations.{read_at, late_goes}
use Rattle.session_core.proofs.Parts.{if_ok, if_err, step_fits, step_full}
use Rattle.session_core.proofs.after.AfterHalt.look_to_step.Goals as goal

pub returns-clause-room : goal.returns-clause-room
returns-clause-room c =
    let before : AfterLists = record { script = c.self.inside.script.now; vcpus = c.self.inside.vcpus.items; source = c.self.inside.source; link = c.self.inside.link; pager = c.self.inside.pager; target = c.self.inside.target } in
    let a = away_of before in
    let r = target_access c.args.vcpu c.in-Some-late.op a.target in
    let room = subst (λ (v : AfterLists). has_room (session_after (away_of v)) ≡ true) (sym c.self.view_is) c.keeps_limits.ensures.room in
    let at = read_at c.self.inside.vcpus.items c.deref.result.now c.from.result c.args.vcpu c.in-Some.left.now c.deref.ensures.value c.from.ensures c.in-Some.ensures.lookup.3.0 c.in-Some.ensures.lookup.1 in
    let goes = late_goes c.args.vcpu c.in-Some.left.now (next c.in-Some-late.op c.in-Some-late.field-0-1) a r at (sym c.in-Some-late.ensures) refl in
    if_ok c.look_to_access.result (λ few.
    subst (λ (v : AfterLists). has_room (session_after (away_step c.args.vcpu (slice_get v.vcpus c.args.vcpu) (away_of v))) ≡ true) c.self.view_is
    (subst (λ (b : BooksAfter). has_room (session_after b) ≡ true) goes (step_fits c.args.vcpu c.in-Some-late.field-0-1 r a few room)))
    c.look_to_access.ensures.room

pub returns-clause-full : goal.returns-clause-full
returns-clause-full c =
    let before : AfterLists = record { script = c.self.inside.script.now; vcpus = c.self.inside.vcpus.items; source = c.self.inside.source; link = c.self.inside.link; pager = c.self.inside.pager; target = c.self.inside.target } in
    let a = away_of before in
    let r = target_access c.args.vcpu c.in-Some-late.op a.target in
    let at = read_at c.self.inside.vcpus.items c.deref.result.now c.from.result c.args.vcpu c.in-Some.left.now c.deref.ensures.value c.from.ensures c.in-Some.ensures.lookup.3.0 c.in-Some.ensures.lookup.1 in
    let goes = late_goes c.args.vcpu c.in-Some.left.now (next c.in-Some-late.op c.in-Some-late.field-0-1) a r at (sym c.in-Some-late.ensures) refl in
    if_err c.look_to_access.result (λ long.
    subst (λ (v : AfterLists). has_room (session_after (away_step c.args.vcpu (slice_get v.vcpus c.args.vcpu) (away_of v))) ≡ false) c.self.view_is
    (subst (λ (b : BooksAfter). has_room (session_after b) ≡ false) goes (step_full c.args.vcpu c.in-Some-late.field-0-1 r a long)))
    c.look_to_access.ensures.full
