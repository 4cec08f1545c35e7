use Rattle.std.proofs.Common.{◌≡◌, ◌∙◌, inl, inr, ℕ, sym, ap}
use Rattle.std.specs.Prelude.{slice_get}
use Rattle.target_side.specs.declared.access.Access.{Access}
use Rattle.target_side.specs.declared.access.Access.TheVariants.{Done, Missed}
use Rattle.target_side.specs.TargetPart.{Accessed}
use Rattle.target_side.specs.Kept.{part_of as target_of}
use Rattle.migration_model.specs.Books.{BooksAfter}
use Rattle.migration_model.specs.Events.{away_step}
use Rattle.session_core.specs.States.{AfterLists, away_of}
use Rattle.session_core.specs.inner.Steps.{next, went_on}
use Rattle.session_core.proofs.Operations.{read_at, late_goes}
use Rattle.session_core.proofs.after.AfterHalt.guest_step.Goals as goal

pub returns-in-Done-clause-ok : goal.returns-in-Done-clause-ok
returns-in-Done-clause-ok c =
    let before : AfterLists = record { script = c.self.inside.script.now; vcpus = c.self.inside.vcpus.items; source = c.self.inside.source; link = c.self.inside.link; pager = c.self.inside.pager; target = c.self.inside.target } in
    let after : Access → Accessed = λ access. record { book = target_of c.access.new.self; access = access } in
    let at = read_at c.self.inside.vcpus.items c.deref.result.now c.from.result c.args.vcpu c.in-Some.left.now c.deref.ensures.value c.from.ensures c.in-Some.ensures.lookup.3.0 c.in-Some.ensures.lookup.1 in
    let went : ℕ → BooksAfter = λ v. went_on v c.in-Some-late.rest (after (Done c.in-Done.field-0)) (away_of before) in
    ap went c.from-in-Done.ensures
    ∙ ap (λ (access : Access). went_on c.args.vcpu c.in-Some-late.rest (after access) (away_of before)) (sym c.in-Done.is)
    ∙ late_goes c.args.vcpu c.in-Some.left.now (next c.in-Some-late.op c.in-Some-late.rest) (away_of before) (after c.in_ok-access.field-0) at (sym c.in-Some-late.ensures) c.in_ok-access.ensures.part
    ∙ ap (λ (v : AfterLists). away_step c.args.vcpu (slice_get v.vcpus c.args.vcpu) (away_of v)) c.self.view_is

pub returns-in-Missed-clause-ok : goal.returns-in-Missed-clause-ok
returns-in-Missed-clause-ok c =
    let before : AfterLists = record { script = c.self.inside.script.now; vcpus = c.self.inside.vcpus.items; source = c.self.inside.source; link = c.self.inside.link; pager = c.self.inside.pager; target = c.self.inside.target } in
    let after : Access → Accessed = λ access. record { book = target_of c.access.new.self; access = access } in
    let at = read_at c.self.inside.vcpus.items c.deref.result.now c.from.result c.args.vcpu c.in-Some.left.now c.deref.ensures.value c.from.ensures c.in-Some.ensures.lookup.3.0 c.in-Some.ensures.lookup.1 in
    let went : Access → BooksAfter = λ access. went_on c.args.vcpu c.in-Some-late.rest (after access) (away_of before) in
    let waits : went Missed ≡ went c.in_ok-access.field-0 = elim c.in-Missed.is [ inl e ↦ ap went (sym e) | inr e ↦ ap went (sym e) ] in
    waits
    ∙ late_goes c.args.vcpu c.in-Some.left.now (next c.in-Some-late.op c.in-Some-late.rest) (away_of before) (after c.in_ok-access.field-0) at (sym c.in-Some-late.ensures) c.in_ok-access.ensures.part
    ∙ ap (λ (v : AfterLists). away_step c.args.vcpu (slice_get v.vcpus c.args.vcpu) (away_of v)) c.self.view_is
