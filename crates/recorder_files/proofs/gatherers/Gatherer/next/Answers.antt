use Rattle.std.proofs.Common.{◌≡◌, ◌+◌, None, length, refl, sym, ap, subst, ◌∙◌, arith}
use Rattle.std.proofs.lemmas.Result.{err_from_is_err_and}
use Rattle.recorder_files.specs.declared.turns.Turn.TheVariants.{Of, Twice, Missing, End}
use Rattle.recorder_files.specs.Logs.{Came, Gathering, Stops}
use Rattle.recorder_files.proofs.Gathering.{comes, missing_below, says_log, stops}
use Rattle.recorder_files.proofs.gatherers.Gatherer.next.Goals as goal

pub returns-in_err-read_given-clause-refused : goal.returns-in_err-read_given-clause-refused
returns-in_err-read_given-clause-refused g c =
    let p = err_from_is_err_and c.from_residual.result c.from_residual.ensures.1 in
    rw (p.1, p.2) (λ party knowns log came. c.in_err-read_given.ensures.refused party knowns log came c.read_given.new.self log)

pub returns-in-Some-clause-taken : goal.returns-in-Some-clause-taken
returns-in-Some-clause-taken g c = λ party knowns log came.
    let inside = c.self.inside in
    let i = c.in-Of.i in
    let was : Gathering = record { files = inside.files.items; heads = inside.heads.items; given = inside.given; number = inside.number } in
    let here : Came party knowns was log = subst (λ (x : Gathering). Came party knowns x log) (sym c.self.view_is) (c.in_ok-read_given.ensures.read party knowns log came) in
    let none : inside.given ≡ None = ap (λ (x : Gathering). x.given) c.self.view_is ∙ c.in_ok-read_given.ensures.none_given in
    let stop : Stops party knowns was log (Of i) = stops party knowns was log c.deref.result.now inside.number c.in-Ok.turn (Of i) here none c.deref.ensures.value refl c.in-Ok.ensures.turn.0 c.in-Of.is in
    let number : inside.number ≡ length log = here.number in
    let next : c.in-Some.next ≡ inside.number + 1 = c.in-Some.ensures.1 in
    (number, comes party knowns was log i c.in-Some.next stop (omega (arith, number, next)))

pub returns-in-Twice-clause-refused : goal.returns-in-Twice-clause-refused
returns-in-Twice-clause-refused g c = λ party knowns log came.
    let inside = c.self.inside in
    let was : Gathering = record { files = inside.files.items; heads = inside.heads.items; given = inside.given; number = inside.number } in
    let here : Came party knowns was log = subst (λ (x : Gathering). Came party knowns x log) (sym c.self.view_is) (c.in_ok-read_given.ensures.read party knowns log came) in
    let none : inside.given ≡ None = ap (λ (x : Gathering). x.given) c.self.view_is ∙ c.in_ok-read_given.ensures.none_given in
    let stop : Stops party knowns was log (Twice c.in-Twice.i c.in-Twice.j) = stops party knowns was log c.deref.result.now inside.number c.in-Ok.turn (Twice c.in-Twice.i c.in-Twice.j) here none c.deref.ensures.value refl c.in-Ok.ensures.turn.0 c.in-Twice.is in
    stop

pub returns-in-Missing-clause-refused : goal.returns-in-Missing-clause-refused
returns-in-Missing-clause-refused g c = λ party knowns log came.
    let inside = c.self.inside in
    let was : Gathering = record { files = inside.files.items; heads = inside.heads.items; given = inside.given; number = inside.number } in
    let here : Came party knowns was log = subst (λ (x : Gathering). Came party knowns x log) (sym c.self.view_is) (c.in_ok-read_given.ensures.read party knowns log came) in
    let none : inside.given ≡ None = ap (λ (x : Gathering). x.given) c.self.view_is ∙ c.in_ok-read_given.ensures.none_given in
    let stop : Stops party knowns was log (Missing c.in-Missing.least) = stops party knowns was log c.deref.result.now inside.number c.in-Ok.turn (Missing c.in-Missing.least) here none c.deref.ensures.value refl c.in-Ok.ensures.turn.0 c.in-Missing.is in
    (missing_below party knowns was log c.in-Missing.least stop, stop)

pub returns-in-End-clause-taken : goal.returns-in-End-clause-taken
returns-in-End-clause-taken g c = λ party knowns log came.
    let inside = c.self.inside in
    let was : Gathering = record { files = inside.files.items; heads = inside.heads.items; given = inside.given; number = inside.number } in
    let here : Came party knowns was log = subst (λ (x : Gathering). Came party knowns x log) (sym c.self.view_is) (c.in_ok-read_given.ensures.read party knowns log came) in
    let none : inside.given ≡ None = ap (λ (x : Gathering). x.given) c.self.view_is ∙ c.in_ok-read_given.ensures.none_given in
    let stop : Stops party knowns was log (End) = stops party knowns was log c.deref.result.now inside.number c.in-Ok.turn (End) here none c.deref.ensures.value refl c.in-Ok.ensures.turn.0 c.in-End.is in
    says_log party knowns was log stop
