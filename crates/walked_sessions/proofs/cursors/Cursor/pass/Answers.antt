use Rattle.std.proofs.Common.{◌≡◌, ◌+◌, Option, Some, refl, sym, ap, subst, ◌∙◌}
use Rattle.std.specs.Prelude.{slice_get}
use Rattle.recorder_files.specs.declared.delivering.Message.{Message}
use Rattle.walked_sessions.specs.declared.cursors.Cursor.{Cursor}
use Rattle.walked_sessions.specs.inner.Passing.{Passes}
use Rattle.walked_sessions.proofs.Passing.{passes_one}
use Rattle.walked_sessions.proofs.cursors.Cursor.pass.Goals as goal

pub returns-else-not-is_same-clause-passed : goal.returns-else-not-is_same-clause-passed
returns-else-not-is_same-clause-passed c =
    let old : Cursor = c.args.self.now in
    let new : Cursor = record { messages = c.args.self.now.messages; numbers = c.args.self.now.numbers; place = c.args.self.now.place + 1 } in
    let message : Message = c.in-Some.message in
    let found : slice_get c.args.self.now.messages.now c.args.self.now.place ≡ Some message = sym c.next.ensures ∙ (c.in-Some-next.is ∙ ap (λ (m : Message). Some m) (c.is_same.ensures.0 c.if-not-is_same.false)) in
    let passes : Passes old new (Some message) c.number-number.result = passes_one old new message c.number-number.result refl refl refl found c.number-number.ensures in
    subst (λ (o : Option Message). Passes old new o c.number-number.result) (sym c.in-Some.is) passes
