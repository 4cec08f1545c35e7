use Rattle.std.proofs.Common.{◌++◌, ◌∷◌, [], ap, ◌∙◌}
use Rattle.recorder_files.proofs.Needs.{more_needed, no_more_needed}
use Rattle.recorder_files.proofs.steps.Steps.note.Goals as goal

pub returns-in_ok-push : goal.returns-in_ok-push
returns-in_ok-push c = λ other names named is e n. more_needed other names named c.args.self.now c.push.new.self c.take_room.new.self.expected c.args.place c.args.needed is e n c.if-needed-self.true (c.in_ok-push.ensures.items ∙ ap (λ xs. xs ++ record { needed = c.args.needed; place = c.args.place } ∷ []) c.take_room.ensures.steps)

pub returns-else-needed-self : goal.returns-else-needed-self
returns-else-needed-self c = λ other names named is e n. no_more_needed other names named c.args.self.now c.args.place c.args.needed is e n c.if-needed-self.false
