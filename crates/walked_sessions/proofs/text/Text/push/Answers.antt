use Rattle.std.proofs.Common.{◌∙◌, ap, refl, subst}
use Rattle.walked_sessions.specs.declared.text.ListKind.{ListKind}
use Rattle.walked_sessions.specs.inner.Made.{Takes, list_of}
use Rattle.walked_sessions.proofs.Sections.{pushed_record}
use Rattle.walked_sessions.proofs.text.Text.push.Goals as goal

pub returns-clause-stands : goal.returns-clause-stands
returns-clause-stands c = λ before d s. pushed_record before c.reach.new.self c.take.new.self (record { bytes = c.push.new.out; front = c.take.new.self.front; init = c.take.new.self.init; version = c.take.new.self.version; section = c.take.new.self.section; left = c.take.new.self.left }) d c.args.rec.now (subst (λ (at : ListKind). Takes c.reach.new.self c.take.new.self at) (c.list_of.ensures ∙ ap list_of c.log-2.ensures) c.in_ok-take.ensures) (record { same = record { front = refl; init = refl; version = refl }; section = refl; left = refl; bytes = c.in-Ok.ensures }) (c.in_ok-reach.ensures.stands before d s)
