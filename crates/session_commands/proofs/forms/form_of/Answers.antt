use Rattle.std.proofs.Common.{inl, inr, refl}
use Rattle.session_commands.proofs.Few.{right_of}
use Rattle.session_commands.proofs.forms.form_of.Goals as goal

pub returns-then-needs_large : goal.returns-then-needs_large
returns-then-needs_large c = λ s facts. record {
  large = (λ is. (c.needs_large.ensures s facts).0 c.if-needs_large.true, λ needs. refl);
  two = (λ is. inl refl, λ needs. refl);
}

pub returns-then-needs_two : goal.returns-then-needs_two
returns-then-needs_two c = λ s facts. record {
  large = (λ is. absurd cc, λ needs. let has = (c.needs_large.ensures s facts).1 needs in absurd cc);
  two = (λ is. inr ((c.needs_two.ensures s facts).0 c.if-needs_two.true), λ needs. refl);
}

pub returns : goal.returns
returns c = λ s facts. record {
  large = (λ is. absurd cc, λ needs. let has = (c.needs_large.ensures s facts).1 needs in absurd cc);
  two = (λ is. absurd cc, λ needs. let has = (c.needs_two.ensures s facts).1 (right_of (λ is. absurd cc) needs) in absurd cc);
}
