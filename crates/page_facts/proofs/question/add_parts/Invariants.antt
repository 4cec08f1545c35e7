use Rattle.std.proofs.Common.{◌≡◌}
use Rattle.std.specs.List.{AllByRecursion}
use Rattle.page_facts.specs.inner.Parts.{IsPart}
use Rattle.page_facts.proofs.question.add_parts.Given as goal

abbrev pub invariant-loop-part : goal.invariant-loop-part
invariant-loop-part g l =
    let m = g.Q.Question in
    record {
      can : (goal.iterator-loop-part g).can_next l.part-iterator;
      finite : (goal.iterator-loop-part g).is_finite l.part-iterator;
      parts : AllByRecursion (λ part. IsPart (m.IsAnswer l.question l.session) l.session.geometry.pages part.first part.count part.answer) l.part-iterator.rest.items;
      first : l.all.first ≡ l.fn.all.first;
      all : IsPart (m.IsAnswer l.question l.session) l.session.geometry.pages l.all.first l.all.count l.all.answer;
    }
