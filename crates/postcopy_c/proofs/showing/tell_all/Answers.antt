use Rattle.std.proofs.Common.{inl}
use Rattle.postcopy_c.specs.Texts.{texts_of}
use Rattle.postcopy_c.proofs.Clean.{report_by_number, exactly_by_number, faulty_by_number}
use Rattle.postcopy_c.proofs.showing.tell_all.Goals as goal

pub returns-in-Ok-clause-told : goal.returns-in-Ok-clause-told
returns-in-Ok-clause-told c = inl (record {
  audited = c.in-Ok.showing.audited;
  texts = texts_of c.in-Ok.showing.texts;
  are_shown = c.in-Ok.ensures.showing.are_shown;
  are_numbers = c.put_shown.ensures.numbers;
  is_put = c.put_shown.ensures.put;
  are_ends = c.put_shown.ensures.ends;
})

pub returns-in-Ok-clause-one_session : goal.returns-in-Ok-clause-one_session
returns-in-Ok-clause-one_session c = λ other _.
    c.in-Ok.ensures.one_session (report_by_number c.in-Ok.showing.audited _ c.put_shown.result c.put_shown.ensures.numbers other)

pub returns-in-Ok-clause-exactly : goal.returns-in-Ok-clause-exactly
returns-in-Ok-clause-exactly c = λ some.
    exactly_by_number c.args.session.now c.in-Ok.showing.audited _ c.put_shown.result c.put_shown.ensures.numbers c.in-Ok.ensures.exactly

pub returns-in-Ok-clause-faulty : goal.returns-in-Ok-clause-faulty
returns-in-Ok-clause-faulty c = λ kind.
    c.in-Ok.ensures.faulty (faulty_by_number c.in-Ok.showing.audited _ c.put_shown.result c.put_shown.ensures.numbers kind)
