use Rattle.std.specs.Prelude.{map}
use Rattle.std.proofs.lemmas.Result.{err_from_is_err_and}
use Rattle.recorder_files.proofs.TakenRecords.{comes_next, is_refused, not_missing, notes_more, says_records, says_to_hole}
use Rattle.recorder_files.proofs.taking.take_records.Goals as goal

pub records-preserved : goal.records-preserved
records-preserved g c = λ party knowns begun.
    let line = g.K.LogRecord.line in
    let is_of = g.K.LogRecord.IsOf c.args.machine.now in
    let n = c.records.invariant party knowns begun in
    let now = c.next.new.self in
    let log = map line n.records in
    let next = comes_next party knowns now log c.in-Ok-Some.field-0 c.in-Ok-Some.number c.text.result.now c.in-Ok-Some.field-0-is c.text.ensures (c.in-Ok-Some.ensures.taken party knowns log n.came) in
    notes_more line is_of g.T.RecordTaker.Takes party knowns c.records.files now c.args.taker.now c.records.taker c.take_text.new.taker c.args.onto.now c.records.onto c.take_text.new.onto c.text.result.now c.in-Ok-Some.number n next.0 next.1 c.in_ok-take_text-in-Ok-Some.ensures.taken

pub returns-in_err-take_text-in-Ok-Some-clause-refused :
    goal.returns-in_err-take_text-in-Ok-Some-clause-refused
returns-in_err-take_text-in-Ok-Some-clause-refused g c =
    let p = err_from_is_err_and c.from_residual.result c.from_residual.ensures.1 in
    rw (p.1, p.2) (λ party knowns begun.
    let line = g.K.LogRecord.line in
    let is_of = g.K.LogRecord.IsOf c.args.machine.now in
    let n = c.records.invariant party knowns begun in
    let now = c.next.new.self in
    let log = map line n.records in
    let next = comes_next party knowns now log c.in-Ok-Some.field-0 c.in-Ok-Some.number c.text.result.now c.in-Ok-Some.field-0-is c.text.ensures (c.in-Ok-Some.ensures.taken party knowns log n.came) in
    is_refused line is_of g.T.RecordTaker.Takes g.T.RecordTaker.IsUnfit party knowns c.records.files now c.args.taker.now c.records.taker c.args.onto.now c.records.onto c.text.result.now c.in-Ok-Some.number c.in_err-take_text-in-Ok-Some.field-0.0 n next.0 next.1 c.in_err-take_text-in-Ok-Some.ensures.refused)

pub returns-in-Ok-None-clause-taken : goal.returns-in-Ok-None-clause-taken
returns-in-Ok-None-clause-taken g c = λ party knowns begun.
    let line = g.K.LogRecord.line in
    let n = c.records.invariant party knowns begun in
    says_records line (g.K.LogRecord.IsOf c.args.machine.now) g.T.RecordTaker.Takes party knowns c.records.files c.next.new.self c.args.taker.now c.records.taker c.args.onto.now c.records.onto c.in-Ok-None.field-0 n c.in-Ok-None.field-0-is (c.in-Ok-None.ensures.taken party knowns (map line n.records) n.came)

pub returns-in-Some-clause-taken : goal.returns-in-Some-clause-taken
returns-in-Some-clause-taken g c = λ party knowns begun.
    let line = g.K.LogRecord.line in
    let n = c.records.invariant party knowns begun in
    says_to_hole line (g.K.LogRecord.IsOf c.args.machine.now) g.T.RecordTaker.Takes party knowns c.records.files c.next.new.self c.args.taker.now c.records.taker c.args.onto.now c.records.onto c.in-Err.fault c.in-Some.least n c.in-Some.ensures.found (c.in-Err.ensures.refused party knowns (map line n.records) n.came)

pub returns-in-None-clause-refused : goal.returns-in-None-clause-refused
returns-in-None-clause-refused g c = λ party knowns begun.
    let n = c.records.invariant party knowns begun in
    (n.records, n.each, c.in-Err.ensures.refused party knowns (map g.K.LogRecord.line n.records) n.came)

pub returns-in_err-take_text-in-Ok-Some-clause-to_hole : goal.returns-in_err-take_text-in-Ok-Some-clause-to_hole
returns-in_err-take_text-in-Ok-Some-clause-to_hole g c =
    let p = err_from_is_err_and c.from_residual.result c.from_residual.ensures.1 in
    rw (p.1, p.2) (not_missing g.K.LogRecord.line (g.K.LogRecord.IsOf c.args.machine.now) g.T.RecordTaker.IsUnfit _ _ _ _ c.in_err-take_text-in-Ok-Some.ensures.refused)
