use Rattle.std.proofs.Common.{◌≡◌, Bool, true, false, not, Option, Some, None, inl, inr, refl}
use Rattle.std.specs.Prelude.{◌↔◌, is_some, IsTrue}
use Rattle.recorder_files.specs.declared.lines.Party.TheVariants.{Of}
use Rattle.walked_sessions.proofs.Refusing.{plain_begun, plain_open, plain_taking, unfits}
use Rattle.walked_sessions.proofs.files.take_log.Goals as goal

none_is : {X : Type 0} (o : Option X) (is_none : Bool) → is_some o ≡ not is_none → IsTrue is_none ↔ (o ≡ None)
none_is None true e = (λ _. refl, λ _. refl)
none_is None false e = absurd cc
none_is (Some x) true e = absurd cc
none_is (Some x) false e = (λ is. absurd cc, λ is. absurd cc)

pub returns-in-Ok-take_records-clause-taken : goal.returns-in-Ok-take_records-clause-taken
returns-in-Ok-take_records-clause-taken g c =
    let log = c.args.log in
    let bytes = g.F.LogFiles.bytes_of c.args.files.now log in
    let t = c.in-Ok-take_records.ensures.taken (Of log) bytes (c.in-Ok-new.ensures.begun (Of log) bytes c.in-Ok.ensures.opened) in
    record { records = t.0; tell = record { gathering = c.take_records.new.files; hole = c.in-Ok-take_records.hole; say = t.1 }; whole = none_is c.in-Ok-take_records.hole c.is_none.result c.is_none.ensures; is = t.2 }

pub returns-clause-refused : goal.returns-clause-refused
returns-clause-refused g c =
    let log = c.args.log in
    let bytes = g.F.LogFiles.bytes_of c.args.files.now log in
    let f = c.in-Err-Unfit.ensures.refused (Of log) bytes (c.in-Ok-new.ensures.begun (Of log) bytes c.in-Ok.ensures.opened) in
    inr (refl, unfits g.K.LogRecord.line (g.K.LogRecord.IsOf c.args.machine.now) g.T.RecordTaker.Takes g.T.RecordTaker.IsUnfit (Of log) bytes c.take_records.new.files c.args.taker.now c.args.onto.now _ _ c.in-Err-Unfit.field-0-is f)

pub returns-in-Err-clause-refused : goal.returns-in-Err-clause-refused
returns-in-Err-clause-refused g c =
    let log = c.args.log in
    let bytes = g.F.LogFiles.bytes_of c.args.files.now log in
    inl (plain_open g.K.LogRecord.line (g.K.LogRecord.IsOf c.args.machine.now) log (Of log) bytes c.in-Err.fault _ c.in-Err.ensures.refused c.fault_of.ensures)

pub returns-in-Err-new-clause-refused : goal.returns-in-Err-new-clause-refused
returns-in-Err-new-clause-refused g c =
    let log = c.args.log in
    let bytes = g.F.LogFiles.bytes_of c.args.files.now log in
    inl (plain_begun g.K.LogRecord.line (g.K.LogRecord.IsOf c.args.machine.now) log (Of log) bytes c.in-Err-new.fault _ (c.in-Err-new.ensures.refused (Of log) bytes c.in-Ok.ensures.opened) c.fault_of-in-Err-new.ensures)

pub returns-in-Err-Log-clause-refused : goal.returns-in-Err-Log-clause-refused
returns-in-Err-Log-clause-refused g c =
    let log = c.args.log in
    let bytes = g.F.LogFiles.bytes_of c.args.files.now log in
    let f = c.in-Err-Log.ensures.refused (Of log) bytes (c.in-Ok-new.ensures.begun (Of log) bytes c.in-Ok.ensures.opened) in
    inl (plain_taking g.K.LogRecord.line (g.K.LogRecord.IsOf c.args.machine.now) g.T.RecordTaker.Takes g.T.RecordTaker.IsUnfit log (Of log) bytes c.take_records.new.files c.args.taker.now c.args.onto.now _ c.in-Err-Log.fault _ c.in-Err-Log.field-0-is f c.in-Err-Log.ensures.to_hole c.fault_of-in-Err-Log.ensures)
