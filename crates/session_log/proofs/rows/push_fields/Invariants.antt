use Rattle.std.proofs.Common.{◌≡◌, ◌++◌, drop, None}
use Rattle.session_log.specs.Rows.{fields_text}
use Rattle.session_log.proofs.rows.push_fields.Given as goal

abbrev pub invariant-loop-field : goal.invariant-loop-field
invariant-loop-field l = l.out.items ++ fields_text (drop l.field-index l.fields) None ≡ l.fn.out.items ++ fields_text l.fields None
