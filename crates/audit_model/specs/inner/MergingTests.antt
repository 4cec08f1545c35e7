-- Tests for mergings, which the plain programs compute.
use Rattle.std.specs.Prelude.{Bool, ◌==◌, ◌&&◌, nat_lt}
use Rattle.migration_types.specs.declared.records.LogName.TheVariants.{Guest, Source, Link, Lane, Pager}
use Rattle.migration_types.specs.Receipts.{Name}
use Rattle.migration_types.specs.Sessions.{Recorded}
use Rattle.audit_model.specs.Names.{log_length, receipt}
use Rattle.audit_model.specs.Mergings.{Cursors}
use Rattle.audit_model.specs.FoundOrder.{is_received}

-- whether the record with this name may follow
abbrev pub may : Recorded → Cursors → Name → Bool
may s c name = (name.1 == c name.0) && (nat_lt name.1 (log_length s name.0) && is_received c (receipt s name))

-- whether each log was taken to its end
abbrev pub all_taken : Recorded → Cursors → Bool
all_taken s c =
    (c Guest == log_length s Guest) && ((c Source == log_length s Source) && ((c Link == log_length s Link) && ((c Lane == log_length s Lane) && (c Pager == log_length s Pager))))
