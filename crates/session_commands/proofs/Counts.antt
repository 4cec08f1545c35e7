-- How many records the logs have, and are written.
use Rattle.std.proofs.Common.{◌≡◌, ◌<◌, ◌≤◌, ℕ, Bool, true, false, refl, sym, subst}
use Rattle.migration_types.specs.declared.records.LogName.{LogName}
use Rattle.migration_types.specs.declared.records.LogName.TheVariants.{Guest, Source, Link, Lane, Pager}
use Rattle.migration_types.specs.Sessions.{Recorded, log_length}
use Rattle.recorder_files.specs.Fronts.{cursors_of}
use Rattle.recorder_files.specs.declared.fronts.Front.{Front}
use Rattle.session_commands.specs.Facts.{SomeIn}
use Rattle.session_commands.specs.Written.{has_lone_halted, IsWrittenFront}

pub some_in : (count : LogName → ℕ) → 0 < count Guest → 0 < count Source → 0 < count Link → 0 < count Pager → SomeIn count
some_in count guest source link pager Guest other = guest
some_in count guest source link pager Source other = source
some_in count guest source link pager Link other = link
some_in count guest source link pager Lane other = absurd (other refl)
some_in count guest source link pager Pager other = pager

-- the front that is written has no more records than there are
pub within : (s : Recorded) (front : Front) → IsWrittenFront s front → (log : LogName) → cursors_of front log ≤ log_length s log
within s front w log = by_lone (has_lone_halted s w.greatest) refl
  where
    by_lone : (lone : Bool) → has_lone_halted s w.greatest ≡ lone → cursors_of front log ≤ log_length s log
    by_lone true lone = (w.without lone).front.within log
    by_lone false lone = subst (λ (f : Front). cursors_of f log ≤ log_length s log) (sym (w.as_it_is lone)) (w.is_greatest.front.within log)
