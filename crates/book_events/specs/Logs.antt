-- What was recorded, as logs.
use Rattle.std.specs.Prelude.{ℕ, List, [], ◌∷◌, length}
use Rattle.migration_types.specs.declared.records.GuestRec.{GuestRec}
use Rattle.migration_types.specs.declared.session.Logs.{Logs}
use Rattle.migration_types.specs.Sessions.{Recorded}

-- the logs of a session
abbrev pub logs_in : Recorded → Logs
logs_in s = record { guest = s.guest; source = s.source; link = s.link; lane = s.lane; pager = s.pager }

-- the logs if nobody but the guest has recorded anything
abbrev pub of_guest : List GuestRec → Logs
of_guest log = record { guest = log; source = []; link = []; lane = []; pager = [] }

-- how many records each log has, in the order of the logs
abbrev pub lengths_of : Logs → List ℕ
lengths_of logs = length logs.guest ∷ length logs.source ∷ length logs.link ∷ length logs.lane ∷ length logs.pager ∷ []
