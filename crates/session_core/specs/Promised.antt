-- What is promised about a session that a core has recorded.
use Rattle.std.specs.Prelude.{◌≡◌, List, Some}
use Rattle.migration_types.specs.Certs.{Certified}
use Rattle.migration_types.specs.Receipts.{Name}
use Rattle.migration_types.specs.Sessions.{Recorded}
use Rattle.audit_model.specs.Laws.{IsCertified, HasCertificate}
use Rattle.migration_events.specs.declared.events.Event.{Event}
use Rattle.migration_model.specs.Events.{run, start}
use Rattle.migration_model.specs.Books.{Recording, Scripted, session_of}
use Rattle.migration_model.specs.Promise.{IsFaultlessSession}

-- A recorded session, and the order in which it was recorded. The session is faultless, so it is safe in each of its
-- mergings, and the recorded order is one of these. The session has a right certificate over any merging.
pub record IsPromised (s : Recorded) (order : List Name) : Type 0 where
  pub faultless : IsFaultlessSession s order
  pub is_certified : (c : Certified) × IsCertified s c
  pub has_certificate : HasCertificate s

-- None of these events was refused, the session is what they recorded from the script's start, and everything is
-- promised about it.
pub record IsRecordedBy (script : Scripted) (events : List Event) (s : Recorded) : Type 0 where
  pub core : Recording
  pub runs : run events (start script) ≡ Some core
  pub is_session : s ≡ session_of core.books
  pub promised : IsPromised s core.order
