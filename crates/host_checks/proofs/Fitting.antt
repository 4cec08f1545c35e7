-- The limits of a session, from its logs'.
use Rattle.std.proofs.Common.{◌≤◌, arith, subst, sym}
use Rattle.migration_types.specs.declared.records.LogName.{LogName}
use Rattle.migration_types.specs.declared.records.LogName.TheVariants.{Guest, Source, Link, Lane, Pager}
use Rattle.migration_types.specs.declared.session.Logs.{Logs}
use Rattle.migration_types.specs.Limits.{HasSize, limits, most_records}
use Rattle.migration_types.specs.Sessions.{recorded, log_length, IsSession}
use Rattle.guest_script.specs.declared.script.Scenario.{Scenario}
use Rattle.guest_script.specs.Scenarios.{IsScenario}
use Rattle.host_checks.specs.inner.Limits.{AreShort, AreOfMachine}

-- each log is within the limit of a host's
short_logs : (s : Scenario) (logs : Logs) → AreShort logs → (log : LogName) → log_length (recorded s.version s.geometry s.init logs) log ≤ most_records
short_logs s logs short Guest = short.guest
short_logs s logs short Source = short.source
short_logs s logs short Link = short.link
short_logs s logs short Lane = short.lane
short_logs s logs short Pager = short.pager

pub is_session : (s : Scenario) (logs : Logs) → IsScenario s → AreShort logs → AreOfMachine s.version s.geometry logs → IsSession (recorded s.version s.geometry s.init logs)
is_session s logs script short fits = record {
  size = subst (HasSize s.version) (sym script.small) tt;
  geometry = script.geometry;
  init = script.init;
  few_guest = omega (arith, short.guest);
  few_source = omega (arith, short.source);
  few_link = omega (arith, short.link);
  few_lane = omega (arith, short.lane);
  few_pager = omega (arith, short.pager);
  own = λ log. subst (λ size. log_length (recorded s.version s.geometry s.init logs) log ≤ (limits size).records) (sym script.small) (short_logs s logs short log);
  guest = fits.guest;
  source = fits.source;
  link = fits.link;
  lane = fits.lane;
  pager = fits.pager;
}
