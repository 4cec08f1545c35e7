-- Why a run stops.
use Rattle.migration_events.specs.declared.faults.EventFault.{EventFault}
use Rattle.migration_events.specs.declared.faults.EventFault.TheVariants as refused
use Rattle.host_threads.specs.declared.stop_reason.StopReason.{StopReason}
use Rattle.host_threads.specs.declared.stop_reason.StopReason.TheVariants.{LogFull, Memory}

-- why a run stops in which an event was refused
abbrev pub fault_by : EventFault → StopReason
fault_by refused.LogFull = LogFull
fault_by refused.Memory = Memory
