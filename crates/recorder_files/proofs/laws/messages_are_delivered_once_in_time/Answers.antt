use Rattle.recorder_files.proofs.Timely.{delivered_once, delivered_in_time}
use Rattle.recorder_files.proofs.laws.messages_are_delivered_once_in_time.Goals as goal

pub returns-clause-once : goal.returns-clause-once
returns-clause-once c = λ messages count. delivered_once messages count

pub returns-clause-in_time : goal.returns-clause-in_time
returns-clause-in_time c = λ messages count. delivered_in_time messages count
