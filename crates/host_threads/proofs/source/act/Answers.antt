use Rattle.std.proofs.Common.{rules, is_some}
use Rattle.active_push.specs.Books.{part_of}
use Rattle.migration_events.specs.declared.events.Event.TheVariants.{Serve, SourceTick}
use Rattle.host_threads.proofs.Turning.{turn_within}
use Rattle.host_threads.proofs.source.act.Goals as goal

pub returns-in-Serve-clause-turn : goal.returns-in-Serve-clause-turn
returns-in-Serve-clause-turn c =
    λ made. rw c.in-Serve.is
    (turn_within c.told-in-Serve.result Serve c.args.script.now.window (is_some c.args.script.now.lane) (part_of c.args.book.now) (part_of c.serve.new.source) c.args.link.now.part c.serve.new.link.part (search rules))

pub returns-in-SourceTick-clause-turn : goal.returns-in-SourceTick-clause-turn
returns-in-SourceTick-clause-turn c =
    λ made. rw c.in-SourceTick.is
    (turn_within c.told-in-SourceTick.result SourceTick c.args.script.now.window (is_some c.args.script.now.lane) (part_of c.args.book.now) (part_of c.source_tick.new.source) c.args.link.now.part c.source_tick.new.link.part (search rules))
