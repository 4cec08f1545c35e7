use Rattle.std.proofs.Common.{◌<◌, ◌≤◌, subst}
use Rattle.migration_types.specs.Limits.{most_records}
use Rattle.link_book.specs.LinkPart.{LinkPart, log_length, turned}
use Rattle.link_book.specs.Links.{Linked}
use Rattle.link_book.proofs.Links.{down_kept, up_kept, lane_kept, down_full, up_full, lane_full, down_fits, up_fits, lane_fits}
use Rattle.link_book.proofs.LinkBook.turn.Goals as goal

pub invariant_of-self : goal.invariant_of-self
invariant_of-self c =
    let i = c.self.inside in
    let t = c.turn_line in
    let b : LinkPart = record { log = i.log.items; lane_log = i.lane_log.items; down = i.down.line.items; up = i.up.line.items; lane = i.lane.line.items; down_arrivals = i.down.arrivals.items; up_arrivals = i.up.arrivals.items; lane_arrivals = i.lane.arrivals.items } in
    (down_kept c.args.direction c.args.fate b t.new.log.items t.new.channel.line.items t.new.channel.arrivals.items t.result c.in-Down.is c.self.invariant.0 t.ensures.ok t.ensures.few t.ensures.err, λ has. (t.ensures.room (c.self.invariant.1 has).0, (c.self.invariant.1 has).1, (c.self.invariant.1 has).2))

pub invariant_of-self-in-Up : goal.invariant_of-self-in-Up
invariant_of-self-in-Up c =
    let i = c.self.inside in
    let t = c.turn_line-in-Up in
    let b : LinkPart = record { log = i.log.items; lane_log = i.lane_log.items; down = i.down.line.items; up = i.up.line.items; lane = i.lane.line.items; down_arrivals = i.down.arrivals.items; up_arrivals = i.up.arrivals.items; lane_arrivals = i.lane.arrivals.items } in
    (up_kept c.args.direction c.args.fate b t.new.log.items t.new.channel.line.items t.new.channel.arrivals.items t.result c.in-Up.is c.self.invariant.0 t.ensures.ok t.ensures.few t.ensures.err, λ has. ((c.self.invariant.1 has).0, t.ensures.room (c.self.invariant.1 has).1, (c.self.invariant.1 has).2))

pub invariant_of-self-in-Lane : goal.invariant_of-self-in-Lane
invariant_of-self-in-Lane c =
    let i = c.self.inside in
    let t = c.turn_line-in-Lane in
    let b : LinkPart = record { log = i.log.items; lane_log = i.lane_log.items; down = i.down.line.items; up = i.up.line.items; lane = i.lane.line.items; down_arrivals = i.down.arrivals.items; up_arrivals = i.up.arrivals.items; lane_arrivals = i.lane.arrivals.items } in
    (lane_kept c.args.direction c.args.fate b t.new.log.items t.new.channel.line.items t.new.channel.arrivals.items t.result c.in-Lane.is c.self.invariant.0 t.ensures.ok t.ensures.few t.ensures.err, λ has. ((c.self.invariant.1 has).0, (c.self.invariant.1 has).1, t.ensures.room (c.self.invariant.1 has).2))

pub returns-in-Down-clause-full : goal.returns-in-Down-clause-full
returns-in-Down-clause-full c =
    let i = c.self.inside in
    let b : LinkPart = record { log = i.log.items; lane_log = i.lane_log.items; down = i.down.line.items; up = i.up.line.items; lane = i.lane.line.items; down_arrivals = i.down.arrivals.items; up_arrivals = i.up.arrivals.items; lane_arrivals = i.lane.arrivals.items } in
    λ refused. subst (λ (l : Linked). most_records < log_length c.args.direction (turned c.args.direction c.args.fate l.part)) c.self.view_is (down_full c.args.direction c.args.fate b c.in-Down.is (c.turn_line.ensures.full refused))

pub returns-in-Up-clause-full : goal.returns-in-Up-clause-full
returns-in-Up-clause-full c =
    let i = c.self.inside in
    let b : LinkPart = record { log = i.log.items; lane_log = i.lane_log.items; down = i.down.line.items; up = i.up.line.items; lane = i.lane.line.items; down_arrivals = i.down.arrivals.items; up_arrivals = i.up.arrivals.items; lane_arrivals = i.lane.arrivals.items } in
    λ refused. subst (λ (l : Linked). most_records < log_length c.args.direction (turned c.args.direction c.args.fate l.part)) c.self.view_is (up_full c.args.direction c.args.fate b c.in-Up.is (c.turn_line-in-Up.ensures.full refused))

pub returns-in-Lane-clause-full : goal.returns-in-Lane-clause-full
returns-in-Lane-clause-full c =
    let i = c.self.inside in
    let b : LinkPart = record { log = i.log.items; lane_log = i.lane_log.items; down = i.down.line.items; up = i.up.line.items; lane = i.lane.line.items; down_arrivals = i.down.arrivals.items; up_arrivals = i.up.arrivals.items; lane_arrivals = i.lane.arrivals.items } in
    λ refused. subst (λ (l : Linked). most_records < log_length c.args.direction (turned c.args.direction c.args.fate l.part)) c.self.view_is (lane_full c.args.direction c.args.fate b c.in-Lane.is (c.turn_line-in-Lane.ensures.full refused))

pub returns-in-Down-clause-memory : goal.returns-in-Down-clause-memory
returns-in-Down-clause-memory c =
    let i = c.self.inside in
    let b : LinkPart = record { log = i.log.items; lane_log = i.lane_log.items; down = i.down.line.items; up = i.up.line.items; lane = i.lane.line.items; down_arrivals = i.down.arrivals.items; up_arrivals = i.up.arrivals.items; lane_arrivals = i.lane.arrivals.items } in
    λ refused. subst (λ (l : Linked). log_length c.args.direction (turned c.args.direction c.args.fate l.part) ≤ most_records) c.self.view_is (down_fits c.args.direction c.args.fate b c.in-Down.is (c.turn_line.ensures.memory refused))

pub returns-in-Up-clause-memory : goal.returns-in-Up-clause-memory
returns-in-Up-clause-memory c =
    let i = c.self.inside in
    let b : LinkPart = record { log = i.log.items; lane_log = i.lane_log.items; down = i.down.line.items; up = i.up.line.items; lane = i.lane.line.items; down_arrivals = i.down.arrivals.items; up_arrivals = i.up.arrivals.items; lane_arrivals = i.lane.arrivals.items } in
    λ refused. subst (λ (l : Linked). log_length c.args.direction (turned c.args.direction c.args.fate l.part) ≤ most_records) c.self.view_is (up_fits c.args.direction c.args.fate b c.in-Up.is (c.turn_line-in-Up.ensures.memory refused))

pub returns-in-Lane-clause-memory : goal.returns-in-Lane-clause-memory
returns-in-Lane-clause-memory c =
    let i = c.self.inside in
    let b : LinkPart = record { log = i.log.items; lane_log = i.lane_log.items; down = i.down.line.items; up = i.up.line.items; lane = i.lane.line.items; down_arrivals = i.down.arrivals.items; up_arrivals = i.up.arrivals.items; lane_arrivals = i.lane.arrivals.items } in
    λ refused. subst (λ (l : Linked). log_length c.args.direction (turned c.args.direction c.args.fate l.part) ≤ most_records) c.self.view_is (lane_fits c.args.direction c.args.fate b c.in-Lane.is (c.turn_line-in-Lane.ensures.memory refused))
