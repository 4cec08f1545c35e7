use Rattle.std.proofs.Common.{rules, Err, arith, ap, ◌∙◌, get_or, length}
use Rattle.std.specs.Result.{IsErrOf}
use Rattle.host_threads.specs.declared.carry.CarryFault.TheVariants as faults
use Rattle.host_threads.proofs.Echoes.{reads_one, faults_none}
use Rattle.host_threads.proofs.carry.receive.Goals as goal
use Rattle.host_threads.proofs.carry.receive.Goals.{in_default, in_default-3, in_default-2, in-Memory, in_default-kind}

pub returns-in-Ok-clause-link : goal.returns-in-Ok-clause-link
returns-in-Ok-clause-link c = λ link is.
    let one = c.as_slice.ensures ∙ reads_one c.one_reading.ensures.same c.args.stream.now c.feed.new.self c.args.came.now c.in-Ok.packets c.args.sent.now c.requires.rest c.requires.extent c.requires.fits c.in-Ok.ensures.taken c.in-Ok.ensures.partial is in
    elim c.if-as_slice-lt1.branch [
      | in_default w ↦ omega (arith, w.in_default.len_below, ap length one)
      | in_default-3 w ↦ w.if-is_same.ensures (w.packet-item.is ∙ ap (λ ps. get_or ps 0 w.packet-item.result) one)
      | in_default-2 w ↦ omega (arith, w.in_default.len_at_least, ap length one)
    ]

not_link : IsErrOf {T = Unit {0}} (Err faults.Memory) faults.Link → ⊥
not_link e = search rules

pub returns-clause-link : goal.returns-clause-link
returns-clause-link c = λ link is.
    elim c.match-fault.branch [
      | in-Memory w ↦ not_link (rw w.result-is at link)
      | in_default-kind w ↦ faults_none c.one_reading.ensures.same c.args.stream.now c.feed.new.self c.args.came.now c.in-Err.fault.before c.in-Err.fault.kind c.args.sent.now c.requires.rest c.requires.going c.requires.extent c.requires.fits c.in-Err.ensures.refused w.in_default-kind.not-Memory is
    ]
