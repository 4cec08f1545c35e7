use Rattle.recorder_files.specs.Fronts.{cursors_of}
use Rattle.session_commands.proofs.Counts.{some_in}
use Rattle.session_commands.proofs.telling.tell_empty.Goals as goal

pub returns : goal.returns
returns c = λ none.
    let pager = c.in_ok-tell_if_empty-4.ensures none in
    let link = c.in_ok-tell_if_empty-3.ensures pager.0 in
    let source = c.in_ok-tell_if_empty-2.ensures link.0 in
    let guest = c.in_ok-tell_if_empty.ensures source.0 in
    (guest.0, some_in (cursors_of c.args.counts) guest.1 source.1 link.1 pager.1)
