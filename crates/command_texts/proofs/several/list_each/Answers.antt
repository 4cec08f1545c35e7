use Rattle.std.proofs.Common.{◌∙◌, ℕ, List, [], arith, inl, refl}
use Rattle.std.proofs.lemmas.Result.{err_from_is_err_and}
use Rattle.std.specs.Borrow.{Bor}
use Rattle.command_texts.specs.Several.{style_of}
use Rattle.text_access.specs.Written.{Streams}
use Rattle.text_access.proofs.Fronts.{both_gain, same_gains}
use Rattle.command_texts.proofs.Listed.{all_listed, greater_known, next_listed, none_listed, one_unread, stops_there}
use Rattle.command_texts.proofs.several.list_each.Goals as goal

-- what stands in a name's place past the last one
abbrev no_name : Bor (List ℕ)
no_name = record { ref_ptr = (0, 0); now = [] }

pub loop-name-init : goal.loop-name-init
loop-name-init g c = record { few = omega arith; stays = refl; listed = none_listed _ _ _ _ _ _ _; known = inl (omega arith); unread = λ three. absurd cc; gains = (same_gains _, same_gains _) }

pub loop-name-preserved : goal.loop-name-preserved
loop-name-preserved g c =
    let i = c.loop-name.invariant in
    let one = c.in_ok-status.ensures in
    let status = c.in_ok-status.status in
    let old : Streams = (g.O.Write.contents c.args.console.now.output, g.E.Write.contents c.args.console.now.errors) in
    let mid : Streams = (g.O.Write.contents c.loop-name.console.output, g.E.Write.contents c.loop-name.console.errors) in
    let new : Streams = (g.O.Write.contents c.list_one.new.console.output, g.E.Write.contents c.list_one.new.console.errors) in
    let listed = rw i.stays at one.listed in
    let more = next_listed _ _ _ _ _ (style_of c.args.listing) c.args.names.now c.loop-name.name-index no_name old mid new c.loop-name.well c.loop-name.worst status c.loop-name-test.true i.listed listed in
    record {
      few = omega (arith, i.few, c.count_of-well.ensures.few);
      stays = one.stays ∙ i.stays;
      listed = rw (c.count_of-well.ensures.count, c.greater-worst.ensures) more;
      known = rw c.greater-worst.ensures (greater_known c.loop-name.worst status i.known one.known);
      unread = rw c.greater-worst.ensures (one_unread c.loop-name.worst status old.1 mid.1 new.1 _ i.gains.1 one.gains.1 i.unread one.unread);
      gains = (both_gain _ _ _ i.gains.0 one.gains.0, both_gain _ _ _ i.gains.1 one.gains.1);
    }

pub returns-clause-listed : goal.returns-clause-listed
returns-clause-listed g c = all_listed _ _ _ _ _ (style_of c.args.listing) c.args.names.now c.loop-name.name-index (g.O.Write.contents c.args.console.now.output, g.E.Write.contents c.args.console.now.errors) (g.O.Write.contents c.loop-name.console.output, g.E.Write.contents c.loop-name.console.errors) c.loop-name.well c.loop-name.worst c.loop-name-test.false c.loop-name.invariant.listed

pub returns-in_err-status-clause-stops : goal.returns-in_err-status-clause-stops
returns-in_err-status-clause-stops g c =
    let p = err_from_is_err_and c.from_residual.result c.from_residual.ensures.1 in
    let i = c.loop-name.invariant in
    rw (p.1, p.2) (stops_there _ _ _ _ _ (style_of c.args.listing) c.args.names.now c.loop-name.name-index (g.O.Write.contents c.args.console.now.output, g.E.Write.contents c.args.console.now.errors) (g.O.Write.contents c.loop-name.console.output, g.E.Write.contents c.loop-name.console.errors) (g.O.Write.contents c.list_one.new.console.output, g.E.Write.contents c.list_one.new.console.errors) c.loop-name.well c.loop-name.worst _ i.listed c.in_err-status.ensures.stop c.in_err-status.ensures.gains)

pub returns-in_err-status-clause-gains : goal.returns-in_err-status-clause-gains
returns-in_err-status-clause-gains g c =
    let i = c.loop-name.invariant in
    let one = c.in_err-status.ensures.gains in
    (both_gain _ _ _ i.gains.0 one.0, both_gain _ _ _ i.gains.1 one.1)
