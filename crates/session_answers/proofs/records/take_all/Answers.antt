use Rattle.std.proofs.Common.{None, get_or}
use Rattle.std.proofs.lemmas.List.{get_or_default}
use Rattle.migration_types.specs.declared.records.LogName.TheVariants.{Guest}
use Rattle.session_answers.specs.declared.records.Part.{Part}
use Rattle.session_answers.specs.declared.records.Role.TheVariants.{Faulty}
use Rattle.session_answers.specs.RecordsText.{part, told}
use Rattle.session_answers.proofs.Growing.{next_added}
use Rattle.session_answers.proofs.records.take_all.Goals as goal

-- what stands in the place of a part past the last one
abbrev no_part : Part
no_part = part Faulty Guest None

pub loop-part-preserved : goal.loop-part-preserved
loop-part-preserved g c =
    let parts = c.args.parts.now in
    let i = c.loop-part.part-index in
    let one = get_or parts i no_part in
    next_added (told (g.L.Lines.tell c.args.lines.now) c.args.session.now) c.args.records.now.items c.loop-part.records.items c.take.new.records.items parts i one c.loop-part-test.true (get_or_default parts i no_part one c.loop-part-test.true) c.loop-part.invariant c.in_ok-take.ensures
