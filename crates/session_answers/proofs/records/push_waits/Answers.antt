use Rattle.std.proofs.Common.{Some, get_or}
use Rattle.std.proofs.lemmas.List.{get_or_default}
use Rattle.migration_types.specs.declared.records.LogName.TheVariants.{Guest}
use Rattle.session_story.specs.declared.knots.Waiting.{Waiting}
use Rattle.session_answers.specs.declared.records.Role.TheVariants.{Waits}
use Rattle.session_answers.specs.RecordsText.{part}
use Rattle.session_answers.proofs.Growing.{next_mapped}
use Rattle.session_answers.proofs.records.push_waits.Goals as goal

-- what stands in the place of a record that waits past the last one
abbrev no_wait : Waiting
no_wait = record { log = Guest; place = 0; sent_log = Guest; sent_place = 0 }

pub loop-waiting-preserved : goal.loop-waiting-preserved
loop-waiting-preserved c =
    let waits = c.args.waits.now in
    let i = c.loop-waiting.waiting-index in
    let one = get_or waits i no_wait in
    next_mapped (λ (w : Waiting). part Waits w.log (Some w.place)) c.args.parts.now.items c.loop-waiting.parts.items c.push.new.self.items waits i one c.loop-waiting-test.true (get_or_default waits i no_wait one c.loop-waiting-test.true) c.loop-waiting.invariant c.in_ok-push.ensures.items
