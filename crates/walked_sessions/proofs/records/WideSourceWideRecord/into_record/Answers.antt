use Rattle.std.proofs.Common.{ℕ, ap, refl}
use Rattle.migration_types.specs.declared.records.SourceRec.TheVariants as source
use Rattle.recordings.specs.declared.wide.WideSource.TheVariants as wide
use Rattle.recordings.specs.Wide.{source_of}
use Rattle.walked_sessions.specs.Fitting.{SourceFits}
use Rattle.walked_sessions.proofs.Found.{plain, named, IsBelow}
use Rattle.walked_sessions.proofs.records.WideSourceWideRecord.into_record.Goals as goal
use Rattle.migration_types.specs.Sessions.{HasBack}

pub returns-in_ok-halt-in-Halted : goal.returns-in_ok-halt-in-Halted
returns-in_ok-halt-in-Halted c =
    let at = c.in_ok-halt-in-Halted.ensures.0 in
    named source_of SourceFits c.args.machine c.args.self (wide.Halted c.in-Halted.halt) (source.Halted c.in_ok-halt-in-Halted.halt) c.number.result IsBelow c.in-Halted.halt c.in_ok-halt-in-Halted.halt c.in-Halted.is (ap source.Halted at) at (λ version size. (λ h. h, λ h. h)) c.number.ensures

pub returns-in-State : goal.returns-in-State
returns-in-State c = plain source_of SourceFits c.args.machine c.args.self wide.State source.State c.nothing.result c.in-State.is refl (λ version size. tt) c.nothing.ensures

pub returns-in_ok-page-in-Send : goal.returns-in_ok-page-in-Send
returns-in_ok-page-in-Send c =
    let found = c.in_ok-page-in-Send.ensures in
    plain source_of SourceFits c.args.machine c.args.self (wide.Send c.in-Send.page c.in-Send.contents) (source.Send c.in_ok-page-in-Send.page c.in-Send.contents) c.nothing-in-Send.result c.in-Send.is (ap (λ (p : ℕ). source.Send p c.in-Send.contents) found.0) (λ version size. (found.1, found.2)) c.nothing-in-Send.ensures

pub returns-in_ok-sending-in-Again : goal.returns-in_ok-sending-in-Again
returns-in_ok-sending-in-Again c =
    let at = c.in_ok-sending-in-Again.ensures.0 in
    named source_of SourceFits c.args.machine c.args.self (wide.Again c.in-Again.sending) (source.Again c.in_ok-sending-in-Again.sending) c.number-in-Again.result IsBelow c.in-Again.sending c.in_ok-sending-in-Again.sending c.in-Again.is (ap source.Again at) at (λ version size. (λ h. h, λ h. h)) c.number-in-Again.ensures

pub returns-in_ok-up-in-Ask : goal.returns-in_ok-up-in-Ask
returns-in_ok-up-in-Ask c =
    let at = c.in_ok-up-in-Ask.ensures.0 in
    named source_of SourceFits c.args.machine c.args.self (wide.Ask c.in-Ask.up) (source.Ask c.in_ok-up-in-Ask.up) c.number-in-Ask.result IsBelow c.in-Ask.up c.in_ok-up-in-Ask.up c.in-Ask.is (ap source.Ask at) at (λ version size. (λ h. h, λ h. h)) c.number-in-Ask.ensures

pub returns-in-Done : goal.returns-in-Done
returns-in-Done c = plain source_of SourceFits c.args.machine c.args.self wide.Done source.Done c.nothing-in-Done.result c.in-Done.is refl (λ version size. tt) c.nothing-in-Done.ensures

pub returns-in-Back : goal.returns-in-Back
returns-in-Back c = named source_of SourceFits c.args.machine c.args.self wide.Back source.Back c.back.result (λ n version size. HasBack size) 0 0 c.in-Back.is refl refl (λ version size. (λ h. h, λ h. h)) c.back.ensures
