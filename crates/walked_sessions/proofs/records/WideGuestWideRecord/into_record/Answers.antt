use Rattle.std.proofs.Common.{◌<◌, ℕ, ap, refl, ◌^◌, rules}
use Rattle.migration_types.specs.declared.records.GuestRec.TheVariants as guest
use Rattle.recordings.specs.declared.wide.WideGuest.TheVariants as wide
use Rattle.recordings.specs.Wide.{guest_of}
use Rattle.walked_sessions.specs.Fitting.{GuestFits}
use Rattle.walked_sessions.proofs.Found.{plain, named, IsBelow}
use Rattle.walked_sessions.proofs.records.WideGuestWideRecord.into_record.Goals as goal

pub returns-in_ok-page-in-Read : goal.returns-in_ok-page-in-Read
returns-in_ok-page-in-Read c =
    let small : c.in-Read.value < 2 ^ 64 = search rules in
    let found = c.in_ok-page-in-Read.ensures in
    plain guest_of GuestFits c.args.machine c.args.self (wide.Read c.in-Read.vcpu c.in-Read.page c.in-Read.cell c.in-Read.value) (guest.Read c.in-Read.vcpu c.in_ok-page-in-Read.page c.in-Read.cell c.in-Read.value) c.nothing.result c.in-Read.is (ap (λ (p : ℕ). guest.Read c.in-Read.vcpu p c.in-Read.cell c.in-Read.value) found.0) (λ version size. (found.1, found.2, found.3, small)) c.nothing.ensures

pub returns-in_ok-page-in-Write : goal.returns-in_ok-page-in-Write
returns-in_ok-page-in-Write c =
    let small : c.in-Write.value < 2 ^ 64 = search rules in
    let found = c.in_ok-page-in-Write.ensures in
    plain guest_of GuestFits c.args.machine c.args.self (wide.Write c.in-Write.vcpu c.in-Write.page c.in-Write.cell c.in-Write.value) (guest.Write c.in-Write.vcpu c.in_ok-page-in-Write.page c.in-Write.cell c.in-Write.value) c.nothing-in-Write.result c.in-Write.is (ap (λ (p : ℕ). guest.Write c.in-Write.vcpu p c.in-Write.cell c.in-Write.value) found.0) (λ version size. (found.1, found.2, found.3, small)) c.nothing-in-Write.ensures

pub returns-in_ok-page-in-Release : goal.returns-in_ok-page-in-Release
returns-in_ok-page-in-Release c =
    let found = c.in_ok-page-in-Release.ensures in
    plain guest_of GuestFits c.args.machine c.args.self (wide.Release c.in-Release.vcpu c.in-Release.page) (guest.Release c.in-Release.vcpu c.in_ok-page-in-Release.page) c.nothing-in-Release.result c.in-Release.is (ap (λ (p : ℕ). guest.Release c.in-Release.vcpu p) found.0) (λ version size. (found.1, found.2)) c.nothing-in-Release.ensures

pub returns-in_ok-page-in-Miss : goal.returns-in_ok-page-in-Miss
returns-in_ok-page-in-Miss c =
    let found = c.in_ok-page-in-Miss.ensures in
    plain guest_of GuestFits c.args.machine c.args.self (wide.Miss c.in-Miss.vcpu c.in-Miss.page) (guest.Miss c.in-Miss.vcpu c.in_ok-page-in-Miss.page) c.nothing-in-Miss.result c.in-Miss.is (ap (λ (p : ℕ). guest.Miss c.in-Miss.vcpu p) found.0) (λ version size. (found.1, found.2)) c.nothing-in-Miss.ensures

pub returns-in-Halt : goal.returns-in-Halt
returns-in-Halt c = plain guest_of GuestFits c.args.machine c.args.self wide.Halt guest.Halt c.nothing-in-Halt.result c.in-Halt.is refl (λ version size. tt) c.nothing-in-Halt.ensures

pub returns-in_ok-ready-in-Resume : goal.returns-in_ok-ready-in-Resume
returns-in_ok-ready-in-Resume c =
    let at = c.in_ok-ready-in-Resume.ensures.0 in
    named guest_of GuestFits c.args.machine c.args.self (wide.Resume c.in-Resume.ready) (guest.Resume c.in_ok-ready-in-Resume.ready) c.number.result IsBelow c.in-Resume.ready c.in_ok-ready-in-Resume.ready c.in-Resume.is (ap guest.Resume at) at (λ version size. (λ h. h, λ h. h)) c.number.ensures

pub returns-in_ok-placement-in-See : goal.returns-in_ok-placement-in-See
returns-in_ok-placement-in-See c =
    let at = c.in_ok-placement-in-See.ensures.0 in
    named guest_of GuestFits c.args.machine c.args.self (wide.See c.in-See.placement) (guest.See c.in_ok-placement-in-See.placement) c.number-in-See.result IsBelow c.in-See.placement c.in_ok-placement-in-See.placement c.in-See.is (ap guest.See at) at (λ version size. (λ h. h, λ h. h)) c.number-in-See.ensures
