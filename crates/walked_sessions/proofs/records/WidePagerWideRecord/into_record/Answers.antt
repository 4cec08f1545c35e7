use Rattle.std.proofs.Common.{◌∙◌, ℕ, ap, refl}
use Rattle.migration_types.specs.declared.records.PagerRec.TheVariants as pager
use Rattle.recordings.specs.declared.wide.WidePager.TheVariants as wide
use Rattle.recordings.specs.Wide.{pager_of}
use Rattle.migration_types.specs.Sessions.{PagerRecFits}
use Rattle.migration_types.specs.Sessions.{HasLane}
use Rattle.walked_sessions.proofs.Found.{plain, named, IsBelow}
use Rattle.walked_sessions.proofs.records.WidePagerWideRecord.into_record.Goals as goal

pub returns-in_ok-down-in-Got : goal.returns-in_ok-down-in-Got
returns-in_ok-down-in-Got c =
    let at = c.in_ok-down-in-Got.ensures.0 in
    named pager_of PagerRecFits c.args.machine c.args.self (wide.Got c.in-Got.down) (pager.Got c.in_ok-down-in-Got.down) c.number.result IsBelow c.in-Got.down c.in_ok-down-in-Got.down c.in-Got.is (ap pager.Got at) at (λ version size. (λ h. h, λ h. h)) c.number.ensures

pub returns-in_ok-down-in-Pull : goal.returns-in_ok-down-in-Pull
returns-in_ok-down-in-Pull c =
    let at = c.in_ok-down-in-Pull.ensures.0 in
    named pager_of PagerRecFits c.args.machine c.args.self (wide.Pull c.in-Pull.down) (pager.Pull c.in_ok-down-in-Pull.down) c.lane_number.result (λ n version size. HasLane version × IsBelow n version size) c.in-Pull.down c.in_ok-down-in-Pull.down c.in-Pull.is (ap pager.Pull at) at (λ version size. (λ h. h, λ h. h)) c.lane_number.ensures

pub returns-in-Ready : goal.returns-in-Ready
returns-in-Ready c = plain pager_of PagerRecFits c.args.machine c.args.self wide.Ready pager.Ready c.nothing.result c.in-Ready.is refl (λ version size. tt) c.nothing.ensures

pub returns-in_ok-miss-in-Fault : goal.returns-in_ok-miss-in-Fault
returns-in_ok-miss-in-Fault c =
    let at = c.in_ok-miss-in-Fault.ensures.0 in
    named pager_of PagerRecFits c.args.machine c.args.self (wide.Fault c.in-Fault.miss) (pager.Fault c.in_ok-miss-in-Fault.miss) c.number-in-Fault.result IsBelow c.in-Fault.miss c.in_ok-miss-in-Fault.miss c.in-Fault.is (ap pager.Fault at) at (λ version size. (λ h. h, λ h. h)) c.number-in-Fault.ensures

pub returns-in_ok-want-in-Join : goal.returns-in_ok-want-in-Join
returns-in_ok-want-in-Join c =
    let at = c.in_ok-want-in-Join.ensures.0 in
    named pager_of PagerRecFits c.args.machine c.args.self (wide.Join c.in-Join.want) (pager.Join c.in_ok-want-in-Join.want) c.number-in-Join.result IsBelow c.in-Join.want c.in_ok-want-in-Join.want c.in-Join.is (ap pager.Join at) at (λ version size. (λ h. h, λ h. h)) c.number-in-Join.ensures

pub returns-in_ok-page-in-Want : goal.returns-in_ok-page-in-Want
returns-in_ok-page-in-Want c =
    let found = c.in_ok-page-in-Want.ensures in
    plain pager_of PagerRecFits c.args.machine c.args.self (wide.Want c.in-Want.page) (pager.Want c.in_ok-page-in-Want.page) c.nothing-in-Want.result c.in-Want.is (ap (λ (p : ℕ). pager.Want p) found.0) (λ version size. found.1) c.nothing-in-Want.ensures

pub returns-in_ok-got-in-Place : goal.returns-in_ok-got-in-Place
returns-in_ok-got-in-Place c =
    let found = c.in_ok-page-in-Place.ensures in
    let at = c.in_ok-got-in-Place.ensures.0 in
    named pager_of PagerRecFits c.args.machine c.args.self (wide.Place c.in-Place.page c.in-Place.got c.in-Place.contents) (pager.Place c.in_ok-page-in-Place.page c.in_ok-got-in-Place.got c.in-Place.contents) c.number-in-Place.result IsBelow c.in-Place.got c.in_ok-got-in-Place.got c.in-Place.is
    (ap (λ (n : ℕ). pager.Place n c.in_ok-got-in-Place.got c.in-Place.contents) found.0 ∙ ap (λ (n : ℕ). pager.Place c.in-Place.page n c.in-Place.contents) at) at (λ version size. (λ h. h.1, λ n. (found.1, n, found.2))) c.number-in-Place.ensures

pub returns-in_ok-page-in-Zero : goal.returns-in_ok-page-in-Zero
returns-in_ok-page-in-Zero c =
    let found = c.in_ok-page-in-Zero.ensures in
    plain pager_of PagerRecFits c.args.machine c.args.self (wide.Zero c.in-Zero.page) (pager.Zero c.in_ok-page-in-Zero.page) c.nothing-in-Zero.result c.in-Zero.is (ap (λ (p : ℕ). pager.Zero p) found.0) (λ version size. found.1) c.nothing-in-Zero.ensures

pub returns-in_ok-got-in-Skip : goal.returns-in_ok-got-in-Skip
returns-in_ok-got-in-Skip c =
    let at = c.in_ok-got-in-Skip.ensures.0 in
    named pager_of PagerRecFits c.args.machine c.args.self (wide.Skip c.in-Skip.got) (pager.Skip c.in_ok-got-in-Skip.got) c.number-in-Skip.result IsBelow c.in-Skip.got c.in_ok-got-in-Skip.got c.in-Skip.is (ap pager.Skip at) at (λ version size. (λ h. h, λ h. h)) c.number-in-Skip.ensures

pub returns-in-All : goal.returns-in-All
returns-in-All c = plain pager_of PagerRecFits c.args.machine c.args.self wide.All pager.All c.nothing-in-All.result c.in-All.is refl (λ version size. tt) c.nothing-in-All.ensures
