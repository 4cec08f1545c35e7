use Rattle.std.proofs.Common.{◌<◌, List, length, sym, ap, subst, arith}
use Rattle.migration_types.specs.declared.records.LogName.{LogName}
use Rattle.migration_types.specs.declared.records.GuestRec.{GuestRec}
use Rattle.migration_types.specs.declared.records.SourceRec.{SourceRec}
use Rattle.migration_types.specs.declared.records.PagerRec.{PagerRec}
use Rattle.audit_model.specs.Names.{log_length}
use Rattle.merge_runs.specs.inner.Replaying.{HasOne}
use Rattle.merge_runs.proofs.Reading.{read_at}
use Rattle.merge_runs.proofs.OneMore.{guest_more, source_more, pager_more, calm_more, link_or_lane}
use Rattle.merge_runs.proofs.replaying.step.Goals as goal

pub returns-in_ok-step_guest-in-Guest-clause-one : goal.returns-in_ok-step_guest-in-Guest-clause-one
returns-in_ok-step_guest-in-Guest-clause-one c =
    let s = c.args.session.now in
    let n = c.args.n in
    let log = c.guest.result.now in
    let rec = c.index-guest-n.result in
    let old = c.args.replaying.now in
    let new = c.step_guest.new.replaying in
    let all = ap (λ (xs : List GuestRec). length xs) c.guest.ensures in
    let within = subst (λ (l : LogName). n < log_length s l) c.in-Guest.is c.requires.within in
    let is = read_at log s.guest n rec c.guest.ensures (omega (arith, all, within)) c.index-guest-n.is in
    subst (λ (l : LogName). HasOne s (l, n) old new) (sym c.in-Guest.is) (λ order here ran. guest_more s order n rec old new is here ran c.in_ok-step_guest-in-Guest.ensures)

pub returns-in-Source-clause-one : goal.returns-in-Source-clause-one
returns-in-Source-clause-one c =
    let s = c.args.session.now in
    let n = c.args.n in
    let log = c.source.result.now in
    let rec = c.index-source-n.result in
    let old = c.args.replaying.now in
    let new = c.step_source.new.replaying in
    let all = ap (λ (xs : List SourceRec). length xs) c.source.ensures in
    let within = subst (λ (l : LogName). n < log_length s l) c.in-Source.is c.requires.within in
    let is = read_at log s.source n rec c.source.ensures (omega (arith, all, within)) c.index-source-n.is in
    subst (λ (l : LogName). HasOne s (l, n) old new) (sym c.in-Source.is) (λ order here ran. source_more s order n rec old new is c.requires.sized ran c.step_source.ensures)

pub returns-in-Link-clause-one : goal.returns-in-Link-clause-one
returns-in-Link-clause-one c =
    let s = c.args.session.now in
    let log = c.args.log in
    λ order here ran. calm_more s order log c.args.n c.args.replaying.now (link_or_lane s log c.in-Link.is) ran

pub returns-in-Pager-clause-one : goal.returns-in-Pager-clause-one
returns-in-Pager-clause-one c =
    let s = c.args.session.now in
    let n = c.args.n in
    let log = c.pager.result.now in
    let rec = c.index-pager-n.result in
    let old = c.args.replaying.now in
    let new = c.step_pager.new.replaying in
    let all = ap (λ (xs : List PagerRec). length xs) c.pager.ensures in
    let within = subst (λ (l : LogName). n < log_length s l) c.in-Pager.is c.requires.within in
    let is = read_at log s.pager n rec c.pager.ensures (omega (arith, all, within)) c.index-pager-n.is in
    subst (λ (l : LogName). HasOne s (l, n) old new) (sym c.in-Pager.is) (λ order here ran. pager_more s order n rec old new is c.requires.sized ran c.step_pager.ensures)
