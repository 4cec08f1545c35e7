use Rattle.std.proofs.Common.{◌∙◌, ◌<◌, true, sym, ap, subst}
use Rattle.migration_types.specs.Sessions.{log_length}
use Rattle.cert_check.specs.inner.FirstOfLog.{first_reason}
use Rattle.cert_check.specs.inner.Passes.{IsAt}
use Rattle.cert_check.proofs.Reading.{got_at, read_at}
use Rattle.cert_check.proofs.FirstOfLog.{source_turn, link_reason_at, lane_reason_at, pager_reason_at}
use Rattle.cert_check.proofs.passes.Pass.reason.Goals as goal

pub returns-in-Source : goal.returns-in-Source
returns-in-Source c =
    let s = c.args.session.now in
    let n = c.args.n in
    let rec = c.index-source-n.result in
    let within = subst (λ l. n < log_length s l) c.in-Source.is c.requires.within in
    let is = read_at c.source.result.now s.source n rec c.source.ensures within c.index-source-n.is in
    let at = subst (λ l. IsAt s l n c.args.self.now) c.in-Source.is c.requires.at in
    rw c.in-Source.is (sym (source_turn s c.args.self.now.sent n rec _ is at c.source_reason.ensures))

pub returns-in-Link : goal.returns-in-Link
returns-in-Link c =
    let s = c.args.session.now in
    let n = c.args.n in
    let within = subst (λ l. n < log_length s l) c.in-Link.is c.requires.within in
    let is = got_at c.link.result.now s.link n _ c.link.ensures within in
    rw c.in-Link.is (c.named_reason.ensures ∙ ap (λ b. first_reason true b true true true) c.link_named.ensures ∙ sym (link_reason_at s n _ is))

pub returns-in-Lane : goal.returns-in-Lane
returns-in-Lane c =
    let s = c.args.session.now in
    let n = c.args.n in
    let within = subst (λ l. n < log_length s l) c.in-Lane.is c.requires.within in
    let is = got_at c.lane.result.now s.lane n _ c.lane.ensures within in
    rw c.in-Lane.is (c.named_reason-in-Lane.ensures ∙ ap (λ b. first_reason true b true true true) c.lane_named.ensures ∙ sym (lane_reason_at s n _ is))

pub returns-in-Pager : goal.returns-in-Pager
returns-in-Pager c =
    let s = c.args.session.now in
    let n = c.args.n in
    let rec = c.index-pager-n.result in
    let within = subst (λ l. n < log_length s l) c.in-Pager.is c.requires.within in
    let is = read_at c.pager.result.now s.pager n rec c.pager.ensures within c.index-pager-n.is in
    rw c.in-Pager.is (c.pager_reason.ensures ∙ sym (pager_reason_at s n rec is))
