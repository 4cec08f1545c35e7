use Rattle.std.proofs.Common.{ap, arith}
use Rattle.std.proofs.lemmas.Result.{err_from_is_err_and}
use Rattle.session_log.specs.inner.Steps.{draft_of}
use Rattle.session_log.proofs.Laws.{pager_count_refused, lane_count_refused}
use Rattle.session_log.proofs.parts.Parts.behind_link.Goals as goal

pub returns-in_err-announce-in-One : goal.returns-in_err-announce-in-One
returns-in_err-announce-in-One c = let p = err_from_is_err_and c.from_residual.result c.from_residual.ensures.1 in rw (p.1, p.2) (
  ap (λ (x : _). record (draft_of c.args.self.now) { pager = x }) c.in_err-announce-in-One.ensures.err,
  λ _ b. pager_count_refused (draft_of c.args.self.now) c.args.line.now c.requires.live.0 c.requires.whole c.in-One.is (λ n le. c.in_err-announce-in-One.ensures.refused n (omega (arith, le, c.past_records-most.ensures.value))) b,
)

pub returns-in_err-announce-in-Two : goal.returns-in_err-announce-in-Two
returns-in_err-announce-in-Two c = let p = err_from_is_err_and c.from_residual-in_err-announce-in-Two.result c.from_residual-in_err-announce-in-Two.ensures.1 in rw (p.1, p.2) (
  ap (λ (x : _). record (draft_of c.args.self.now) { lane = x }) c.in_err-announce-in-Two.ensures.err,
  λ _ b. lane_count_refused (draft_of c.args.self.now) c.args.line.now c.requires.live.0 c.requires.whole c.in-Two.is (λ n le. c.in_err-announce-in-Two.ensures.refused n (omega (arith, le, c.past_records-most.ensures.value))) b,
)
