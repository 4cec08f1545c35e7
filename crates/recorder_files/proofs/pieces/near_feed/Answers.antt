use Rattle.std.proofs.Common.{◌≡◌, ◌<◌, ℕ, List, drop, subst, arith}
use lib.Count.{count_trailing_zeros}
use Rattle.recorder_files.proofs.Near.{AreHigh, lowest, later}
use Rattle.recorder_files.proofs.pieces.near_feed.Goals as goal

pub feed_at-requires-clause-high : goal.feed_at-requires-clause-high
feed_at-requires-clause-high c =
    let low = c.low_in-low.result in
    let some : 0 < low = omega (arith, c.if-low-ne0.true) in
    (lowest c.args.bytes.now low c.low_in-low.ensures.fits c.low_in-low.ensures.high some).high

pub feed_at-requires-2-clause-within : goal.feed_at-requires-2-clause-within
feed_at-requires-2-clause-within c =
    let bytes = drop 32 c.args.bytes.now in
    let low = c.low_in-low-2.result in
    let some : 0 < low = omega (arith, c.if-low-eq0.false) in
    let high : AreHigh bytes low = subst (λ (t : List ℕ). AreHigh t low) c.split_at.ensures.back c.low_in-low-2.ensures.high in
    omega (arith, (lowest bytes low c.low_in-low-2.ensures.fits high some).within, c.if-bytes.false)

pub feed_at-requires-2-clause-high : goal.feed_at-requires-2-clause-high
feed_at-requires-2-clause-high c =
    let bytes = drop 32 c.args.bytes.now in
    let low = c.low_in-low-2.result in
    let some : 0 < low = omega (arith, c.if-low-eq0.false) in
    let high : AreHigh bytes low = subst (λ (t : List ℕ). AreHigh t low) c.split_at.ensures.back c.low_in-low-2.ensures.high in
    let none : c.low_in-low.result ≡ 0 = omega (arith, c.if-low-ne0.false) in
    later c.args.bytes.now c.low_in-low.result (count_trailing_zeros 64 low) none c.low_in-low.ensures.high (lowest bytes low c.low_in-low-2.ensures.fits high some)
