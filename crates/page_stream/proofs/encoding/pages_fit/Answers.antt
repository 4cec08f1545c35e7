use Rattle.std.proofs.Common.{◌≡◌, [], drop, arith}
use Rattle.std.proofs.Math.ListN.{drop_of_length-le}
use Rattle.page_stream.specs.Bytes.{Rises}
use Rattle.page_stream.proofs.Words.{rises_few}
use Rattle.page_stream.proofs.encoding.pages_fit.Goals as goal

pub returns-clause-few : goal.returns-clause-few
returns-clause-few c = λ _.
    let none : drop c.loop-page.page-index c.args.pages.now ≡ [] = drop_of_length-le c.args.pages.now (omega (arith, c.loop-page-test.false)) in
    let rises : Rises 0 c.args.geometry.pages c.args.pages.now = c.loop-page.invariant.back (rw none tt) in
    omega (arith, rises_few c.args.geometry.pages c.args.pages.now rises, c.keeps_limits.ensures.few_pages)
