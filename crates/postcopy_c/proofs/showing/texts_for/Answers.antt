use Rattle.std.proofs.Common.{◌+◌, subst, sym, take}
use Rattle.std.specs.List.{AllZip}
use Rattle.postcopy_c.specs.Showings.{IsShownJudged}
use Rattle.postcopy_c.specs.Texts.{texts_of}
use Rattle.postcopy_c.proofs.Zipped.{next_zipped}
use Rattle.postcopy_c.proofs.showing.texts_for.Goals as goal

pub loop-shown_as-preserved : goal.loop-shown_as-preserved
loop-shown_as-preserved c = record {
  shown = subst (AllZip (λ shown_as text. IsShownJudged shown_as c.args.judged text) (take (c.loop-shown_as.shown_as-index + 1) c.args.asked.now)) (sym c.in_ok-push.ensures.added)
      (next_zipped (λ shown_as text. IsShownJudged shown_as c.args.judged text) c.args.asked.now (texts_of c.loop-shown_as.texts) c.loop-shown_as.shown_as-index _ c.in_ok-text.text.items c.loop-shown_as-test.true c.loop-shown_as.invariant.shown c.in_ok-text.ensures);
  measured = c.in_ok-push.ensures.measured;
}
