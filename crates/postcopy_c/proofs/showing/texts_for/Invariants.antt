use Rattle.std.proofs.Common.{take}
use Rattle.std.specs.List.{AllZip}
use Rattle.postcopy_c.specs.Showings.{IsShownJudged}
use Rattle.postcopy_c.specs.Texts.{AreMeasured, texts_of}
use Rattle.postcopy_c.proofs.showing.texts_for.Given as goal

abbrev pub invariant-loop-shown_as : goal.invariant-loop-shown_as
invariant-loop-shown_as l = record {
  shown : AllZip (λ shown_as text. IsShownJudged shown_as l.judged text) (take l.shown_as-index l.asked) (texts_of l.texts);
  measured : AreMeasured l.texts;
}
