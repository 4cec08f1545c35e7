use Rattle.std.proofs.lemmas.Result.{IfOk-weaker}
use Rattle.page_facts.proofs.MorePages.{from_zero}
use Rattle.page_facts.proofs.faulty.faulty_pages.Goals as goal

pub returns : goal.returns
returns g c = let s = c.args.session.now in IfOk-weaker c.ask.result _ _ (λ found h. from_zero s s.geometry.pages found.items h) c.ask.ensures
