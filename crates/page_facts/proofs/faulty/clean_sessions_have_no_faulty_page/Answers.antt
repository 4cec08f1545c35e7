use Rattle.std.proofs.Common.{◌<◌, arith}
use Rattle.std.proofs.lemmas.List.Elements.{All-nil}
use Rattle.page_facts.specs.declared.faulty.FaultyPage.{FaultyPage}
use Rattle.page_facts.specs.FaultyPages.{IsFaultyPage}
use Rattle.page_facts.proofs.faulty.clean_sessions_have_no_faulty_page.Goals as goal

pub returns : goal.returns
returns c = λ s clean. record {
  ascending = λ i j d lt within. absurd (omega arith);
  within = All-nil (λ (f : FaultyPage). f.fault.page < s.geometry.pages);
  faulty = All-nil (IsFaultyPage s);
  others = λ page lt none. record { each = λ other name among at. λ r f. clean r name f };
}
