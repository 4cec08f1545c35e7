use Rattle.std.proofs.Common.{List, sym, subst}
use Rattle.page_facts.specs.declared.faulty.FaultyPage.{FaultyPage}
use Rattle.page_facts.specs.FaultyPages.{AreFaultyPages}
use Rattle.postcopy_c.proofs.showing.no_pages.Goals as goal

pub returns : goal.returns
returns c = subst (λ (found : List FaultyPage). AreFaultyPages c.args._session.now found) (sym c.new.ensures.items) (c.clean_sessions_have_no_faulty_page.ensures c.args._session.now c.requires.has_no_fault)
