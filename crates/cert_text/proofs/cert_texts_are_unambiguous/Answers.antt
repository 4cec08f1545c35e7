use Rattle.text_lines.proofs.Cut.{unambiguous}
use Rattle.cert_text.specs.Grammar.{SpellsCert}
use Rattle.cert_text.specs.inner.Plain.{plain_cert}
use Rattle.cert_text.proofs.Goes.{one_text, one_list}
use Rattle.cert_text.proofs.cert_texts_are_unambiguous.Goals as goal

pub returns : goal.returns
returns c = unambiguous SpellsCert plain_cert one_text one_list
