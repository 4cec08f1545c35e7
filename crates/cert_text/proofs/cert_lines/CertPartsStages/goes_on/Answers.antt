use Rattle.cert_text.specs.inner.CertDraft.{draft_of}
use Rattle.cert_text.proofs.Goes.{live_begins, live_few}
use Rattle.cert_text.proofs.cert_lines.CertPartsStages.goes_on.Goals as goal

pub returns-clause-begins : goal.returns-clause-begins
returns-clause-begins c = (live_begins c.args._stage (draft_of c.args.self.now) c.requires c.goes_on.ensures)

pub returns-clause-few : goal.returns-clause-few
returns-clause-few c = (live_few c.args._stage (draft_of c.args.self.now) c.requires c.few.ensures)
