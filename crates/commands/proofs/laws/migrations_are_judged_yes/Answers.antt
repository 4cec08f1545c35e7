use Rattle.commands.proofs.Judged.{migrations_clean, migrations_judged}
use Rattle.commands.proofs.laws.migrations_are_judged_yes.Goals as goal

pub returns-clause-judged : goal.returns-clause-judged
returns-clause-judged c = migrations_judged c.cert_texts_are_unambiguous.ensures

pub returns-clause-clean : goal.returns-clause-clean
returns-clause-clean c = migrations_clean
