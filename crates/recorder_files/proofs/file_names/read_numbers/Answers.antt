use Rattle.std.proofs.Common.{◌+◌, length, drop, sym, ap, ◌∙◌}
use Rattle.std.proofs.lemmas.List.{take_rest}
use Rattle.std.proofs.lemmas.Bool.{false≢true}
use Rattle.std.proofs.lemmas.Option.{none-some}
use Rattle.recorder_files.specs.Names.{are_digits}
use Rattle.recorder_files.proofs.Dots.{cut_at, dot_is, parts_at}
use Rattle.recorder_files.proofs.file_names.read_numbers.Goals as goal

pub returns-in_default-clause-none : goal.returns-in_default-clause-none
returns-in_default-clause-none c = λ process number p q e. none-some (length process) (c.in_default.ensures ∙ dot_is c.args.text.now process number p e)

pub returns-then-not-are_digits-clause-none : goal.returns-then-not-are_digits-clause-none
returns-then-not-are_digits-clause-none c = λ process number p q e. false≢true (c.if-not-are_digits.ensures ∙ (ap are_digits (parts_at c.args.text.now process number c.in-Some.at p e c.in-Some.ensures).0 ∙ p))

pub returns-then-not-are_digits-2-clause-none : goal.returns-then-not-are_digits-2-clause-none
returns-then-not-are_digits-2-clause-none c = λ process number p q e. false≢true (c.if-not-are_digits-2.ensures ∙ (ap are_digits (take_rest c.args.text.now (c.in-Some.at + 1) ∙ (parts_at c.args.text.now process number c.in-Some.at p e c.in-Some.ensures).1) ∙ q))

pub returns-clause-found : goal.returns-clause-found
returns-clause-found c = (sym c.if-not-are_digits.ensures, (drop (c.in-Some.at + 1) c.args.text.now, sym (c.if-not-are_digits-2.ensures ∙ ap are_digits (take_rest c.args.text.now (c.in-Some.at + 1))), cut_at c.args.text.now c.in-Some.at c.in-Some.ensures))
