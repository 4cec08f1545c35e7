use Rattle.std.proofs.Common.{◌∙◌, ap, subst, sym}
use Rattle.clap.specs.Words.{App, HasKind, Kinds, fault_of, is_simple, is_simple_and_free, subcommand_of}
use Rattle.command_words.specs.Words.{word_texts}
use Rattle.command_words.proofs.Refusals.{fault_anywhere}
use Rattle.command_words.proofs.Unplaced.{found_anywhere}
use Rattle.command_words.proofs.matching.matches_in.Goals as goal

pub returns-in-Ok-clause-ok : goal.returns-in-Ok-clause-ok
returns-in-Ok-clause-ok c =
    let words = word_texts c.args.words.now in
    let found = (c.in-Ok.ensures.matches (ap is_simple c.in_ok-line.ensures)).1 in
    found ∙ ap (λ (a : App). subcommand_of a words) c.in_ok-line.ensures ∙ sym (found_anywhere c.carrier_names.result c.format_names.result words c.carrier_names.ensures c.format_names.ensures)

pub returns-in-Ok-clause-accepted : goal.returns-in-Ok-clause-accepted
returns-in-Ok-clause-accepted c =
    let words = word_texts c.args.words.now in
    fault_anywhere c.carrier_names.result c.format_names.result words c.carrier_names.ensures c.format_names.ensures
    ∙ sym (ap (λ (a : App). fault_of a words) c.in_ok-line.ensures)
    ∙ c.in-Ok.ensures.kinds (ap is_simple_and_free c.in_ok-line.ensures)

pub returns-in-Err-clause-kinds : goal.returns-in-Err-clause-kinds
returns-in-Err-clause-kinds c =
    let words = word_texts c.args.words.now in
    let same = ap (λ (a : App). fault_of a words) c.in_ok-line.ensures ∙ sym (fault_anywhere c.carrier_names.result c.format_names.result words c.carrier_names.ensures c.format_names.ensures) in
    subst (λ (kinds : Kinds). HasKind kinds c.in-Err.error) same (c.in-Err.ensures.kinds (ap is_simple_and_free c.in_ok-line.ensures))
