use Rattle.std.proofs.Common.{List, ℕ, ◌++◌, ◌∷◌, ap, ◌∙◌}
use Rattle.cert_text.specs.Runs.{log_word}
use Rattle.cert_text.proofs.RunLaws.{letters_of, word_by, behind_word, same_rest}
use Rattle.cert_text.proofs.runs.log_then.Goals as goal

pub returns-in_err-behind-clause-whole : goal.returns-in_err-behind-clause-whole
returns-in_err-behind-clause-whole c = λ log rest e.
    let letters = letters_of c.args.text.now log rest e in
    let same = c.log_with_letters-log.ensures log (c.in_ok-first.ensures.item.3.1 0 ∙ letters.0) (c.in_ok-second.ensures.lookup.3.1 0 ∙ letters.1) in
    absurd (c.in_err-behind.ensures (32 ∷ rest) (e ∙ word_by log c.log_with_letters-log.result c.as_bytes.result.now (32 ∷ rest) same (c.as_bytes.ensures.value ∙ c.word.ensures)))

pub returns-in_err-rest-clause-whole : goal.returns-in_err-rest-clause-whole
returns-in_err-rest-clause-whole c = λ log rest e.
    let letters = letters_of c.args.text.now log rest e in
    let same = c.log_with_letters-log.ensures log (c.in_ok-first.ensures.item.3.1 0 ∙ letters.0) (c.in_ok-second.ensures.lookup.3.1 0 ∙ letters.1) in
    absurd (c.in_err-rest.ensures rest (behind_word log c.log_with_letters-log.result c.args.text.now c.as_bytes.result.now c.in_ok-behind.behind.now rest same (c.as_bytes.ensures.value ∙ c.word.ensures) c.in_ok-behind.ensures e))

pub returns-clause-found : goal.returns-clause-found
returns-clause-found c =
    c.in_ok-behind.ensures ∙ (ap (λ (t : List ℕ). t ++ c.in_ok-behind.behind.now) (c.as_bytes.ensures.value ∙ c.word.ensures) ∙ ap (λ (t : List ℕ). log_word c.log_with_letters-log.result ++ t) c.in_ok-rest.ensures)

pub returns-clause-whole : goal.returns-clause-whole
returns-clause-whole c = λ log rest e.
    let letters = letters_of c.args.text.now log rest e in
    let same = c.log_with_letters-log.ensures log (c.in_ok-first.ensures.item.3.1 0 ∙ letters.0) (c.in_ok-second.ensures.lookup.3.1 0 ∙ letters.1) in
    let behind = behind_word log c.log_with_letters-log.result c.args.text.now c.as_bytes.result.now c.in_ok-behind.behind.now rest same (c.as_bytes.ensures.value ∙ c.word.ensures) c.in_ok-behind.ensures e in
    same_rest c.in_ok-rest.rest.now rest c.in_ok-behind.behind.now c.in_ok-rest.ensures behind
