use Rattle.std.proofs.Common.{◌≡◌, ℕ, ◌*◌, List, [], length, take, drop, sym, ap, ◌∙◌, arith}
use Rattle.std.proofs.lemmas.List.{append-nil, length-take, take-append-drop}
use Rattle.std.proofs.lemmas.Result.{err_from_is_err_and}
use Rattle.text_lines.specs.Contents.{contents_text}
use Rattle.text_lines.proofs.Cells.{contents_length, same_front}
use Rattle.session_log.proofs.fields.contents_then.Goals as goal

-- a text of contents alone is cut at its end
cut : (text xs : List ℕ) (n : ℕ) → n ≡ 16 * length xs → text ≡ contents_text xs → (take n text ≡ contents_text xs) × (drop n text ≡ [])
cut text xs n is e =
    let long = contents_length xs in
    let same = ap length e in
    same_front (take n text) (contents_text xs) (drop n text) [] (omega (arith, length-take n text)) (take-append-drop n text ∙ (e ∙ sym (append-nil (contents_text xs))))

pub returns-then-text-digits-clause-refused : goal.returns-then-text-digits-clause-refused
returns-then-text-digits-clause-refused c = λ _ xs fits e. let count = fits.count in absurd (omega (arith, ap length e, contents_length xs))

pub returns-in_err-contents-clause-refused : goal.returns-in_err-contents-clause-refused
returns-in_err-contents-clause-refused c = let p = err_from_is_err_and c.from_residual.result c.from_residual.ensures.1 in rw (p.1, p.2) (λ other xs fits e.
    let count = fits.count in
    c.in_err-contents.ensures.refused other xs fits (c.split_at.ensures.front ∙ (cut c.args.text.now xs (16 * c.args.cells) (omega arith) e).0)
    )

pub returns-clause-whole : goal.returns-clause-whole
returns-clause-whole c = λ xs fits e. let count = fits.count in c.split_at.ensures.back ∙ (cut c.args.text.now xs (16 * c.args.cells) (omega arith) e).1

pub returns-in-Some-clause-whole : goal.returns-in-Some-clause-whole
returns-in-Some-clause-whole c = λ xs fits e. let count = fits.count in c.split_at.ensures.back ∙ (cut c.args.text.now xs (16 * c.args.cells) (omega arith) e).1
