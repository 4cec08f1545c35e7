use Rattle.std.proofs.Common.{◌≡◌, ◌∙◌, ℕ, ◌+◌, Bool, true, false, length, drop, cond, sym, ap, arith}
use Rattle.std.proofs.lemmas.Iterator.{YieldsList-from_chars}
use Rattle.std.proofs.lemmas.Iterator.Consumers.{YieldsList-turn, YieldsList-end}
use Rattle.std.proofs.lemmas.List.{at_drop_all, length_push}
use Rattle.std.specs.Str.{chars}
use Rattle.command_texts.specs.Shown.{are_printed}
use Rattle.refusal_words.specs.Hidden.{is_hidden}
use Rattle.command_texts.proofs.Escapes.{printed_next}
use Rattle.command_texts.proofs.shown.are_printed.Goals as goal

pub returns-then-is_hidden : goal.returns-then-is_hidden
returns-then-is_hidden c =
    let is : is_hidden c.in-Some.character ≡ true = cc in
    let t = YieldsList-turn (YieldsList-from_chars c.args.name.now c.utf8.name cc) c.loop-character.yielded _ c.loop-character.yielded_by _ _ c.in-Some.character c.in-Some.is c.next.ensures.steps in
    let next = printed_next _ _ _ t in
    sym (sym c.loop-character.invariant ∙ (next ∙ ap (λ (b : Bool). cond b false (are_printed (drop (length c.loop-character.yielded + 1) (chars c.args.name.now)))) is))

pub loop-character-preserved : goal.loop-character-preserved
loop-character-preserved c =
    let is : is_hidden c.in-Some.character ≡ false = cc in
    let t = YieldsList-turn (YieldsList-from_chars c.args.name.now c.utf8.name cc) c.loop-character.yielded _ c.loop-character.yielded_by _ _ c.in-Some.character c.in-Some.is c.next.ensures.steps in
    let next = printed_next _ _ _ t in
    ap (λ (n : ℕ). are_printed (drop n (chars c.args.name.now))) (length_push c.loop-character.yielded c.in-Some.character)
    ∙ (sym (next ∙ ap (λ (b : Bool). cond b false (are_printed (drop (length c.loop-character.yielded + 1) (chars c.args.name.now)))) is) ∙ c.loop-character.invariant)

pub returns : goal.returns
returns c =
    let t = YieldsList-end (YieldsList-from_chars c.args.name.now c.utf8.name cc) c.loop-character.yielded _ c.loop-character.yielded_by _ _ c.in-None.is c.next.ensures.steps in
    sym (at_drop_all are_printed (chars c.args.name.now) (length c.loop-character.yielded) (omega (arith, t.1))) ∙ c.loop-character.invariant
