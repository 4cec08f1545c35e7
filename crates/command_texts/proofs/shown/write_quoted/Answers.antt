use Rattle.std.proofs.Common.{◌≡◌, ℕ, ◌+◌, true, arith, length, drop, subst, sym}
use Rattle.std.proofs.lemmas.Iterator.{YieldsList-from_chars}
use Rattle.std.proofs.lemmas.Iterator.Consumers.{YieldsList-turn, YieldsList-end}
use Rattle.std.proofs.lemmas.List.{at_drop_all, length_push}
use Rattle.std.specs.Str.{chars}
use Rattle.command_texts.specs.Shown.{escapes}
use Rattle.command_texts.proofs.Escapes.{IsQuotedTo, escapes_next, quoted_cut, quoted_last, quoted_last_front, quoted_more}
use Rattle.command_texts.proofs.shown.write_quoted.Goals as goal

pub returns-then-not-write_escaped-clause-front : goal.returns-then-not-write_escaped-clause-front
returns-then-not-write_escaped-clause-front g c =
    let t = YieldsList-turn (YieldsList-from_chars c.args.name.now c.utf8.name cc) c.loop-character.yielded _ c.loop-character.yielded_by _ _ c.in-Some.character c.in-Some.is c.next.ensures.steps in
    quoted_cut _ _ _ c.args.name.now _ (drop (length c.loop-character.yielded + 1) (chars c.args.name.now)) c.in-Some.character (escapes_next _ _ _ t) c.loop-character.invariant c.write_escaped.ensures.front

pub loop-character-preserved : goal.loop-character-preserved
loop-character-preserved g c =
    let t = YieldsList-turn (YieldsList-from_chars c.args.name.now c.utf8.name cc) c.loop-character.yielded _ c.loop-character.yielded_by _ _ c.in-Some.character c.in-Some.is c.next.ensures.steps in
    let whole : c.write_escaped.result ≡ true = cc in
    subst (λ (n : ℕ). IsQuotedTo (g.W.Write.contents c.args.output.now) (g.W.Write.contents c.write_escaped.new.output) c.args.name.now (drop n (chars c.args.name.now))) (sym (length_push c.loop-character.yielded c.in-Some.character))
    (quoted_more _ _ _ c.args.name.now _ (drop (length c.loop-character.yielded + 1) (chars c.args.name.now)) c.in-Some.character (escapes_next _ _ _ t) c.loop-character.invariant (c.write_escaped.ensures.whole whole))

pub returns-clause-front : goal.returns-clause-front
returns-clause-front g c =
    let t = YieldsList-end (YieldsList-from_chars c.args.name.now c.utf8.name cc) c.loop-character.yielded _ c.loop-character.yielded_by _ _ c.in-None.is c.next.ensures.steps in
    quoted_last_front _ _ _ c.args.name.now _ (at_drop_all escapes (chars c.args.name.now) (length c.loop-character.yielded) (omega (arith, t.1))) c.loop-character.invariant c.write_whole-2.ensures.front

pub returns-clause-whole : goal.returns-clause-whole
returns-clause-whole g c =
    let t = YieldsList-end (YieldsList-from_chars c.args.name.now c.utf8.name cc) c.loop-character.yielded _ c.loop-character.yielded_by _ _ c.in-None.is c.next.ensures.steps in
    λ whole. quoted_last _ _ _ c.args.name.now _ (at_drop_all escapes (chars c.args.name.now) (length c.loop-character.yielded) (omega (arith, t.1))) c.loop-character.invariant (c.write_whole-2.ensures.whole whole)
