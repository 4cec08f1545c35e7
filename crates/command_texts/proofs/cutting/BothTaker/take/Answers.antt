use Rattle.std.proofs.Common.{List, ℕ, ◌++◌, sym, subst}
use Rattle.command_texts.specs.inner.Ends.{EndsThere}
use Rattle.command_texts.proofs.Cuts.{first_ends, split_parts}
use Rattle.command_texts.proofs.WhatIsRead.{ok_then}
use Rattle.command_texts.proofs.cutting.BothTaker.take.Goals as goal

pub returns-in_ok-take-in-Some : goal.returns-in_ok-take-in-Some
returns-in_ok-take-in-Some g c =
    let self = c.args.self.now in
    let a = g.A.Taker.came in
    let b = g.B.Taker.came in
    let front = c.split_at.result.0.now in
    let back = c.split_at.result.1.now in
    let s = c.split_at.ensures in
    let parts = split_parts c.args.piece.now front back c.in-Some.place s.front s.back in
    ok_then c.take-in-Some-2.result ((text : List ℕ) → b self.second text → b c.take-in-Some-2.new.self (text ++ back)) _ c.take-in-Some-2.ensures
    (λ after text came. first_ends (a self.first) (b self.second) self.ended self.lacking c.args.piece.now (a c.take-in-Some.new.self) (b c.take-in-Some-2.new.self) c.find_end.new.lacking front back (let e = c.if-self.false in cc) parts c.in_ok-take-in-Some.ensures after
    (λ t yet. subst (λ (x : List ℕ). EndsThere (t ++ x)) (sym s.front) (c.in-Some.ensures.found.1 t yet)) text came)
