use Rattle.std.proofs.Common.{◌≡◌, codes, ◌++◌, true}
use Rattle.std.proofs.KnownBytes.{Appends-trans}
use Rattle.command_texts.specs.Shown.{shown}
use Rattle.text_access.proofs.Fronts.{front_before, front_behind}
use Rattle.command_texts.proofs.shown.write_line_of.Goals as goal

pub returns-then-not-write_shown-clause-front : goal.returns-then-not-write_shown-clause-front
returns-then-not-write_shown-clause-front g c = front_before _ _ (shown c.args.name.now) (codes ": " ++ (c.args.words.now ++ codes "\n")) c.write_shown.ensures.front

pub returns-then-not-write_whole-clause-front : goal.returns-then-not-write_whole-clause-front
returns-then-not-write_whole-clause-front g c =
    let first : c.write_shown.result ≡ true = cc in
    front_behind _ _ _ (shown c.args.name.now) (codes ": " ++ (c.args.words.now ++ codes "\n")) (c.write_shown.ensures.whole first) (front_before _ _ (codes ": ") (c.args.words.now ++ codes "\n") c.write_whole.ensures.front)

pub returns-then-not-write_whole-2-clause-front : goal.returns-then-not-write_whole-2-clause-front
returns-then-not-write_whole-2-clause-front g c =
    let first : c.write_shown.result ≡ true = cc in
    let second : c.write_whole.result ≡ true = cc in
    front_behind _ _ _ (shown c.args.name.now) (codes ": " ++ (c.args.words.now ++ codes "\n")) (c.write_shown.ensures.whole first) (front_behind _ _ _ (codes ": ") (c.args.words.now ++ codes "\n") (c.write_whole.ensures.whole second) (front_before _ _ c.args.words.now (codes "\n") c.write_whole-2.ensures.front))

pub returns-clause-front : goal.returns-clause-front
returns-clause-front g c =
    let first : c.write_shown.result ≡ true = cc in
    let second : c.write_whole.result ≡ true = cc in
    let third : c.write_whole-2.result ≡ true = cc in
    front_behind _ _ _ (shown c.args.name.now) (codes ": " ++ (c.args.words.now ++ codes "\n")) (c.write_shown.ensures.whole first) (front_behind _ _ _ (codes ": ") (c.args.words.now ++ codes "\n") (c.write_whole.ensures.whole second) (front_behind _ _ _ c.args.words.now (codes "\n") (c.write_whole-2.ensures.whole third) c.write_whole-3.ensures.front))

pub returns-clause-whole : goal.returns-clause-whole
returns-clause-whole g c =
    let first : c.write_shown.result ≡ true = cc in
    let second : c.write_whole.result ≡ true = cc in
    let third : c.write_whole-2.result ≡ true = cc in
    λ last. Appends-trans _ _ _ (shown c.args.name.now) (codes ": " ++ (c.args.words.now ++ codes "\n")) (c.write_shown.ensures.whole first) (Appends-trans _ _ _ (codes ": ") (c.args.words.now ++ codes "\n") (c.write_whole.ensures.whole second) (Appends-trans _ _ _ c.args.words.now (codes "\n") (c.write_whole-2.ensures.whole third) (c.write_whole-3.ensures.whole last)))
