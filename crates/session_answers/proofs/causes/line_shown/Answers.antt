use Rattle.std.proofs.Common.{ℕ, Bool, cond, Some, None, sym, ap, ◌∙◌}
use Rattle.std.proofs.lemmas.Bool.{lt-ltb, le-ltb}
use Rattle.migration_types.specs.Sessions.{line_of, log_length}
use Rattle.session_answers.proofs.causes.line_shown.Goals as goal

pub returns-in-Some : goal.returns-in-Some
returns-in-Some g c =
    let s = c.args.session.now in
    let name = c.args.name in
    let tell = g.L.Lines.tell c.args.lines.now in
    let at = c.in-Some.ensures in
    ap (λ (l : ℕ). Some l) (c.line.ensures ∙ ap tell at.is_line) ∙ sym (ap (λ (b : Bool). cond b (Some (tell (line_of s name))) None) (lt-ltb name.1 (log_length s name.0) at.is_there))

pub returns-in-None : goal.returns-in-None
returns-in-None g c =
    let s = c.args.session.now in
    let name = c.args.name in
    let tell = g.L.Lines.tell c.args.lines.now in
    sym (ap (λ (b : Bool). cond b (Some (tell (line_of s name))) None) (le-ltb name.1 (log_length s name.0) c.in-None.ensures))
