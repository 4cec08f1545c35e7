use Rattle.std.proofs.Common.{◌≡◌, ◌∷◌, ◌++◌, ◌-◌, ◌+◌, take, refl, ◌∙◌, arith}
use Rattle.text_lines.specs.Text.{ended}
use Rattle.text_lines.specs.declared.TextFault.{TextFault}
use Rattle.text_lines.specs.declared.FaultKind.TheVariants.{Memory}
use Rattle.text_lines.proofs.Cut.{refused_at_line, ended-push}
use Rattle.text_lines.proofs.FaultLines.{fault_line_other}
use Rattle.text_lines.proofs.Firsts.{front_less, on_ok, if_err}
use Rattle.text_lines.proofs.taking.take_first.Goals as goal

pub returns-in-Err-clause-refused : goal.returns-in-Err-clause-refused
returns-in-Err-clause-refused g c = λ other.
    let m = g.R.LineReader in
    let held = m.held c.args.reader.now in
    let line = c.args.line.now in
    let after = c.args.bytes.now in
    let kind = rw c.fault_at.ensures.kind at other in
    rw (c.fault_at.ensures.line, fault_line_other c.args.number c.in-Err.kind kind, c.requires.number)
    (refused_at_line m.spells g.met.R.LineReader.plain held line after (ended held ++ (line ++ 10 ∷ after)) (line ++ 10 ∷ after) c.goes_on.ensures.begins (c.in-Err.ensures.refused kind) refl (record { parts = refl; plain = c.requires.line }))

pub returns-clause-taken : goal.returns-clause-taken
returns-clause-taken g c = rw (← ended-push (g.R.LineReader.held c.args.reader.now) c.args.line.now c.args.bytes.now, ← c.in_default.ensures.ok) c.take_lines.ensures.taken

pub returns-clause-front : goal.returns-clause-front
returns-clause-front g c =
    let m = g.R.LineReader in
    let held = m.held c.args.reader.now in
    let new = m.held c.take_lines.new.reader in
    let n = c.args.number in
    on_ok c.take_lines.result (take (n + 1 - 1) new ≡ m.held c.line.new.self) (take (n - 1) new ≡ held)
    (λ e. front_less held new c.args.line.now (n - 1) (n + 1 - 1) (e ∙ c.in_default.ensures.ok) (omega (arith, c.requires.number))) c.take_lines.ensures.front

pub returns-clause-refused : goal.returns-clause-refused
returns-clause-refused g c = rw (← ended-push (g.R.LineReader.held c.args.reader.now) c.args.line.now c.args.bytes.now, ← c.in_default.ensures.ok) c.take_lines.ensures.refused

pub returns-clause-memory : goal.returns-clause-memory
returns-clause-memory g c =
    let m = g.R.LineReader in
    let held = m.held c.args.reader.now in
    let new = m.held c.take_lines.new.reader in
    let n = c.args.number in
    if_err c.take_lines.result (λ (f : TextFault). f.kind ≡ Memory → (f.line ≡ 0) × (take (n + 1 - 1) new ≡ m.held c.line.new.self)) (λ (f : TextFault). f.kind ≡ Memory → (f.line ≡ 0) × (take (n - 1) new ≡ held))
    (λ f h is. ((h is).0, front_less held new c.args.line.now (n - 1) (n + 1 - 1) ((h is).1 ∙ c.in_default.ensures.ok) (omega (arith, c.requires.number)))) c.take_lines.ensures.memory
