use Rattle.std.proofs.Common.{◌≡◌, ◌∷◌, sym, ap}
use Rattle.cert_text.specs.declared.run_lines.RunStage.TheVariants.{Runs, Done}
use Rattle.cert_text.specs.inner.Held.{RunsSoFar}
use Rattle.cert_text.specs.Runs.{closing}
use Rattle.cert_text.proofs.RunGoes.{live_at, goes_from, tail_at, line_fits, line_refused}
use Rattle.cert_text.proofs.run_lines.RunLines.line.Goals as goal

pub returns-then-not-is_line-clause-refused : goal.returns-then-not-is_line-clause-refused
returns-then-not-is_line-clause-refused c = rw (← ap (λ (r : RunsSoFar). r.version) c.self.view_is, ← ap (λ (r : RunsSoFar). r.size) c.self.view_is) (λ _ b.
    let i = c.self.inside in
    let version = i.form.version in
    let size = i.form.size in
    let held = ap (λ (r : RunsSoFar). r.lines) c.self.view_is in
    let live = live_at version size i.stage Runs i.runs c.in-Runs.is c.self.invariant in
    let g = goes_from version size i.stage Runs i.runs c.args.self.now.lines c.args.line.now held c.in-Runs.is b in
    let tail = tail_at version size i.runs (c.args.line.now ∷ g.more) g.runs live c.if-is_whole.ensures g.fits g.whole in
    let l : closing ≡ c.args.line.now = cc in
    let f = c.if-not-is_line.ensures.1 (sym l) in
    absurd cc)

pub invariant_of-self-in-Runs : goal.invariant_of-self-in-Runs
invariant_of-self-in-Runs c =
    let i = c.self.inside in
    let version = i.form.version in
    let size = i.form.size in
    let live = live_at version size i.stage Runs i.runs c.in-Runs.is c.self.invariant in
    let fits = line_fits version size i.runs c.line.new.self c.args.line.now c.line.result live c.if-is_whole.ensures c.line.ensures.ok c.line.ensures.err in
    live_at version size Runs i.stage c.line.new.self (sym c.in-Runs.is) fits

pub returns-else-is_whole-clause-refused : goal.returns-else-is_whole-clause-refused
returns-else-is_whole-clause-refused c =
    let i = c.self.inside in
    rw (← ap (λ (r : RunsSoFar). r.version) c.self.view_is, ← ap (λ (r : RunsSoFar). r.size) c.self.view_is) (line_refused i.form.version i.form.size i.stage i.runs c.args.line.now c.args.self.now.lines c.line.result (ap (λ (r : RunsSoFar). r.lines) c.self.view_is) c.in-Runs.is c.self.invariant c.if-is_whole.ensures c.line.ensures.refused)

pub returns-in-Done-clause-refused : goal.returns-in-Done-clause-refused
returns-in-Done-clause-refused c = rw (← ap (λ (r : RunsSoFar). r.version) c.self.view_is, ← ap (λ (r : RunsSoFar). r.size) c.self.view_is) (λ _ b.
    let i = c.self.inside in
    let version = i.form.version in
    let size = i.form.size in
    let held = ap (λ (r : RunsSoFar). r.lines) c.self.view_is in
    let live = live_at version size i.stage Done i.runs c.in-Done.is c.self.invariant in
    let g = goes_from version size i.stage Done i.runs c.args.self.now.lines c.args.line.now held c.in-Done.is b in
    let tail = tail_at version size i.runs (closing ∷ c.args.line.now ∷ g.more) g.runs live.0 live.1 g.fits g.whole in
    absurd cc)
