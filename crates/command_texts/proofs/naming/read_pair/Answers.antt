use Rattle.std.proofs.Common.{◌≡◌, ◌∙◌, List, ℕ, ap, inl, inr}
use Rattle.std.proofs.lemmas.Result.{err_from_is_err_and}
use Rattle.command_texts.proofs.Endings.{read_fault_in, read_faults_in}
use Rattle.command_texts.proofs.Names.{are_named, dashes}
use Rattle.text_access.specs.Names.{files_of}
use Rattle.command_texts.proofs.naming.read_pair.Goals as goal

pub returns-then-are_input-clause-named : goal.returns-then-are_input-clause-named
returns-then-are_input-clause-named g c =
    let d = dashes c.args.first.now c.args.second.now c.if-are_input.ensures in
    rw (d.0, d.1) (rw d.0 at c.read_input.ensures.named)

pub returns-then-are_input-clause-fault : goal.returns-then-are_input-clause-fault
returns-then-are_input-clause-fault g c = read_faults_in (λ (n : List ℕ). n ≡ c.args.first.now) _ (λ n e. inl e) c.read_input.result c.read_input.ensures.fault

pub returns-in_err-found-clause-fault : goal.returns-in_err-found-clause-fault
returns-in_err-found-clause-fault g c =
    let p = err_from_is_err_and c.from_residual.result c.from_residual.ensures.1 in
    rw (p.1, p.2) (read_fault_in (λ (n : List ℕ). n ≡ c.args.first.now) _ (λ n e. inl e) _ c.in_err-found.ensures.fault)

pub returns-in_err-other-clause-fault : goal.returns-in_err-other-clause-fault
returns-in_err-other-clause-fault g c =
    let p = err_from_is_err_and c.from_residual-in_err-other.result c.from_residual-in_err-other.ensures.1 in
    rw (p.1, p.2) (read_fault_in (λ (n : List ℕ). n ≡ c.args.second.now) _ (λ n e. inr e) _ c.in_err-other.ensures.fault)

pub returns-clause-named : goal.returns-clause-named
returns-clause-named g c =
    let n = c.in_ok-found.ensures.named in
    let m = c.in_ok-other.ensures.named in
    let first = n.3 in
    let second = m.3 in (
      (n.0, m.0),
      are_named c.args.first.now c.args.second.now (files_of (g.S.TextSource.bytes_of c.args.texts.now) (g.S.TextSource.names_in c.args.texts.now)) (g.A.Taker.taken_in (g.S.TextSource.text_in c.args.texts.now)) (g.B.Taker.taken_in (g.S.TextSource.text_in c.args.texts.now)) (g.I.Read.remaining c.args.input.now) _ n.0 m.0 c.if-are_input.ensures (λ e. ap g.I.Read.remaining (c.in_ok-found.ensures.apart e)) n.1 m.1,
      n.2,
      m.2,
      (first.0, first.1, c.new.ensures.first ∙ first.2),
      (second.0, second.1, c.new.ensures.second ∙ second.2),
    )
