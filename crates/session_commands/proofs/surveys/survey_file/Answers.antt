use Rattle.std.proofs.Common.{ℕ, List, subst}
use Rattle.session_commands.specs.inner.Finding.{IsReadAs}
use Rattle.session_commands.proofs.surveys.survey_file.Goals as goal

pub returns : goal.returns
returns g c = λ name named.
    let bytes = g.S.TextSource.bytes_of c.args.texts.now in
    let under = c.in_ok-found.ensures name named in
    (under.0, c.in_ok-push_of.ensures bytes name (subst (λ (at : List ℕ). IsReadAs c.args.file.now.party (bytes at) name c.in_ok-found.found) c.as_str-path.ensures.value under.1))
