use Rattle.std.proofs.Common.{ℕ, List, ◌++◌, length, refl, ap, ◌∙◌}
use Rattle.std.proofs.lemmas.Result.{on_ok_weaker}
use Rattle.text_lines.specs.Text.{ended}
use Rattle.migration_types.specs.declared.version.Version.{Version}
use Rattle.cert_text.specs.Grammar.{header, cert_lines}
use Rattle.cert_text.proofs.Written.{cert_written}
use Rattle.cert_text.proofs.push_cert.Goals as goal

pub returns : goal.returns
returns c =
    let cert = c.args.cert.now in
    on_ok_weaker c.push_runs.result
    (λ last. cert_written cert c.entries-entries.result.now c.runs.result.now (length c.entries-entries.result.now) c.reserve.new.self.items c.cert_header.result.now c.push_line.new.out.items c.push_keyed.new.out.items c.push_entries.new.out.items c.push_runs.new.out.items (c.cert_header.ensures ∙ (ap (λ (v : Version). header v c.size.result) c.version.ensures ∙ ap (header cert.version) c.size.ensures)) c.entries-entries.ensures c.runs.ensures refl c.in_ok-push_line.ensures c.in_ok-push_keyed.ensures c.in_ok-push_entries.ensures last
    ∙ ap (λ (t : List ℕ). t ++ ended (cert_lines cert)) c.reserve.ensures.items)
    c.push_runs.ensures
