use Rattle.std.proofs.lemmas.Result.{on_ok_weaker}
use Rattle.std.proofs.Common.{◌∙◌, sym, subst}
use Rattle.recorder_files.specs.Names.{IsNameOf}
use Rattle.session_commands.proofs.Finding.{adds_none, adds_one, named_by}
use Rattle.session_commands.proofs.found.push_file.Goals as goal

pub returns-in_ok-file-in-Some : goal.returns-in_ok-file-in-Some
returns-in_ok-file-in-Some c =
    let f = c.in_ok-file-in-Some.ensures in
    on_ok_weaker c.add.result (λ pushed. adds_one c.args.folder.now c.args.name.now c.args.files.now.items c.add.new.items.items c.in_ok-file-in-Some.file pushed (subst (λ p. IsNameOf p c.args.name.now) (sym f.0) (named_by _ c.args.name.now c.as_bytes.result.now _ c.as_bytes.ensures.value c.in-Some.ensures.found)) f.1) c.add.ensures

pub returns-in-None : goal.returns-in-None
returns-in-None c = adds_none c.args.folder.now c.args.name.now c.args.files.now.items (λ party named. c.in-None.ensures.none party named.0 named.1 named.2 named.3 (c.as_bytes.ensures.value ∙ named.4))
