use Rattle.std.proofs.lemmas.Bool.Decides.{Decides-eqb}
use Rattle.std.proofs.lemmas.Option.{MatchOption-at_some}
use Rattle.std.proofs.lemmas.Slice.Eq.{strip_suffix_is}
use Rattle.recorder_files.proofs.file_names.name_before.Goals as goal

pub returns-in-Some-read_file_name-clause-found : goal.returns-in-Some-read_file_name-clause-found
returns-in-Some-read_file_name-clause-found c =
    let f = c.in-Some-read_file_name.ensures.found in
    let ended = strip_suffix_is Decides-eqb c.args.name.now c.args.ending.now c.strip_suffix.result c.strip_suffix.ensures.cases in
    ((_, (_, f.1.0, f.0, f.1.1, f.1.2)), (c.args.ending.now, c.requires, MatchOption-at_some _ _ c.in-Some.whole c.in-Some.is ended))
