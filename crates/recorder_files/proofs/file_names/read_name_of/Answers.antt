use Rattle.std.proofs.Common.{ℕ, List, [], ◌∷◌, ◌++◌, sym, ap, ◌∙◌, append_assoc}
use Rattle.recorder_files.specs.Files.{party_word}
use Rattle.recorder_files.proofs.file_names.read_name_of.Goals as goal

pub returns-in_default-clause-none : goal.returns-in_default-clause-none
returns-in_default-clause-none c = λ process number p q e. c.in_default.ensures (process ++ 46 ∷ number) (e ∙ (sym (append_assoc (party_word c.args.party) (46 ∷ []) (process ++ 46 ∷ number)) ∙ ap (λ (k : List ℕ). k ++ (process ++ 46 ∷ number)) (sym c.key_of.ensures)))
