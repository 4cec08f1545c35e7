-- What the files of the machine's log tell.
use Rattle.std.proofs.Common.{◌≡◌, ◌∙◌, ◌<◌, ◌+◌, ℕ, get_or, List, [], ◌∷◌, ◌++◌, Option, refl, ap, sym, map, length}
use Rattle.std.specs.List.{flat_map}
use Rattle.std.proofs.lemmas.List.{flat_map_more}
use Rattle.recorder_files.specs.Machine.{FileTells}
use Rattle.recorder_files.specs.declared.machine_log.MachineEntry.{MachineEntry}
use Rattle.session_commands.specs.Logs.{TellMachine}
use Rattle.session_commands.proofs.Firsts.{AreFirst, all_known, next_first, none_first}

-- the first of the files tell these records
pub record AreTold (knowns : List (Option (List ℕ))) (count : ℕ) (log : List MachineEntry) : Type 0 where
  pub told : List (List MachineEntry)
  pub first : AreFirst FileTells knowns count told
  pub all : log ≡ flat_map (λ entries. entries) told

pub none_told : (knowns : List (Option (List ℕ))) (log : List MachineEntry) → log ≡ [] → AreTold knowns 0 log
none_told knowns log none = record { told = []; first = none_first FileTells knowns; all = none }

-- and so does the next of the files with these names
pub next_told : {N : Type 0} (bytes : List ℕ → Option (List ℕ)) (name : N → List ℕ) (names ys : List N) (place : ℕ) (n : N) (path : List ℕ) (log next entries : List MachineEntry) → ys ≡ names → place < length ys → n ≡ get_or ys place n → path ≡ name n → AreTold (map (λ n. bytes (name n)) names) place log → FileTells (bytes path) entries → next ≡ log ++ entries → AreTold (map (λ n. bytes (name n)) names) (place + 1) next
next_told {N} bytes name names ys place n path log next entries same lt is named h tells on = record {
  told = h.told ++ entries ∷ [];
  first = next_first FileTells bytes name names ys place n path h.told entries same lt is named h.first tells;
  all = on ∙ ap (λ (xs : List MachineEntry). xs ++ entries) h.all ∙ flat_map_more (λ (xs : List MachineEntry). xs) [] h.told entries;
}

-- they are all the files
pub all_told : (knowns : List (Option (List ℕ))) (count : ℕ) (log : List MachineEntry) → length knowns ≡ count → AreTold knowns count log → TellMachine knowns log
all_told knowns count log many h = record { told = h.told; each = all_known FileTells knowns h.told (h.first.many ∙ sym many) h.first.each; all = h.all }
