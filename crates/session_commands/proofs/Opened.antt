-- The files of a log, one after the other.
use Rattle.std.proofs.Common.{◌≡◌, ◌∙◌, ◌<◌, ℕ, get_or, option_map, List, [], Option, Some, None, ap, sym, refl, subst, map, length}
use Rattle.std.specs.Prelude.{IfSome}
use Rattle.std.specs.List.{slice_get}
use Rattle.std.proofs.lemmas.Option.{slice_get-map, slice_get_read}
use Rattle.recorder_files.specs.declared.lines.Party.{Party}
use Rattle.recorder_files.specs.declared.files.FileFault.{FileFault}
use Rattle.recorder_files.specs.declared.files.FileFault.TheVariants.{Line, Order, File, Memory}
use Rattle.recorder_files.specs.Said.{CameTo, IsFault, Standing}
use Rattle.recorder_files.specs.declared.gatherers.GatherFault.{GatherFault}
use Rattle.recorder_files.specs.declared.gatherers.GatherFault.TheVariants.{File as AtFile}
use Rattle.recorder_files.specs.Logs.{AreBegun}
use Rattle.walked_sessions.specs.Faults.{IsOpenFault}
use Rattle.session_commands.proofs.Firsts.{AreFirst}

-- what is wrong with a file whose bytes are these, if they are known
pub fault_known : (party : Party) (known read : Option (List ℕ)) (fault : FileFault) → IfSome known (λ xs. read ≡ Some xs) → IsFault party read fault → IsFault party known fault
fault_known party (Some xs) read fault same is = subst (λ (k : Option (List ℕ)). IsFault party k fault) same is
fault_known party None read (Line n) same is = record { lines = is.lines; line = is.line; end = is.end; after = is.after; is_known = tt; counted = is.counted; plain = is.plain; ends = is.ends; is = is.is; said = is.said; before = is.before; refused = is.refused }
fault_known party None read (Order n) same is = record { lines = is.lines; line = is.line; end = is.end; after = is.after; is_known = tt; counted = is.counted; plain = is.plain; ends = is.ends; is = is.is; said = is.said; before = is.before; refused = is.refused }
fault_known party None read File same is = tt
fault_known party None read Memory same is = tt

-- the bytes of the file at a place
file_at : {N : Type 0} (bytes : List ℕ → Option (List ℕ)) (name : N → List ℕ) (names ys : List N) (place : ℕ) (n : N) (path : List ℕ) → ys ≡ names → place < length ys → n ≡ get_or ys place n → path ≡ name n → slice_get (map (λ n. bytes (name n)) names) place ≡ Some (bytes path)
file_at {N} bytes name names ys place n path same lt is named =
    let there : slice_get names place ≡ Some n = ap (λ (l : List N). slice_get l place) (sym same) ∙ slice_get_read ys (length ys) place n refl lt is in
    slice_get-map (λ n. bytes (name n)) names place ∙ (ap (option_map (λ n. bytes (name n))) there ∙ ap (λ (p : List ℕ). Some (bytes p)) (sym named))

-- the file at a place has this fault
pub fault_at : {N : Type 0} (party : Party) (bytes : List ℕ → Option (List ℕ)) (name : N → List ℕ) (names ys : List N) (place : ℕ) (n : N) (path : List ℕ) (fault : GatherFault) → ys ≡ names → place < length ys → n ≡ get_or ys place n → path ≡ name n → (why : FileFault) × (fault ≡ AtFile place why) × IsFault party (bytes path) why → IsOpenFault party (map (λ n. bytes (name n)) names) fault
fault_at party bytes name names ys place n path fault same lt is named (why, told, wrong) = subst (IsOpenFault party (map (λ n. bytes (name n)) names)) (sym told) (bytes path, file_at bytes name names ys place n path same lt is named, wrong)

-- the files of a log are opened, if all of them are
pub all_opened : (party : Party) (knowns : List (Option (List ℕ))) (count : ℕ) (files : List Standing) → length knowns ≡ count → AreFirst (λ known s. CameTo party known s []) knowns count files → AreBegun party knowns files
all_opened party knowns count files many h = record { many = many ∙ sym h.many; each = h.each }
