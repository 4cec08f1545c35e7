-- Tables as they are written and read.
use Rattle.std.proofs.Common.{◌≡◌, ℕ, ◌+◌, ◌<◌, ◌^◌, List, [], ◌∷◌, ◌++◌, length, map, take, get_or, sym, ap, ◌∙◌, append_assoc}
use Rattle.std.specs.List.{AllByRecursion}
use Rattle.std.specs.Fmt.{decimal}
use Rattle.text_lines.specs.Text.{Begins, ended}
use Rattle.text_lines.proofs.Sections.{ended_next}
use Rattle.windows.specs.Tables.{SpellsTable}

-- behind what was there before stand the first lines of a table
abbrev pub Written : List ℕ → List ℕ → ℕ → List ℕ → Type 0
Written old table i now = now ≡ old ++ ended (map decimal (take i table))

pub written_next : (old table : List ℕ) (i : ℕ) (now new : List ℕ) → i < length table → Written old table i now → new ≡ now ++ (decimal (get_or table i 0) ++ 10 ∷ []) → Written old table (i + 1) new
written_next old table i now new lt w whole =
    let one = decimal (get_or table i 0) ++ 10 ∷ [] in
    whole ∙ (ap (λ (t : List ℕ). t ++ one) w ∙ (append_assoc old (ended (map decimal (take i table))) one ∙ ap (λ (t : List ℕ). old ++ t) (sym (ended_next decimal [] table i 0 lt))))

-- a line behind those of a table that a table's text begins with is a number's
line_of_table : (held : List ℕ) (line : List ℕ) (more : List (List ℕ)) (table : List ℕ) → AllByRecursion (λ n. n < 2 ^ 64) table → (map decimal held ++ line ∷ []) ++ more ≡ map decimal table → (n : ℕ) × (n < 2 ^ 64) × (line ≡ decimal n)
line_of_table [] line more [] h e = absurd cc
line_of_table [] line more (n ∷ table) h e = (n, h.0, cc)
line_of_table (x ∷ held) line more [] h e = absurd cc
line_of_table (x ∷ held) line more (n ∷ table) h e = line_of_table held line more table h.1 cc

pub no_number : (held : List ℕ) (line : List ℕ) → ((n : ℕ) → n < 2 ^ 64 → line ≡ decimal n → ⊥) → Begins SpellsTable (map decimal held ++ line ∷ []) → ⊥
no_number held line none b =
    let t = line_of_table held line b.1 b.0 b.2.0.each b.2.1 in
    none t.0 t.1 t.2
