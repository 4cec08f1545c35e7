-- Contents that are, or are not, those of a page of a memory.
use Rattle.std.proofs.Common.{◌≡◌, ℕ, ◌<◌, Bool, true, false, List, length, get_or, refl, sym, ap, ◌∙◌, arith}
use Rattle.std.specs.Str.{bytes_eq}
use Rattle.std.proofs.lemmas.List.{ext_get_or}
use Rattle.std.proofs.lemmas.List.FromFn.{get_or-map-range_with_len, length-map-range_with_len}
use Rattle.std.proofs.lemmas.Slice.Eq.{bytes_eq-Decides}
use Rattle.migration_types.specs.Memory.{Memory, page_of}

is_false : (b : Bool) → (b ≡ true → ⊥) → false ≡ b
is_false true f = absurd (f refl)
is_false false f = refl

pub page_cell : (memory : Memory) (cells page k : ℕ) → k < cells → get_or (page_of cells memory page) k 0 ≡ memory page k
page_cell memory cells page k lt = get_or-map-range_with_len (memory page) 0 cells k k 0 lt (omega arith)

pub page_length : (memory : Memory) (cells page : ℕ) → length (page_of cells memory page) ≡ cells
page_length memory cells page = length-map-range_with_len (memory page) 0 cells

pub other_length : (memory : Memory) (cells page : ℕ) (content : List ℕ) → (length content ≡ cells → ⊥) → false ≡ bytes_eq content (page_of cells memory page)
other_length memory cells page content other = is_false _ (λ e.
    let same : content ≡ page_of cells memory page = (bytes_eq-Decides content (page_of cells memory page)).0 e in
    other (ap (λ (xs : List ℕ). length xs) same ∙ page_length memory cells page))

pub other_cell : (memory : Memory) (cells page k : ℕ) (content : List ℕ) → k < cells → (get_or content k 0 ≡ memory page k → ⊥) → false ≡ bytes_eq content (page_of cells memory page)
other_cell memory cells page k content lt other = is_false _ (λ e.
    let same : content ≡ page_of cells memory page = (bytes_eq-Decides content (page_of cells memory page)).0 e in
    other (ap (λ (xs : List ℕ). get_or xs k 0) same ∙ page_cell memory cells page k lt))

pub same_cells : (memory : Memory) (cells page : ℕ) (content : List ℕ) → length content ≡ cells → ((k : ℕ) → k < cells → get_or content k 0 ≡ memory page k) → content ≡ page_of cells memory page
same_cells memory cells page content long each = ext_get_or 0 content (page_of cells memory page) (long ∙ sym (page_length memory cells page)) (λ k lt. let low : k < cells = omega (arith, lt, long) in each k low ∙ sym (page_cell memory cells page k low))

pub same_page : (memory : Memory) (cells page : ℕ) (content : List ℕ) → length content ≡ cells → ((k : ℕ) → k < cells → get_or content k 0 ≡ memory page k) → true ≡ bytes_eq content (page_of cells memory page)
same_page memory cells page content long each = sym ((bytes_eq-Decides content (page_of cells memory page)).1 (same_cells memory cells page content long each))
