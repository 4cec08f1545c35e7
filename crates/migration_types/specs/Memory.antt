-- Memories of machines.
use Rattle.std.specs.Prelude.{ℕ, ◌==◌, ◌&&◌, List, [], ◌∷◌, map, slice_index, if◌then◌else◌}
use Rattle.std.specs.List.{range_with_len}
use Rattle.migration_types.specs.declared.pages.InitPage.{InitPage}

-- the value of each cell of each page
abbrev pub Memory : Type 0
Memory = ℕ → ℕ → ℕ

-- a memory of zeros
abbrev pub zeros : Memory
zeros page cell = 0

-- a memory with a new value in one cell
abbrev pub with_cell : ℕ → ℕ → ℕ → Memory → Memory
with_cell page cell value memory p c = if (page == p) && (cell == c) then value else memory p c

-- a memory with new contents in one page: these cells, and zeros after them
abbrev pub with_content : ℕ → List ℕ → Memory → Memory
with_content page content memory p c = if page == p then slice_index content c else memory p c

-- a memory with zeros in one page
abbrev pub with_zeros : ℕ → Memory → Memory
with_zeros page memory p c = if page == p then 0 else memory p c

-- the initial memory: these pages, and zeros elsewhere
abbrev pub initial : List InitPage → Memory
initial [] = zeros
initial (given ∷ rest) = with_content given.page given.cells (initial rest)

-- the values of the first cells of a page, this many of them
abbrev pub page_of : ℕ → Memory → ℕ → List ℕ
page_of cells memory page = map (memory page) (range_with_len 0 cells)
