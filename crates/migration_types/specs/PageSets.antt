-- Sets of pages.
use Rattle.std.specs.Prelude.{ℕ, ◌==◌, Bool, true, false, not, count_by, if◌then◌else◌}
use Rattle.std.specs.List.{range_with_len}

-- a set of pages: whether each page is in it
abbrev pub Pages : Type 0
Pages = ℕ → Bool

abbrev pub no_page : Pages
no_page page = false

-- the set with this page added
abbrev pub with_page : ℕ → Pages → Pages
with_page added set page = if added == page then true else set page

-- the set with this page removed
abbrev pub without_page : ℕ → Pages → Pages
without_page removed set page = if removed == page then false else set page

-- how many pages below a number are in the set
abbrev pub size_below : ℕ → Pages → ℕ
size_below pages set = count_by set (range_with_len 0 pages)

-- the pages that are not in the set
abbrev pub others : Pages → Pages
others set page = not (set page)
