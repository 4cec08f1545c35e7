-- Tables with a value for each page of a machine.
use Rattle.std.specs.Prelude.{◌≡◌, ℕ, ◌==◌, ◌&&◌, ◌||◌, Bool, List, length, Option, Some, None, slice_index_or, if◌then◌else◌}

-- the value that each page began with, and the value of each page, page 0 first
pub record Values (T : Type 0) : Type 0 where
  pub initial : T
  pub items : List T

-- how many pages there are
abbrev pub pages_of : {T : Type 0} → Values T → ℕ
pages_of t = length t.items

-- the value of each page; pages beyond the machine have the value that all began with
abbrev pub values : {T : Type 0} → Values T → ℕ → T
values t page = slice_index_or t.items page t.initial

-- the same value for each page
abbrev pub all_at : {T : Type 0} → T → ℕ → T
all_at value page = value

-- the values with another one at this page
abbrev pub with_value : {T : Type 0} → ℕ → T → (ℕ → T) → ℕ → T
with_value given value at page = if given == page then value else at page

-- the marks with one at this page, if the test holds
abbrev pub marked_if : Bool → ℕ → (ℕ → Bool) → ℕ → Bool
marked_if test given at page = ((given == page) && test) || at page

-- the number that is there, or this one if there is none and the test holds
abbrev pub or_here : Option ℕ → Bool → ℕ → Option ℕ
or_here (Some first) here number = Some first
or_here None here number = if here then Some number else None

-- the numbers with this one at a page that has none
abbrev pub noted : ℕ → ℕ → (ℕ → Option ℕ) → ℕ → Option ℕ
noted given number at page = or_here (at page) (given == page) number

-- a table of as many pages, with these values
pub record IsWith {T : Type 0} (before after : Values T) (at : ℕ → T) : Type 0 where
  pub pages : pages_of after ≡ pages_of before
  pub values_are : values after ≡ at
