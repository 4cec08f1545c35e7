-- The pages that virtual processors wait for, in order of arrival.
use Rattle.std.specs.Prelude.{ℕ, ◌<◌, ◌≤◌, ◌==◌, Bool, not, List, [], ◌∷◌, ◌++◌, map, filter, length, count_by, Option, if◌then◌else◌}
use Rattle.std.specs.List.{AllByRecursion, IsDistinct, flat_map, find, list_any}
use Rattle.std.specs.Option.{option_map, unwrap_or}

-- a page, and the virtual processors that wait for it, in order of arrival
pub record Waiting : Type 0 where
  pub page : ℕ
  pub vcpus : List ℕ

-- whether a page has an entry
abbrev pub is_asked : ℕ → List Waiting → Bool
is_asked page entries = list_any (λ e. page == e.page) entries

-- whether a virtual processor waits, for any page
abbrev pub is_waiting : ℕ → List Waiting → Bool
is_waiting vcpu entries = list_any (λ e. list_any (λ v. v == vcpu) e.vcpus) entries

-- the virtual processors that wait for a page, in order of arrival
abbrev pub waiters_of : ℕ → List Waiting → Option (List ℕ)
waiters_of page entries = option_map (λ e. e.vcpus) (find (λ e. page == e.page) entries)

-- the waiters of a page as a list, empty if there are none
abbrev pub waiting_for : ℕ → List Waiting → List ℕ
waiting_for page entries = unwrap_or (waiters_of page entries) []

-- an entry with one waiter more, after those that it has
abbrev pub with_waiter : ℕ → Waiting → Waiting
with_waiter vcpu e = record { page = e.page; vcpus = e.vcpus ++ vcpu ∷ [] }

-- one waiter more in the page's entry
abbrev pub joined : ℕ → ℕ → List Waiting → List Waiting
joined page vcpu entries = map (λ e. if page == e.page then with_waiter vcpu e else e) entries

-- a page's entry with its first waiter
abbrev pub entry : ℕ → ℕ → Waiting
entry page vcpu = record { page = page; vcpus = vcpu ∷ [] }

-- one waiter more: in the page's entry, or in a new entry after the others
abbrev pub asked : ℕ → ℕ → List Waiting → List Waiting
asked page vcpu entries = if is_asked page entries then joined page vcpu entries else entries ++ entry page vcpu ∷ []

-- the entries without the page's, in their order
abbrev pub without : ℕ → List Waiting → List Waiting
without page entries = filter (λ e. not (page == e.page)) entries

-- the entries without those of these pages, one page after the other
abbrev pub without_all : List ℕ → List Waiting → List Waiting
without_all [] entries = entries
without_all (page ∷ pages) entries = without_all pages (without page entries)

-- an entry has a waiter, and its waiters have numbers below 256
pub record IsEntry (e : Waiting) : Type 0 where
  pub waited_for : 0 < length e.vcpus
  pub numbers : AllByRecursion (λ vcpu. vcpu < 256) e.vcpus

-- each page has at most one entry, each virtual processor waits at most once, and each entry has a waiter
pub record IsQueue (entries : List Waiting) : Type 0 where
  pub pages : IsDistinct (λ a b. a == b) (map (λ e. e.page) entries)
  pub once : (vcpu : ℕ) → count_by (λ v. v == vcpu) (flat_map (λ e. e.vcpus) entries) ≤ 1
  pub each : AllByRecursion IsEntry entries
