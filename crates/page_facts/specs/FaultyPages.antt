-- The pages with a fault.
use Rattle.std.specs.Prelude.{◌≡◌, ◌≢◌, ℕ, ◌+◌, ◌<◌, ◌≤◌, List, length}
use Rattle.std.specs.List.{All, AllPairs}
use Rattle.migration_types.specs.Sessions.{Recorded, IsSession, line_of}
use Rattle.page_facts.specs.PageFaults.{IsClean, IsFirstFault}
use Rattle.page_facts.specs.declared.faulty.FaultyPage.{FaultyPage}

-- a page's first fault, with its line
pub record IsFaultyPage (s : Recorded) (f : FaultyPage) : Type 0 where
  pub is_line : f.line ≡ line_of s (f.fault.log, f.fault.place)
  pub is_first : IsFirstFault s f.fault.page f.fault

-- Of the pages below a number, those with a fault, in ascending order, each with its first fault. A page that is not in
-- the list is clean.
pub record AreFaultyBelow (s : Recorded) (n : ℕ) (found : List FaultyPage) : Type 0 where
  pub ascending : AllPairs (λ a b. a.fault.page < b.fault.page) found
  pub within : All (λ f. f.fault.page < n) found
  pub faulty : All (IsFaultyPage s) found
  pub others : (page : ℕ) → page < n → All (λ f. f.fault.page ≢ page) found → IsClean s page

-- the faulty pages among this many from the first on
pub record AreFaultyFrom (s : Recorded) (first count : ℕ) (found : List FaultyPage) : Type 0 where
  pub ascending : AllPairs (λ a b. a.fault.page < b.fault.page) found
  pub from : All (λ f. first ≤ f.fault.page) found
  pub within : All (λ f. f.fault.page < first + count) found
  pub faulty : All (IsFaultyPage s) found
  pub others : (page : ℕ) → first ≤ page → page < first + count → All (λ f. f.fault.page ≢ page) found → IsClean s page

-- the faulty pages of the machine
abbrev pub AreFaultyPages : Recorded → List FaultyPage → Type 0
AreFaultyPages s found = AreFaultyBelow s s.geometry.pages found

-- of this many pages from the first on, which the machine has, `many` have a fault
abbrev pub AreManyFrom : Recorded → ℕ → ℕ → ℕ → Type 0
AreManyFrom s first count many = IsSession s → first + count ≤ s.geometry.pages → (found : List FaultyPage) × AreFaultyFrom s first count found × (length found ≡ many)

-- this many pages of the machine have a fault
abbrev pub AreManyFaulty : Recorded → ℕ → Type 0
AreManyFaulty s many = (found : List FaultyPage) × AreFaultyPages s found × (length found ≡ many)
