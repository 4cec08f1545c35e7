-- The machine that its own log describes.
use Rattle.std.specs.Prelude.{◌≡◌, ◌≢◌, ℕ, suc, ◌<◌, ◌≤◌, ◌^◌, Bool, true, false, not, ◌==◌, List, [], ◌∷◌, ◌++◌, Option, Some, None, MatchOption, codes, length, map, slice_get}
use Rattle.std.specs.List.{AllByRecursion, Contains, filter, flat_map, list_all}
use Rattle.std.specs.List.Sorted.{IsNonDecreasingBy, IsPermutation, IsStrictlyIncreasing}
use Rattle.std.specs.Fmt.{decimal}
use Rattle.migration_types.specs.Contents.{IsContent}
use Rattle.migration_types.specs.Limits.{most_cells}
use Rattle.migration_types.specs.declared.pages.InitPage.{InitPage}
use Rattle.session_grammar.specs.Grammar.{pages_key, page_line}
use Rattle.recordings.specs.Recordings.{IsCount}
use Rattle.recordings.specs.Wide.{init_of}
use Rattle.recordings.specs.declared.wide.WideInit.{WideInit}
use Rattle.recorder_files.specs.declared.lines.Party.TheVariants.{Machine as OfMachine}
use Rattle.recorder_files.specs.Said.{CameTo, IsFault, Said, Says, Standing}
use Rattle.recorder_files.specs.declared.machine_lines.Outline.{Outline}
use Rattle.recorder_files.specs.declared.machine_lines.MachineRec.{MachineRec}
use Rattle.recorder_files.specs.declared.machine_lines.MachineRec.TheVariants.{Pages, Page}
use Rattle.recorder_files.specs.declared.machine_log.MachineEntry.{MachineEntry}
use Rattle.recorder_files.specs.declared.machine_log.MachineLogFault.{MachineLogFault}
use Rattle.recorder_files.specs.declared.machine_log.MachineLogFault.TheVariants.{File, Record, Memory}
use Rattle.recorder_files.specs.declared.describing.Description.{Description}
use Rattle.recorder_files.specs.declared.describing.DescribeFault.{DescribeFault}
use Rattle.recorder_files.specs.declared.describing.DescribeFault.TheVariants.{Number, NoPages, Pages as TwoPages, Page as TwoTold, Outside, Contents, Memory as NoMemory}

-- ---- its records
--     pages PAGES CELLS LANE    how many pages there are, and how many cells a page has; LANE is 1 if the recording has a log of
--                               the lane, and 0 if it has none
--     pages PAGES CELLS         the same from a recorder of before, which does not tell whether there is a log of the lane
--     page PAGE CONTENTS        what a page holds at first

abbrev pub lane_digit : Bool → List ℕ
lane_digit true = codes "1"
lane_digit false = codes "0"

abbrev pub cells_text : ℕ → Option Bool → List ℕ
cells_text cells None = decimal cells
cells_text cells (Some has_lane) = decimal cells ++ 32 ∷ lane_digit has_lane

abbrev pub outline_text : Outline → List ℕ
outline_text o = decimal o.pages ++ 32 ∷ cells_text o.cells o.has_lane

abbrev pub machine_line : MachineRec → List ℕ
machine_line (Pages o) = pages_key ++ outline_text o
machine_line (Page p) = page_line (init_of p)

-- A machine has 1 to 2^63 - 1 pages, and a page 1 to 512 cells.
abbrev pub IsToldPage : WideInit → Type 0
IsToldPage p = (p.page < 2 ^ 64) × (1 ≤ length p.cells) × (length p.cells ≤ most_cells) × IsContent (length p.cells) p.cells

abbrev pub IsOutline : Outline → Type 0
IsOutline o = (1 ≤ o.pages) × IsCount o.pages × (1 ≤ o.cells) × (o.cells ≤ most_cells)

abbrev pub IsMachineRec : MachineRec → Type 0
IsMachineRec (Pages o) = IsOutline o
IsMachineRec (Page p) = IsToldPage p

abbrev pub AreMachineRecs : List MachineEntry → Type 0
AreMachineRecs log = AllByRecursion (λ e. IsMachineRec e.rec) log

abbrev pub numbered_line : MachineEntry → ℕ × List ℕ
numbered_line e = (e.number, machine_line e.rec)

-- a file of the machine's log with these bytes, if they are known, says these records
pub record FileTells (known : Option (List ℕ)) (entries : List MachineEntry) : Type 0 where
  pub said : Said
  pub says : Says OfMachine known (Some said)
  pub records : said.records ≡ map numbered_line entries
  pub each : AreMachineRecs entries

-- What is wrong with it; or the number of a record, behind others, whose text is the line of none.
abbrev pub IsMachineLogFault : Option (List ℕ) → Standing → MachineLogFault → Type 0
IsMachineLogFault known s (File fault) = IsFault OfMachine known fault
IsMachineLogFault known s (Record n) = (entries : List MachineEntry) × AreMachineRecs entries × CameTo OfMachine known s (map numbered_line entries ++ (n, s.text) ∷ []) × ((r : MachineRec) → IsMachineRec r → s.text ≢ machine_line r)
IsMachineLogFault known s Memory = Unit {0}

-- ---- what they tell

abbrev pub outlines_in : MachineRec → List Outline
outlines_in (Pages o) = o ∷ []
outlines_in (Page p) = []

abbrev pub pages_in : MachineRec → List InitPage
pages_in (Pages o) = []
pages_in (Page p) = init_of p ∷ []

-- what a log tells of the whole
abbrev pub outlines_told : List MachineEntry → List Outline
outlines_told log = flat_map (λ e. outlines_in e.rec) log

-- the pages whose contents it tells
abbrev pub pages_told : List MachineEntry → List InitPage
pages_told log = flat_map (λ e. pages_in e.rec) log

abbrev pub numbers : List MachineEntry → List ℕ
numbers log = map (λ e. e.number) log

-- a page of a machine with so many pages, each with so many cells
pub record FitsMachine (pages cells : ℕ) (p : InitPage) : Type 0 where
  pub page : p.page < pages
  pub content : IsContent cells p.cells

abbrev pub are_zeros : InitPage → Bool
are_zeros p = list_all (λ x. x == 0) p.cells

-- the least number that is not there, and the least one above it that is
pub record IsFirstHole (numbers : List ℕ) (front : ℕ) (behind : Option ℕ) : Type 0 where
  pub below : (n : ℕ) → n < front → Contains numbers n
  pub hole : Contains numbers front → ⊥
  pub above : MatchOption behind ((n : ℕ) → Contains numbers n → n < front) (λ b. Contains numbers b × (front < b) × ((n : ℕ) → Contains numbers n → front < n → b ≤ n))

-- the log by its numbers
pub record IsInOrder (log in_order : List MachineEntry) : Type 0 where
  pub same : IsPermutation log in_order
  pub rising : IsNonDecreasingBy (λ e. e.number) in_order

-- The machine that a log describes. No number occurs twice. One record tells how many pages and cells there are, and whether there is
-- a log of the lane. The pages that are told are pages of the machine, each told once. Those that are not zeros are the initial
-- pages, by their numbers.
pub record IsDescribed (log : List MachineEntry) (d : Description) : Type 0 where
  pub in_order : List MachineEntry
  pub told : List InitPage
  pub is_order : IsInOrder log in_order
  pub numbers_once : IsStrictlyIncreasing (numbers in_order)
  pub outline : outlines_told in_order ≡ record { pages = d.pages; cells = d.cells; has_lane = d.has_lane } ∷ []
  pub each : AllByRecursion (FitsMachine d.pages d.cells) told
  pub pages : IsPermutation (pages_told in_order) told
  pub pages_once : IsStrictlyIncreasing (map (λ p. p.page) told)
  pub init : map init_of d.init.items ≡ filter (λ p. not (are_zeros p)) told
  pub hole : IsFirstHole (numbers in_order) d.front d.behind

-- ---- where they describe none

-- a record of the log has this number and the fact
abbrev pub HasEntry : List MachineEntry → ℕ → (MachineRec → Type 0) → Type 0
HasEntry log n P = (e : MachineEntry) × Contains log e × (e.number ≡ n) × P e.rec

abbrev pub IsPagesSuch : (Outline → Type 0) → MachineRec → Type 0
IsPagesSuch P r = (o : Outline) × (r ≡ Pages o) × P o

abbrev pub IsPages : MachineRec → Type 0
IsPages r = (o : Outline) × (r ≡ Pages o)

abbrev pub IsPageSuch : (InitPage → Type 0) → MachineRec → Type 0
IsPageSuch P r = (p : WideInit) × (r ≡ Page p) × P (init_of p)

-- why a log describes no machine
abbrev pub IsDescribeFault : List MachineEntry → DescribeFault → Type 0
IsDescribeFault log (Number n) = (in_order : List MachineEntry) × IsInOrder log in_order × ((k : ℕ) × (e f : MachineEntry) × (slice_get in_order k ≡ Some e) × (slice_get in_order (suc k) ≡ Some f) × (e.number ≡ n) × (f.number ≡ n))
IsDescribeFault log NoPages = (n : ℕ) → HasEntry log n IsPages → ⊥
IsDescribeFault log (TwoPages m n) = (n < m) × HasEntry log m IsPages × HasEntry log n IsPages
IsDescribeFault log (TwoTold m n) = (n < m) × ((page : ℕ) × HasEntry log m (IsPageSuch (λ p. p.page ≡ page)) × HasEntry log n (IsPageSuch (λ p. p.page ≡ page)))
IsDescribeFault log (Outside n page pages) = (pages ≤ page) × HasEntry log n (IsPageSuch (λ p. p.page ≡ page)) × ((m : ℕ) × HasEntry log m (IsPagesSuch (λ o. o.pages ≡ pages)))
IsDescribeFault log (Contents n found cells) = (found ≢ cells) × HasEntry log n (IsPageSuch (λ p. length p.cells ≡ found)) × ((m : ℕ) × HasEntry log m (IsPagesSuch (λ o. o.cells ≡ cells)))
IsDescribeFault log NoMemory = Unit {0}
