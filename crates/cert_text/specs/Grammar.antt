-- The text of a certificate. Numbers are in decimal, with no sign and no leading zero.
use Rattle.std.specs.Prelude.{◌≡◌, ℕ, ◌+◌, List, [], ◌∷◌, ◌++◌, length, Option, Some, None, codes}
use Rattle.std.specs.Fmt.{decimal}
use Rattle.migration_types.specs.declared.cert.First.{First}
use Rattle.migration_types.specs.declared.cert.Run.{Run}
use Rattle.migration_types.specs.declared.cert.Entry.{Entry}
use Rattle.migration_types.specs.declared.cert.Entry.TheVariants.{Nothing, Fresh, Source, Balloon}
use Rattle.migration_types.specs.declared.version.Version.{Version}
use Rattle.migration_types.specs.declared.version.Version.TheVariants.{One, Two}
use Rattle.migration_types.specs.declared.size.Size.{Size}
use Rattle.migration_types.specs.declared.size.Size.TheVariants.{Small, Large}
use Rattle.migration_types.specs.Certs.{Certified, IsCert}
use Rattle.cert_text.specs.Runs.{runs_lines}

-- The first line. No certificate of the first version has the large size.
abbrev pub header : Version → Size → List ℕ
header One Small = codes "postcopy-certificate 1"
header Two Small = codes "postcopy-certificate 2"
header One Large = []
header Two Large = codes "postcopy-certificate 3"

abbrev pub pages_key : List ℕ
pages_key = codes "pages "

-- the numbers of a page's first use at the target and of the look before it, or a dash for each
abbrev pub first_text : Option First → List ℕ
first_text None = codes "- -"
first_text (Some first) = decimal first.access ++ 32 ∷ decimal first.see

-- the number of a page's placement, and its first use
abbrev pub placed_text : ℕ → Option First → List ℕ
placed_text place first = decimal place ++ 32 ∷ first_text first

-- the number of a page's sending, its placement, and its first use
abbrev pub source_text : ℕ → ℕ → Option First → List ℕ
source_text send place first = decimal send ++ 32 ∷ placed_text place first

-- what an entry says
abbrev pub entry_text : Entry → List ℕ
entry_text Nothing = codes "none"
entry_text (Fresh first) = codes "fresh " ++ decimal first
entry_text (Source send place first) = codes "source " ++ source_text send place first
entry_text (Balloon place first) = codes "balloon " ++ placed_text place first

abbrev pub page_key : List ℕ
page_key = codes "page "

-- the entry of a page: its number, a space, and what the entry says
abbrev pub entry_line : ℕ → Entry → List ℕ
entry_line page entry = page_key ++ (decimal page ++ 32 ∷ entry_text entry)

-- the entries of the pages from this one on
abbrev pub entry_lines : ℕ → List Entry → List (List ℕ)
entry_lines page [] = []
entry_lines page (entry ∷ entries) = entry_line page entry ∷ entry_lines (page + 1) entries

-- The lines of a certificate. This one has four pages and one run of three records. Its first line ends in 1 in the
-- first version, which has no fresh page and no run of the lane, and in 3 for the large size:
--   postcopy-certificate 2
--   pages 4
--   page 0 source 3 5 5 4
--   page 1 balloon 7 - -
--   page 2 none
--   page 3 fresh 2
--   runs 1
--   run guest 3
--   end
abbrev pub cert_lines : Certified → List (List ℕ)
cert_lines c = header c.version c.size ∷ (pages_key ++ decimal (length c.entries)) ∷ (entry_lines 0 c.entries ++ runs_lines c.runs)

-- these lines are the text of this certificate, which is within all limits
abbrev pub SpellsCert : Certified → List (List ℕ) → Type 0
SpellsCert c lines = IsCert c × (lines ≡ cert_lines c)

-- these lines are the text of a certificate with these runs
abbrev pub SpellsCertRuns : List Run → List (List ℕ) → Type 0
SpellsCertRuns runs lines = (c : Certified) × SpellsCert c lines × (runs ≡ c.runs)
