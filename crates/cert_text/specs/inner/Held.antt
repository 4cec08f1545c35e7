-- The lines that readers of certificates and of runs hold.
use Rattle.std.specs.Prelude.{◌≡◌, ◌≢◌, ℕ, ◌-◌, ◌<◌, ◌≤◌, Bool, true, false, List, [], ◌∷◌, ◌++◌, length, slice_index_or}
use Rattle.std.proofs.Common.{sym, ap, ◌∙◌, length-append, arith}
use Rattle.std.proofs.lemmas.List.{get_or-append-add}
use Rattle.std.specs.List.{AllByRecursion}
use Rattle.std.specs.Fmt.{decimal}
use Rattle.text_lines.specs.Counted.{Part, part_onto, IsWhole}
use Rattle.migration_types.specs.declared.records.LogName.{LogName}
use Rattle.migration_types.specs.declared.cert.Run.{Run}
use Rattle.migration_types.specs.declared.cert.Entry.{Entry}
use Rattle.migration_types.specs.declared.version.Version.{Version}
use Rattle.migration_types.specs.declared.version.Version.TheVariants.{Two}
use Rattle.migration_types.specs.declared.size.Size.{Size}
use Rattle.migration_types.specs.declared.size.Size.TheVariants.{Large}
use Rattle.migration_types.specs.Limits.{HasSize, limits, most_pages, most_runs}
use Rattle.migration_types.specs.Certs.{RunFits, EntryFits, Alternate}
use Rattle.cert_text.specs.declared.run_lines.RunStage.{RunStage}
use Rattle.cert_text.specs.declared.run_lines.RunStage.TheVariants.{Count, Runs, Done}
use Rattle.cert_text.specs.declared.cert_lines.CertStage.{CertStage}
use Rattle.cert_text.specs.declared.cert_lines.CertStage.TheVariants.{Header, Pages, Entries}
use Rattle.cert_text.specs.Runs.{runs_text_header, runs_key, closing, run_line}
use Rattle.cert_text.specs.Grammar.{header, pages_key, entry_lines}

-- a run of this log may follow these runs
abbrev pub MayFollow : List Run → LogName → Type 0
MayFollow runs log = (d : Run) → 0 < length runs → (slice_index_or runs (length runs - 1) d).log ≢ log

-- a run may follow these runs
abbrev pub Follows : List Run → Run → Type 0
Follows runs run = MayFollow runs run.log

last_at : (xs : List Run) (x d : Run) → slice_index_or (xs ++ x ∷ []) (length (xs ++ x ∷ []) - 1) d ≡ x
last_at xs x d = ap (λ (k : ℕ). slice_index_or (xs ++ x ∷ []) k d) (omega (arith, length-append xs (x ∷ []))) ∙ get_or-append-add xs (x ∷ []) 0 d

-- only the last run before decides which run may follow
pub runs_by_last : (a b : List Run) (x y : Run) → MayFollow (a ++ x ∷ []) y.log → MayFollow (b ++ x ∷ []) y.log
runs_by_last a b x y h d some = λ e. h d (omega (arith, length-append a (x ∷ []))) (ap (λ (r : Run). r.log) (last_at a x d ∙ sym (last_at b x d)) ∙ e)

-- ---- runs

-- the number of the runs, the runs so far, and then more
abbrev pub runs_onto : Part Run → List (List ℕ) → List (List ℕ)
runs_onto d more = part_onto runs_key run_line d more

-- the lines of the runs so far, and then more
abbrev pub runs_held : RunStage → Part Run → List (List ℕ) → List (List ℕ)
runs_held Count d more = more
runs_held Runs d more = runs_onto d more
runs_held Done d more = runs_onto d (closing ∷ more)

-- the runs so far, within the limits of a version and a size
pub record RunsFit (version : Version) (size : Size) (d : Part Run) : Type 0 where
  pub few : d.count ≤ most_runs version size
  pub count : length d.items ≤ d.count
  pub each : AllByRecursion (RunFits version size) d.items
  pub alternate : Alternate d.items

abbrev pub RunsLive : Version → Size → RunStage → Part Run → Type 0
RunsLive version size Count d = Unit {0}
RunsLive version size Runs d = RunsFit version size d
RunsLive version size Done d = RunsFit version size d × IsWhole d

-- the lines of runs so far, with their version and size
pub record RunsSoFar : Type 0 where
  pub version : Version
  pub size : Size
  pub lines : List (List ℕ)

-- ---- a text of runs

-- the lines of a text of runs so far: none, or the header and these
abbrev pub headed_by : Bool → List (List ℕ) → List (List ℕ)
headed_by false runs = []
headed_by true runs = runs_text_header ∷ runs

-- no run's line came before the header
abbrev pub IsHeaded : Bool → List (List ℕ) → Type 0
IsHeaded false runs = runs ≡ []
IsHeaded true runs = Unit {0}

-- a text of runs has what the second version and the large size allow
abbrev pub HeadedLive : Bool → RunsSoFar → Type 0
HeadedLive headed runs = (runs.version ≡ Two) × (runs.size ≡ Large) × IsHeaded headed runs.lines

-- ---- a certificate

-- what was read of a certificate, and the lines of its runs
pub record CertDraft : Type 0 where
  pub version : Version
  pub size : Size
  pub pages : ℕ
  pub entries : List Entry
  pub runs : List (List ℕ)

abbrev pub entries_onto : Version → Size → ℕ → List Entry → List (List ℕ) → List (List ℕ)
entries_onto version size pages entries more = header version size ∷ (pages_key ++ decimal pages) ∷ (entry_lines 0 entries ++ more)

-- the lines so far
abbrev pub held_by : CertStage → CertDraft → List (List ℕ)
held_by Header d = []
held_by Pages d = header d.version d.size ∷ []
held_by Entries d = entries_onto d.version d.size d.pages d.entries d.runs

-- a certificate of a size that the version has, with nothing of the lists read
pub record IsEmpty (d : CertDraft) : Type 0 where
  pub size : HasSize d.version d.size
  pub entries : d.entries ≡ []
  pub runs : d.runs ≡ []

-- a certificate of a size that the version has: the entries so far, and after the last the lines of runs
pub record EntriesFit (d : CertDraft) : Type 0 where
  pub size : HasSize d.version d.size
  pub some_pages : 1 ≤ d.pages
  pub few_pages : d.pages ≤ most_pages
  pub own : d.pages ≤ (limits d.size).pages
  pub count : length d.entries ≤ d.pages
  pub each : AllByRecursion (EntryFits d.version d.size) d.entries
  pub runs : length d.entries < d.pages → d.runs ≡ []

abbrev pub Live : CertStage → CertDraft → Type 0
Live Header d = IsEmpty d
Live Pages d = IsEmpty d
Live Entries d = EntriesFit d
