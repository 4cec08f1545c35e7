-- No line of a certificate's text or of a text of runs has an LF.
use Rattle.std.specs.Prelude.{ℕ, ◌+◌, ◌<◌, ◌^◌, List, [], ◌∷◌, ◌++◌, length, Option, Some, None, refl, codes}
use Rattle.std.proofs.Common.{arith, subst, sym}
use Rattle.std.specs.List.{AllByRecursion}
use Rattle.std.specs.Fmt.{decimal}
use Rattle.text_lines.specs.Text.{IsLine}
use Rattle.text_lines.proofs.Plain.{plain_append, plain_decimal, plain_section, plain_codes}
use Rattle.migration_types.specs.declared.records.LogName.{LogName}
use Rattle.migration_types.specs.declared.records.LogName.TheVariants.{Guest, Source, Link, Lane, Pager}
use Rattle.migration_types.specs.declared.cert.Run.{Run}
use Rattle.migration_types.specs.declared.cert.First.{First}
use Rattle.migration_types.specs.declared.cert.Entry.{Entry}
use Rattle.migration_types.specs.declared.cert.Entry.TheVariants.{Nothing, Fresh, Source as Sent, Balloon}
use Rattle.migration_types.specs.declared.version.Version.{Version}
use Rattle.migration_types.specs.declared.version.Version.TheVariants.{One, Two}
use Rattle.migration_types.specs.declared.size.Size.{Size}
use Rattle.migration_types.specs.declared.size.Size.TheVariants.{Small, Large}
use Rattle.migration_types.specs.Sessions.{IsNumber}
use Rattle.migration_types.specs.Certs.{Certified, FirstFits, EntryFits, RunFits, AreRuns}
use Rattle.migration_types.specs.inner.Widest.{few_runs}
use Rattle.cert_text.specs.inner.Limits.{number_small, count_small}
use Rattle.cert_text.specs.Runs.{runs_text_header, runs_key, closing, log_word, run_text, run_line, runs_lines, SpellsRuns}
use Rattle.cert_text.specs.Grammar.{header, pages_key, page_key, first_text, placed_text, source_text, entry_text, entry_line, entry_lines, SpellsCert, SpellsCertRuns}

plain_keyed : (key : List ℕ) (n : ℕ) → IsLine key → n < 2 ^ 64 → IsLine (key ++ decimal n)
plain_keyed key n h lt = plain_append key (decimal n) h (plain_decimal n lt)

plain_spaced : (word rest : List ℕ) → IsLine word → IsLine rest → IsLine (word ++ 32 ∷ rest)
plain_spaced word rest h k = plain_append word (32 ∷ rest) h ((λ e. absurd (omega arith)), k)

-- ---- runs

plain_log : (log : LogName) → IsLine (log_word log)
plain_log Guest = plain_codes (log_word Guest) refl
plain_log Source = plain_codes (log_word Source) refl
plain_log Link = plain_codes (log_word Link) refl
plain_log Lane = plain_codes (log_word Lane) refl
plain_log Pager = plain_codes (log_word Pager) refl

plain_run : (version : Version) (size : Size) (run : Run) → RunFits version size run → IsLine (run_line run)
plain_run version size run fits =
    plain_append (codes "run ") (run_text run) (plain_codes (codes "run ") refl) (plain_spaced (log_word run.log) (decimal run.count) (plain_log run.log) (plain_decimal run.count (count_small size run.count fits.few)))

plain_runs : (version : Version) (size : Size) (runs : List Run) → AreRuns version size runs → AllByRecursion IsLine (runs_lines runs)
plain_runs version size runs fits =
    let few = few_runs version size (length runs) fits.few in
    (plain_keyed runs_key (length runs) (plain_codes runs_key refl) (omega arith), plain_section run_line (RunFits version size) runs (closing ∷ []) (plain_run version size) fits.each (plain_codes closing refl, tt))

pub plain_runs_text : (runs : List Run) (lines : List (List ℕ)) → SpellsRuns runs lines → AllByRecursion IsLine lines
plain_runs_text runs lines s = subst (AllByRecursion IsLine) (sym s.1) (plain_codes runs_text_header refl, plain_runs Two Large runs s.0)

-- ---- entries

plain_number : (size : Size) (n : ℕ) → IsNumber size n → IsLine (decimal n)
plain_number size n lt = plain_decimal n (number_small size n lt)

plain_first : (size : Size) (first : Option First) → FirstFits size first → IsLine (first_text first)
plain_first size None fits = plain_codes (first_text None) refl
plain_first size (Some first) fits = plain_spaced (decimal first.access) (decimal first.see) (plain_number size first.access fits.0) (plain_number size first.see fits.1)

plain_placed : (size : Size) (place : ℕ) (first : Option First) → IsNumber size place → FirstFits size first → IsLine (placed_text place first)
plain_placed size place first lt fits = plain_spaced (decimal place) (first_text first) (plain_number size place lt) (plain_first size first fits)

-- the number of a fresh page's entry is a record's
pub fresh_number : (version : Version) (size : Size) (first : ℕ) → EntryFits version size (Fresh first) → IsNumber size first
fresh_number One size first fits = absurd fits
fresh_number Two size first fits = fits

plain_text : (version : Version) (size : Size) (entry : Entry) → EntryFits version size entry → IsLine (entry_text entry)
plain_text version size Nothing fits = plain_codes (entry_text Nothing) refl
plain_text version size (Fresh first) fits = plain_append (codes "fresh ") (decimal first) (plain_codes (codes "fresh ") refl) (plain_number size first (fresh_number version size first fits))
plain_text version size (Sent send place first) fits = plain_append (codes "source ") (source_text send place first) (plain_codes (codes "source ") refl) (plain_spaced (decimal send) (placed_text place first) (plain_number size send fits.0) (plain_placed size place first fits.1 fits.2))
plain_text version size (Balloon place first) fits = plain_append (codes "balloon ") (placed_text place first) (plain_codes (codes "balloon ") refl) (plain_placed size place first fits.0 fits.1)

plain_entry : (version : Version) (size : Size) (page : ℕ) (entry : Entry) → page < 2 ^ 64 → EntryFits version size entry → IsLine (entry_line page entry)
plain_entry version size page entry lt fits = plain_append page_key (decimal page ++ 32 ∷ entry_text entry) (plain_codes page_key refl) (plain_spaced (decimal page) (entry_text entry) (plain_decimal page lt) (plain_text version size entry fits))

plain_entries : (version : Version) (size : Size) (page : ℕ) (entries : List Entry) (more : List (List ℕ)) → page + length entries < 2 ^ 64 → AllByRecursion (EntryFits version size) entries → AllByRecursion IsLine more → AllByRecursion IsLine (entry_lines page entries ++ more)
plain_entries version size page [] more lt fits h = h
plain_entries version size page (entry ∷ entries) more lt fits h = (plain_entry version size page entry (omega arith) fits.0, plain_entries version size (page + 1) entries more (omega arith) fits.1 h)

plain_header : (version : Version) (size : Size) → IsLine (header version size)
plain_header One Small = plain_codes (header One Small) refl
plain_header Two Small = plain_codes (header Two Small) refl
plain_header One Large = tt
plain_header Two Large = plain_codes (header Two Large) refl

pub plain_cert : (c : Certified) (lines : List (List ℕ)) → SpellsCert c lines → AllByRecursion IsLine lines
plain_cert c lines s =
    let few = s.0.few_pages in
    let entries = plain_entries c.version c.size 0 c.entries (runs_lines c.runs) (omega arith) s.0.entries (plain_runs c.version c.size c.runs s.0.runs) in
    subst (AllByRecursion IsLine) (sym s.1) (plain_header c.version c.size, (plain_keyed pages_key (length c.entries) (plain_codes pages_key refl) (omega arith), entries))

pub plain_cert_runs : (runs : List Run) (lines : List (List ℕ)) → SpellsCertRuns runs lines → AllByRecursion IsLine lines
plain_cert_runs runs lines s = plain_cert s.0 lines s.1
