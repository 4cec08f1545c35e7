-- What the lines that a reader of certificates holds say of each text that begins with them.
use Rattle.std.proofs.Common.{◌≡◌, ℕ, ◌+◌, ◌<◌, ◌≤◌, ◌^◌, List, [], ◌∷◌, ◌++◌, length, get_or, refl, sym, ap, subst, ◌∙◌, append_assoc, length-append, arith}
use Rattle.std.specs.Prelude.{◌≢◌}
use Rattle.std.specs.List.{AllByRecursion}
use Rattle.std.specs.Fmt.{decimal}
use Rattle.std.proofs.lemmas.List.{append_cancel_left, append-nil}
use Rattle.std.proofs.lemmas.Fmt.{decimal_injective}
use Rattle.text_lines.specs.Text.{Begins, TakesLines}
use Rattle.migration_types.specs.declared.cert.Entry.{Entry}
use Rattle.migration_types.specs.declared.version.Version.{Version}
use Rattle.migration_types.specs.declared.version.Version.TheVariants.{One, Two}
use Rattle.migration_types.specs.declared.size.Size.{Size}
use Rattle.migration_types.specs.declared.size.Size.TheVariants.{Small, Large}
use Rattle.migration_types.specs.Limits.{HasSize, most_pages}
use Rattle.migration_types.specs.Certs.{Certified, EntryFits, AreRuns, IsCert}
use Rattle.cert_text.specs.declared.cert_lines.CertStage.{CertStage}
use Rattle.cert_text.specs.declared.cert_lines.CertStage.TheVariants.{Header, Pages, Entries}
use Rattle.cert_text.specs.Runs.{runs_lines, SpellsRunLines}
use Rattle.cert_text.specs.Grammar.{header, pages_key, entry_line, entry_lines, cert_lines, SpellsCert}
use Rattle.cert_text.specs.inner.Held.{CertDraft, entries_onto, held_by, EntriesFit, Live}
use Rattle.cert_text.specs.inner.Taken.{TakesEntries, TakesEntry}
use Rattle.cert_text.proofs.EntryLaws.{entries_length, entries_append, next_entry, entries_end, entries_push}
use Rattle.cert_text.proofs.RunLaws.{all_push}

pub entries_onto_append : (version : Version) (size : Size) (pages : ℕ) (entries : List Entry) (a b : List (List ℕ)) → entries_onto version size pages entries a ++ b ≡ entries_onto version size pages entries (a ++ b)
entries_onto_append version size pages entries a b = ap (λ (t : List (List ℕ)). header version size ∷ (pages_key ++ decimal pages) ∷ t) (append_assoc (entry_lines 0 entries) a b)

-- a fact about a stage that is known
pub live_at : (stage at : CertStage) (d : CertDraft) → stage ≡ at → Live stage d → Live at d
live_at stage at d is live = subst (λ (s : CertStage). Live s d) is live

-- a text that begins with a line more than is held
pub record Goes (stage : CertStage) (d : CertDraft) (line : List ℕ) : Type 0 where
  pub c : Certified
  pub more : List (List ℕ)
  pub fits : IsCert c
  pub whole : held_by stage d ++ (line ∷ more) ≡ cert_lines c

pub goes_from : (stage at : CertStage) (d : CertDraft) (held : List (List ℕ)) (line : List ℕ) → held_by stage d ≡ held → stage ≡ at → Begins SpellsCert (held ++ line ∷ []) → Goes at d line
goes_from stage at d held line e is b = subst (λ (s : CertStage). Goes s d line) is (record {
  c = b.0;
  more = b.1;
  fits = b.2.0;
  whole = ap (λ (t : List (List ℕ)). t ++ (line ∷ b.1)) e ∙ (sym (append_assoc held (line ∷ []) b.1) ∙ b.2.1);
})

pub keyed : (key : List ℕ) (m n : ℕ) → m < 2 ^ 64 → n < 2 ^ 64 → key ++ decimal m ≡ key ++ decimal n → m ≡ n
keyed key m n p q e = decimal_injective m n p q (append_cancel_left key (decimal m) (decimal n) e)

-- ---- the entries

-- the first line tells the version and the size
header_tells : (v w : Version) (k l : Size) → header v k ≡ header w l → (v ≡ w) × (k ≡ l)
header_tells One One Small Small e = (refl, refl)
header_tells Two Two Small Small e = (refl, refl)
header_tells One Two Small Small e = let last : 49 ≡ 50 = ap (λ (line : List ℕ). get_or line 21 0) e in absurd (omega (arith, last))
header_tells Two One Small Small e = let last : 50 ≡ 49 = ap (λ (line : List ℕ). get_or line 21 0) e in absurd (omega (arith, last))
header_tells One One Large Large e = (refl, refl)
header_tells Two Two Large Large e = (refl, refl)
header_tells One Two Large Large e = absurd cc
header_tells Two One Large Large e = absurd cc
header_tells One One Large Small e = absurd cc
header_tells One Two Large Small e = absurd cc
header_tells One One Small Large e = absurd cc
header_tells Two One Small Large e = absurd cc
header_tells One Two Small Large e = let last : 49 ≡ 51 = ap (λ (line : List ℕ). get_or line 21 0) e in absurd (omega (arith, last))
header_tells Two One Large Small e = let last : 51 ≡ 49 = ap (λ (line : List ℕ). get_or line 21 0) e in absurd (omega (arith, last))
header_tells Two Two Small Large e = let last : 50 ≡ 51 = ap (λ (line : List ℕ). get_or line 21 0) e in absurd (omega (arith, last))
header_tells Two Two Large Small e = let last : 51 ≡ 50 = ap (λ (line : List ℕ). get_or line 21 0) e in absurd (omega (arith, last))

pub no_header : (line : List ℕ) (version : Version) (size : Size) → line ≢ header One Small → line ≢ header Two Small → line ≢ header Two Large → HasSize version size → line ≢ header version size
no_header line One Small one two large has = one
no_header line Two Small one two large has = two
no_header line One Large one two large has = absurd has
no_header line Two Large one two large has = large

-- the version, the size and the number of pages of the text, and what follows them
pub record EntriesAgree (version : Version) (size : Size) (pages : ℕ) (entries : List Entry) (more : List (List ℕ)) (c : Certified) : Type 0 where
  pub told : version ≡ c.version
  pub sized : size ≡ c.size
  pub count : pages ≡ length c.entries
  pub rest : entry_lines 0 c.entries ++ runs_lines c.runs ≡ entry_lines 0 entries ++ more

pub entries_agree : (version : Version) (size : Size) (pages : ℕ) (entries : List Entry) (more : List (List ℕ)) (c : Certified) → pages ≤ most_pages → IsCert c → entries_onto version size pages entries more ≡ cert_lines c → EntriesAgree version size pages entries more c
entries_agree version size pages entries more c le fits e =
    let few = fits.few_pages in
    let first : header version size ≡ header c.version c.size = cc in
    let told = header_tells version c.version size c.size first in
    let heads : pages_key ++ decimal pages ≡ pages_key ++ decimal (length c.entries) = cc in
    let rest : entry_lines 0 entries ++ more ≡ entry_lines 0 c.entries ++ runs_lines c.runs = cc in
    record { told = told.0; sized = told.1; count = keyed pages_key pages (length c.entries) (omega arith) (omega arith) heads; rest = sym rest }

of_version : (version : Version) (size : Size) (c : Certified) → version ≡ c.version → size ≡ c.size → IsCert c → AllByRecursion (EntryFits version size) c.entries
of_version version size c is same fits = subst (λ (v : Version). AllByRecursion (EntryFits v size) c.entries) (sym is) (subst (λ (k : Size). AllByRecursion (EntryFits c.version k) c.entries) (sym same) fits.entries)

pub runs_of_version : (version : Version) (size : Size) (c : Certified) → version ≡ c.version → size ≡ c.size → IsCert c → AreRuns version size c.runs
runs_of_version version size c is same fits = subst (λ (v : Version). AreRuns v size c.runs) (sym is) (subst (λ (k : Size). AreRuns c.version k c.runs) (sym same) fits.runs)

-- behind all the entries stand the runs
pub runs_at : (version : Version) (size : Size) (pages : ℕ) (entries : List Entry) (more : List (List ℕ)) (c : Certified) → pages ≤ most_pages → length entries ≡ pages → AllByRecursion (EntryFits version size) entries → IsCert c → entries_onto version size pages entries more ≡ cert_lines c → (c.entries ≡ entries) × (more ≡ runs_lines c.runs)
runs_at version size pages entries more c le full each fits e =
    let a = entries_agree version size pages entries more c le fits e in
    let s = entries_end version size 0 c.entries entries (runs_lines c.runs) more (of_version version size c a.told a.sized fits) each a.rest (full ∙ a.count) in
    (s.0, sym s.1)

pub entry_at : (d : CertDraft) (line : List ℕ) → EntriesFit d → length d.entries < d.pages → Goes Entries d line → (entry : Entry) × EntryFits d.version d.size entry × (line ≡ entry_line (length d.entries) entry)
entry_at d line f less g =
    let few = f.few_pages in
    let none = f.runs less in
    let whole = sym (ap (λ (t : List (List ℕ)). entries_onto d.version d.size d.pages d.entries (t ++ (line ∷ g.more))) none) ∙ (sym (entries_onto_append d.version d.size d.pages d.entries d.runs (line ∷ g.more)) ∙ g.whole) in
    let a = entries_agree d.version d.size d.pages d.entries (line ∷ g.more) g.c few g.fits whole in
    let n = next_entry d.version d.size 0 g.c.entries d.entries (runs_lines g.c.runs) g.more line (of_version d.version d.size g.c a.told a.sized g.fits) a.rest (omega (arith, a.count)) in
    let k : 0 + length d.entries ≡ length d.entries = omega arith in
    (n.0, n.1, n.2 ∙ ap (λ (i : ℕ). entry_line i n.0) k)

-- what stands behind all the entries begins the lines of runs
behind_entries : (d : CertDraft) (lines : List (List ℕ)) → EntriesFit d → length d.entries ≡ d.pages → Begins SpellsCert (entries_onto d.version d.size d.pages d.entries lines) → Begins (SpellsRunLines d.version d.size) lines
behind_entries d lines f full b =
    let whole = sym (entries_onto_append d.version d.size d.pages d.entries lines b.1) ∙ b.2.1 in
    let a = entries_agree d.version d.size d.pages d.entries (lines ++ b.1) b.0 f.few_pages b.2.0 whole in
    let r = runs_at d.version d.size d.pages d.entries (lines ++ b.1) b.0 f.few_pages full f.each b.2.0 whole in
    (b.0.runs, b.1, (runs_of_version d.version d.size b.0 a.told a.sized b.2.0, r.1))

-- so a line that no runs' lines go on with is refused
pub no_run_line : (stage : CertStage) (d : CertDraft) (held : List (List ℕ)) (line : List ℕ) → held_by stage d ≡ held → stage ≡ Entries → Live stage d → length d.entries ≡ d.pages → (Begins (SpellsRunLines d.version d.size) (d.runs ++ line ∷ []) → ⊥) → Begins SpellsCert (held ++ line ∷ []) → ⊥
no_run_line stage d held line e is live full stops b =
    let here : held_by Entries d ≡ held = subst (λ (s : CertStage). held_by s d ≡ held) is e in
    let joined : held ++ line ∷ [] ≡ entries_onto d.version d.size d.pages d.entries (d.runs ++ line ∷ []) = ap (λ (t : List (List ℕ)). t ++ line ∷ []) (sym here) ∙ entries_onto_append d.version d.size d.pages d.entries d.runs (line ∷ []) in
    stops (behind_entries d (d.runs ++ line ∷ []) (live_at stage Entries d is live) full (subst (Begins SpellsCert) joined b))

-- a line of the runs came
pub run_taken : (stage : CertStage) (d : CertDraft) (version : Version) (size : Size) (runs : List (List ℕ)) (line : List ℕ) → stage ≡ Entries → Live stage d → length d.entries ≡ d.pages → version ≡ d.version → size ≡ d.size → runs ≡ d.runs ++ line ∷ [] → Live Entries (record d { version = version; size = size; runs = runs }) × (held_by Entries (record d { version = version; size = size; runs = runs }) ≡ held_by stage d ++ line ∷ [])
run_taken Header d version size runs line is live full same sized grown = absurd cc
run_taken Pages d version size runs line is live full same sized grown = absurd cc
run_taken Entries d version size runs line is live full same sized grown = rw (same, sized, grown) (
  record { size = live.size; some_pages = live.some_pages; few_pages = live.few_pages; own = live.own; count = live.count; each = live.each; runs = λ less. absurd (omega (arith, full, less)) },
  sym (entries_onto_append d.version d.size d.pages d.entries d.runs (line ∷ [])),
)

-- ---- one more entry

pub entry_held : (d : CertDraft) (entry : Entry) → entries_onto d.version d.size d.pages d.entries [] ++ entry_line (length d.entries) entry ∷ [] ≡ entries_onto d.version d.size d.pages (d.entries ++ entry ∷ []) []
entry_held d entry =
    let k : length d.entries ≡ 0 + length d.entries = omega arith in
    entries_onto_append d.version d.size d.pages d.entries [] (entry_line (length d.entries) entry ∷ [])
    ∙ ap (λ (t : List (List ℕ)). header d.version d.size ∷ (pages_key ++ decimal d.pages) ∷ t) (ap (λ (i : ℕ). entry_lines 0 d.entries ++ entry_line i entry ∷ []) k ∙ sym (entries_push 0 d.entries entry []))

pub entry_push : (d : CertDraft) (entry : Entry) → EntriesFit d → length d.entries < d.pages → EntryFits d.version d.size entry → EntriesFit (record d { entries = d.entries ++ entry ∷ [] })
entry_push d entry f less fits = record {
  size = f.size;
  some_pages = f.some_pages;
  few_pages = f.few_pages;
  own = f.own;
  count = omega (arith, length-append d.entries (entry ∷ []));
  each = all_push (EntryFits d.version d.size) d.entries entry f.each fits;
  runs = λ _. f.runs less;
}

-- the lines after an entry's
pub entry_taken : (stage : CertStage) (d : CertDraft) (held : List (List ℕ)) (line : List ℕ) (entry : Entry) → stage ≡ Entries → held_by stage d ≡ held → Live stage d → length d.entries < d.pages → line ≡ entry_line (length d.entries) entry → held_by stage (record d { entries = d.entries ++ entry ∷ [] }) ≡ held ++ line ∷ []
entry_taken Header d held line entry is e live less spelled = absurd cc
entry_taken Pages d held line entry is e live less spelled = absurd cc
entry_taken Entries d held line entry is e live less spelled =
    let none = live.runs less in
    ap (λ (t : List (List ℕ)). entries_onto d.version d.size d.pages (d.entries ++ entry ∷ []) t) none
    ∙ (sym (entry_held d entry)
    ∙ (ap (λ (t : List ℕ). entries_onto d.version d.size d.pages d.entries [] ++ t ∷ []) (sym spelled)
    ∙ (ap (λ (t : List (List ℕ)). entries_onto d.version d.size d.pages d.entries t ++ line ∷ []) (sym none)
    ∙ ap (λ (t : List (List ℕ)). t ++ line ∷ []) e)))

-- an entry came
pub entry_came : (stage : CertStage) (d : CertDraft) (version : Version) (size : Size) (line : List ℕ) (new : List Entry) → version ≡ d.version → size ≡ d.size → stage ≡ Entries → Live stage d → length d.entries < d.pages → TakesEntry version size d.entries new line → Live Entries (record d { entries = new }) × (held_by Entries (record d { entries = new }) ≡ held_by stage d ++ line ∷ [])
entry_came Header d version size line new same sized is live less t = absurd cc
entry_came Pages d version size line new same sized is live less t = absurd cc
entry_came Entries d version size line new same sized is live less t = (
  subst (λ (entries : List Entry). EntriesFit (record d { entries = entries })) (sym t.grown) (entry_push d t.entry live less (subst (λ (k : Size). EntryFits d.version k t.entry) sized (subst (λ (v : Version). EntryFits v size t.entry) same t.fits))),
  ap (λ (entries : List Entry). held_by Entries (record d { entries = entries })) t.grown ∙ entry_taken Entries d (held_by Entries d) line t.entry refl refl live less t.spelled,
)

-- a line that is not the next page's entry is refused
pub no_entry_line : (stage : CertStage) (d : CertDraft) (version : Version) (size : Size) (line : List ℕ) → version ≡ d.version → size ≡ d.size → stage ≡ Entries → Live stage d → length d.entries < d.pages → ((entry : Entry) → EntryFits version size entry → line ≢ entry_line (length d.entries) entry) → Begins SpellsCert (held_by stage d ++ line ∷ []) → ⊥
no_entry_line stage d version size line same sized is live less none b =
    let n = entry_at d line (live_at stage Entries d is live) less (goes_from stage Entries d (held_by stage d) line refl is b) in
    none n.0 (subst (λ (v : Version). EntryFits v size n.0) (sym same) (subst (λ (k : Size). EntryFits d.version k n.0) (sym sized) n.1)) n.2

-- many entries more
entries_held : (d : CertDraft) (taken : List Entry) → entries_onto d.version d.size d.pages (d.entries ++ taken) [] ≡ entries_onto d.version d.size d.pages d.entries [] ++ entry_lines (length d.entries) taken
entries_held d taken =
    let k : 0 + length d.entries ≡ length d.entries = omega arith in
    let lines : entry_lines 0 (d.entries ++ taken) ≡ entry_lines 0 d.entries ++ entry_lines (length d.entries) taken = entries_append 0 d.entries taken ∙ ap (λ (i : ℕ). entry_lines 0 d.entries ++ entry_lines i taken) k in
    ap (λ (t : List (List ℕ)). header d.version d.size ∷ (pages_key ++ decimal d.pages) ∷ t) (append-nil (entry_lines 0 (d.entries ++ taken)) ∙ lines)
    ∙ sym (entries_onto_append d.version d.size d.pages d.entries [] (entry_lines (length d.entries) taken))

entries_grown : (stage : CertStage) (d : CertDraft) (held : List (List ℕ)) (taken : List Entry) → stage ≡ Entries → held_by stage d ≡ held → Live stage d → length d.entries < d.pages → held_by stage (record d { entries = d.entries ++ taken }) ≡ held ++ entry_lines (length d.entries) taken
entries_grown Header d held taken is e live less = absurd cc
entries_grown Pages d held taken is e live less = absurd cc
entries_grown Entries d held taken is e live less =
    let none = live.runs less in
    ap (λ (t : List (List ℕ)). entries_onto d.version d.size d.pages (d.entries ++ taken) t) none
    ∙ (entries_held d taken
    ∙ (ap (λ (t : List (List ℕ)). entries_onto d.version d.size d.pages d.entries t ++ entry_lines (length d.entries) taken) (sym none)
    ∙ ap (λ (t : List (List ℕ)). t ++ entry_lines (length d.entries) taken) e))

pub entries_taken : (stage : CertStage) (d : CertDraft) (held : List (List ℕ)) (new : List Entry) (bytes rest : List ℕ) (n : ℕ) → stage ≡ Entries → held_by stage d ≡ held → Live stage d → length d.entries < d.pages → TakesEntries d.version d.size d.entries new bytes rest n → TakesLines held (held_by stage (record d { entries = new })) bytes rest n
entries_taken stage d held new bytes rest n is e live less t = record {
  taken = entry_lines (length d.entries) t.taken;
  parts = t.parts;
  grown = ap (λ (entries : List Entry). held_by stage (record d { entries = entries })) t.items ∙ entries_grown stage d held t.taken is e live less;
  counted = entries_length (length d.entries) t.taken ∙ t.counted;
}
