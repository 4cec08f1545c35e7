-- Each state of a reader of certificates goes on to a text, and only a whole one is a text.
use Rattle.std.proofs.Common.{◌≡◌, ℕ, zero, suc, ◌+◌, ◌-◌, ◌<◌, ◌≤◌, ◌^◌, List, [], ◌∷◌, ◌++◌, length, refl, sym, ap, subst, ◌∙◌, length-append, arith, inl, inr}
use Rattle.std.specs.Fmt.{decimal}
use Rattle.std.proofs.lemmas.Bool.{cases_lt}
use Rattle.text_lines.specs.Text.{Begins}
use Rattle.text_lines.proofs.Cut.{Begins-front}
use Rattle.migration_types.specs.declared.cert.Run.{Run}
use Rattle.migration_types.specs.declared.cert.Entry.{Entry}
use Rattle.migration_types.specs.declared.cert.Entry.TheVariants.{Nothing}
use Rattle.migration_types.specs.declared.version.Version.{Version}
use Rattle.migration_types.specs.declared.size.Size.{Size}
use Rattle.migration_types.specs.Limits.{HasSize, limits}
use Rattle.migration_types.specs.Certs.{Certified, IsCert}
use Rattle.cert_text.specs.declared.cert_lines.CertStage.{CertStage}
use Rattle.cert_text.specs.declared.cert_lines.CertStage.TheVariants.{Header, Pages, Entries}
use Rattle.cert_text.specs.Runs.{runs_lines, SpellsRunLines}
use Rattle.cert_text.specs.Grammar.{header, pages_key, entry_line, entry_lines, cert_lines, SpellsCert}
use Rattle.cert_text.specs.inner.Held.{CertDraft, entries_onto, held_by, EntriesFit, Live}
use Rattle.migration_types.specs.inner.Room.{limits_some}
use Rattle.cert_text.proofs.EntryLaws.{entries_length}
use Rattle.cert_text.proofs.RunGoes.{one_list_of_runs}
use Rattle.cert_text.proofs.Laws.{entries_onto_append, runs_of_version, runs_at, entries_agree, entry_held, entry_push}

abbrev cert_of : CertDraft → List Run → Certified
cert_of d runs = record { version = d.version; size = d.size; entries = d.entries; runs = runs }

-- ---- each state goes on

-- all the entries came
full_begins : (d : CertDraft) → EntriesFit d → d.pages ≡ length d.entries → Begins (SpellsRunLines d.version d.size) d.runs → Begins SpellsCert (entries_onto d.version d.size d.pages d.entries d.runs)
full_begins d f full b =
    let some = f.some_pages in
    let few = f.few_pages in (
      cert_of d b.0,
      b.1,
      (
        record { size = f.size; some_pages = omega arith; few_pages = omega arith; own = subst (λ (n : ℕ). n ≤ (limits d.size).pages) full f.own; entries = f.each; runs = b.2.0 },
        entries_onto_append d.version d.size d.pages d.entries d.runs b.1 ∙ (ap (λ (n : ℕ). entries_onto d.version d.size n d.entries (d.runs ++ b.1)) full ∙ ap (λ (t : List (List ℕ)). entries_onto d.version d.size (length d.entries) d.entries t) b.2.1),
      ),
    )

-- with so many entries to come
entries_begin : (m : ℕ) (d : CertDraft) → EntriesFit d → d.pages ≡ length d.entries + m → Begins (SpellsRunLines d.version d.size) d.runs → Begins SpellsCert (entries_onto d.version d.size d.pages d.entries d.runs)
entries_begin zero d f e b = full_begins d f (omega arith) b
entries_begin (suc m) d f e b =
    let none : d.runs ≡ [] = f.runs (omega arith) in
    let next : CertDraft = record d { entries = d.entries ++ Nothing ∷ [] } in
    let goes = entries_begin m next (entry_push d Nothing f (omega arith) tt) (omega (arith, length-append d.entries (Nothing ∷ []))) b in
    let same : entries_onto d.version d.size d.pages next.entries d.runs ≡ entries_onto d.version d.size d.pages d.entries d.runs ++ entry_line (length d.entries) Nothing ∷ [] =
    ap (λ (t : List (List ℕ)). entries_onto d.version d.size d.pages next.entries t) none ∙ (sym (entry_held d Nothing) ∙ ap (λ (t : List (List ℕ)). entries_onto d.version d.size d.pages d.entries t ++ entry_line (length d.entries) Nothing ∷ []) (sym none)) in
    Begins-front SpellsCert (entries_onto d.version d.size d.pages d.entries d.runs) (entry_line (length d.entries) Nothing ∷ []) (subst (Begins SpellsCert) same goes)

-- a text of one page begins with the header
header_begins : (version : Version) (size : Size) → HasSize version size → Begins (SpellsRunLines version size) [] → Begins SpellsCert (header version size ∷ [])
header_begins version size has b =
    let first : CertDraft = record { version = version; size = size; pages = 1; entries = []; runs = [] } in
    let fits : EntriesFit first = record { size = has; some_pages = omega arith; few_pages = omega arith; own = (limits_some size).pages; count = omega arith; each = tt; runs = λ _. refl } in
    Begins-front SpellsCert (header version size ∷ []) ((pages_key ++ decimal 1) ∷ []) (entries_begin 1 first fits (omega arith) b)

pub live_begins : (stage : CertStage) (d : CertDraft) → Live stage d → Begins (SpellsRunLines d.version d.size) d.runs → Begins SpellsCert (held_by stage d)
live_begins Header d live b = Begins-front SpellsCert [] (header d.version d.size ∷ []) (header_begins d.version d.size live.size (subst (Begins (SpellsRunLines d.version d.size)) live.runs b))
live_begins Pages d live b = header_begins d.version d.size live.size (subst (Begins (SpellsRunLines d.version d.size)) live.runs b)
live_begins Entries d live b = let count = live.count in entries_begin (d.pages - length d.entries) d live (omega arith) b

-- ---- what is not whole is no text

few_entries : (d : CertDraft) (c : Certified) → EntriesFit d → length d.entries < d.pages → IsCert c → entries_onto d.version d.size d.pages d.entries d.runs ≡ cert_lines c → ⊥
few_entries d c f less fits e =
    let few = f.few_pages in
    let none = f.runs less in
    let a = entries_agree d.version d.size d.pages d.entries d.runs c few fits e in
    let l : length (entry_lines 0 c.entries ++ runs_lines c.runs) ≡ length (entry_lines 0 d.entries ++ d.runs) = ap (λ (t : List (List ℕ)). length t) a.rest in
    absurd (omega (arith, l, ap (λ (t : List (List ℕ)). length t) none, length-append (entry_lines 0 c.entries) (runs_lines c.runs), length-append (entry_lines 0 d.entries) d.runs, entries_length 0 c.entries, entries_length 0 d.entries, a.count))

no_runs : (d : CertDraft) (c : Certified) → EntriesFit d → ((runs : List Run) → SpellsRunLines d.version d.size runs d.runs → ⊥) → IsCert c → entries_onto d.version d.size d.pages d.entries d.runs ≡ cert_lines c → ⊥
no_runs d c f stops fits e =
    let count = f.count in
    elim (cases_lt (length d.entries) d.pages) [
      | inl lt ↦ few_entries d c f lt fits e
      | inr le ↦
          let a = entries_agree d.version d.size d.pages d.entries d.runs c f.few_pages fits e in
          let r = runs_at d.version d.size d.pages d.entries d.runs c f.few_pages (omega arith) f.each fits e in
          stops c.runs (runs_of_version d.version d.size c a.told a.sized fits, r.1)
    ]

not_whole_at : (stage : CertStage) (d : CertDraft) (c : Certified) → Live stage d → ((runs : List Run) → SpellsRunLines d.version d.size runs d.runs → ⊥) → IsCert c → held_by stage d ≡ cert_lines c → ⊥
not_whole_at Header d c live stops fits e = absurd cc
not_whole_at Pages d c live stops fits e = absurd cc
not_whole_at Entries d c live stops fits e = no_runs d c live stops fits e

pub not_whole : (stage : CertStage) (d : CertDraft) (held : List (List ℕ)) → held_by stage d ≡ held → Live stage d → ((runs : List Run) → SpellsRunLines d.version d.size runs d.runs → ⊥) → (c : Certified) → SpellsCert c held → ⊥
not_whole stage d held e live stops c s = not_whole_at stage d c live stops s.0 (e ∙ s.1)

-- ---- the lines are few

pub live_few : (stage : CertStage) (d : CertDraft) → Live stage d → length d.runs < 2 ^ 31 → length (held_by stage d) + 1 < 2 ^ 32
live_few Header d live lt = omega arith
live_few Pages d live lt = omega arith
live_few Entries d live lt =
    let few = live.few_pages in
    let count = live.count in
    omega (arith, length-append (entry_lines 0 d.entries) d.runs, entries_length 0 d.entries)

-- ---- no text begins another

same_cert : (v w : Certified) → v.version ≡ w.version → v.size ≡ w.size → v.entries ≡ w.entries → v.runs ≡ w.runs → v ≡ w
same_cert v w d s e f =
    ap (λ (version : Version). record { version = version; size = v.size; entries = v.entries; runs = v.runs }) d
    ∙ (ap (λ (size : Size). record { version = w.version; size = size; entries = v.entries; runs = v.runs }) s
    ∙ (ap (λ (entries : List Entry). record { version = w.version; size = w.size; entries = entries; runs = v.runs }) e
    ∙ ap (λ (runs : List Run). record { version = w.version; size = w.size; entries = w.entries; runs = runs }) f))

pub one_text : (v w : Certified) (a more : List (List ℕ)) → SpellsCert v a → SpellsCert w (a ++ more) → (v ≡ w) × (more ≡ [])
one_text v w a more s t =
    let whole : entries_onto v.version v.size (length v.entries) v.entries (runs_lines v.runs ++ more) ≡ cert_lines w = sym (entries_onto_append v.version v.size (length v.entries) v.entries (runs_lines v.runs) more) ∙ (ap (λ (x : List (List ℕ)). x ++ more) (sym s.1) ∙ t.1) in
    let r = runs_at v.version v.size (length v.entries) v.entries (runs_lines v.runs ++ more) w s.0.few_pages refl s.0.entries t.0 whole in
    let agree = entries_agree v.version v.size (length v.entries) v.entries (runs_lines v.runs ++ more) w s.0.few_pages t.0 whole in
    let one = one_list_of_runs v.version v.size v.runs w.runs more s.0.runs (runs_of_version v.version v.size w agree.told agree.sized t.0) r.1 in
    (same_cert v w agree.told agree.sized (sym r.0) one.0, one.1)

pub one_list : (c : Certified) (a b : List (List ℕ)) → SpellsCert c a → SpellsCert c b → a ≡ b
one_list c a b s t = s.1 ∙ sym t.1
