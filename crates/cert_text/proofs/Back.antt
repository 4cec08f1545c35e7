-- Taking the last line back.
use Rattle.std.proofs.Common.{◌≡◌, ℕ, ◌+◌, List, [], ◌∷◌, ◌++◌, length, map, refl, sym, ap, subst, ◌∙◌, length-append, arith}
use Rattle.std.specs.List.{AllByRecursion}
use Rattle.std.specs.Fmt.{decimal}
use Rattle.std.proofs.lemmas.List.{append-nil, get_or_append_left}
use Rattle.text_lines.specs.Counted.{Part}
use Rattle.migration_types.specs.declared.cert.Run.{Run}
use Rattle.migration_types.specs.declared.cert.Entry.{Entry}
use Rattle.migration_types.specs.declared.version.Version.{Version}
use Rattle.migration_types.specs.declared.size.Size.{Size}
use Rattle.migration_types.specs.Certs.{RunFits, Alternate, EntryFits}
use Rattle.cert_text.specs.declared.run_lines.RunStage.{RunStage}
use Rattle.cert_text.specs.declared.run_lines.RunStage.TheVariants.{Count, Runs, Done}
use Rattle.cert_text.specs.Runs.{runs_key, closing, run_line}
use Rattle.cert_text.specs.Grammar.{entry_line, entry_lines}
use Rattle.cert_text.specs.inner.Held.{CertDraft, runs_onto, runs_held, RunsFit, entries_onto, held_by, EntriesFit, Live}
use Rattle.cert_text.proofs.RunGoes.{run_held}
use Rattle.cert_text.specs.declared.cert_lines.CertStage.{CertStage}
use Rattle.cert_text.specs.declared.cert_lines.CertStage.TheVariants.{Header, Pages, Entries}
use Rattle.cert_text.proofs.EntryLaws.{entries_length}
use Rattle.cert_text.proofs.Laws.{entry_held}

all_front : {X : Type 0} (P : X → Type 0) (xs : List X) (x : X) → AllByRecursion P (xs ++ x ∷ []) → AllByRecursion P xs
all_front P [] x h = tt
all_front P (y ∷ ys) x h = (h.0, all_front P ys x h.1)

-- ---- runs

alternate_front : (xs : List Run) (x : Run) → Alternate (xs ++ x ∷ []) → Alternate xs
alternate_front xs x h k d lt = λ e.
    let here = get_or_append_left xs (x ∷ []) d k (omega arith) in
    let next = get_or_append_left xs (x ∷ []) d (k + 1) lt in
    h k d (omega (arith, length-append xs (x ∷ []))) (ap (λ (r : Run). r.log) here ∙ (e ∙ sym (ap (λ (r : Run). r.log) next)))

abbrev pub with_run : Part Run → Run → Part Run
with_run part run = record { count = part.count; items = part.items ++ run ∷ [] }

pub run_fits_back : (version : Version) (size : Size) (old new : Part Run) (run : Run) → old ≡ with_run new run → RunsFit version size old → RunsFit version size new
run_fits_back version size old new run e f =
    let g : RunsFit version size (with_run new run) = subst (RunsFit version size) e f in
    let count = g.count in
    record {
      few = g.few;
      count = omega (arith, length-append new.items (run ∷ []));
      each = all_front (RunFits version size) new.items run g.each;
      alternate = alternate_front new.items run g.alternate;
    }

run_back : (old new : Part Run) (run : Run) → old ≡ with_run new run → runs_onto old [] ≡ runs_onto new [] ++ run_line run ∷ []
run_back old new run e = ap (λ (p : Part Run). runs_onto p []) e ∙ sym (run_held new run)

pub run_undone : (stage : RunStage) (old new : Part Run) (held : List (List ℕ)) → runs_held stage old [] ≡ held → stage ≡ Runs → (run : Run) × (old ≡ with_run new run) → (line : List ℕ) × (held ≡ runs_held stage new [] ++ line ∷ [])
run_undone Count old new held e is lost = absurd cc
run_undone Runs old new held e is lost = (run_line lost.0, sym e ∙ run_back old new lost.0 lost.1)
run_undone Done old new held e is lost = absurd cc

pub closing_undone : (stage : RunStage) (d : Part Run) (held : List (List ℕ)) → runs_held stage d [] ≡ held → stage ≡ Done → (line : List ℕ) × (held ≡ runs_held Runs d [] ++ line ∷ [])
closing_undone Count d held e is = absurd cc
closing_undone Runs d held e is = absurd cc
closing_undone Done d held e is = (closing, sym e ∙ ap (λ (t : List (List ℕ)). (runs_key ++ decimal d.count) ∷ (t ++ closing ∷ [])) (sym (append-nil (map run_line d.items))))

-- ---- entries

entry_fits_back : (version : Version) (size : Size) (pages : ℕ) (old new : List Entry) (entry : Entry) (runs : List (List ℕ)) → old ≡ new ++ entry ∷ [] → runs ≡ [] → EntriesFit (record { version = version; size = size; pages = pages; entries = old; runs = runs }) → EntriesFit (record { version = version; size = size; pages = pages; entries = new; runs = runs })
entry_fits_back version size pages old new entry runs e none f =
    let g : EntriesFit (record { version = version; size = size; pages = pages; entries = new ++ entry ∷ []; runs = runs }) = subst (λ (t : List Entry). EntriesFit (record { version = version; size = size; pages = pages; entries = t; runs = runs })) e f in
    let count = g.count in
    record {
      size = g.size;
      some_pages = g.some_pages;
      few_pages = g.few_pages;
      own = g.own;
      count = omega (arith, length-append new (entry ∷ []));
      each = all_front (EntryFits version size) new entry g.each;
      runs = λ _. none;
    }

pub live_undone : (stage : CertStage) (version : Version) (size : Size) (pages : ℕ) (old new : List Entry) (runs : List (List ℕ)) → Live stage (record { version = version; size = size; pages = pages; entries = old; runs = runs }) → stage ≡ Entries → runs ≡ [] → (entry : Entry) × (old ≡ new ++ entry ∷ []) → Live Entries (record { version = version; size = size; pages = pages; entries = new; runs = runs })
live_undone Header version size pages old new runs live is none lost = absurd cc
live_undone Pages version size pages old new runs live is none lost = absurd cc
live_undone Entries version size pages old new runs live is none lost = entry_fits_back version size pages old new lost.0 runs lost.1 none live

pub entry_undone : (stage : CertStage) (version : Version) (size : Size) (pages : ℕ) (old new : List Entry) (runs held : List (List ℕ)) → held_by stage (record { version = version; size = size; pages = pages; entries = old; runs = runs }) ≡ held → stage ≡ Entries → runs ≡ [] → (entry : Entry) × (old ≡ new ++ entry ∷ []) → (line : List ℕ) × (held ≡ held_by Entries (record { version = version; size = size; pages = pages; entries = new; runs = runs }) ++ line ∷ [])
entry_undone Header version size pages old new runs held e is none lost = absurd cc
entry_undone Pages version size pages old new runs held e is none lost = absurd cc
entry_undone Entries version size pages old new runs held e is none lost = (
  entry_line (length new) lost.0,
  sym e ∙ (ap (λ (t : List (List ℕ)). entries_onto version size pages old t) none
      ∙ (ap (λ (t : List Entry). entries_onto version size pages t []) lost.1
      ∙ (sym (entry_held (record { version = version; size = size; pages = pages; entries = new; runs = runs }) lost.0)
      ∙ ap (λ (t : List (List ℕ)). entries_onto version size pages new t ++ entry_line (length new) lost.0 ∷ []) (sym none)))),
)

-- ---- how many lines came

pub lines_came : (stage : CertStage) (d : CertDraft) (held : List (List ℕ)) → held_by stage d ≡ held → stage ≡ Entries → length held ≡ length d.entries + length d.runs + 2
lines_came Header d held e is = absurd cc
lines_came Pages d held e is = absurd cc
lines_came Entries d held e is = sym (ap length e) ∙ omega (arith, length-append (entry_lines 0 d.entries) d.runs, entries_length 0 d.entries)

pub none_from_length : (lines : List (List ℕ)) → length lines ≡ 0 → lines ≡ []
none_from_length [] e = refl
none_from_length (line ∷ lines) e = absurd (omega (arith, e))
