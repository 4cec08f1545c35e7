-- What the lines of some runs say of each text that begins with them, and one run more.
use Rattle.std.proofs.Common.{◌≡◌, ◌≢◌, ℕ, ◌+◌, ◌-◌, ◌<◌, ◌≤◌, ◌^◌, List, [], ◌∷◌, ◌++◌, length, map, get_or, refl, sym, ap, subst, ◌∙◌, append_assoc, length-append, arith, inl, inr, codes}
use Rattle.std.specs.Prelude.{◌⊎◌, slice_index}
use Rattle.std.specs.List.{AllByRecursion}
use Rattle.std.specs.Fmt.{decimal}
use Rattle.std.proofs.lemmas.List.{append_cancel_left, append-nil}
use Rattle.std.proofs.lemmas.List.{get_or_append_left, get_or-append-add, get_or_default}
use Rattle.std.proofs.lemmas.Bool.{cases_lt}
use Rattle.std.proofs.lemmas.Fmt.{decimal_injective}
use Rattle.text_lines.specs.Words.{NoDigit}
use Rattle.text_lines.specs.Counted.{AllFollow}
use Rattle.text_lines.proofs.Fronts.{numbers_same}
use Rattle.text_lines.proofs.Sections.{CountedAgree, counted_agree, counted_end, counted_next}
use Rattle.migration_types.specs.declared.records.LogName.{LogName}
use Rattle.migration_types.specs.declared.records.LogName.TheVariants.{Guest, Source, Link, Lane, Pager}
use Rattle.migration_types.specs.declared.cert.Run.{Run}
use Rattle.migration_types.specs.declared.version.Version.{Version}
use Rattle.migration_types.specs.declared.size.Size.{Size}
use Rattle.migration_types.specs.Limits.{most_runs}
use Rattle.migration_types.specs.Certs.{LogFits, RunFits, Alternate, AreRuns}
use Rattle.cert_text.specs.Runs.{runs_key, closing, log_word, run_text, run_line, runs_lines}
use Rattle.cert_text.specs.inner.Held.{MayFollow}
use Rattle.migration_types.specs.inner.Room.{limits_some}
use Rattle.migration_types.specs.inner.Widest.{few_runs}
use Rattle.cert_text.specs.inner.Limits.{count_small}

-- ---- one spelling for each run

-- the first byte, and the next
abbrev initial : List ℕ → ℕ
initial text = get_or text 0 0

abbrev second : List ℕ → ℕ
second text = get_or text 1 0

unlike : (a b : ℕ) → a < b → a ≡ b → ⊥
unlike a b lt e = absurd (omega arith)

word_same : (a b : LogName) (s t : List ℕ) → log_word a ++ 32 ∷ s ≡ log_word b ++ 32 ∷ t → (a ≡ b) × (s ≡ t)
word_same Guest Guest s t e = (refl, cc)
word_same Guest Source s t e = absurd (unlike 103 115 (omega arith) (ap initial e))
word_same Guest Link s t e = absurd (unlike 103 108 (omega arith) (ap initial e))
word_same Guest Lane s t e = absurd (unlike 103 108 (omega arith) (ap initial e))
word_same Guest Pager s t e = absurd (unlike 103 112 (omega arith) (ap initial e))
word_same Source Guest s t e = absurd (unlike 103 115 (omega arith) (ap initial (sym e)))
word_same Source Source s t e = (refl, cc)
word_same Source Link s t e = absurd (unlike 108 115 (omega arith) (ap initial (sym e)))
word_same Source Lane s t e = absurd (unlike 108 115 (omega arith) (ap initial (sym e)))
word_same Source Pager s t e = absurd (unlike 112 115 (omega arith) (ap initial (sym e)))
word_same Link Guest s t e = absurd (unlike 103 108 (omega arith) (ap initial (sym e)))
word_same Link Source s t e = absurd (unlike 108 115 (omega arith) (ap initial e))
word_same Link Link s t e = (refl, cc)
word_same Link Lane s t e = absurd (unlike 97 105 (omega arith) (ap second (sym e)))
word_same Link Pager s t e = absurd (unlike 108 112 (omega arith) (ap initial e))
word_same Lane Guest s t e = absurd (unlike 103 108 (omega arith) (ap initial (sym e)))
word_same Lane Source s t e = absurd (unlike 108 115 (omega arith) (ap initial e))
word_same Lane Link s t e = absurd (unlike 97 105 (omega arith) (ap second e))
word_same Lane Lane s t e = (refl, cc)
word_same Lane Pager s t e = absurd (unlike 108 112 (omega arith) (ap initial e))
word_same Pager Guest s t e = absurd (unlike 103 112 (omega arith) (ap initial (sym e)))
word_same Pager Source s t e = absurd (unlike 112 115 (omega arith) (ap initial e))
word_same Pager Link s t e = absurd (unlike 108 112 (omega arith) (ap initial (sym e)))
word_same Pager Lane s t e = absurd (unlike 108 112 (omega arith) (ap initial (sym e)))
word_same Pager Pager s t e = (refl, cc)

-- a text that begins with a log's name begins with its first two letters
pub letters_of : (text : List ℕ) (log : LogName) (rest : List ℕ) → text ≡ log_word log ++ 32 ∷ rest → (initial text ≡ slice_index (log_word log) 0) × (second text ≡ slice_index (log_word log) 1)
letters_of text log rest e = named log (ap initial e) (ap second e)
  where
    named : (log : LogName) → initial text ≡ initial (log_word log ++ 32 ∷ rest) → second text ≡ second (log_word log ++ 32 ∷ rest) → (initial text ≡ slice_index (log_word log) 0) × (second text ≡ slice_index (log_word log) 1)
    named Guest h k = (h, k)
    named Source h k = (h, k)
    named Link h k = (h, k)
    named Lane h k = (h, k)
    named Pager h k = (h, k)

-- a log's word before a rest
pub word_by : (log told : LogName) (word rest : List ℕ) → told ≡ log → word ≡ log_word told → log_word log ++ rest ≡ word ++ rest
word_by log told word rest same is = ap (λ (l : LogName). log_word l ++ rest) (sym same) ∙ ap (λ (t : List ℕ). t ++ rest) (sym is)

-- behind a log's word stands a space
pub behind_word : (log told : LogName) (text word behind rest : List ℕ) → told ≡ log → word ≡ log_word told → text ≡ word ++ behind → text ≡ log_word log ++ 32 ∷ rest → behind ≡ 32 ∷ rest
behind_word log told text word behind rest same is found e = append_cancel_left word behind (32 ∷ rest) (sym found ∙ (e ∙ word_by log told word (32 ∷ rest) same is))

pub same_rest : (a b behind : List ℕ) → behind ≡ 32 ∷ a → behind ≡ 32 ∷ b → a ≡ b
same_rest a b behind p q = let both : 32 ∷ a ≡ 32 ∷ b = sym p ∙ q in cc

-- behind a run's key and log stands its count
pub count_at : (text behind count : List ℕ) (run : Run) → text ≡ codes "run " ++ behind → text ≡ run_line run → (behind ≡ log_word run.log ++ 32 ∷ decimal run.count → count ≡ decimal run.count) → count ≡ decimal run.count
count_at text behind count run e is whole = whole (append_cancel_left (codes "run ") behind (run_text run) (sym e ∙ is))

-- the number that stands alone
pub alone : (text rest : List ℕ) (n m : ℕ) → n < 2 ^ 64 → m < 2 ^ 64 → text ≡ decimal n ++ rest → NoDigit rest → text ≡ decimal m → (n ≡ m) × (rest ≡ [])
alone text rest n m p q e stops is = numbers_same n m rest [] p q stops tt (sym e ∙ (is ∙ sym (append-nil (decimal m))))

run_from : (x y : Run) → x.log ≡ y.log → x.count ≡ y.count → x ≡ y
run_from x y e f = ap (λ (log : LogName). record { log = log; count = x.count }) e ∙ ap (λ (n : ℕ). record { log = y.log; count = n }) f

pub run_same : (version : Version) (size : Size) (x y : Run) → RunFits version size x → RunFits version size y → run_line x ≡ run_line y → x ≡ y
run_same version size x y p q e =
    let w = word_same x.log y.log (decimal x.count) (decimal y.count) (append_cancel_left (codes "run ") (run_text x) (run_text y) e) in
    run_from x y w.0 (decimal_injective x.count y.count (count_small size x.count p.few) (count_small size y.count q.few) w.1)

pub runs_same : (version : Version) (size : Size) (xs ys : List Run) → AllByRecursion (RunFits version size) xs → AllByRecursion (RunFits version size) ys → map run_line xs ≡ map run_line ys → xs ≡ ys
runs_same version size [] [] h k e = refl
runs_same version size [] (y ∷ ys) h k e = absurd cc
runs_same version size (x ∷ xs) [] h k e = absurd cc
runs_same version size (x ∷ xs) (y ∷ ys) h k e =
    let heads : run_line x ≡ run_line y = cc in
    let tails : map run_line xs ≡ map run_line ys = cc in
    let one = run_same version size x y h.0 k.0 heads in
    let all = runs_same version size xs ys h.1 k.1 tails in
    cc

-- ---- a text that begins with these runs

all_front : {X : Type 0} (P : X → Type 0) (front back : List X) → AllByRecursion P (front ++ back) → AllByRecursion P front
all_front P [] back h = tt
all_front P (x ∷ front) back h = (h.0, all_front P front back h.1)

all_at : {X : Type 0} (P : X → Type 0) (front : List X) (x : X) (back : List X) → AllByRecursion P (front ++ x ∷ back) → P x
all_at P [] x back h = h.0
all_at P (y ∷ front) x back h = all_at P front x back h.1

-- the number of the text's runs, and what follows it
pub runs_agree : (version : Version) (size : Size) (n : ℕ) (xs ys : List Run) (more : List (List ℕ)) → n ≤ most_runs version size → AreRuns version size xs → (runs_key ++ decimal n) ∷ (map run_line ys ++ more) ≡ runs_lines xs → CountedAgree run_line n xs ys (closing ∷ []) more
runs_agree version size n xs ys more le fits e =
    let few = few_runs version size (length xs) fits.few in
    let small = few_runs version size n le in
    counted_agree runs_key run_line n xs ys (closing ∷ []) more (omega arith) (omega arith) e

-- behind all the runs stands the closing line
pub runs_end : (version : Version) (size : Size) (n : ℕ) (xs ys : List Run) (more : List (List ℕ)) → n ≤ most_runs version size → AreRuns version size xs → length ys ≡ n → (runs_key ++ decimal n) ∷ (map run_line ys ++ more) ≡ runs_lines xs → closing ∷ [] ≡ more
runs_end version size n xs ys more le fits full e = counted_end run_line n xs ys (closing ∷ []) more (runs_agree version size n xs ys more le fits e) full

-- a run of a text may stand after those before it
follows_at : (ys : List Run) (item : Run) (back : List Run) → Alternate (ys ++ item ∷ back) → MayFollow ys item.log
follows_at ys item back h = λ d lt e.
    let len : length (ys ++ item ∷ back) ≡ length ys + (length back + 1) = length-append ys (item ∷ back) ∙ omega arith in
    let next : length ys - 1 + 1 ≡ length ys + 0 = omega arith in
    let here = get_or_append_left ys (item ∷ back) d (length ys - 1) (omega arith) in
    let there : get_or (ys ++ item ∷ back) (length ys - 1 + 1) d ≡ item = ap (λ (k : ℕ). get_or (ys ++ item ∷ back) k d) next ∙ get_or-append-add ys (item ∷ back) 0 d in
    h (length ys - 1) d (omega arith) (ap (λ (r : Run). r.log) here ∙ (e ∙ sym (ap (λ (r : Run). r.log) there)))

-- the next run of the text
pub record NextRun (version : Version) (size : Size) (ys : List Run) (line : List ℕ) : Type 0 where
  pub run : Run
  pub fits : RunFits version size run
  pub follows : MayFollow ys run.log
  pub spelled : line ≡ run_line run

pub next_run : (version : Version) (size : Size) (n : ℕ) (xs ys : List Run) (line : List ℕ) (more : List (List ℕ)) → n ≤ most_runs version size → AreRuns version size xs → AllByRecursion (RunFits version size) ys → length ys < n → (runs_key ++ decimal n) ∷ (map run_line ys ++ (line ∷ more)) ≡ runs_lines xs → NextRun version size ys line
next_run version size n xs ys line more le fits each less e =
    let i = counted_next run_line n xs ys (closing ∷ []) more line (runs_agree version size n xs ys (line ∷ more) le fits e) less in
    let all = subst (AllByRecursion (RunFits version size)) i.whole fits.each in
    let front = runs_same version size i.front ys (all_front (RunFits version size) i.front (i.item ∷ i.back) all) each i.same in
    let alternate = subst (λ (runs : List Run). Alternate (runs ++ i.item ∷ i.back)) front (subst Alternate i.whole fits.alternate) in
    record {
      run = i.item;
      fits = all_at (RunFits version size) i.front i.item i.back all;
      follows = follows_at ys i.item i.back alternate;
      spelled = i.spelled;
    }

-- ---- one run more

pub all_push : {X : Type 0} (P : X → Type 0) (xs : List X) (x : X) → AllByRecursion P xs → P x → AllByRecursion P (xs ++ x ∷ [])
all_push P [] x h k = (k, tt)
all_push P (y ∷ xs) x h k = (h.0, all_push P xs x h.1 k)

alternate_before : (xs : List Run) (x : Run) → Alternate xs → (k : ℕ) (d : Run) → k + 1 < length xs → (get_or (xs ++ x ∷ []) k d).log ≢ (get_or (xs ++ x ∷ []) (k + 1) d).log
alternate_before xs x h k d lt = rw (get_or_append_left xs (x ∷ []) d k (omega arith), get_or_append_left xs (x ∷ []) d (k + 1) lt) (h k d lt)

alternate_last : (xs : List Run) (x : Run) → MayFollow xs x.log → (k : ℕ) (d : Run) → k + 1 ≡ length xs → (get_or (xs ++ x ∷ []) k d).log ≢ (get_or (xs ++ x ∷ []) (k + 1) d).log
alternate_last xs x h k d eq = λ e.
    let here : get_or (xs ++ x ∷ []) k d ≡ get_or xs (length xs - 1) d = get_or_append_left xs (x ∷ []) d k (omega arith) ∙ ap (λ (i : ℕ). get_or xs i d) (omega arith) in
    let next : k + 1 ≡ length xs + 0 = omega arith in
    let there : get_or (xs ++ x ∷ []) (k + 1) d ≡ x = ap (λ (i : ℕ). get_or (xs ++ x ∷ []) i d) next ∙ get_or-append-add xs (x ∷ []) 0 d in
    h d (omega arith) (sym (ap (λ (r : Run). r.log) here) ∙ (e ∙ ap (λ (r : Run). r.log) there))

alternate_by : (xs : List Run) (x : Run) → Alternate xs → MayFollow xs x.log → (k : ℕ) (d : Run) → k + 1 < length xs + 1 → (k + 1 < length xs) ⊎ (length xs ≤ k + 1) → (get_or (xs ++ x ∷ []) k d).log ≢ (get_or (xs ++ x ∷ []) (k + 1) d).log
alternate_by xs x h f k d lt (inl p) = alternate_before xs x h k d p
alternate_by xs x h f k d lt (inr q) = alternate_last xs x f k d (omega arith)

pub alternate_push : (xs : List Run) (x : Run) → Alternate xs → MayFollow xs x.log → Alternate (xs ++ x ∷ [])
alternate_push xs x h f = λ k d lt. alternate_by xs x h f k d (omega (arith, length-append xs (x ∷ []))) (cases_lt (k + 1) (length xs))

-- and so with many
pub alternate_all : (xs ys : List Run) → Alternate xs → AllFollow (λ runs run. MayFollow runs run.log) xs ys → Alternate (xs ++ ys)
alternate_all xs [] h f = subst Alternate (sym (append-nil xs)) h
alternate_all xs (y ∷ ys) h f = subst Alternate (append_assoc xs (y ∷ []) ys) (alternate_all (xs ++ y ∷ []) ys (alternate_push xs y h f.0) f.1)

pub all_append : {X : Type 0} (P : X → Type 0) (xs ys : List X) → AllByRecursion P xs → AllByRecursion P ys → AllByRecursion P (xs ++ ys)
all_append P [] ys h k = k
all_append P (x ∷ xs) ys h k = (h.0, all_append P xs ys h.1 k)

-- some run may stand after these
other : LogName → LogName
other Guest = Source
other Source = Guest
other Link = Guest
other Lane = Guest
other Pager = Guest

other_differs : (log : LogName) → log ≡ other log → ⊥
unfolding other
other_differs Guest e = absurd cc
other_differs Source e = absurd cc
other_differs Link e = absurd cc
other_differs Lane e = absurd cc
other_differs Pager e = absurd cc

other_fits : (version : Version) (log : LogName) → LogFits version (other log)
unfolding other
other_fits version Guest = tt
other_fits version Source = tt
other_fits version Link = tt
other_fits version Lane = tt
other_fits version Pager = tt

abbrev a_run : LogName → Run
a_run log = record { log = log; count = 1 }

pub another : (version : Version) (size : Size) (xs : List Run) → (x : Run) × RunFits version size x × MayFollow xs x.log
another version size [] = (a_run Guest, record { log = tt; some = omega arith; few = (limits_some size).records }, λ d lt. absurd (omega arith))
another version size (y ∷ ys) =
    let last = get_or (y ∷ ys) (length (y ∷ ys) - 1) y in
    (a_run (other last.log), record { log = other_fits version last.log; some = omega arith; few = (limits_some size).records }, λ d lt e. other_differs last.log (ap (λ (r : Run). r.log) (get_or_default (y ∷ ys) (length (y ∷ ys) - 1) y d (omega arith)) ∙ e))
