-- Lines written in a row.
use Rattle.std.proofs.Common.{◌≡◌, ℕ, ◌+◌, ◌<◌, List, [], ◌∷◌, ◌++◌, length, map, take, get_or, refl, sym, ap, ◌∙◌, append_assoc, arith}
use Rattle.std.proofs.lemmas.List.{take_more, append-nil, length-take}
use Rattle.std.specs.Prelude.{Result, Ok, Err, OnOk}
use Rattle.std.specs.Fmt.{decimal}
use Rattle.std.specs.declared.alloc.AllocError.{AllocError}
use Rattle.text_lines.specs.Text.{ended}
use Rattle.text_lines.proofs.Cut.{ended-push, ended-append}
use Rattle.migration_types.specs.declared.cert.Run.{Run}
use Rattle.migration_types.specs.declared.cert.Entry.{Entry}
use Rattle.migration_types.specs.Certs.{Certified}
use Rattle.cert_text.specs.Runs.{run_line, runs_lines}
use Rattle.cert_text.specs.Grammar.{header, pages_key, entry_line, entry_lines, cert_lines}
use Rattle.cert_text.proofs.EntryLaws.{entries_push}

entry_last : (xs : List Entry) (x : Entry) (i : ℕ) → length xs ≡ i → ended (entry_lines 0 (xs ++ x ∷ [])) ≡ ended (entry_lines 0 xs) ++ (entry_line i x ++ 10 ∷ [])
entry_last xs x i e =
    let lines : entry_lines 0 (xs ++ x ∷ []) ≡ entry_lines 0 xs ++ entry_line (0 + length xs) x ∷ [] = sym (append-nil (entry_lines 0 (xs ++ x ∷ []))) ∙ entries_push 0 xs x [] in
    let k : 0 + length xs ≡ i = omega arith in
    ap ended (lines ∙ ap (λ (n : ℕ). entry_lines 0 xs ++ entry_line n x ∷ []) k)
    ∙ (sym (append-nil (ended (entry_lines 0 xs ++ entry_line i x ∷ []))) ∙ ended-push (entry_lines 0 xs) (entry_line i x) [])

-- the next entry's line behind those before it
pub entry_written : (out : List ℕ) (xs : List Entry) (i : ℕ) (d : Entry) → i < length xs → out ++ ended (entry_lines 0 (take (i + 1) xs)) ≡ (out ++ ended (entry_lines 0 (take i xs))) ++ (entry_line i (get_or xs i d) ++ 10 ∷ [])
entry_written out xs i d lt =
    ap (λ (t : List ℕ). out ++ t) (ap (λ (ys : List Entry). ended (entry_lines 0 ys)) (take_more xs i d lt) ∙ entry_last (take i xs) (get_or xs i d) i (omega (arith, length-take i xs)))
    ∙ sym (append_assoc out (ended (entry_lines 0 (take i xs))) (entry_line i (get_or xs i d) ++ 10 ∷ []))

-- a certificate's text, added in parts
pub cert_written : (c : Certified) (entries : List Entry) (runs : List Run) (n : ℕ) (before title front pages listed out : List ℕ) → title ≡ header c.version c.size → entries ≡ c.entries → runs ≡ c.runs → n ≡ length entries → front ≡ before ++ (title ++ 10 ∷ []) → pages ≡ front ++ (pages_key ++ (decimal n ++ 10 ∷ [])) → listed ≡ pages ++ ended (entry_lines 0 entries) → out ≡ listed ++ ended (runs_lines runs) → out ≡ before ++ ended (cert_lines c)
cert_written c entries runs n before title front pages listed out h p q e o1 o2 o3 o4 =
    let first : List ℕ = header c.version c.size in
    let line : List ℕ = pages_key ++ decimal (length c.entries) in
    let lines : List ℕ = ended (entry_lines 0 c.entries ++ runs_lines c.runs) in
    let counted : pages ≡ front ++ ((pages_key ++ decimal n) ++ 10 ∷ []) = o2 ∙ ap (λ (t : List ℕ). front ++ t) (sym (append_assoc pages_key (decimal n) (10 ∷ []))) in
    let whole : out ≡ (((before ++ (first ++ 10 ∷ [])) ++ (line ++ 10 ∷ [])) ++ ended (entry_lines 0 c.entries)) ++ ended (runs_lines c.runs) = rw (o4, o3, counted, o1, e, h, p, q) refl in
    let lists : lines ≡ ended (entry_lines 0 c.entries) ++ ended (runs_lines c.runs) = sym (append-nil lines) ∙ (ended-append (entry_lines 0 c.entries) (runs_lines c.runs) [] ∙ ap (λ (t : List ℕ). ended (entry_lines 0 c.entries) ++ t) (append-nil (ended (runs_lines c.runs)))) in
    whole
    ∙ (append_assoc ((before ++ (first ++ 10 ∷ [])) ++ (line ++ 10 ∷ [])) (ended (entry_lines 0 c.entries)) (ended (runs_lines c.runs))
    ∙ (ap (λ (t : List ℕ). ((before ++ (first ++ 10 ∷ [])) ++ (line ++ 10 ∷ [])) ++ t) (sym lists)
    ∙ (append_assoc (before ++ (first ++ 10 ∷ [])) (line ++ 10 ∷ []) lines
    ∙ (append_assoc before (first ++ 10 ∷ []) ((line ++ 10 ∷ []) ++ lines)
    ∙ ap (λ (t : List ℕ). before ++ t) (append_assoc first (10 ∷ []) ((line ++ 10 ∷ []) ++ lines) ∙ ap (λ (t : List ℕ). first ++ 10 ∷ t) (append_assoc line (10 ∷ []) lines))))))

-- the closing line behind all the runs
runs_written : (out first last : List ℕ) (xs : List Run) → (out ++ ended (first ∷ (map run_line xs ++ []))) ++ (last ++ 10 ∷ []) ≡ out ++ ended (first ∷ (map run_line xs ++ last ∷ []))
runs_written out first last xs =
    append_assoc out (ended (first ∷ (map run_line xs ++ []))) (last ++ 10 ∷ [])
    ∙ ap (λ (t : List ℕ). out ++ t) (ap (λ (lines : List (List ℕ)). ended (first ∷ lines) ++ (last ++ 10 ∷ [])) (append-nil (map run_line xs))
    ∙ (sym (ended-push (first ∷ map run_line xs) last []) ∙ append-nil (ended (first ∷ (map run_line xs ++ last ∷ [])))))

pub closing_written : (out first last : List ℕ) (xs : List Run) (before after : List ℕ) (r : Result (Unit {0}) AllocError) → before ≡ out ++ ended (first ∷ (map run_line xs ++ [])) → OnOk r (after ≡ before ++ (last ++ 10 ∷ [])) → OnOk r (after ≡ out ++ ended (first ∷ (map run_line xs ++ last ∷ [])))
closing_written out first last xs before after (Ok done) b h = h ∙ (ap (λ (t : List ℕ). t ++ (last ++ 10 ∷ [])) b ∙ runs_written out first last xs)
closing_written out first last xs before after (Err kind) b h = tt
