-- Entries taken in a row.
use Rattle.std.proofs.Common.{◌≡◌, ℕ, ◌+◌, List, [], ◌∷◌, ◌++◌, length, sym, ap, ◌∙◌, append_assoc, length-append, arith}
use Rattle.std.proofs.lemmas.List.{append-nil}
use Rattle.text_lines.specs.Text.{ended}
use Rattle.text_lines.proofs.Cut.{ended-push}
use Rattle.migration_types.specs.declared.cert.Entry.{Entry}
use Rattle.migration_types.specs.declared.version.Version.{Version}
use Rattle.migration_types.specs.declared.size.Size.{Size}
use Rattle.migration_types.specs.Certs.{EntryFits}
use Rattle.cert_text.specs.Grammar.{entry_line, entry_lines}
use Rattle.cert_text.specs.inner.Taken.{TakesEntries}
use Rattle.cert_text.proofs.EntryLaws.{entries_push}
use Rattle.cert_text.proofs.RunLaws.{all_push}

entry_cut : (page n : ℕ) (taken : List Entry) (entry : Entry) (rest after : List ℕ) → n ≡ page + length taken → rest ≡ entry_line n entry ++ 10 ∷ after → ended (entry_lines page taken) ++ rest ≡ ended (entry_lines page (taken ++ entry ∷ [])) ++ after
entry_cut page n taken entry rest after k cut =
    let lines : entry_lines page (taken ++ entry ∷ []) ≡ entry_lines page taken ++ entry_line (page + length taken) entry ∷ [] = sym (append-nil (entry_lines page (taken ++ entry ∷ []))) ∙ entries_push page taken entry [] in
    ap (λ (x : List ℕ). ended (entry_lines page taken) ++ x) (cut ∙ ap (λ (i : ℕ). entry_line i entry ++ 10 ∷ after) k)
    ∙ (sym (ended-push (entry_lines page taken) (entry_line (page + length taken) entry) after) ∙ ap (λ (x : List (List ℕ)). ended x ++ after) (sym lines))

pub took_entry : (version : Version) (size : Size) (old mid new : List Entry) (bytes rest after : List ℕ) (count n : ℕ) (entry : Entry) → TakesEntries version size old mid bytes rest count → n ≡ length mid → new ≡ mid ++ entry ∷ [] → EntryFits version size entry → rest ≡ entry_line n entry ++ 10 ∷ after → TakesEntries version size old new bytes after (count + 1)
took_entry version size old mid new bytes rest after count n entry t k grown fits cut =
    let page : n ≡ length old + length t.taken = omega (arith, ap (λ (x : List Entry). length x) t.items, length-append old t.taken) in
    record {
      taken = t.taken ++ entry ∷ [];
      items = grown ∙ (ap (λ (x : List Entry). x ++ entry ∷ []) t.items ∙ append_assoc old t.taken (entry ∷ []));
      parts = t.parts ∙ entry_cut (length old) n t.taken entry rest after page cut;
      counted = omega (arith, length-append t.taken (entry ∷ []), t.counted);
      fits = all_push (EntryFits version size) t.taken entry t.fits fits;
    }
