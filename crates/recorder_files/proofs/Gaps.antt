use Rattle.std.proofs.Common.{◌≡◌, ◌<◌, ◌+◌, ℕ, List, [], ◌∷◌, ◌++◌, Some, refl, sym, ap, ◌∙◌, arith, slice_get, length, take, drop, max, append_assoc, get_or}
use Rattle.std.proofs.lemmas.List.{take_more, drop_more}
use Rattle.std.proofs.lemmas.Option.{get_or_from_slice_get}
use Rattle.recorder_files.specs.Lacks.{lacks_at, lacks_behind, record_count}
use Rattle.recorder_files.specs.declared.log_parts.LogPart.{LogPart}
use Rattle.recorder_files.specs.declared.lacking.LogLack.{LogLack}
use Rattle.recorder_files.proofs.Elements.{element}

count_push : (xs : List LogPart) (p : LogPart) → record_count (xs ++ p ∷ []) ≡ max p.count (record_count xs)
count_push [] p = refl
count_push (q ∷ xs) p = let e : record_count (xs ++ p ∷ []) ≡ max p.count (record_count xs) = count_push xs p in rw e (omega arith)

pub count_more : (parts : List LogPart) (i count new : ℕ) (d : LogPart) → i < length parts → new ≡ max (get_or parts i d).count count → count ≡ record_count (take i parts) → new ≡ record_count (take (i + 1) parts)
count_more parts i count new d lt e before = rw (take_more parts i d lt) (e ∙ (ap (λ n. max (get_or parts i d).count n) before ∙ sym (count_push (take i parts) (get_or parts i d))))

pub lacks_more : (parts : List LogPart) (lacks new whole : List LogLack) (at : ℕ) → at < length parts → ((p : LogPart) → slice_get parts at ≡ Some p → new ≡ lacks ++ lacks_at (take at parts) p (drop (at + 1) parts)) → lacks ++ lacks_behind (take at parts) (drop at parts) ≡ whole → new ++ lacks_behind (take (at + 1) parts) (drop (at + 1) parts) ≡ whole
lacks_more parts lacks new whole at lt is before =
    let here = element parts at lt in
    let p = here.0 in
    let e : get_or parts at p ≡ p = get_or_from_slice_get parts at p p here.1 in
    let front : take (at + 1) parts ≡ take at parts ++ p ∷ [] = take_more parts at p lt ∙ ap (λ (x : LogPart). take at parts ++ x ∷ []) e in
    let left : drop at parts ≡ p ∷ drop (at + 1) parts = drop_more parts at p lt ∙ ap (λ (x : LogPart). x ∷ drop (at + 1) parts) e in
    rw front (ap (λ (xs : List LogLack). xs ++ lacks_behind (take at parts ++ p ∷ []) (drop (at + 1) parts)) (is p here.1)
    ∙ (append_assoc lacks (lacks_at (take at parts) p (drop (at + 1) parts)) (lacks_behind (take at parts ++ p ∷ []) (drop (at + 1) parts))
    ∙ (ap (λ (xs : List LogPart). lacks ++ lacks_behind (take at parts) xs) (sym left) ∙ before)))
