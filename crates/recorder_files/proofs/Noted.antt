-- One record more.
use Rattle.std.proofs.Common.{◌≡◌, ℕ, suc, ◌+◌, List, [], ◌∷◌, ◌++◌, length, Option, sym, ap, ◌∙◌, arith, append_assoc, append-nil, length-append}
use Rattle.std.specs.Option.{option_to_list}
use Rattle.recorder_files.specs.declared.delivering.Message.{Message}
use Rattle.recorder_files.specs.Told.{told_from}

told_more : {R : Type 0} (tell : ℕ → R → Option Message) (n k : ℕ) (log : List R) (rec : R) → k ≡ n + length log → told_from tell n (log ++ rec ∷ []) ≡ told_from tell n log ++ option_to_list (tell k rec)
told_more tell n k [] rec e = let same : n ≡ k = omega arith in append-nil (option_to_list (tell n rec)) ∙ ap (λ j. option_to_list (tell j rec)) same
told_more tell n k (first ∷ log) rec e = ap (λ ms. option_to_list (tell n first) ++ ms) (told_more tell (suc n) k log rec (omega arith)) ∙ sym (append_assoc (option_to_list (tell n first)) (told_from tell (suc n) log) (option_to_list (tell k rec)))

pub kept : {R : Type 0} (tell : ℕ → R → Option Message) (k : ℕ) (log : List R) (rec : R) (old new : List Message) (message : Option Message) → k ≡ length log → old ≡ told_from tell 0 log → message ≡ tell k rec → new ≡ old ++ option_to_list message → new ≡ told_from tell 0 (log ++ rec ∷ [])
kept tell k log rec old new message e f g h = h ∙ (ap (λ m. old ++ option_to_list m) g ∙ (ap (λ ms. ms ++ option_to_list (tell k rec)) f ∙ sym (told_more tell 0 k log rec (omega arith))))

pub counted : {R : Type 0} (k next : ℕ) (log : List R) (rec : R) → k ≡ length log → next ≡ k + 1 → next ≡ length (log ++ rec ∷ [])
counted k next log rec e f = let long : length (log ++ rec ∷ []) ≡ length log + 1 = length-append log (rec ∷ []) in omega arith
