-- Transcripts against what a script asks of its virtual processors.
use Rattle.std.proofs.Common.{◌≡◌, ◌≢◌, ℕ, Bool, true, false, List, [], ◌∷◌, ◌++◌, length, take, drop, map, Option, Some, get_or, refl, sym, ap, ◌∙◌, arith}
use Rattle.std.specs.Prelude.{MatchBool, slice_get}
use Rattle.std.specs.Option.{option_map}
use Rattle.std.proofs.lemmas.List.{map-append, append_cancel_left, length-map, take-append-drop}
use Rattle.std.proofs.lemmas.Option.{slice_get-map}
use Rattle.migration_events.specs.declared.ops.Op.{Op}
use Rattle.guest_script.specs.declared.vcpus.Vcpu.{Vcpu}
use Rattle.guest_script.specs.declared.transcript.Answered.{Answered}
use Rattle.host_checks.specs.Outcomes.{ops_of, asked_of, AreOfScript}

-- a list that is cut in two
pub whole_of : (n : ℕ) (answers all first last : List Answered) → answers ≡ all → first ≡ take n answers → last ≡ drop n answers → all ≡ first ++ last
whole_of n answers all first last are front back =
    sym are ∙ sym (take-append-drop n answers) ∙ ap (λ (xs : List Answered). xs ++ drop n answers) (sym front) ∙ ap (λ (xs : List Answered). first ++ xs) (sym back)

front : (xs ys : List Op) → take (length xs) (xs ++ ys) ≡ xs
front [] ys = refl
front (x ∷ xs) ys = ap (λ (zs : List Op). x ∷ zs) (front xs ys)

-- answers of which the first are of the operations before a move
pub last_ops : (answers first last : List Answered) (before after : List Op) (b : Bool) → answers ≡ first ++ last → ops_of first ≡ before →
    MatchBool b (ops_of last ≡ after) (ops_of last ≢ after) → MatchBool b (ops_of answers ≡ before ++ after) (ops_of answers ≢ before ++ after)
last_ops answers first last before after b whole are told = go b told
  where
    split : ops_of answers ≡ before ++ ops_of last
    split = ap ops_of whole ∙ map-append (λ (a : Answered). a.op) first last ∙ ap (λ (xs : List Op). xs ++ ops_of last) are

    go : (b : Bool) → MatchBool b (ops_of last ≡ after) (ops_of last ≢ after) → MatchBool b (ops_of answers ≡ before ++ after) (ops_of answers ≢ before ++ after)
    go true same = split ∙ ap (λ (xs : List Op). before ++ xs) same
    go false other = λ same. other (append_cancel_left before (ops_of last) after (sym split ∙ same))

-- answers of which the first are not
pub first_ops : (answers first last : List Answered) (before after : List Op) → answers ≡ first ++ last → length first ≡ length before → ops_of first ≢ before → ops_of answers ≢ before ++ after
first_ops answers first last before after whole long other same =
    let split : ops_of answers ≡ ops_of first ++ ops_of last = ap ops_of whole ∙ map-append (λ (a : Answered). a.op) first last in
    let count : length (ops_of first) ≡ length before = length-map first (λ (a : Answered). a.op) ∙ long in
    other (sym (front (ops_of first) (ops_of last)) ∙ ap (λ (n : ℕ). take n (ops_of first ++ ops_of last)) count ∙ ap (λ (xs : List Op). take (length before) xs) (sym split ∙ same) ∙ front before after)

-- a transcript that is not of its virtual processor
pub other_ops : (vcpus : List Vcpu) (transcripts : List (List Answered)) (k : ℕ) (vcpu : Vcpu) (transcript : List Answered) →
    slice_get transcripts k ≡ Some transcript → slice_get vcpus k ≡ Some vcpu → ops_of transcript ≢ asked_of vcpu → AreOfScript vcpus transcripts → ⊥
other_ops vcpus transcripts k vcpu transcript told asked other are =
    let one : Some (ops_of transcript) ≡ slice_get (map ops_of transcripts) k = sym (slice_get-map ops_of transcripts k ∙ ap (λ (o : Option (List Answered)). option_map ops_of o) told) in
    let two : slice_get (map asked_of vcpus) k ≡ Some (asked_of vcpu) = slice_get-map asked_of vcpus k ∙ ap (λ (o : Option Vcpu). option_map asked_of o) asked in
    let both : Some (ops_of transcript) ≡ Some (asked_of vcpu) = one ∙ ap (λ (xs : List (List Op)). slice_get xs k) are ∙ two in
    let same : ops_of transcript ≡ asked_of vcpu = cc in
    other same
