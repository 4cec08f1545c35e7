-- One record of the guest's log more, and how far it tells the transcripts.
use Rattle.std.proofs.Common.{◌≡◌, ◌≢◌, ℕ, suc, ◌+◌, ◌<◌, ◌≤◌, ◌++◌, Bool, true, false, cond, List, [], ◌∷◌, length, take, drop, drop-cons, get_or, set, Option, Some, None, refl, sym, ap, ◌∙◌, subst, arith}
use Rattle.std.specs.Prelude.{slice_get, ◌==◌, MatchBool}
use Rattle.std.specs.List.{cons_option, filter_map}
use Rattle.std.proofs.lemmas.List.{append-nil, take-append-drop, take_more, take_all, length-append, length-take-le, get_or_past, get_or-set_same, get_or-set_other}
use Rattle.std.proofs.lemmas.List.Elements.{filter_map-append}
use Rattle.std.proofs.lemmas.Option.{slice_get_within, get_or_from_slice_get}
use Rattle.std.proofs.lemmas.Bool.Decides.{nat_tests}
use Rattle.migration_types.specs.declared.records.GuestRec.{GuestRec}
use Rattle.guest_script.specs.declared.transcript.Answered.{Answered}
use Rattle.host_checks.specs.Outcomes.{told_by, if_own, part_of, AreOfLog}
use Rattle.host_checks.specs.inner.Told.{AreTold}

part_more : (v : ℕ) (log rest : List GuestRec) (r : GuestRec) → part_of v (log ++ r ∷ rest) ≡ part_of v log ++ cons_option (if_own v (told_by r)) (part_of v rest)
part_more v log rest r = filter_map-append (λ x. if_own v (told_by x)) log (r ∷ rest)

part_silent : (v : ℕ) (log : List GuestRec) (r : GuestRec) → if_own v (told_by r) ≡ None → part_of v (log ++ r ∷ []) ≡ part_of v log
part_silent v log r none = part_more v log [] r ∙ ap (λ (o : Option Answered). part_of v log ++ cons_option o []) none ∙ append-nil (part_of v log)

part_told : (v : ℕ) (log rest : List GuestRec) (r : GuestRec) (a : Answered) → if_own v (told_by r) ≡ Some a → part_of v (log ++ r ∷ rest) ≡ part_of v log ++ a ∷ part_of v rest
part_told v log rest r a some = part_more v log rest r ∙ ap (λ (o : Option Answered). part_of v log ++ cons_option o (part_of v rest)) some

same_vcpu : (v : ℕ) → (v == v) ≡ true
same_vcpu v = grind (arith, nat_tests)

own : (u v : ℕ) (r : GuestRec) (a : Answered) (b : Bool) → told_by r ≡ Some (u, a) → (u == v) ≡ b → if_own v (told_by r) ≡ cond b (Some a) None
own u v r a b says e = ap (λ (o : Option (ℕ × Answered)). if_own v o) says ∙ ap (λ (c : Bool). cond c (Some a) None) e

-- what a virtual processor's part is, where the record tells of it
part_here : (u : ℕ) (log rest : List GuestRec) (r : GuestRec) (a : Answered) → told_by r ≡ Some (u, a) → part_of u (log ++ r ∷ rest) ≡ part_of u log ++ a ∷ part_of u rest
part_here u log rest r a says = part_told u log rest r a (own u u r a true says (same_vcpu u))

-- a record that tells of no operation
pub told_none : (transcripts : List (List Answered)) (told : List ℕ) (log : List GuestRec) (r : GuestRec) → told_by r ≡ None → AreTold transcripts told log → AreTold transcripts told (log ++ r ∷ [])
told_none transcripts told log r none was = record {
  within = was.within;
  answers = λ v. was.answers v ∙ sym (part_silent v log r (ap (λ (o : Option (ℕ × Answered)). if_own v o) none));
}

-- one that tells of the next operation of a virtual processor
pub told_next : (transcripts : List (List Answered)) (told : List ℕ) (log : List GuestRec) (r : GuestRec) (u : ℕ) (a : Answered) →
    told_by r ≡ Some (u, a) → u < length told → slice_get (get_or transcripts u []) (get_or told u 0) ≡ Some a →
    AreTold transcripts told log → AreTold transcripts (set told u (get_or told u 0 + 1)) (log ++ r ∷ [])
told_next transcripts told log r u a says within next was = record {
  within = λ v. under v (u == v) refl;
  answers = λ v. at v (u == v) refl;
}
  where
    here : get_or (set told u (get_or told u 0 + 1)) u 0 ≡ get_or told u 0 + 1
    here = get_or-set_same told u (get_or told u 0 + 1) 0 within

    other : (v : ℕ) → (u == v) ≡ false → get_or (set told u (get_or told u 0 + 1)) v 0 ≡ get_or told v 0
    other v e = get_or-set_other told u v (get_or told u 0 + 1) 0 (λ (same : v ≡ u). absurd (grind (arith, nat_tests)))

    under : (v : ℕ) (b : Bool) → (u == v) ≡ b → get_or (set told u (get_or told u 0 + 1)) v 0 ≤ length (get_or transcripts v [])
    under v true e =
        let same : u ≡ v = grind (arith, nat_tests) in
        let short = slice_get_within (get_or transcripts u []) (get_or told u 0) a next in
        subst (λ (k : ℕ). get_or (set told u (get_or told u 0 + 1)) k 0 ≤ length (get_or transcripts k [])) same (omega (arith, here, short))
    under v false e = omega (arith, other v e, was.within v)

    at : (v : ℕ) (b : Bool) → (u == v) ≡ b → take (get_or (set told u (get_or told u 0 + 1)) v 0) (get_or transcripts v []) ≡ part_of v (log ++ r ∷ [])
    at v true e =
        let same : u ≡ v = grind (arith, nat_tests) in
        let ts = get_or transcripts u [] in
        subst (λ (k : ℕ). take (get_or (set told u (get_or told u 0 + 1)) k 0) (get_or transcripts k []) ≡ part_of k (log ++ r ∷ [])) same
        (ap (λ (k : ℕ). take k ts) here
        ∙ take_more ts (get_or told u 0) a (slice_get_within ts (get_or told u 0) a next)
        ∙ ap (λ (x : Answered). take (get_or told u 0) ts ++ x ∷ []) (get_or_from_slice_get ts (get_or told u 0) a a next)
        ∙ ap (λ (xs : List Answered). xs ++ a ∷ []) (was.answers u)
        ∙ sym (part_here u log [] r a says))
    at v false e = ap (λ (k : ℕ). take k (get_or transcripts v [])) (other v e) ∙ was.answers v ∙ sym (part_silent v log r (own u v r a false says e))

-- one that tells of a virtual processor which has no transcript
pub differs_past : (transcripts : List (List Answered)) (log rest : List GuestRec) (r : GuestRec) (u : ℕ) (a : Answered) →
    told_by r ≡ Some (u, a) → length transcripts ≤ u → AreOfLog (log ++ r ∷ rest) transcripts → ⊥
differs_past transcripts log rest r u a says past are =
    let none : [] ≡ part_of u log ++ a ∷ part_of u rest = sym (get_or_past transcripts u [] past) ∙ are u ∙ part_here u log rest r a says in
    omega (arith, ap length none, length-append (part_of u log) (a ∷ part_of u rest))

at_seam : (xs ys : List Answered) (a : Answered) → slice_get (xs ++ a ∷ ys) (length xs) ≡ Some a
at_seam [] ys a = refl
at_seam (x ∷ xs) ys a = at_seam xs ys a

-- one that tells of another operation than the next of its virtual processor
pub differs_here : (transcripts : List (List Answered)) (told : List ℕ) (log rest : List GuestRec) (r : GuestRec) (u : ℕ) (a : Answered) →
    told_by r ≡ Some (u, a) → AreTold transcripts told log → slice_get (get_or transcripts u []) (get_or told u 0) ≢ Some a → AreOfLog (log ++ r ∷ rest) transcripts → ⊥
differs_here transcripts told log rest r u a says was other are =
    let ts = get_or transcripts u [] in
    let whole : ts ≡ part_of u log ++ a ∷ part_of u rest = are u ∙ part_here u log rest r a says in
    let long : length (part_of u log) ≡ get_or told u 0 = ap length (sym (was.answers u)) ∙ length-take-le (get_or told u 0) ts (was.within u) in
    other (ap (λ (k : ℕ). slice_get ts k) (sym long) ∙ ap (λ (xs : List Answered). slice_get xs (length (part_of u log))) whole ∙ at_seam (part_of u log) (part_of u rest) a)

-- where all is told, each transcript is its part
pub told_all : (transcripts : List (List Answered)) (told : List ℕ) (log : List GuestRec) → AreTold transcripts told log →
    ((v : ℕ) → get_or told v 0 ≡ length (get_or transcripts v [])) → AreOfLog log transcripts
told_all transcripts told log was all v =
    let t = get_or transcripts v [] in
    sym (ap (λ (k : ℕ). take k t) (all v) ∙ take_all (length t) t (omega arith)) ∙ was.answers v

-- where one is not, it is not its part
pub told_some : (transcripts : List (List Answered)) (told : List ℕ) (log : List GuestRec) → AreTold transcripts told log →
    (v : ℕ) → get_or told v 0 ≢ length (get_or transcripts v []) → AreOfLog log transcripts → ⊥
told_some transcripts told log was v other are =
    let t = get_or transcripts v [] in
    other (sym (length-take-le (get_or told v 0) t (was.within v)) ∙ ap length (was.answers v ∙ sym (are v)))

-- all of a log is told by what is left
pub told_or_not : (b : Bool) (transcripts : List (List Answered)) (told : List ℕ) (log : List GuestRec) → AreTold transcripts told log →
    MatchBool b ((v : ℕ) → get_or told v 0 ≡ length (get_or transcripts v [])) ((v : ℕ) × (get_or told v 0 ≢ length (get_or transcripts v []))) →
    MatchBool b (AreOfLog log transcripts) (AreOfLog log transcripts → ⊥)
told_or_not true transcripts told log was all = told_all transcripts told log was all
told_or_not false transcripts told log was one = told_some transcripts told log was one.0 one.1

-- a log that is cut at one of its records
pub cut_at : (log : List GuestRec) (n : ℕ) (r : GuestRec) → n < length log → r ≡ get_or log n r → log ≡ take n log ++ r ∷ drop (suc n) log
cut_at log n r within is = sym (take-append-drop n log) ∙ ap (λ (rest : List GuestRec). take n log ++ rest) (drop-cons log n r within ∙ ap (λ (x : GuestRec). x ∷ drop (suc n) log) (sym is))
