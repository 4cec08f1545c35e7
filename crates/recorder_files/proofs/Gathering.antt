-- Files of a log, as their records are taken.
use Rattle.std.proofs.Common.{◌≡◌, ℕ, zero, suc, ◌+◌, ◌<◌, ◌≤◌, Bool, true, false, ◌⊎◌, inl, inr, List, [], ◌∷◌, ◌++◌, length, set, Option, Some, None, refl, sym, ap, subst, ◌∙◌, append_assoc, length-set, arith}
use Rattle.std.specs.Prelude.{slice_get, IfSome, get_or, nat_le}
use Rattle.std.specs.Option.{option_map}
use Rattle.std.specs.List.Sorted.{IsPermutation}
use Rattle.std.proofs.lemmas.List.Sorted.{IsPermutation-refl, IsPermutation-sym, IsPermutation-trans, IsPermutation-append_left, IsPermutation-append_right, IsPermutation-middle, IsPermutation-to_front}
use Rattle.std.proofs.lemmas.List.{get_or-map, length-map, length_push}
use Rattle.std.proofs.lemmas.Option.{slice_get-get_or, slice_get-map, slice_get_within, get_or_from_slice_get, same_Some}
use Rattle.std.proofs.lemmas.Bool.{cases_eq, cases_lt, eq-eqb, ne_eqb, le-leb, lt-leb}
use Rattle.recorder_files.specs.declared.lines.Party.{Party}
use Rattle.recorder_files.specs.declared.turns.Turn.{Turn}
use Rattle.recorder_files.specs.declared.turns.Turn.TheVariants.{Of, Missing, End}
use Rattle.recorder_files.specs.Gathered.{Numbered, numbered_from, all_of, IsGathered, IsTurn}
use Rattle.recorder_files.specs.Said.{CameTo, Goes, RiseTo, Says, Standing}
use Rattle.recorder_files.specs.Logs.{AreAt, AreBegun, Came, Gathering, IsAt, SayLog, Stops, is_given, nothing_of, text_in}
use Rattle.recorder_files.proofs.Elements.{element}

-- ---- an element that is set

-- what is found in a list once an element was set
of_set : {X : Type 0} (xs : List X) (i k : ℕ) (y w : X) → slice_get (set xs i y) k ≡ Some w → ((k ≡ i) × (w ≡ y)) ⊎ ((k ≡ i → ⊥) × (slice_get xs k ≡ Some w))
of_set [] i k y w e = absurd (cc)
of_set (x ∷ xs) zero zero y w e = inl (refl, sym (same_Some y w e))
of_set (x ∷ xs) zero (suc k) y w e = inr (λ h. absurd (cc), e)
of_set (x ∷ xs) (suc i) zero y w e = inr (λ h. absurd (cc), e)
of_set {X} (x ∷ xs) (suc i) (suc k) y w e = go (of_set xs i k y w e)
  where
    go : ((k ≡ i) × (w ≡ y)) ⊎ ((k ≡ i → ⊥) × (slice_get xs k ≡ Some w)) → ((suc k ≡ suc i) × (w ≡ y)) ⊎ ((suc k ≡ suc i → ⊥) × (slice_get xs k ≡ Some w))
    go (inl (same, is)) = inl (ap suc same, is)
    go (inr (other, there)) = inr (λ h. other (omega (arith, h)), there)

-- ---- numbers that rise

rises : (low : ℕ) (taken : Numbered (List ℕ)) (r : ℕ × List ℕ) (mid next : ℕ) → RiseTo low taken mid → RiseTo low (taken ++ r ∷ []) next → mid ≤ r.0
rises low [] r mid next a b = omega (arith, a, b.0)
rises low (x ∷ taken) r mid next a b = rises (suc x.0) taken r mid next a.2 b.2

rise_last : (low : ℕ) (taken : Numbered (List ℕ)) (r : ℕ × List ℕ) (next : ℕ) → RiseTo low (taken ++ r ∷ []) next → next ≡ suc r.0
rise_last low [] r next a = a.2
rise_last low (x ∷ taken) r next a = rise_last (suc x.0) taken r next a.2

-- a file's next record has a number above those that were taken
next_above : (party : Party) (known : Option (List ℕ)) (s after : Standing) (taken : Numbered (List ℕ)) (low : ℕ) (head : Option ℕ) → after.opening ≡ s.opening → CameTo party known s taken → low ≤ s.low → Goes party known after taken head → IfSome head (λ n. low ≤ n)
next_above party known s after taken low None same came le goes = tt
next_above party known s after taken low (Some n) same came le goes =
    let rise : RiseTo s.opening.first (taken ++ (n, after.text) ∷ []) after.low = subst (λ o. RiseTo o.first (taken ++ (n, after.text) ∷ []) after.low) same goes.rise in
    let above : s.low ≤ n = rises s.opening.first taken (n, after.text) s.low after.low came.rise rise in
    omega (arith, le, above)

-- ---- a file is read on

pub are_read_on : (party : Party) (knowns : List (Option (List ℕ))) (files : List Standing) (heads : List (Option ℕ)) (takens : List (Numbered (List ℕ))) (low : ℕ) (before after : ℕ → Bool) (i : ℕ) (s now : Standing) (head : Option ℕ) → AreAt party knowns files heads takens low before → before i ≡ true → after i ≡ false → ((k : ℕ) → (k ≡ i → ⊥) → after k ≡ before k) → slice_get files i ≡ Some s → now.opening ≡ s.opening → ((p : Party) (known : Option (List ℕ)) (came : Numbered (List ℕ)) → CameTo p known s came → Goes p known now came head) → AreAt party knowns (set files i now) (set heads i head) takens low after
are_read_on party knowns files heads takens low before after i s now head at pending done others found opening next = record {
  many_knowns = at.many_knowns ∙ sym (length-set files i now);
  many_heads = length-set heads i head ∙ (at.many_heads ∙ sym (length-set files i now));
  many_takens = at.many_takens ∙ sym (length-set files i now);
  each = λ k known x h taken ek ef eh et. go k known x h taken ek et (of_set files i k now x ef) (of_set heads i k head h eh);
}
  where
    here : (known : Option (List ℕ)) (taken : Numbered (List ℕ)) → slice_get knowns i ≡ Some known → slice_get takens i ≡ Some taken → IsAt party known now head taken low false
    here known taken ek et =
        let within : i < length heads = omega (arith, at.many_heads, slice_get_within files i s found) in
        let was : IsAt party known s (get_or heads i None) taken low true = subst (IsAt party known s (get_or heads i None) taken low) pending (at.each i known s (get_or heads i None) taken ek found (slice_get-get_or heads i None within) et) in
        let goes : Goes party known now taken head = next party known taken was.0 in
        (goes, next_above party known s now taken low head opening was.0 was.1 goes)

    go : (k : ℕ) (known : Option (List ℕ)) (x : Standing) (h : Option ℕ) (taken : Numbered (List ℕ)) → slice_get knowns k ≡ Some known → slice_get takens k ≡ Some taken → ((k ≡ i) × (x ≡ now)) ⊎ ((k ≡ i → ⊥) × (slice_get files k ≡ Some x)) → ((k ≡ i) × (h ≡ head)) ⊎ ((k ≡ i → ⊥) × (slice_get heads k ≡ Some h)) → IsAt party known x h taken low (after k)
    go k known x h taken ek et (inl (same, is)) (inl (_, is_head)) =
        let there : IsAt party known now head taken low false = here known taken (ap (slice_get knowns) (sym same) ∙ ek) (ap (slice_get takens) (sym same) ∙ et) in
        let at_head : IsAt party known now h taken low false = subst (λ o. IsAt party known now o taken low false) (sym is_head) there in
        let at_file : IsAt party known x h taken low false = subst (λ f. IsAt party known f h taken low false) (sym is) at_head in
        subst (IsAt party known x h taken low) (sym (ap after same ∙ done)) at_file
    go k known x h taken ek et (inl (same, is)) (inr (other, _)) = absurd (other same)
    go k known x h taken ek et (inr (other, _)) (inl (same, is)) = absurd (other same)
    go k known x h taken ek et (inr (other, ef)) (inr (_, eh)) = subst (IsAt party known x h taken low) (sym (others k other)) (at.each k known x h taken ek ef eh et)

-- ---- a record is taken

pub are_taken : (party : Party) (knowns : List (Option (List ℕ))) (files : List Standing) (heads : List (Option ℕ)) (takens : List (Numbered (List ℕ))) (low i : ℕ) (s : Standing) (taken : Numbered (List ℕ)) → AreAt party knowns files heads takens low (λ _. false) → IsTurn heads low (Of i) → slice_get files i ≡ Some s → slice_get takens i ≡ Some taken → AreAt party knowns files heads (set takens i (taken ++ (low, s.text) ∷ [])) (low + 1) (is_given (Some i))
are_taken party knowns files heads takens low i s taken at turn found there = record {
  many_knowns = at.many_knowns;
  many_heads = at.many_heads;
  many_takens = length-set takens i (taken ++ (low, s.text) ∷ []) ∙ at.many_takens;
  each = λ k known x h t ek ef eh et. go k known x h t ek ef eh (of_set takens i k (taken ++ (low, s.text) ∷ []) t et);
}
  where
    here : (known : Option (List ℕ)) → slice_get knowns i ≡ Some known → CameTo party known s (taken ++ (low, s.text) ∷ []) × (low + 1 ≤ s.low)
    here known ek =
        let was : IsAt party known s (Some low) taken low false = at.each i known s (Some low) taken ek found turn.0 there in
        let last = rise_last s.opening.first taken (low, s.text) s.low was.0.rise in
        (was.0, omega (arith, last))

    above : (k : ℕ) (h : Option ℕ) → (k ≡ i → ⊥) → slice_get heads k ≡ Some h → IfSome h (λ n. low ≤ n) → IfSome h (λ n. low + 1 ≤ n)
    above k None other eh le = tt
    above k (Some n) other eh le = go_on (cases_eq n low)
      where
        go_on : (n ≡ low) ⊎ (n ≡ low → ⊥) → low + 1 ≤ n
        go_on (inl same) = absurd (other (turn.1 k (eh ∙ ap (λ m. Some (Some m)) same)))
        go_on (inr differs) = omega (arith, le, differs)

    go : (k : ℕ) (known : Option (List ℕ)) (x : Standing) (h : Option ℕ) (t : Numbered (List ℕ)) → slice_get knowns k ≡ Some known → slice_get files k ≡ Some x → slice_get heads k ≡ Some h → ((k ≡ i) × (t ≡ taken ++ (low, s.text) ∷ [])) ⊎ ((k ≡ i → ⊥) × (slice_get takens k ≡ Some t)) → IsAt party known x h t (low + 1) (is_given (Some i) k)
    go k known x h t ek ef eh (inl (same, is)) =
        let both : x ≡ s = same_Some x s (sym ef ∙ (ap (slice_get files) same ∙ found)) in
        let there = here known (ap (slice_get knowns) (sym same) ∙ ek) in
        let at_file : CameTo party known x t × (low + 1 ≤ x.low) = subst (λ f. CameTo party known f t × (low + 1 ≤ f.low)) (sym both) (subst (λ u. CameTo party known s u) (sym is) there.0, there.1) in
        subst (IsAt party known x h t (low + 1)) (sym (eq-eqb i k (sym same))) at_file
    go k known x h t ek ef eh (inr (other, et)) =
        let was : IsAt party known x h t low false = at.each k known x h t ek ef eh et in
        let now : IsAt party known x h t (low + 1) false = (was.0, above k h other eh was.1) in
        subst (IsAt party known x h t (low + 1)) (sym (ne_eqb i k (λ e. other (sym e)))) now

-- ---- what was taken, gathered

numbered_more : {X : Type 0} (n : ℕ) (log : List X) (x : X) → numbered_from n (log ++ x ∷ []) ≡ numbered_from n log ++ (n + length log, x) ∷ []
numbered_more n [] x = ap (λ m. (m, x) ∷ []) (omega arith)
numbered_more n (y ∷ log) x = ap (λ rest. (n, y) ∷ rest) (numbered_more (suc n) log x ∙ ap (λ m. numbered_from (suc n) log ++ (m, x) ∷ []) (omega arith))

all_more : {X : Type 0} (takens : List (Numbered X)) (i : ℕ) (taken : Numbered X) (r : ℕ × X) → slice_get takens i ≡ Some taken → IsPermutation (all_of (set takens i (taken ++ r ∷ []))) (all_of takens ++ r ∷ [])
all_more [] i taken r e = absurd (cc)
all_more {X} (t ∷ takens) zero taken r e =
    let rest = all_of takens in
    let regrouped : taken ++ r ∷ rest ≡ (taken ++ r ∷ []) ++ rest = sym (append_assoc taken (r ∷ []) rest) in
    let first : IsPermutation ((taken ++ r ∷ []) ++ rest) (r ∷ (taken ++ rest)) = subst (λ (xs : Numbered X). IsPermutation xs (r ∷ (taken ++ rest))) regrouped (IsPermutation-middle taken r rest) in
    let last : IsPermutation ((taken ++ r ∷ []) ++ rest) ((taken ++ rest) ++ r ∷ []) = IsPermutation-trans ((taken ++ r ∷ []) ++ rest) (r ∷ (taken ++ rest)) ((taken ++ rest) ++ r ∷ []) first (IsPermutation-sym ((taken ++ rest) ++ r ∷ []) (r ∷ (taken ++ rest)) (IsPermutation-to_front (taken ++ rest) r)) in
    subst (λ (f : Numbered X). IsPermutation ((taken ++ r ∷ []) ++ rest) ((f ++ rest) ++ r ∷ [])) (sym (same_Some t taken e)) last
all_more {X} (t ∷ takens) (suc i) taken r e =
    let more = all_of (set takens i (taken ++ r ∷ [])) in
    let inner : IsPermutation (t ++ more) (t ++ (all_of takens ++ r ∷ [])) = IsPermutation-append_right t more (all_of takens ++ r ∷ []) (all_more takens i taken r e) in
    subst (λ (xs : Numbered X). IsPermutation (t ++ more) xs) (sym (append_assoc t (all_of takens) (r ∷ []))) inner

pub gathered_more : {X : Type 0} (takens : List (Numbered X)) (log : List X) (i : ℕ) (taken : Numbered X) (x : X) → slice_get takens i ≡ Some taken → IsGathered takens log → IsGathered (set takens i (taken ++ (length log, x) ∷ [])) (log ++ x ∷ [])
gathered_more {X} takens log i taken x e g =
    let r : ℕ × X = (length log, x) in
    let whole : numbered_from 0 (log ++ x ∷ []) ≡ numbered_from 0 log ++ r ∷ [] = numbered_more 0 log x ∙ ap (λ n. numbered_from 0 log ++ (n, x) ∷ []) (omega arith) in
    subst (λ (rs : Numbered X). IsPermutation (all_of (set takens i (taken ++ r ∷ []))) rs) (sym whole) (IsPermutation-trans (all_of (set takens i (taken ++ r ∷ []))) (all_of takens ++ r ∷ []) (numbered_from 0 log ++ r ∷ []) (all_more takens i taken r e) (IsPermutation-append_left (r ∷ []) (all_of takens) (numbered_from 0 log) g))

-- ---- nothing was read

-- of each file the same holds, wherever a file is
pub same_files : (party : Party) (knowns : List (Option (List ℕ))) (files : List Standing) (heads : List (Option ℕ)) (takens : List (Numbered (List ℕ))) (low : ℕ) (before after : ℕ → Bool) → AreAt party knowns files heads takens low before → ((k : ℕ) → k < length files → after k ≡ before k) → AreAt party knowns files heads takens low after
same_files party knowns files heads takens low before after at same = record {
  many_knowns = at.many_knowns;
  many_heads = at.many_heads;
  many_takens = at.many_takens;
  each = λ k known s head taken ek ef eh et. subst (IsAt party known s head taken low) (sym (same k (slice_get_within files k s ef))) (at.each k known s head taken ek ef eh et);
}

pub are_begun : (party : Party) (knowns : List (Option (List ℕ))) (files : List Standing) (heads : List (Option ℕ)) → length heads ≡ length files → AreBegun party knowns files → AreAt party knowns files heads (nothing_of files) 0 (nat_le 0)
are_begun party knowns files heads many begun = record {
  many_knowns = begun.many;
  many_heads = many;
  many_takens = length-map files (λ _. []);
  each = λ k known s head taken ek ef eh et. go k known s head taken (begun.each k known s ek ef) (none_of k s taken ef et);
}
  where
    none_of : (k : ℕ) (s : Standing) (taken : Numbered (List ℕ)) → slice_get files k ≡ Some s → slice_get (nothing_of files) k ≡ Some taken → taken ≡ []
    none_of k s taken ef et = same_Some taken [] (sym et ∙ (slice_get-map (λ _. []) files k ∙ ap (option_map (λ _. [])) ef))

    go : (k : ℕ) (known : Option (List ℕ)) (s : Standing) (head : Option ℕ) (taken : Numbered (List ℕ)) → CameTo party known s [] → taken ≡ [] → IsAt party known s head taken 0 (nat_le 0 k)
    go k known s head taken came none =
        let at : IsAt party known s head taken 0 true = (subst (CameTo party known s) (sym none) came, omega arith) in
        subst (IsAt party known s head taken 0) (sym (le-leb 0 k (omega arith))) at

-- the first files were read on, up to one
pub this_is_next : (i : ℕ) → nat_le i i ≡ true
this_is_next i = le-leb i i (omega arith)

pub this_is_done : (i : ℕ) → nat_le (i + 1) i ≡ false
this_is_done i = lt-leb (i + 1) i (omega arith)

pub others_stay : (i k : ℕ) → (k ≡ i → ⊥) → nat_le (i + 1) k ≡ nat_le i k
others_stay i k other = go (cases_lt k i)
  where
    go : (k < i) ⊎ (i ≤ k) → nat_le (i + 1) k ≡ nat_le i k
    go (inl lt) = lt-leb (i + 1) k (omega arith) ∙ sym (lt-leb i k lt)
    go (inr le) = le-leb (i + 1) k (omega (arith, le, other)) ∙ sym (le-leb i k le)

pub all_are_done : (i k : ℕ) → k < i → false ≡ nat_le i k
all_are_done i k lt = sym (lt-leb i k lt)

nothing_at_all : (files : List Standing) → all_of (nothing_of files) ≡ []
nothing_at_all [] = refl
nothing_at_all (s ∷ files) = nothing_at_all files

pub nothing_gathered : (files : List Standing) → IsGathered (nothing_of files) []
nothing_gathered files = subst (λ (rs : Numbered (List ℕ)). IsPermutation rs []) (sym (nothing_at_all files)) (IsPermutation-refl [])

-- ---- no file has a record any more

pub all_said : (party : Party) (knowns : List (Option (List ℕ))) (files : List Standing) (heads : List (Option ℕ)) (takens : List (Numbered (List ℕ))) (log : List (List ℕ)) → AreAt party knowns files heads takens (length log) (λ _. false) → IsTurn heads (length log) End → IsGathered takens log → SayLog party knowns files log
all_said party knowns files heads takens log at ended gathered = record {
  takens = takens;
  many_knowns = at.many_knowns;
  many_takens = at.many_takens;
  each = λ k known s taken ek ef et. go k known s taken (get_or heads k None) ek ef et (slice_get-get_or heads k None (omega (arith, at.many_heads, slice_get_within files k s ef)));
  gathered = gathered;
}
  where
    go : (k : ℕ) (known : Option (List ℕ)) (s : Standing) (taken : Numbered (List ℕ)) (head : Option ℕ) → slice_get knowns k ≡ Some known → slice_get files k ≡ Some s → slice_get takens k ≡ Some taken → slice_get heads k ≡ Some head → Says party known (Some (record { name = s.name; opening = s.opening; records = taken; last = s.last }))
    go k known s taken None ek ef et eh = (at.each k known s None taken ek ef eh et).0
    go k known s taken (Some n) ek ef et eh = absurd (ended k n eh)

-- ---- the steps of a gatherer

-- nothing came yet
pub begins : (party : Party) (knowns : List (Option (List ℕ))) (was files : List Standing) (heads : List (Option ℕ)) → AreAt party knowns files heads (nothing_of was) 0 (λ _. false) → Came party knowns (record { files = files; heads = heads; given = None; number = 0 }) []
begins party knowns was files heads at = record { takens = nothing_of was; are_at = at; gathered = nothing_gathered was; number = refl }

-- no record was taken since all files were read on
pub stops : (party : Party) (knowns : List (Option (List ℕ))) (g : Gathering) (log : List (List ℕ)) (heads : List (Option ℕ)) (number : ℕ) (turn this : Turn) → Came party knowns g log → g.given ≡ None → heads ≡ g.heads → number ≡ g.number → IsTurn heads number turn → turn ≡ this → Stops party knowns g log this
stops party knowns g log heads number turn this came none same_heads same_number is same = record {
  takens = came.takens;
  are_at = subst (λ n. AreAt party knowns g.files g.heads came.takens n (λ _. false)) came.number (subst (λ o. AreAt party knowns g.files g.heads came.takens g.number (is_given o)) none came.are_at);
  gathered = came.gathered;
  is_turn = subst (IsTurn g.heads (length log)) same (subst (λ n. IsTurn g.heads n turn) (same_number ∙ came.number) (subst (λ hs. IsTurn hs number turn) same_heads is));
}

pub says_log : (party : Party) (knowns : List (Option (List ℕ))) (g : Gathering) (log : List (List ℕ)) → Stops party knowns g log End → SayLog party knowns g.files log
says_log party knowns g log s = all_said party knowns g.files g.heads s.takens log s.are_at s.is_turn s.gathered

-- a number that is missing is below those that are left
pub missing_below : (party : Party) (knowns : List (Option (List ℕ))) (g : Gathering) (log : List (List ℕ)) (n : ℕ) → Stops party knowns g log (Missing n) → length log < n
missing_below party knowns g log n s = go (element knowns s.is_turn.1.0 (omega (arith, within, s.are_at.many_heads, s.are_at.many_knowns))) (element g.files s.is_turn.1.0 (omega (arith, within, s.are_at.many_heads))) (element s.takens s.is_turn.1.0 (omega (arith, within, s.are_at.many_heads, s.are_at.many_takens)))
  where
    within : s.is_turn.1.0 < length g.heads
    within = slice_get_within g.heads s.is_turn.1.0 (Some n) s.is_turn.1.1

    go : ((known : Option (List ℕ)) × (slice_get knowns s.is_turn.1.0 ≡ Some known)) → ((file : Standing) × (slice_get g.files s.is_turn.1.0 ≡ Some file)) → ((taken : Numbered (List ℕ)) × (slice_get s.takens s.is_turn.1.0 ≡ Some taken)) → length log < n
    go (known, ek) (file, ef) (taken, et) =
        let at : IsAt party known file (Some n) taken (length log) false = s.are_at.each s.is_turn.1.0 known file (Some n) taken ek ef s.is_turn.1.1 et in
        omega (arith, at.1, s.is_turn.0)

-- the next record came, of the file whose turn it was
pub comes : (party : Party) (knowns : List (Option (List ℕ))) (g : Gathering) (log : List (List ℕ)) (i next : ℕ) → Stops party knowns g log (Of i) → next ≡ length log + 1 → Came party knowns (record { files = g.files; heads = g.heads; given = Some i; number = next }) (log ++ text_in g.files (Some i) ∷ [])
comes party knowns g log i next s more = go (element g.files i lt)
  where
    lt : i < length g.files
    lt = omega (arith, slice_get_within g.heads i (Some (length log)) s.is_turn.0, s.are_at.many_heads)

    go : (file : Standing) × (slice_get g.files i ≡ Some file) → Came party knowns (record { files = g.files; heads = g.heads; given = Some i; number = next }) (log ++ text_in g.files (Some i) ∷ [])
    go (file, found) =
        let n = length log in
        let taken = get_or s.takens i [] in
        let there : slice_get s.takens i ≡ Some taken = slice_get-get_or s.takens i [] (omega (arith, lt, s.are_at.many_takens)) in
        let text : text_in g.files (Some i) ≡ file.text = get_or-map (λ (f : Standing). f.text) g.files i file [] lt ∙ ap (λ (f : Standing). f.text) (get_or_from_slice_get g.files i file file found) in
        let at = are_taken party knowns g.files g.heads s.takens n i file taken s.are_at s.is_turn found there in
        record {
          takens = set s.takens i (taken ++ (n, file.text) ∷ []);
          are_at = subst (λ m. AreAt party knowns g.files g.heads (set s.takens i (taken ++ (n, file.text) ∷ [])) m (is_given (Some i))) (sym more) at;
          gathered = subst (λ t. IsGathered (set s.takens i (taken ++ (n, file.text) ∷ [])) (log ++ t ∷ [])) (sym text) (gathered_more s.takens log i taken file.text there s.gathered);
          number = more ∙ sym (length_push log (text_in g.files (Some i)));
        }

-- ---- the file whose record came last is read on

pub given_is : (i : ℕ) → is_given (Some i) i ≡ true
given_is i = eq-eqb i i refl

pub others_not : (i k : ℕ) → (k ≡ i → ⊥) → false ≡ is_given (Some i) k
others_not i k other = sym (ne_eqb i k (λ e. other (sym e)))

pub came_read_on : (party : Party) (knowns : List (Option (List ℕ))) (g : Gathering) (log : List (List ℕ)) (files : List Standing) (heads : List (Option ℕ)) → (came : Came party knowns g log) → AreAt party knowns files heads came.takens g.number (λ _. false) → Came party knowns (record { files = files; heads = heads; given = None; number = g.number }) log
came_read_on party knowns g log files heads came at = record { takens = came.takens; are_at = at; gathered = came.gathered; number = came.number }

-- where the files stand as they are lent
pub came_here : (party : Party) (knowns : List (Option (List ℕ))) (g : Gathering) (log : List (List ℕ)) (i : ℕ) (files : List Standing) (heads : List (Option ℕ)) → (came : Came party knowns g log) → g.given ≡ Some i → files ≡ g.files → heads ≡ g.heads → AreAt party knowns files heads came.takens g.number (is_given (Some i))
came_here party knowns g log i files heads came given same_fs same_hs =
    let at : AreAt party knowns g.files g.heads came.takens g.number (is_given (Some i)) = subst (λ o. AreAt party knowns g.files g.heads came.takens g.number (is_given o)) given came.are_at in
    subst (λ fs. AreAt party knowns fs heads came.takens g.number (is_given (Some i))) (sym same_fs) (subst (λ hs. AreAt party knowns g.files hs came.takens g.number (is_given (Some i))) (sym same_hs) at)
