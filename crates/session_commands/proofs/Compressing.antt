-- The files of recorders that are only there compressed, as they are found.
use Rattle.std.proofs.Common.{◌≡◌, ◌∙◌, ◌⊎◌, Bool, true, false, not, ℕ, ◌+◌, ◌<◌, ◌≤◌, inl, inr, List, [], ◌∷◌, ◌++◌, length, map, take, get_or, Option, Some, None, refl, ap, sym, subst, arith}
use Rattle.std.specs.Prelude.{◌↔◌, IfSome, IsTrue}
use Rattle.std.specs.List.{Contains}
use Rattle.std.specs.List.Sorted.{IsPermutation}
use Rattle.std.proofs.lemmas.List.{get_or-map, length-map, take_all, take_more}
use Rattle.std.proofs.lemmas.List.Elements.{Contains-append_left, Contains-push}
use Rattle.std.proofs.lemmas.List.Sorted.{Contains-permutation, IsPermutation-sym}
use Rattle.recorder_files.specs.declared.lines.Party.{Party}
use Rattle.recorder_files.specs.Names.{IsCompressedName, IsNameOf}
use Rattle.recorder_files.proofs.Endings.{one_whole}
use Rattle.session_commands.specs.Found.{AreCompressed, IsCompressed, IsCompressedFile, path_in}
use Rattle.session_commands.specs.inner.Compressing.{AddsCompressed, AddsCompressedOf}
use Rattle.session_commands.proofs.Finding.{contains_none, contains_pushed, map_pushed}

-- ---- whether a name is among others

-- the first items and the next one
pub more_taken : {X : Type 0} (f : X → List ℕ) (items : List X) (i : ℕ) (x : X) → i < length items → x ≡ get_or items i x → map f (take (i + 1) items) ≡ map f (take i items) ++ f x ∷ []
more_taken {X} f items i x lt is = ap (map f) (take_more items i x lt) ∙ (map_pushed f (take i items) (get_or items i x) ∙ ap (λ (n : List ℕ). map f (take i items) ++ n ∷ []) (sym (ap f is)))

-- a name is not among more, if it is not the next one
pub among_fewer : {X : Type 0} (f : X → List ℕ) (items : List X) (i : ℕ) (x : X) (name : List ℕ) → i < length items → x ≡ get_or items i x → (f x ≡ name → ⊥) → (Contains (map f (take i items)) name → ⊥) → Contains (map f (take (i + 1) items)) name → ⊥
among_fewer {X} f items i x name lt is other before c = split (contains_pushed (map f (take i items)) (f x) name (subst (λ (xs : List (List ℕ)). Contains xs name) (more_taken f items i x lt is) c))
  where
    split : Contains (map f (take i items)) name ⊎ (name ≡ f x) → ⊥
    split (inl c) = before c
    split (inr e) = other (sym e)

-- the next one is among all
pub among_all : {X : Type 0} (f : X → List ℕ) (items : List X) (i : ℕ) (x : X) → i < length items → x ≡ get_or items i x → Contains (map f items) (f x)
among_all {X} f items i x lt is = (i, omega (arith, lt, length-map items f), get_or-map f items i x (f x) lt ∙ ap f (sym is))

pub among_taken : {X : Type 0} (f : X → List ℕ) (items : List X) (i : ℕ) (name : List ℕ) → length items ≤ i → (Contains (map f (take i items)) name → ⊥) → Contains (map f items) name → ⊥
among_taken {X} f items i name le none c = none (subst (λ (ys : List X). Contains (map f ys) name) (sym (take_all i items le)) c)

-- ---- a name

-- a file with this name was compressed, and is not among the names
pub compressed_if : (names : List (List ℕ)) (name bytes whole : List ℕ) (r : Bool) → bytes ≡ name → ((party : Party) × IsNameOf party whole) × IsCompressedName whole bytes → IsTrue r ↔ Contains names whole → IsTrue (not r) ↔ IsCompressed names name
compressed_if names name bytes whole true same found among = (
  (λ other. let other = other in absurd cc),
  (λ one. absurd (one.alone (subst (Contains names) (one_whole name whole one.whole (subst (IsCompressedName whole) same found.1) one.is_ended) (among.0 refl)))),
)
compressed_if names name bytes whole false same found among = (
  (λ alone. record { party = found.0.0; whole = whole; is_name = found.0.1; is_ended = subst (IsCompressedName whole) same found.1; alone = λ there. let among = among.1 there in absurd cc }),
  (λ one. refl),
)

pub compressed_one : (names : List (List ℕ)) (folder name : List ℕ) (old new : List (List ℕ)) (path : List ℕ) → new ≡ old ++ path ∷ [] → IsCompressed names name → path ≡ path_in folder name → AddsCompressed names (λ n. n ≡ name) folder old new
compressed_one names folder name old new path pushed is at = record {
  kept = λ p c. there p (Contains-append_left old (path ∷ []) p c);
  more = λ p c. split p (contains_pushed old path p (subst (λ (xs : List (List ℕ)). Contains xs p) pushed c));
  all = λ n same one. there (path_in folder n) (subst (Contains (old ++ path ∷ [])) (at ∙ ap (path_in folder) (sym same)) (Contains-push old path));
}
  where
    there : (p : List ℕ) → Contains (old ++ path ∷ []) p → Contains new p
    there p c = subst (λ (xs : List (List ℕ)). Contains xs p) (sym pushed) c

    split : (p : List ℕ) → Contains old p ⊎ (p ≡ path) → Contains old p ⊎ ((n : List ℕ) × (n ≡ name) × IsCompressed names n × (p ≡ path_in folder n))
    split p (inl c) = inl c
    split p (inr e) = inr (name, refl, is, e ∙ at)

-- ---- names

pub compressed_nothing : (names : List (List ℕ)) (folder : List ℕ) (paths : List (List ℕ)) → AddsCompressed names (Contains []) folder paths paths
compressed_nothing names folder paths = record {
  kept = λ p c. c;
  more = λ p c. inl c;
  all = λ n c one. absurd (contains_none n c);
}

compressed_on : (names : List (List ℕ)) (folder : List ℕ) (firsts : List (List ℕ)) (name : List ℕ) (old mid new : List (List ℕ)) → AddsCompressed names (Contains firsts) folder old mid → AddsCompressed names (λ n. n ≡ name) folder mid new → AddsCompressed names (Contains (firsts ++ name ∷ [])) folder old new
compressed_on names folder firsts name old mid new first next = record {
  kept = λ p c. next.kept p (first.kept p c);
  more = λ p c. split p (next.more p c);
  all = λ n c one. of_either n one (contains_pushed firsts name n c);
}
  where
    split_first : (p : List ℕ) → Contains old p ⊎ ((n : List ℕ) × Contains firsts n × IsCompressed names n × (p ≡ path_in folder n)) → Contains old p ⊎ ((n : List ℕ) × Contains (firsts ++ name ∷ []) n × IsCompressed names n × (p ≡ path_in folder n))
    split_first p (inl c) = inl c
    split_first p (inr h) = inr (h.0, Contains-append_left firsts (name ∷ []) h.0 h.1, h.2, h.3)

    split : (p : List ℕ) → Contains mid p ⊎ ((n : List ℕ) × (n ≡ name) × IsCompressed names n × (p ≡ path_in folder n)) → Contains old p ⊎ ((n : List ℕ) × Contains (firsts ++ name ∷ []) n × IsCompressed names n × (p ≡ path_in folder n))
    split p (inl c) = split_first p (first.more p c)
    split p (inr h) = inr (h.0, subst (Contains (firsts ++ name ∷ [])) (sym h.1) (Contains-push firsts name), h.2, h.3)

    of_either : (n : List ℕ) → IsCompressed names n → Contains firsts n ⊎ (n ≡ name) → Contains new (path_in folder n)
    of_either n one (inl c) = next.kept (path_in folder n) (first.all n c one)
    of_either n one (inr is) = next.all n is one

pub next_compressed : {X : Type 0} (f : X → List ℕ) (names : List (List ℕ)) (folder : List ℕ) (old mid new : List (List ℕ)) (items : List X) (i : ℕ) (x : X) (name : List ℕ) → i < length items → x ≡ get_or items i x → name ≡ f x → AddsCompressed names (Contains (map f (take i items))) folder old mid → AddsCompressed names (λ n. n ≡ name) folder mid new → AddsCompressed names (Contains (map f (take (i + 1) items))) folder old new
next_compressed {X} f names folder old mid new items i x name lt is named first next = subst (λ (ns : List (List ℕ)). AddsCompressed names (Contains ns) folder old new) (sym more) (compressed_on names folder (map f (take i items)) name old mid new first next)
  where
    more : map f (take (i + 1) items) ≡ map f (take i items) ++ name ∷ []
    more = more_taken f items i x lt is ∙ ap (λ (n : List ℕ). map f (take i items) ++ n ∷ []) (sym named)

pub all_compressed : {X : Type 0} (f : X → List ℕ) (names : List (List ℕ)) (folder : List ℕ) (old new : List (List ℕ)) (items : List X) (i : ℕ) → length items ≤ i → AddsCompressed names (Contains (map f (take i items))) folder old new → AddsCompressed names (Contains (map f items)) folder old new
all_compressed {X} f names folder old new items i le adds = subst (λ (ys : List X). AddsCompressed names (Contains (map f ys)) folder old new) (take_all i items le) adds

-- ---- folders

pub compressed_of : (known : Option (List (List ℕ))) (folder : List ℕ) (names sorted : List (List ℕ)) (old new : List (List ℕ)) → IfSome known (λ listing. IsPermutation listing names) → IsPermutation names sorted → AddsCompressed sorted (Contains sorted) folder old new → AddsCompressedOf known folder old new
compressed_of known folder names sorted old new listed permuted adds = record {
  names = sorted;
  is_known = λ listing is name.
      let same : IsPermutation listing names = subst (λ (o : Option (List (List ℕ))). IfSome o (λ listing. IsPermutation listing names)) is listed in
      ((λ c. Contains-permutation names sorted name permuted (Contains-permutation listing names name same c)), (λ c. Contains-permutation names listing name (IsPermutation-sym listing names same) (Contains-permutation sorted names name (IsPermutation-sym names sorted permuted) c)));
  adds = adds;
}

pub compressed_in_none : (names_in : List ℕ → Option (List (List ℕ))) → AreCompressed names_in [] []
compressed_in_none names_in = record {
  each = λ path c. absurd (contains_none path c);
  all = λ folder name names c is there one. absurd (contains_none folder c);
}

-- a file is compressed and alone among names, if it is so among others that these are of
fewer_names : (names others : List (List ℕ)) (name : List ℕ) → ((n : List ℕ) → Contains others n → Contains names n) → IsCompressed names name → IsCompressed others name
fewer_names names others name within one = record { party = one.party; whole = one.whole; is_name = one.is_name; is_ended = one.is_ended; alone = λ c. one.alone (within one.whole c) }

pub compressed_in_more : (names_in : List ℕ → Option (List (List ℕ))) (folders : List (List ℕ)) (folder : List ℕ) (old new : List (List ℕ)) → AreCompressed names_in folders old → AddsCompressedOf (names_in folder) folder old new → AreCompressed names_in (folders ++ folder ∷ []) new
compressed_in_more names_in folders folder old new found of_folder = record {
  each = λ path c. split path (of_folder.adds.more path c);
  all = λ other name names c is there one. of_either other name names is there one (contains_pushed folders folder other c);
}
  where
    listed : (name : List ℕ) (o : Option (List (List ℕ))) → names_in folder ≡ o → Contains of_folder.names name → IsCompressed of_folder.names name → IfSome o (λ names. Contains names name × IsCompressed names name)
    listed name None e c one = tt
    listed name (Some names) e c one = ((of_folder.is_known names e name).1 c, fewer_names of_folder.names names name (λ n there. (of_folder.is_known names e n).0 there) one)

    wider : (path : List ℕ) → IsCompressedFile names_in folders path → IsCompressedFile names_in (folders ++ folder ∷ []) path
    wider path f = record { folder = f.folder; name = f.name; named = Contains-append_left folders (folder ∷ []) f.folder f.named; there = f.there; is = f.is }

    split : (path : List ℕ) → Contains old path ⊎ ((n : List ℕ) × Contains of_folder.names n × IsCompressed of_folder.names n × (path ≡ path_in folder n)) → IsCompressedFile names_in (folders ++ folder ∷ []) path
    split path (inl c) = wider path (found.each path c)
    split path (inr h) = record { folder = folder; name = h.0; named = Contains-push folders folder; there = listed h.0 (names_in folder) refl h.1 h.2; is = h.3 }

    of_either : (other name : List ℕ) (names : List (List ℕ)) → names_in other ≡ Some names → Contains names name → IsCompressed names name → Contains folders other ⊎ (other ≡ folder) → Contains new (path_in other name)
    of_either other name names is there one (inl c) = of_folder.adds.kept (path_in other name) (found.all other name names c is there one)
    of_either other name names is there one (inr same) =
        let known : names_in folder ≡ Some names = subst (λ (f : List ℕ). names_in f ≡ Some names) same is in
        subst (λ (f : List ℕ). Contains new (path_in f name)) (sym same) (of_folder.adds.all name ((of_folder.is_known names known name).0 there) (fewer_names names of_folder.names name (λ n c. (of_folder.is_known names known n).1 c) one))

pub next_in : {X : Type 0} (f : X → List ℕ) (names_in : List ℕ → Option (List (List ℕ))) (folders : List X) (place : ℕ) (none : X) (old new : List (List ℕ)) → place < length folders → AreCompressed names_in (map f (take place folders)) old → AddsCompressedOf (names_in (f (get_or folders place none))) (f (get_or folders place none)) old new → AreCompressed names_in (map f (take (place + 1) folders)) new
next_in {X} f names_in folders place none old new lt found adds = subst (λ (fs : List (List ℕ)). AreCompressed names_in fs new) (sym more) (compressed_in_more names_in (map f (take place folders)) (f (get_or folders place none)) old new found adds)
  where
    more : map f (take (place + 1) folders) ≡ map f (take place folders) ++ f (get_or folders place none) ∷ []
    more = ap (map f) (take_more folders place none lt) ∙ map_pushed f (take place folders) (get_or folders place none)

pub all_in : {X : Type 0} (f : X → List ℕ) (names_in : List ℕ → Option (List (List ℕ))) (folders : List X) (place : ℕ) (paths : List (List ℕ)) → length folders ≤ place → AreCompressed names_in (map f (take place folders)) paths → AreCompressed names_in (map f folders) paths
all_in {X} f names_in folders place paths le found = subst (λ (ys : List X). AreCompressed names_in (map f ys) paths) (take_all place folders le) found

-- none is, if no path is found
pub none_in_folders : {X : Type 0} (f : X → List ℕ) (names_in : List ℕ → Option (List (List ℕ))) (folders : List (List ℕ)) (paths : List X) → paths ≡ [] → AreCompressed names_in folders (map f paths) → AreCompressed names_in folders []
none_in_folders {X} f names_in folders paths none found = subst (λ (ps : List X). AreCompressed names_in folders (map f ps)) none found
