-- The files of recorders, as they are found.
use Rattle.std.proofs.Common.{◌≡◌, ◌∙◌, ◌⊎◌, ℕ, zero, suc, ◌+◌, ◌<◌, ◌≤◌, inl, inr, List, [], ◌∷◌, ◌++◌, length, map, take, get_or, Option, Some, None, refl, ap, sym, subst, arith}
use Rattle.std.specs.Prelude.{◌==◌, if◌then◌else◌, IfSome, slice_index, string_bytes}
use Rattle.std.specs.List.{Contains}
use Rattle.std.specs.List.Sorted.{IsPermutation}
use Rattle.std.proofs.lemmas.List.{map-append, take_all, take_more}
use Rattle.std.proofs.lemmas.List.Elements.{Contains-append_cases, Contains-append_left, Contains-push}
use Rattle.std.proofs.lemmas.List.Sorted.{Contains-permutation, IsPermutation-sym}
use Rattle.migration_types.specs.declared.records.LogName.TheVariants.{Guest, Source, Link, Lane, Pager}
use Rattle.recorder_files.specs.declared.lines.Party.{Party}
use Rattle.recorder_files.specs.declared.lines.Party.TheVariants.{Machine, Of}
use Rattle.recorder_files.specs.Names.{AreDigits, IsNameOf, file_name}
use Rattle.session_commands.specs.Found.{AreFound, IsFileOf, path_in, told_of}
use Rattle.session_commands.specs.inner.Finding.{AddsFolder, AddsNames}
use Rattle.session_commands.specs.declared.found.FoundFile.{FoundFile}

-- ---- elements

pub contains_none : {X : Type 0} (x : X) → Contains [] x → ⊥
contains_none x c = omega (arith, c.1)

pub only_one : {X : Type 0} (x y : X) → Contains (x ∷ []) y → y ≡ x
only_one {X} x y c = go c.0 c.1 c.2
  where
    go : (k : ℕ) → k < suc zero → get_or (x ∷ []) k y ≡ y → y ≡ x
    go zero lt is = sym is
    go (suc k) lt is = absurd (omega (arith, lt))

pub contains_pushed : {X : Type 0} (xs : List X) (x y : X) → Contains (xs ++ x ∷ []) y → Contains xs y ⊎ (y ≡ x)
contains_pushed {X} xs x y c = go (Contains-append_cases xs (x ∷ []) y c)
  where
    go : Contains xs y ⊎ Contains (x ∷ []) y → Contains xs y ⊎ (y ≡ x)
    go (inl there) = inl there
    go (inr one) = inr (only_one x y one)

pub map_pushed : {A B : Type 0} (f : A → B) (xs : List A) (x : A) → map f (xs ++ x ∷ []) ≡ map f xs ++ f x ∷ []
map_pushed f xs x = map-append f xs (x ∷ [])

-- ---- the party of a name

-- by its first two letters
abbrev party_in : List ℕ → Party
party_in name = if slice_index name 0 == 109 then Machine else (if slice_index name 0 == 103 then Of Guest else (if slice_index name 0 == 115 then Of Source else (if slice_index name 0 == 112 then Of Pager else (if slice_index name 1 == 105 then Of Link else Of Lane))))

party_is : (party : Party) (process number : List ℕ) → party_in (file_name party process number) ≡ party
party_is Machine process number = refl
party_is (Of Guest) process number = refl
party_is (Of Source) process number = refl
party_is (Of Link) process number = refl
party_is (Of Lane) process number = refl
party_is (Of Pager) process number = refl

-- a name is of one party
pub one_party : (p q : Party) (name : List ℕ) → IsNameOf p name → IsNameOf q name → p ≡ q
one_party p q name a b = sym (party_is p a.0 a.1) ∙ (ap party_in (sym a.4 ∙ b.4) ∙ party_is q b.0 b.1)

-- ---- a name

told_pushed : (files : List FoundFile) (file : FoundFile) (told : Party × List ℕ) → Contains (map told_of (files ++ file ∷ [])) told → Contains (map told_of files) told ⊎ (told ≡ told_of file)
told_pushed files file told c = contains_pushed (map told_of files) (told_of file) told (subst (λ (xs : List (Party × List ℕ)). Contains xs told) (map_pushed told_of files file) c)

pub adds_one : (folder name : List ℕ) (old new : List FoundFile) (file : FoundFile) → new ≡ old ++ file ∷ [] → IsNameOf file.party name → string_bytes file.path ≡ path_in folder name → AddsNames (λ n. n ≡ name) folder old new
adds_one folder name old new file pushed is_name path = record {
  kept = λ told c. there told (Contains-append_left (map told_of old) (told_of file ∷ []) told c);
  more = λ party at c. split party at (told_pushed old file (party, at) (subst (λ (xs : List FoundFile). Contains (map told_of xs) (party, at)) pushed c));
  all = λ party n is named.
      let same_party : party ≡ file.party = one_party party file.party name (subst (IsNameOf party) is named) is_name in
      let same_path : path_in folder n ≡ string_bytes file.path = ap (path_in folder) is ∙ sym path in
      let same : told_of file ≡ (party, path_in folder n) = ap (λ p. (p, string_bytes file.path)) (sym same_party) ∙ ap (λ (at : List ℕ). (party, at)) (sym same_path) in
      there (party, path_in folder n) (subst (λ (t : Party × List ℕ). Contains (map told_of old ++ told_of file ∷ []) t) same (Contains-push (map told_of old) (told_of file)));
}
  where
    there : (told : Party × List ℕ) → Contains (map told_of old ++ told_of file ∷ []) told → Contains (map told_of new) told
    there told c = subst (λ (xs : List FoundFile). Contains (map told_of xs) told) (sym pushed) (subst (λ (xs : List (Party × List ℕ)). Contains xs told) (sym (map_pushed told_of old file)) c)

    split : (party : Party) (at : List ℕ) → Contains (map told_of old) (party, at) ⊎ ((party, at) ≡ told_of file) → Contains (map told_of old) (party, at) ⊎ ((n : List ℕ) × (n ≡ name) × IsNameOf party n × (at ≡ path_in folder n))
    split party at (inl c) = inl c
    split party at (inr e) = inr (name, refl, subst (λ (p : Party). IsNameOf p name) (sym (ap (λ (t : Party × List ℕ). t.0) e)) is_name, ap (λ (t : Party × List ℕ). t.1) e ∙ path)

pub adds_none : (folder name : List ℕ) (files : List FoundFile) → ((party : Party) → IsNameOf party name → ⊥) → AddsNames (λ n. n ≡ name) folder files files
adds_none folder name files none = record {
  kept = λ told c. c;
  more = λ party path c. inl c;
  all = λ party n is named. absurd (none party (subst (IsNameOf party) is named));
}

-- ---- names

pub adds_nothing : (folder : List ℕ) (files : List FoundFile) → AddsNames (Contains []) folder files files
adds_nothing folder files = record {
  kept = λ told c. c;
  more = λ party path c. inl c;
  all = λ party name c named. absurd (contains_none name c);
}

pub adds_on : (folder : List ℕ) (names : List (List ℕ)) (name : List ℕ) (old mid new : List FoundFile) → AddsNames (Contains names) folder old mid → AddsNames (λ n. n ≡ name) folder mid new → AddsNames (Contains (names ++ name ∷ [])) folder old new
adds_on folder names name old mid new first next = record {
  kept = λ told c. next.kept told (first.kept told c);
  more = λ party path c. split party path (next.more party path c);
  all = λ party n c named. of_either party n named (contains_pushed names name n c);
}
  where
    split_first : (party : Party) (path : List ℕ) → Contains (map told_of old) (party, path) ⊎ ((n : List ℕ) × Contains names n × IsNameOf party n × (path ≡ path_in folder n)) → Contains (map told_of old) (party, path) ⊎ ((n : List ℕ) × Contains (names ++ name ∷ []) n × IsNameOf party n × (path ≡ path_in folder n))
    split_first party path (inl c) = inl c
    split_first party path (inr h) = inr (h.0, Contains-append_left names (name ∷ []) h.0 h.1, h.2, h.3)

    split : (party : Party) (path : List ℕ) → Contains (map told_of mid) (party, path) ⊎ ((n : List ℕ) × (n ≡ name) × IsNameOf party n × (path ≡ path_in folder n)) → Contains (map told_of old) (party, path) ⊎ ((n : List ℕ) × Contains (names ++ name ∷ []) n × IsNameOf party n × (path ≡ path_in folder n))
    split party path (inl c) = split_first party path (first.more party path c)
    split party path (inr h) = inr (h.0, subst (Contains (names ++ name ∷ [])) (sym h.1) (Contains-push names name), h.2, h.3)

    of_either : (party : Party) (n : List ℕ) → IsNameOf party n → Contains names n ⊎ (n ≡ name) → Contains (map told_of new) (party, path_in folder n)
    of_either party n named (inl c) = next.kept (party, path_in folder n) (first.all party n c named)
    of_either party n named (inr is) = next.all party n is named

-- ---- folders

pub adds_folder : (known : Option (List (List ℕ))) (folder : List ℕ) (names sorted : List (List ℕ)) (old new : List FoundFile) → IfSome known (λ listing. IsPermutation listing names) → IsPermutation names sorted → AddsNames (Contains sorted) folder old new → AddsFolder known folder old new
adds_folder known folder names sorted old new listed permuted adds = record {
  names = sorted;
  is_known = λ listing is name.
      let same : IsPermutation listing names = subst (λ (o : Option (List (List ℕ))). IfSome o (λ listing. IsPermutation listing names)) is listed in
      ((λ c. Contains-permutation names sorted name permuted (Contains-permutation listing names name same c)), (λ c. Contains-permutation names listing name (IsPermutation-sym listing names same) (Contains-permutation sorted names name (IsPermutation-sym names sorted permuted) c)));
  adds = adds;
}

pub found_none : (names_in : List ℕ → Option (List (List ℕ))) → AreFound names_in [] []
found_none names_in = record {
  each = λ party path c. absurd (contains_none (party, path) c);
  all = λ party folder name names c is there named. absurd (contains_none folder c);
}

pub found_on : (names_in : List ℕ → Option (List (List ℕ))) (folders : List (List ℕ)) (folder : List ℕ) (old new : List FoundFile) → AreFound names_in folders old → AddsFolder (names_in folder) folder old new → AreFound names_in (folders ++ folder ∷ []) new
found_on names_in folders folder old new found adds = record {
  each = λ party path c. split party path (adds.adds.more party path c);
  all = λ party other name names c is there named. of_either party other name names is there named (contains_pushed folders folder other c);
}
  where
    listed : (name : List ℕ) (o : Option (List (List ℕ))) → names_in folder ≡ o → Contains adds.names name → IfSome o (λ names. Contains names name)
    listed name None e c = tt
    listed name (Some names) e c = (adds.is_known names e name).1 c

    wider : (party : Party) (path : List ℕ) → IsFileOf names_in folders party path → IsFileOf names_in (folders ++ folder ∷ []) party path
    wider party path f = record { folder = f.folder; name = f.name; named = Contains-append_left folders (folder ∷ []) f.folder f.named; there = f.there; is_name = f.is_name; is = f.is }

    split : (party : Party) (path : List ℕ) → Contains (map told_of old) (party, path) ⊎ ((n : List ℕ) × Contains adds.names n × IsNameOf party n × (path ≡ path_in folder n)) → IsFileOf names_in (folders ++ folder ∷ []) party path
    split party path (inl c) = wider party path (found.each party path c)
    split party path (inr h) = record { folder = folder; name = h.0; named = Contains-push folders folder; there = listed h.0 (names_in folder) refl h.1; is_name = h.2; is = h.3 }

    of_either : (party : Party) (other name : List ℕ) (names : List (List ℕ)) → names_in other ≡ Some names → Contains names name → IsNameOf party name → Contains folders other ⊎ (other ≡ folder) → Contains (map told_of new) (party, path_in other name)
    of_either party other name names is there named (inl c) = adds.adds.kept (party, path_in other name) (found.all party other name names c is there named)
    of_either party other name names is there named (inr same) = subst (λ (f : List ℕ). Contains (map told_of new) (party, path_in f name)) (sym same) (adds.adds.all party name ((adds.is_known names (subst (λ (f : List ℕ). names_in f ≡ Some names) same is) name).0 there) named)

-- ---- one after another

pub named_by : (party : Party) (name bytes digits : List ℕ) → bytes ≡ name → AreDigits digits × ((number : List ℕ) × AreDigits number × (bytes ≡ file_name party digits number)) → IsNameOf party name
named_by party name bytes digits same f = (digits, f.1.0, f.0, f.1.1, sym same ∙ f.1.2)

pub next_named : {X : Type 0} (f : X → List ℕ) (folder : List ℕ) (old mid new : List FoundFile) (items : List X) (i : ℕ) (x : X) (name : List ℕ) → i < length items → x ≡ get_or items i x → name ≡ f x → AddsNames (Contains (map f (take i items))) folder old mid → AddsNames (λ n. n ≡ name) folder mid new → AddsNames (Contains (map f (take (i + 1) items))) folder old new
next_named {X} f folder old mid new items i x name lt is named first next = subst (λ (ns : List (List ℕ)). AddsNames (Contains ns) folder old new) (sym more) (adds_on folder (map f (take i items)) name old mid new first next)
  where
    more : map f (take (i + 1) items) ≡ map f (take i items) ++ name ∷ []
    more = ap (map f) (take_more items i x lt) ∙ (map_pushed f (take i items) (get_or items i x) ∙ ap (λ (n : List ℕ). map f (take i items) ++ n ∷ []) (sym (named ∙ ap f is)))

pub all_named : {X : Type 0} (f : X → List ℕ) (folder : List ℕ) (old new : List FoundFile) (items : List X) (i : ℕ) → length items ≤ i → AddsNames (Contains (map f (take i items))) folder old new → AddsNames (Contains (map f items)) folder old new
all_named {X} f folder old new items i le adds = subst (λ (ys : List X). AddsNames (Contains (map f ys)) folder old new) (take_all i items le) adds

pub next_found : {X : Type 0} (f : X → List ℕ) (names_in : List ℕ → Option (List (List ℕ))) (folders : List X) (place : ℕ) (none : X) (old new : List FoundFile) → place < length folders → AreFound names_in (map f (take place folders)) old → AddsFolder (names_in (f (get_or folders place none))) (f (get_or folders place none)) old new → AreFound names_in (map f (take (place + 1) folders)) new
next_found {X} f names_in folders place none old new lt found adds = subst (λ (fs : List (List ℕ)). AreFound names_in fs new) (sym more) (found_on names_in (map f (take place folders)) (f (get_or folders place none)) old new found adds)
  where
    more : map f (take (place + 1) folders) ≡ map f (take place folders) ++ f (get_or folders place none) ∷ []
    more = ap (map f) (take_more folders place none lt) ∙ map_pushed f (take place folders) (get_or folders place none)

pub all_found : {X : Type 0} (f : X → List ℕ) (names_in : List ℕ → Option (List (List ℕ))) (folders : List X) (place : ℕ) (files : List FoundFile) → length folders ≤ place → AreFound names_in (map f (take place folders)) files → AreFound names_in (map f folders) files
all_found {X} f names_in folders place files le found = subst (λ (ys : List X). AreFound names_in (map f ys) files) (take_all place folders le) found
