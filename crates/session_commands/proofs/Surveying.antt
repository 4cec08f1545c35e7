-- The logs of recorders' files, as each file is surveyed.
use Rattle.std.proofs.Common.{◌≡◌, ◌∙◌, ◌⊎◌, ℕ, zero, suc, ◌+◌, ◌<◌, ◌≤◌, inl, inr, List, [], ◌∷◌, ◌++◌, length, map, take, get_or, Option, Some, None, refl, ap, sym, subst, append_assoc}
use Rattle.std.specs.Prelude.{◌↔◌, ◌==◌, if◌then◌else◌, IfSome, string_bytes}
use Rattle.std.proofs.lemmas.List.{take_all, take_more}
use Rattle.std.specs.List.{AllByRecursion, AllZip, Contains}
use Rattle.std.specs.List.Sorted.{IsPermutation}
use Rattle.std.proofs.lemmas.List.Elements.{Contains-append_left, Contains-push}
use Rattle.std.proofs.lemmas.List.Sorted.{IsPermutation-append_left, IsPermutation-middle, IsPermutation-refl, IsPermutation-sym, IsPermutation-to_front, IsPermutation-trans}
use Rattle.migration_types.specs.declared.records.LogName.TheVariants.{Guest, Source, Link, Lane, Pager}
use Rattle.recorder_files.specs.Said.{Said, Says}
use Rattle.recorder_files.specs.declared.lines.Party.{Party}
use Rattle.recorder_files.specs.declared.lines.Party.TheVariants.{Machine, Of}
use Rattle.recorder_files.specs.Surveys.{IsSurveyOf}
use Rattle.recorder_files.specs.declared.surveying.Surveyed.{Surveyed}
use Rattle.session_commands.specs.Logs.{log_of}
use Rattle.session_commands.specs.Found.{AreFound, IsFoundIn, IsSurveyed, path_in, told_of}
use Rattle.session_commands.specs.inner.Finding.{AreLogsOf, GetsFile, HasName, IsNothing, IsReadAs, TakesFile}
use Rattle.session_commands.specs.declared.found.FoundFile.{FoundFile}
use Rattle.session_commands.specs.declared.found.FoundLog.{FoundLog}
use Rattle.session_commands.specs.declared.found.FoundLogs.{FoundLogs}
use Rattle.session_commands.specs.declared.surveys.Recording.{Recording}
use Rattle.session_commands.proofs.Finding.{contains_none, contains_pushed, map_pushed}

-- ---- lists with one more item

all_pushed : {X : Type 0} (P : X → Type 0) (xs : List X) (x : X) → AllByRecursion P xs → P x → AllByRecursion P (xs ++ x ∷ [])
all_pushed P [] x all one = (one, tt)
all_pushed P (y ∷ xs) x all one = (all.0, all_pushed P xs x all.1 one)

zip_pushed : {A B : Type 0} (R : A → B → Type 0) (xs : List A) (ys : List B) (x : A) (y : B) → AllZip R xs ys → R x y → AllZip R (xs ++ x ∷ []) (ys ++ y ∷ [])
zip_pushed R [] [] x y all one = (one, tt)
zip_pushed R [] (b ∷ ys) x y all one = absurd all
zip_pushed R (a ∷ xs) [] x y all one = absurd all
zip_pushed R (a ∷ xs) (b ∷ ys) x y all one = (all.0, zip_pushed R xs ys x y all.1 one)

-- at the end of the second part
parted_behind : {X : Type 0} (all some more : List X) (x : X) → IsPermutation all (some ++ more) → IsPermutation (all ++ x ∷ []) (some ++ (more ++ x ∷ []))
parted_behind all some more x parted = subst (IsPermutation (all ++ x ∷ [])) (append_assoc some more (x ∷ [])) (IsPermutation-append_left (x ∷ []) all (some ++ more) parted)

-- at the end of the first part
parted_within : {X : Type 0} (all some more : List X) (x : X) → IsPermutation all (some ++ more) → IsPermutation (all ++ x ∷ []) ((some ++ x ∷ []) ++ more)
parted_within all some more x parted =
    let last = IsPermutation-append_left (x ∷ []) all (some ++ more) parted in
    let front = IsPermutation-trans (all ++ x ∷ []) ((some ++ more) ++ x ∷ []) (x ∷ (some ++ more)) last (IsPermutation-to_front (some ++ more) x) in
    let within = IsPermutation-trans (all ++ x ∷ []) (x ∷ (some ++ more)) (some ++ x ∷ more) front (IsPermutation-sym (some ++ x ∷ more) (x ∷ (some ++ more)) (IsPermutation-middle some x more)) in
    subst (IsPermutation (all ++ x ∷ [])) (sym (append_assoc some (x ∷ []) more)) within

-- ---- a log

pub nothing_surveyed : (bytes_of : List ℕ → Option (List ℕ)) (recording : List ℕ) (party : Party) (log : FoundLog) → IsNothing log → IsSurveyed bytes_of recording party log
nothing_surveyed bytes_of recording party log none = record {
  parted = rw (none.names, none.paths, none.headless) (IsPermutation-refl []);
  surveyed = rw (none.paths, none.surveyed) tt;
  headless = rw none.headless tt;
}

pub gets_headless : (bytes_of : List ℕ → Option (List ℕ)) (recording : List ℕ) (party : Party) (path : List ℕ) (old new : FoundLog) (name at : _) → new.names.items ≡ old.names.items ++ name ∷ [] → string_bytes name ≡ path → string_bytes at ≡ path → new.headless.items ≡ old.headless.items ++ at ∷ [] → new.paths.items ≡ old.paths.items → new.surveyed.items ≡ old.surveyed.items → Says party (bytes_of path) None → GetsFile bytes_of recording party path old new
gets_headless bytes_of recording party path old new name at names is_name is_at headless paths surveyed says = record {
  names = named;
  surveyed = λ s. record {
    parted = rw (named, less, paths) (parted_behind (map string_bytes old.names.items) (map string_bytes old.paths.items) (map string_bytes old.headless.items) path s.parted);
    surveyed = rw (paths, surveyed) s.surveyed;
    headless = rw less (all_pushed (λ at. Says party (bytes_of at) None) (map string_bytes old.headless.items) path s.headless says);
  };
}
  where
    named : map string_bytes new.names.items ≡ map string_bytes old.names.items ++ path ∷ []
    named = ap (map string_bytes) names ∙ (map_pushed string_bytes old.names.items name ∙ ap (λ p. map string_bytes old.names.items ++ p ∷ []) is_name)

    less : map string_bytes new.headless.items ≡ map string_bytes old.headless.items ++ path ∷ []
    less = ap (map string_bytes) headless ∙ (map_pushed string_bytes old.headless.items at ∙ ap (λ p. map string_bytes old.headless.items ++ p ∷ []) is_at)

pub gets_surveyed : (bytes_of : List ℕ → Option (List ℕ)) (recording : List ℕ) (party : Party) (path : List ℕ) (old new : FoundLog) (name at : _) (found : Surveyed) → new.names.items ≡ old.names.items ++ name ∷ [] → string_bytes name ≡ path → string_bytes at ≡ path → new.paths.items ≡ old.paths.items ++ at ∷ [] → new.surveyed.items ≡ old.surveyed.items ++ found ∷ [] → new.headless.items ≡ old.headless.items → IsSurveyOf party (bytes_of path) recording found → GetsFile bytes_of recording party path old new
gets_surveyed bytes_of recording party path old new name at found names is_name is_at paths surveyed headless survey = record {
  names = named;
  surveyed = λ s. record {
    parted = rw (named, pathed, headless) (parted_within (map string_bytes old.names.items) (map string_bytes old.paths.items) (map string_bytes old.headless.items) path s.parted);
    surveyed = rw (pathed, surveyed) (zip_pushed (λ at f. IsSurveyOf party (bytes_of at) recording f) (map string_bytes old.paths.items) old.surveyed.items path found s.surveyed survey);
    headless = rw headless s.headless;
  };
}
  where
    named : map string_bytes new.names.items ≡ map string_bytes old.names.items ++ path ∷ []
    named = ap (map string_bytes) names ∙ (map_pushed string_bytes old.names.items name ∙ ap (λ p. map string_bytes old.names.items ++ p ∷ []) is_name)

    pathed : map string_bytes new.paths.items ≡ map string_bytes old.paths.items ++ path ∷ []
    pathed = ap (map string_bytes) paths ∙ (map_pushed string_bytes old.paths.items at ∙ ap (λ p. map string_bytes old.paths.items ++ p ∷ []) is_at)

-- ---- the log of a party

-- the logs, with another log of this party
abbrev pub with_log : FoundLogs → Party → FoundLog → FoundLogs
with_log old Machine log = record { machine = log; guest = old.guest; source = old.source; link = old.link; lane = old.lane; pager = old.pager }
with_log old (Of Guest) log = record { machine = old.machine; guest = log; source = old.source; link = old.link; lane = old.lane; pager = old.pager }
with_log old (Of Source) log = record { machine = old.machine; guest = old.guest; source = log; link = old.link; lane = old.lane; pager = old.pager }
with_log old (Of Link) log = record { machine = old.machine; guest = old.guest; source = old.source; link = log; lane = old.lane; pager = old.pager }
with_log old (Of Lane) log = record { machine = old.machine; guest = old.guest; source = old.source; link = old.link; lane = log; pager = old.pager }
with_log old (Of Pager) log = record { machine = old.machine; guest = old.guest; source = old.source; link = old.link; lane = old.lane; pager = log }

with_same : (old : FoundLogs) (log : FoundLog) (p : Party) → log_of (with_log old p log) p ≡ log
with_same old log Machine = refl
with_same old log (Of Guest) = refl
with_same old log (Of Source) = refl
with_same old log (Of Link) = refl
with_same old log (Of Lane) = refl
with_same old log (Of Pager) = refl

with_others : (old : FoundLogs) (log : FoundLog) (p q : Party) → (q ≡ p → ⊥) → log_of (with_log old p log) q ≡ log_of old q
with_others old log Machine Machine other = absurd (other refl)
with_others old log Machine (Of Guest) other = refl
with_others old log Machine (Of Source) other = refl
with_others old log Machine (Of Link) other = refl
with_others old log Machine (Of Lane) other = refl
with_others old log Machine (Of Pager) other = refl
with_others old log (Of Guest) Machine other = refl
with_others old log (Of Guest) (Of Guest) other = absurd (other refl)
with_others old log (Of Guest) (Of Source) other = refl
with_others old log (Of Guest) (Of Link) other = refl
with_others old log (Of Guest) (Of Lane) other = refl
with_others old log (Of Guest) (Of Pager) other = refl
with_others old log (Of Source) Machine other = refl
with_others old log (Of Source) (Of Guest) other = refl
with_others old log (Of Source) (Of Source) other = absurd (other refl)
with_others old log (Of Source) (Of Link) other = refl
with_others old log (Of Source) (Of Lane) other = refl
with_others old log (Of Source) (Of Pager) other = refl
with_others old log (Of Link) Machine other = refl
with_others old log (Of Link) (Of Guest) other = refl
with_others old log (Of Link) (Of Source) other = refl
with_others old log (Of Link) (Of Link) other = absurd (other refl)
with_others old log (Of Link) (Of Lane) other = refl
with_others old log (Of Link) (Of Pager) other = refl
with_others old log (Of Lane) Machine other = refl
with_others old log (Of Lane) (Of Guest) other = refl
with_others old log (Of Lane) (Of Source) other = refl
with_others old log (Of Lane) (Of Link) other = refl
with_others old log (Of Lane) (Of Lane) other = absurd (other refl)
with_others old log (Of Lane) (Of Pager) other = refl
with_others old log (Of Pager) Machine other = refl
with_others old log (Of Pager) (Of Guest) other = refl
with_others old log (Of Pager) (Of Source) other = refl
with_others old log (Of Pager) (Of Link) other = refl
with_others old log (Of Pager) (Of Lane) other = refl
with_others old log (Of Pager) (Of Pager) other = absurd (other refl)

abbrev rank : Party → ℕ
rank Machine = 0
rank (Of Guest) = 1
rank (Of Source) = 2
rank (Of Link) = 3
rank (Of Lane) = 4
rank (Of Pager) = 5

abbrev party_at : ℕ → Party
party_at n = if n == 0 then Machine else (if n == 1 then Of Guest else (if n == 2 then Of Source else (if n == 3 then Of Link else (if n == 4 then Of Lane else Of Pager))))

party_at_rank : (p : Party) → party_at (rank p) ≡ p
party_at_rank Machine = refl
party_at_rank (Of Guest) = refl
party_at_rank (Of Source) = refl
party_at_rank (Of Link) = refl
party_at_rank (Of Lane) = refl
party_at_rank (Of Pager) = refl

-- two numbers are one, or not
same_number : (m n : ℕ) → (m ≡ n) ⊎ (m ≡ n → ⊥)
same_number zero zero = inl refl
same_number zero (suc n) = inr (λ e. absurd (cc))
same_number (suc m) zero = inr (λ e. absurd (cc))
same_number (suc m) (suc n) = up (same_number m n)
  where
    up : (m ≡ n) ⊎ (m ≡ n → ⊥) → (suc m ≡ suc n) ⊎ (suc m ≡ suc n → ⊥)
    up (inl e) = inl (ap suc e)
    up (inr other) = inr (λ e. other (let e = e in cc))

same_party : (p q : Party) → (p ≡ q) ⊎ (p ≡ q → ⊥)
same_party p q = go (same_number (rank p) (rank q))
  where
    go : (rank p ≡ rank q) ⊎ (rank p ≡ rank q → ⊥) → (p ≡ q) ⊎ (p ≡ q → ⊥)
    go (inl e) = inl (sym (party_at_rank p) ∙ (ap party_at e ∙ party_at_rank q))
    go (inr other) = inr (λ e. other (ap rank e))

pub takes_file : (bytes_of : List ℕ → Option (List ℕ)) (recording : List ℕ) (file : FoundFile) (old : FoundLogs) (log : FoundLog) (p : Party) (path : List ℕ) → file.party ≡ p → path ≡ string_bytes file.path → GetsFile bytes_of recording file.party path (log_of old p) log → TakesFile bytes_of recording file old (with_log old p log)
takes_file bytes_of recording file old log p path is is_path gets = record {
  gets = subst (λ q. GetsFile bytes_of recording file.party (string_bytes file.path) (log_of old q) (log_of (with_log old p log) q)) (sym is) (subst (GetsFile bytes_of recording file.party (string_bytes file.path) (log_of old p)) (sym (with_same old log p)) (subst (λ (at : List ℕ). GetsFile bytes_of recording file.party at (log_of old p) log) is_path gets));
  others = λ party other. with_others old log p party (λ e. other (e ∙ sym is));
}

pub taken : (file : FoundFile) (old : FoundLogs) (log : FoundLog) (p : Party) (path : List ℕ) (found : Option Surveyed) → file.party ≡ p → path ≡ string_bytes file.path → ((bytes_of : List ℕ → Option (List ℕ)) (name : List ℕ) (party : Party) → IsReadAs party (bytes_of path) name found → GetsFile bytes_of name party path (log_of old p) log) → (bytes_of : List ℕ → Option (List ℕ)) (name : List ℕ) → IsReadAs file.party (bytes_of (string_bytes file.path)) name found → TakesFile bytes_of name file old (with_log old p log)
taken file old log p path found is is_path gets bytes_of name read = takes_file bytes_of name file old log p path is is_path (gets bytes_of name file.party (subst (λ (at : List ℕ). IsReadAs file.party (bytes_of at) name found) (sym is_path) read))

-- some name is that of the recording
pub a_name : (recording : Option Recording) → (name : List ℕ) × HasName recording name
a_name None = ([], tt)
a_name (Some recording) = (recording.name.items, refl)

-- ---- the logs

pub no_logs : (bytes_of : List ℕ → Option (List ℕ)) (recording : List ℕ) (logs : FoundLogs) → IsNothing logs.machine → IsNothing logs.guest → IsNothing logs.source → IsNothing logs.link → IsNothing logs.lane → IsNothing logs.pager → AreLogsOf bytes_of recording [] logs
no_logs bytes_of recording logs n_machine n_guest n_source n_link n_lane n_pager = record {
  files_of = λ party path. ((λ c. absurd (contains_none path (subst (λ xs. Contains (map string_bytes xs) path) (of_party party).names c))), (λ c. absurd (contains_none (party, path) c)));
  surveyed = λ party. nothing_surveyed bytes_of recording party (log_of logs party) (of_party party);
}
  where
    of_party : (party : Party) → IsNothing (log_of logs party)
    of_party Machine = n_machine
    of_party (Of Guest) = n_guest
    of_party (Of Source) = n_source
    of_party (Of Link) = n_link
    of_party (Of Lane) = n_lane
    of_party (Of Pager) = n_pager

pub logs_on : (bytes_of : List ℕ → Option (List ℕ)) (recording : List ℕ) (files : List FoundFile) (file : FoundFile) (old new : FoundLogs) → AreLogsOf bytes_of recording files old → TakesFile bytes_of recording file old new → AreLogsOf bytes_of recording (files ++ file ∷ []) new
logs_on bytes_of recording files file old new logs takes = record {
  files_of = λ party path. of_files party path (same_party party file.party);
  surveyed = λ party. of_survey party (same_party party file.party);
}
  where
    told : (party : Party) (path : List ℕ) → Contains (map told_of files ++ told_of file ∷ []) (party, path) → Contains (map told_of (files ++ file ∷ [])) (party, path)
    told party path c = subst (λ (xs : List (Party × List ℕ)). Contains xs (party, path)) (sym (map_pushed told_of files file)) c

    untold : (party : Party) (path : List ℕ) → Contains (map told_of (files ++ file ∷ [])) (party, path) → Contains (map told_of files) (party, path) ⊎ ((party, path) ≡ told_of file)
    untold party path c = contains_pushed (map told_of files) (told_of file) (party, path) (subst (λ (xs : List (Party × List ℕ)). Contains xs (party, path)) (map_pushed told_of files file) c)

    kept : (party : Party) (path : List ℕ) → Contains (map told_of files) (party, path) → Contains (map told_of (files ++ file ∷ [])) (party, path)
    kept party path c = told party path (Contains-append_left (map told_of files) (told_of file ∷ []) (party, path) c)

    paths_of : FoundLogs → Party → List (List ℕ)
    paths_of logs party = map string_bytes (log_of logs party).names.items

    -- of the file's own party
    own_more : (path : List ℕ) → Contains (paths_of old file.party) path ⊎ (path ≡ string_bytes file.path) → Contains (map told_of (files ++ file ∷ [])) (file.party, path)
    own_more path (inl c) = kept file.party path ((logs.files_of file.party path).0 c)
    own_more path (inr e) = told file.party path (subst (λ p. Contains (map told_of files ++ told_of file ∷ []) (file.party, p)) (sym e) (Contains-push (map told_of files) (told_of file)))

    own_all : (path : List ℕ) → Contains (map told_of files) (file.party, path) ⊎ ((file.party, path) ≡ told_of file) → Contains (paths_of old file.party ++ string_bytes file.path ∷ []) path
    own_all path (inl c) = Contains-append_left (paths_of old file.party) (string_bytes file.path ∷ []) path ((logs.files_of file.party path).1 c)
    own_all path (inr e) = subst (Contains (paths_of old file.party ++ string_bytes file.path ∷ [])) (sym (ap (λ (t : Party × List ℕ). t.1) e)) (Contains-push (paths_of old file.party) (string_bytes file.path))

    own : (path : List ℕ) → Contains (paths_of new file.party) path ↔ Contains (map told_of (files ++ file ∷ [])) (file.party, path)
    own path = ((λ c. own_more path (contains_pushed (paths_of old file.party) (string_bytes file.path) path (subst (λ (xs : List (List ℕ)). Contains xs path) takes.gets.names c))), (λ c. subst (λ (xs : List (List ℕ)). Contains xs path) (sym takes.gets.names) (own_all path (untold file.party path c))))

    -- of another party
    other_all : (party : Party) (path : List ℕ) → (party ≡ file.party → ⊥) → Contains (map told_of files) (party, path) ⊎ ((party, path) ≡ told_of file) → Contains (map told_of files) (party, path)
    other_all party path other (inl c) = c
    other_all party path other (inr e) = absurd (other (ap (λ (t : Party × List ℕ). t.0) e))

    of_files : (party : Party) (path : List ℕ) → (party ≡ file.party) ⊎ (party ≡ file.party → ⊥) → Contains (paths_of new party) path ↔ Contains (map told_of (files ++ file ∷ [])) (party, path)
    of_files party path (inl e) = subst (λ p. Contains (paths_of new p) path ↔ Contains (map told_of (files ++ file ∷ [])) (p, path)) (sym e) (own path)
    of_files party path (inr other) = ((λ c. kept party path ((logs.files_of party path).0 (subst (λ (log : FoundLog). Contains (map string_bytes log.names.items) path) (takes.others party other) c))), (λ c. subst (λ (log : FoundLog). Contains (map string_bytes log.names.items) path) (sym (takes.others party other)) ((logs.files_of party path).1 (other_all party path other (untold party path c)))))

    of_survey : (party : Party) → (party ≡ file.party) ⊎ (party ≡ file.party → ⊥) → IsSurveyed bytes_of recording party (log_of new party)
    of_survey party (inl e) = subst (λ p. IsSurveyed bytes_of recording p (log_of new p)) (sym e) (takes.gets.surveyed (logs.surveyed file.party))
    of_survey party (inr other) = subst (IsSurveyed bytes_of recording party) (sym (takes.others party other)) (logs.surveyed party)

-- the logs of the files that were found
pub found_in : (names_in bytes_of : _) (recording : List ℕ) (folders : List (List ℕ)) (files : List FoundFile) (logs : FoundLogs) → AreLogsOf bytes_of recording files logs → AreFound names_in folders files → IsFoundIn names_in bytes_of folders logs
found_in names_in bytes_of recording folders files logs of_files found = record {
  files = λ party. record {
    each = λ path c. found.each party path ((of_files.files_of party path).0 c);
    all = λ folder name names named is there is_name. (of_files.files_of party (path_in folder name)).1 (found.all party folder name names named is there is_name);
  };
  recording = recording;
  surveyed = of_files.surveyed;
}

pub next_logs : (bytes_of : List ℕ → Option (List ℕ)) (recording : List ℕ) (files : List FoundFile) (i : ℕ) (file : FoundFile) (old new : FoundLogs) → i < length files → file ≡ get_or files i file → AreLogsOf bytes_of recording (take i files) old → TakesFile bytes_of recording file old new → AreLogsOf bytes_of recording (take (i + 1) files) new
next_logs bytes_of recording files i file old new lt is logs takes = subst (λ (fs : List FoundFile). AreLogsOf bytes_of recording fs new) (sym more) (logs_on bytes_of recording (take i files) file old new logs takes)
  where
    more : take (i + 1) files ≡ take i files ++ file ∷ []
    more = take_more files i file lt ∙ ap (λ (f : FoundFile). take i files ++ f ∷ []) (sym is)

-- the logs of the files that were found, once all are surveyed
pub all_surveyed : (names_in bytes_of : _) (recording : List ℕ) (folders : List (List ℕ)) (files : List FoundFile) (i : ℕ) (logs : FoundLogs) → length files ≤ i → AreLogsOf bytes_of recording (take i files) logs → AreFound names_in folders files → IsFoundIn names_in bytes_of folders logs
all_surveyed names_in bytes_of recording folders files i logs le of_files found = found_in names_in bytes_of recording folders files logs (subst (λ (fs : List FoundFile). AreLogsOf bytes_of recording fs logs) (take_all i files le) of_files) found

-- what a text says, if its bytes are these
pub says_known : (party : Party) (known read : Option (List ℕ)) (said : Option Said) → IfSome known (λ xs. read ≡ Some xs) → Says party read said → Says party known said
says_known party None read said same says = record { bytes = says.bytes; is_known = tt; says = says.says }
says_known party (Some xs) read said same says = subst (λ (k : Option (List ℕ)). Says party k said) same says
