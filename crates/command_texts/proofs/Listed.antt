-- Answers that are listed, one after the other.
use Rattle.std.proofs.Common.{◌≡◌, ◌∙◌, ℕ, ◌+◌, ◌<◌, Bool, true, false, List, [], ◌∷◌, ◌++◌, length, map, zero, suc, Option, None, Some, Result, Ok, Err, IfOk, MatchResult, inl, inr, refl, sym, ap, ap₂, subst, arith, cond, ◌==◌, take, get_or}
use Rattle.std.specs.Prelude.{◌≤◌, nat_lt, IfErr}
use Rattle.std.specs.List.{AllByRecursion, concat}
use Rattle.std.specs.Borrow.{Bor}
use Rattle.std.specs.Io.KnownBytes.{Appends, Keeps}
use Rattle.std.proofs.KnownBytes.{Appends-nil, Appends-trans, Keeps-refl, Keeps-trans}
use Rattle.std.proofs.lemmas.List.{append_assoc, append-nil, length-map, take-map, take_all, take_more}
use Rattle.command_texts.specs.declared.answer.Fault.{Fault}
use Rattle.command_texts.specs.declared.why.Telling.{Telling}
use Rattle.command_texts.specs.declared.why.Telling.TheVariants.{Short}
use Rattle.command_texts.specs.Answers.{IsListStop}
use Rattle.command_texts.specs.Reasons.{Place, TellsWhy, place_of}
use Rattle.command_texts.specs.Told.{AreRead, IsNamed, is_dash}
use Rattle.command_texts.specs.Several.{AreListed, Entry, IsListStatus, IsListed, IsRight, Said, StopsSeveral, Style, TellsEach, TellsEntry, TellsOneUnread, TellsSeveral, TellsUnread, entry_status, greater, list_end, listed, well, worst}
use Rattle.text_access.specs.Names.{Files, names_of}
use Rattle.text_access.specs.Written.{BothGain, Gains, Streams}
use Rattle.text_access.proofs.Fronts.{both_gain, front_kept, same_gains}

-- what is read under a name is read where nothing is known of the input
input_unknown : (dash : Bool) (file input : Option (List ℕ)) (text : List ℕ) → AreRead (cond dash input file) text → AreRead (cond dash None file) text
input_unknown true file input text h = record { few = h.few; whole = tt }
input_unknown false file input text h = h

pub named_anyhow : (name : List ℕ) (files : Files) (HasSession : List ℕ → List ℕ → Type 0) (input : Option (List ℕ)) (text : List ℕ) → IsNamed name files HasSession input text → IsNamed name files HasSession None text
named_anyhow name files HasSession input text (inl h) = inl (record { read = input_unknown (is_dash name) (files.bytes_of name) input text h.read; no_folder = h.no_folder })
named_anyhow name files HasSession input text (inr h) = inr h

-- ---- lists with one more at the end

take_map : (k : ℕ) (names : List (Bor (List ℕ))) → take k (names_of names) ≡ names_of (take k names)
take_map k names = take-map (λ (name : Bor (List ℕ)). name.now) k names

all_more : {A : Type 0} (P : A → Type 0) (xs : List A) (x : A) → AllByRecursion P xs → P x → AllByRecursion P (xs ++ x ∷ [])
all_more P [] x h p = (p, tt)
all_more P (y ∷ ys) x h p = (h.0, all_more P ys x h.1 p)

map_more : {A B : Type 0} (f : A → B) (xs : List A) (x : A) → map f (xs ++ x ∷ []) ≡ map f xs ++ f x ∷ []
map_more f [] x = refl
map_more f (y ∷ ys) x = ap (λ (zs : List _). f y ∷ zs) (map_more f ys x)

concat_more : (xs : List (List ℕ)) (x : List ℕ) → concat (xs ++ x ∷ []) ≡ concat xs ++ x
concat_more [] x = append-nil x
concat_more (y ∷ ys) x = ap (λ zs. y ++ zs) (concat_more ys x) ∙ sym (append_assoc y (concat ys) x)

well_more : (es : List Entry) (e : Entry) → well (es ++ e ∷ []) ≡ well es + cond (entry_status e == 0) 1 0
well_more [] e = omega arith
well_more (y ∷ ys) e = ap (λ (n : ℕ). cond (entry_status y == 0) 1 0 + n) (well_more ys e) ∙ omega arith

-- the greatest of several
greater_zero : (n : ℕ) → greater n 0 ≡ greater 0 n
greater_zero zero = refl
greater_zero (suc n) = grind arith

greater_apart : (a b c : ℕ) → greater a (greater b c) ≡ greater (greater a b) c
greater_apart a b c = grind arith

worst_more : (es : List Entry) (e : Entry) → worst (es ++ e ∷ []) ≡ greater (worst es) (entry_status e)
worst_more [] e = greater_zero (entry_status e)
worst_more (y ∷ ys) e = ap (greater (entry_status y)) (worst_more ys e) ∙ greater_apart (entry_status y) (worst ys) (entry_status e)

one_of_both : (P : ℕ → Type 0) (second : Bool) (a b : ℕ) → P a → P b → P (cond second b a)
one_of_both P true a b p q = q
one_of_both P false a b p q = p

pub greater_known : (a b : ℕ) → IsListStatus a → IsListStatus b → IsListStatus (greater a b)
greater_known a b p q = one_of_both IsListStatus (nat_lt a b) a b p q

-- ---- why texts are refused, told one after the other

pub why_behind : (telling : Telling) (place : Option Place) (a b c : Option (List ℕ)) → Keeps a b → TellsWhy telling place b c → TellsWhy telling place a c
why_behind telling None a b c k h = Keeps-trans a b c k h
why_behind telling (Some p) a b c k (inl h) = inl (Keeps-trans a b c k h)
why_behind telling (Some p) a b c k (inr h) = inr (h.0, h.1, front_kept a b c h.0 k h.2)

told_behind : (HasNote : List ℕ → ℕ → List ℕ → Type 0) (name : List ℕ) (said : Option Said) (a b c : Option (List ℕ)) → Keeps a b → TellsEntry HasNote (record { name = name; said = said }) b c → TellsEntry HasNote (record { name = name; said = said }) a c
told_behind HasNote name None a b c k h = (h.0, front_kept a b c _ k h.1)
told_behind HasNote name (Some s) a b c k h = record { between = h.between; why = why_behind Short (place_of name s.line) a b h.between k h.why; noted = h.noted }

told_more : (HasNote : List ℕ → ℕ → List ℕ → Type 0) (es : List Entry) (e : Entry) (a b c : Option (List ℕ)) → TellsEach HasNote es a b → TellsEntry HasNote e b c → TellsEach HasNote (es ++ e ∷ []) a c
told_more HasNote [] e a b c h k = (c, told_behind HasNote e.name e.said a b c h k, Keeps-refl c)
told_more HasNote (x ∷ es) e a b c h k = (h.0, h.1, told_more HasNote es e h.0 b c h.2 k)

module _ (files : Files) (HasSession : List ℕ → List ℕ → Type 0) (IsAnswer : List ℕ → List ℕ → ℕ → Type 0) (IsRefused : List ℕ → Option ℕ → Type 0) (HasNote : List ℕ → ℕ → List ℕ → Type 0) (style : Style) where
  -- nothing was listed yet
  pub none_listed : (old : Streams) → AreListed files HasSession IsAnswer IsRefused HasNote style [] old old 0 0
  none_listed old = record { entries = []; are_names = refl; are_right = tt; written = Appends-nil old.0; beside = Keeps-refl old.1; is_count = refl; is_status = refl }

  -- one more was listed
  one_listed : (names : List (List ℕ)) (name : List ℕ) (old mid new : Streams) (count worse status : ℕ) → AreListed files HasSession IsAnswer IsRefused HasNote style names old mid count worse → IsListed files HasSession IsAnswer IsRefused HasNote style name mid new status → AreListed files HasSession IsAnswer IsRefused HasNote style (names ++ name ∷ []) old new (count + cond (status == 0) 1 0) (greater worse status)
  one_listed names name old mid new count worse status h k =
      let es = h.entries in
      let e = k.entry in
      record {
        entries = es ++ e ∷ [];
        are_names = map_more (λ (x : Entry). x.name) es e ∙ ap₂ (λ (xs : List (List ℕ)) (x : List ℕ). xs ++ x ∷ []) h.are_names k.is_name;
        are_right = all_more (IsRight files HasSession IsAnswer IsRefused) es e h.are_right k.is_right;
        written = subst (Appends old.0 new.0) (sym (ap concat (map_more (listed style) es e) ∙ concat_more (map (listed style) es) (listed style e))) (Appends-trans old.0 mid.0 new.0 (concat (map (listed style) es)) (listed style e) h.written k.written);
        beside = told_more HasNote es e old.1 mid.1 new.1 h.beside k.beside;
        is_count = ap₂ (λ (n m : ℕ). n + cond (m == 0) 1 0) h.is_count k.is_status ∙ sym (well_more es e);
        is_status = ap₂ greater h.is_status k.is_status ∙ sym (worst_more es e);
      }

  -- the next of the names was listed
  pub next_listed : (names : List (Bor (List ℕ))) (k : ℕ) (d : Bor (List ℕ)) (old mid new : Streams) (count worse status : ℕ) → k < length names → AreListed files HasSession IsAnswer IsRefused HasNote style (names_of (take k names)) old mid count worse → IsListed files HasSession IsAnswer IsRefused HasNote style (get_or names k d).now mid new status → AreListed files HasSession IsAnswer IsRefused HasNote style (names_of (take (k + 1) names)) old new (count + cond (status == 0) 1 0) (greater worse status)
  next_listed names k d old mid new count worse status lt h next =
      let more : names_of (take (k + 1) names) ≡ names_of (take k names) ++ (get_or names k d).now ∷ [] = ap names_of (take_more names k d lt) ∙ map_more (λ (name : Bor (List ℕ)). name.now) (take k names) (get_or names k d) in
      subst (λ ns. AreListed files HasSession IsAnswer IsRefused HasNote style ns old new (count + cond (status == 0) 1 0) (greater worse status)) (sym more) (one_listed (names_of (take k names)) (get_or names k d).now old mid new count worse status h next)

  -- all names were listed
  pub all_listed : (names : List (Bor (List ℕ))) (k : ℕ) (old new : Streams) (count worse : ℕ) → length names ≤ k → AreListed files HasSession IsAnswer IsRefused HasNote style (names_of (take k names)) old new count worse → AreListed files HasSession IsAnswer IsRefused HasNote style (names_of names) old new count worse
  all_listed names k old new count worse le h = subst (λ ns. AreListed files HasSession IsAnswer IsRefused HasNote style (names_of ns) old new count worse) (take_all k names le) h

  -- the list ends at the next name
  pub stops_there : (names : List (Bor (List ℕ))) (k : ℕ) (old mid new : Streams) (count worse : ℕ) (fault : Fault) → AreListed files HasSession IsAnswer IsRefused HasNote style (names_of (take k names)) old mid count worse → IsListStop fault → BothGain mid new → StopsSeveral files HasSession IsAnswer IsRefused HasNote style (names_of names) old new fault
  stops_there names k old mid new count worse fault h stop gains =
      record { is_stop = stop; dealt = k; count = count; status = worse; between = mid; listed = subst (λ ns. AreListed files HasSession IsAnswer IsRefused HasNote style ns old mid count worse) (sym (take_map k names)) h; gains = gains }

  -- or behind the last
  stops_behind : (names : List (List ℕ)) (old mid new : Streams) (count worse : ℕ) (fault : Fault) → AreListed files HasSession IsAnswer IsRefused HasNote style names old mid count worse → IsListStop fault → BothGain mid new → StopsSeveral files HasSession IsAnswer IsRefused HasNote style names old new fault
  stops_behind names old mid new count worse fault h stop gains =
      record { is_stop = stop; dealt = length names; count = count; status = worse; between = mid; listed = subst (λ ns. AreListed files HasSession IsAnswer IsRefused HasNote style ns old mid count worse) (sym (take_all (length names) names (omega arith))) h; gains = gains }

  -- a text was not read
  pub unread_listed : (name : List ℕ) (old : Streams) (errors : Option (List ℕ)) (r : Result ℕ Fault) → IfOk r (λ s. (s ≡ 3) × TellsUnread name old.1 errors) → IfOk r (IsListed files HasSession IsAnswer IsRefused HasNote style name old (old.0, errors))
  unread_listed name old errors (Ok s) h = record { entry = record { name = name; said = None }; is_name = refl; is_right = tt; written = Appends-nil old.0; beside = h.1; is_status = h.0 }
  unread_listed name old errors (Err fault) h = tt

  -- all of the list was written
  told_several : (names : List (List ℕ)) (old mid : Streams) (output : Option (List ℕ)) (count all worse status : ℕ) → AreListed files HasSession IsAnswer IsRefused HasNote style names old mid count worse → all ≡ length names → status ≡ worse → Appends mid.0 output (list_end style count all) → TellsSeveral files HasSession IsAnswer IsRefused HasNote style names old (output, mid.1) status
  told_several names old mid output count all worse status h is_all same end =
      let es = h.entries in
      let many : all ≡ length es = is_all ∙ (ap length (sym h.are_names) ∙ length-map es (λ (e : Entry). e.name)) in
      record {
        entries = es;
        are_names = h.are_names;
        are_right = h.are_right;
        written = Appends-trans old.0 mid.0 output (concat (map (listed style) es)) (list_end style (well es) (length es)) h.written (subst (λ (l : List ℕ). Appends mid.0 output l) (ap₂ (list_end style) h.is_count many) end);
        beside = h.beside;
        is_status = same ∙ h.is_status;
      }

  -- or not all of it
  pub several_ends : (names : List (List ℕ)) (old mid : Streams) (output : Option (List ℕ)) (count all worse : ℕ) (r : Result ℕ Fault) → AreListed files HasSession IsAnswer IsRefused HasNote style names old mid count worse → all ≡ length names → IfOk r (λ s. s ≡ worse) → IfOk r (λ _. Appends mid.0 output (list_end style count all)) → IfErr r IsListStop → Gains mid.0 output
      → MatchResult r (TellsSeveral files HasSession IsAnswer IsRefused HasNote style names old (output, mid.1)) (StopsSeveral files HasSession IsAnswer IsRefused HasNote style names old (output, mid.1))
  several_ends names old mid output count all worse (Ok s) h is_all same end stop gains = told_several names old mid output count all worse s h is_all same end
  several_ends names old mid output count all worse (Err fault) h is_all same end stop gains = stops_behind names old mid (output, mid.1) count worse fault h stop (gains, same_gains mid.1)

-- ---- statuses of a list

pub few_listed : (r : Result ℕ Fault) → IfOk r (λ s. s < 2) → IfOk r IsListStatus
few_listed (Ok s) few = inl few
few_listed (Err fault) few = tt

pub few_read : (P : Type 0) (r : Result ℕ Fault) → IfOk r (λ s. s < 2) → IfOk r (λ s. s ≡ 3 → P)
few_read P (Ok s) few = λ three. absurd (omega (arith, few, three))
few_read P (Err fault) few = tt

pub unread_known : (P : Type 0) (r : Result ℕ Fault) → IfOk r (λ s. (s ≡ 3) × P) → IfOk r IsListStatus
unread_known P (Ok s) h = inr h.0
unread_known P (Err fault) h = tt

pub unread_there : (P : Type 0) (r : Result ℕ Fault) → IfOk r (λ s. (s ≡ 3) × P) → IfOk r (λ s. s ≡ 3 → P)
unread_there P (Ok s) h = λ three. h.1
unread_there P (Err fault) h = tt

pub same_status : (P : ℕ → Type 0) (n : ℕ) (r : Result ℕ Fault) → IfOk r (λ s. s ≡ n) → P n → IfOk r P
same_status P n (Ok s) same p = subst P (sym same) p
same_status P n (Err fault) same p = tt

-- one text was not read before, or this one is not
unread_by : (second : Bool) (worse status : ℕ) (a b c : Option (List ℕ)) (name : List ℕ) → Gains a b → Gains b c → (worse ≡ 3 → TellsOneUnread a b) → (status ≡ 3 → TellsUnread name b c) → cond second status worse ≡ 3 → TellsOneUnread a c
unread_by true worse status a b c name before more one next three = record { name = name; before = b; behind = c; gained = before; told = next three; more = same_gains c }
unread_by false worse status a b c name before more one next three =
    let h = one three in
    record { name = h.name; before = h.before; behind = h.behind; gained = h.gained; told = h.told; more = both_gain h.behind b c h.more more }

pub one_unread : (worse status : ℕ) (a b c : Option (List ℕ)) (name : List ℕ) → Gains a b → Gains b c → (worse ≡ 3 → TellsOneUnread a b) → (status ≡ 3 → TellsUnread name b c) → greater worse status ≡ 3 → TellsOneUnread a c
one_unread worse status a b c name before more one next three = unread_by (nat_lt worse status) worse status a b c name before more one next three
