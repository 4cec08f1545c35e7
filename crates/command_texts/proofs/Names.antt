-- The texts under two names.
use Rattle.std.proofs.Common.{◌≡◌, ◌∙◌, ◌⊎◌, ℕ, List, subst, refl, sym, codes, inl, inr}
use Rattle.std.specs.Prelude.{Bool, true, false, Option, Some, None, Result, Ok, Err, IfOk, IfSome, if◌then◌else◌, ◌&&◌}
use Rattle.std.proofs.lemmas.Slice.Eq.{bytes_eq-Decides}
use Rattle.command_texts.specs.declared.answer.Fault.{Fault}
use Rattle.std.specs.Option.{option_map, option_or}
use Rattle.text_access.specs.Names.{Files}
use Rattle.command_texts.specs.Told.{is_dash, bytes_under, AreRead, IsOpened, IsNamed, AreTextsBy, AreNamed}

same_under : (a b : Bool) (file input mid : Option (List ℕ)) → false ≡ (a && b) → (a ≡ false → mid ≡ input) → (if b then mid else file) ≡ (if b then input else file)
same_under a false file input mid e h = refl
same_under false true file input mid e h = h refl
same_under true true file input mid e h = absurd cc

named_alike : (name : List ℕ) (files : Files) (HasSession : List ℕ → List ℕ → Type 0) (input other : Option (List ℕ)) (text : List ℕ) → bytes_under name files input ≡ bytes_under name files other → IsNamed name files HasSession input text → IsNamed name files HasSession other text
named_alike name files HasSession input other text same (inl h) = inl (record { read = subst (λ (known : Option (List ℕ)). AreRead known text) same h.read; no_folder = h.no_folder })
named_alike name files HasSession input other text same (inr h) = inr h

-- the texts under two names, which are not both the input: where the first is not, it leaves the input
pub are_named : (first second : List ℕ) (files : Files) (HasFirst HasSecond : List ℕ → List ℕ → Type 0) (input mid : Option (List ℕ)) (t u : List ℕ) → false ≡ (is_dash first && is_dash second) → (is_dash first ≡ false → mid ≡ input) → IsNamed first files HasFirst input t → IsNamed second files HasSecond mid u → AreNamed first second files HasFirst HasSecond input (t, u)
are_named first second files HasFirst HasSecond input mid t u apart_yet apart p q =
    let same : bytes_under second files mid ≡ bytes_under second files input = same_under (is_dash first) (is_dash second) (files.bytes_of second) input mid apart_yet apart in
    subst (λ (b : Bool). AreTextsBy b (IsNamed first files HasFirst input) (IsNamed second files HasSecond input) input (t, u)) apart_yet (p, named_alike second files HasSecond mid input u same q)

-- the first of two, seen so
pub map_or : {X Y : Type 0} (f : X → Y) (a b : Option X) → option_map f (option_or a b) ≡ option_or (option_map f a) (option_map f b)
map_or f None b = refl
map_or f (Some x) b = refl

-- what was read of what has the known bytes was read of these
known_file : (file known : Option (List ℕ)) (text : List ℕ) → IfSome file (λ xs. known ≡ Some xs) → AreRead known text → AreRead file text
known_file None known text e h = record { few = h.few; whole = tt }
known_file (Some xs) known text e h = subst (λ (k : Option (List ℕ)). AreRead k text) e h

opened_named : (name : List ℕ) (files : Files) (HasSession : List ℕ → List ℕ → Type 0) (input remaining : Option (List ℕ)) (text : List ℕ) → is_dash name ≡ false
    → IfSome (files.bytes_of name) (λ xs. remaining ≡ Some xs) → (files.names_in name ≡ None) ⊎ ((text : List ℕ) × HasSession name text × (remaining ≡ Some text)) → AreRead remaining text → IsNamed name files HasSession input text
opened_named name files HasSession input remaining text plain bytes (inl none) h = inl (record {
  read = subst (λ (b : Bool). AreRead (if b then input else files.bytes_of name) text) (sym plain) (known_file (files.bytes_of name) remaining text bytes h);
  no_folder = λ _. none;
})
opened_named name files HasSession input remaining text plain bytes (inr (found, has, is)) h =
    let same : text ≡ found = (subst (λ (known : Option (List ℕ)). AreRead known text) is h).whole in
    inr (plain, subst (HasSession name) (sym same) has)

-- what was read of a text that was opened is the text that its name stands for
pub named_file : {V : Type 0} (r : Result V Fault) (IsFound IsRefused : List ℕ → V → Type 0) (name : List ℕ) (files : Files) (HasSession : List ℕ → List ℕ → Type 0) (input remaining : Option (List ℕ)) → is_dash name ≡ false
    → IsOpened name files HasSession remaining
    → IfOk r (λ v. (text : List ℕ) × AreRead remaining text × IsFound text v × IsRefused text v)
    → IfOk r (λ v. (text : List ℕ) × IsNamed name files HasSession input text × IsFound text v × IsRefused text v)
named_file (Ok v) IsFound IsRefused name files HasSession input remaining plain opened h = (h.0, opened_named name files HasSession input remaining h.0 plain opened.bytes opened.named h.1, h.2, h.3)
named_file (Err fault) IsFound IsRefused name files HasSession input remaining plain opened h = tt

true_false : ◌≡◌ {A = Bool} true false → ⊥
true_false e = cc

-- what was read of the input is the text that its name stands for
pub named_input : {V : Type 0} (r : Result V Fault) (IsFound IsRefused : List ℕ → V → Type 0) (name : List ℕ) (files : Files) (HasSession : List ℕ → List ℕ → Type 0) (input : Option (List ℕ)) → is_dash name ≡ true
    → IfOk r (λ v. (text : List ℕ) × AreRead input text × IsFound text v × IsRefused text v)
    → IfOk r (λ v. (text : List ℕ) × IsNamed name files HasSession input text × IsFound text v × IsRefused text v)
named_input (Ok v) IsFound IsRefused name files HasSession input dash h = (
  h.0,
  inl (record {
    read = subst (λ (b : Bool). AreRead (if b then input else files.bytes_of name) h.0) (sym dash) h.1;
    no_folder = λ other. absurd (true_false (sym dash ∙ other));
  }),
  h.2,
  h.3,
)
named_input (Err fault) IsFound IsRefused name files HasSession input dash h = tt

both_true : (x y : Bool) → true ≡ (x && y) → (x ≡ true) × (y ≡ true)
both_true true y e = (refl, sym e)
both_true false y e = absurd cc

-- both names are the input's
pub dashes : (a b : List ℕ) → true ≡ (is_dash a && is_dash b) → (a ≡ codes "-") × (b ≡ codes "-")
dashes a b both =
    let e = both_true (is_dash a) (is_dash b) both in
    ((bytes_eq-Decides a (codes "-")).0 e.0, (bytes_eq-Decides b (codes "-")).0 e.1)
