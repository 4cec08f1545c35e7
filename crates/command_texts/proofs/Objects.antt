-- Answers as they are written.
use Rattle.std.proofs.Common.{◌≡◌, ◌∙◌, ℕ, List, ◌++◌, Option, Some, None, take, drop, codes, ap, subst, sym, refl, inl, inr}
use Rattle.std.specs.Prelude.{Bool, true, false, is_some, option_map, if◌then◌else◌}
use Rattle.command_texts.specs.declared.why.Telling.{Telling}
use Rattle.command_texts.specs.declared.why.Telling.TheVariants.{Short, Full, Fields}
use Rattle.command_texts.specs.declared.why.Why.{Why}
use Rattle.command_texts.proofs.Cuts.{split_parts}
use Rattle.command_texts.specs.Fields.{HasFields, IsAnswerTold, IsTold}
use Rattle.std.specs.Option.{option_or}
use Rattle.command_texts.specs.Reasons.{place_of, told_place}

-- a text is refused if there is a reason
pub some_place : (why : Option Why) (name : List ℕ) (line : Option ℕ) → option_map told_place why ≡ place_of name line → is_some why ≡ is_some line
some_place None name None e = refl
some_place None name (Some n) e = absurd cc
some_place (Some why) name None e = absurd cc
some_place (Some why) name (Some n) e = refl

-- and one of two texts, if there is a reason for one of them
some_either : (first second : Option Why) (one_name other_name : List ℕ) (one other : Option ℕ) → option_map told_place first ≡ place_of one_name one → option_map told_place second ≡ place_of other_name other → is_some (option_or first second) ≡ is_some (option_or one other)
some_either None second one_name other_name None other e f = some_place second other_name other f
some_either None second one_name other_name (Some n) other e f = absurd cc
some_either (Some why) second one_name other_name None other e f = absurd cc
some_either (Some why) second one_name other_name (Some n) other e f = refl

-- the reason that is told is there if there is one for one of them
some_told : (about_second : Bool) (why first second : Option Why) → why ≡ (if about_second then option_or second first else option_or first second) → is_some why ≡ is_some (option_or first second)
some_told false why first second e = ap is_some e
some_told true why None None e = ap is_some e
some_told true why None (Some other) e = ap is_some e
some_told true why (Some one) None e = ap is_some e
some_told true why (Some one) (Some other) e = ap is_some e

pub some_of_two : (about_second : Bool) (why first second : Option Why) (one_name other_name : List ℕ) (one other : Option ℕ) → why ≡ (if about_second then option_or second first else option_or first second)
    → option_map told_place first ≡ place_of one_name one → option_map told_place second ≡ place_of other_name other → is_some why ≡ is_some (option_or one other)
some_of_two about_second why first second one_name other_name one other told e f = some_told about_second why first second told ∙ some_either first second one_name other_name one other e f

-- an answer that stays is one that may have fields
same_told : (refused : Bool) (answer told : List ℕ) → told ≡ answer → IsTold Fields refused answer told
same_told true answer told e = inl e
same_told false answer told e = e

module _ {T : Type 0} (IsRefused : T → Option ℕ → Type 0) (IsAnswer : T → List ℕ → ℕ → Type 0) (texts : T) (line : Option ℕ) (answer told : List ℕ) (status : ℕ) where
  same_answer : (how : Telling) → IsRefused texts line → IsAnswer texts answer status → told ≡ answer → IsAnswerTold how IsRefused IsAnswer texts told status
  same_answer Short is is_answer e = rw e is_answer
  same_answer Full is is_answer e = rw e is_answer
  same_answer Fields is is_answer e = record { line = line; is_line = is; answer = answer; is_answer = is_answer; is_told = same_told (is_some line) answer told e }

  -- an answer is written so, by how much is told of the text
  pub answer_told : (telling how : Telling) (refused : Bool) → (telling ≡ Fields → how ≡ Fields) → refused ≡ is_some line → IsRefused texts line → IsAnswer texts answer status → IsTold telling refused answer told → IsAnswerTold how IsRefused IsAnswer texts told status
  answer_told Short how refused only same is is_answer h = same_answer how is is_answer h
  answer_told Full how refused only same is is_answer h = same_answer how is is_answer h
  answer_told Fields how refused only same is is_answer h =
      subst (λ (t : Telling). IsAnswerTold t IsRefused IsAnswer texts told status) (sym (only refl))
      (record { line = line; is_line = is; answer = answer; is_answer = is_answer; is_told = subst (λ (b : Bool). IsTold Fields b answer told) same h })

-- an object that ends as one does
pub front_is : (object front back : List ℕ) (k : ℕ) → front ≡ take k object → back ≡ drop k object → back ≡ codes "}\n" → object ≡ take k object ++ codes "}\n"
front_is object front back k f b end = split_parts object (take k object) (codes "}\n") k refl (sym end ∙ b)

-- and the same with more fields
pub has_more : (object fields told : List ℕ) (k : ℕ) → object ≡ take k object ++ codes "}\n" → told ≡ (take k object ++ fields) ++ codes "}\n" → HasFields object told
has_more object fields told k before after = inr record { front = take k object; more = fields; before = before; after = after }
