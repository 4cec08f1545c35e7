-- What each of the records that wait for one another waits for, told one after the other.
use Rattle.std.proofs.Common.{◌≡◌, ◌∙◌, ℕ, ◌+◌, ◌<◌, List, [], ◌∷◌, ◌++◌, length, drop, get_or, sym, ap}
use Rattle.std.proofs.lemmas.List.{append_assoc, drop_more}
use Rattle.story_words.specs.declared.sentences.Sentence.{Sentence}
use Rattle.story_words.specs.declared.sentences.Sentence.TheVariants as say
use Rattle.session_story.specs.declared.knots.Knot.{Knot}
use Rattle.session_story.specs.declared.knots.Waiting.{Waiting}
use Rattle.story_words.specs.Sentences.{waits_told}
use Rattle.session_story.specs.Waits.{next_in}

module _ (knot : Knot) where
  -- the sentences of the records from this index on
  abbrev pub told_from : ℕ → List Sentence
  told_from i = waits_told knot i (drop i knot.waits.items)

  next_told : (i : ℕ) (w : Waiting) → i < length knot.waits.items → w ≡ get_or knot.waits.items i w → told_from i ≡ (say.Waits w (next_in knot i) ∷ []) ++ told_from (i + 1)
  next_told i w lt is =
      ap (λ (ws : List Waiting). waits_told knot i ws) (drop_more knot.waits.items i w lt)
      ∙ ap (λ (v : Waiting). say.Waits v (next_in knot i) ∷ told_from (i + 1)) (sym is)

  -- the sentence of a record was added
  pub wait_added : (whole out more : List Sentence) (i : ℕ) (w : Waiting) → i < length knot.waits.items → w ≡ get_or knot.waits.items i w → out ++ told_from i ≡ whole → more ≡ out ++ (say.Waits w (next_in knot i) ∷ []) → more ++ told_from (i + 1) ≡ whole
  wait_added whole out more i w lt is so_far added =
      ap (λ (t : List Sentence). t ++ told_from (i + 1)) added
      ∙ append_assoc out (say.Waits w (next_in knot i) ∷ []) (told_from (i + 1))
      ∙ ap (λ (t : List Sentence). out ++ t) (sym (next_told i w lt is))
      ∙ so_far
