-- Words of sentences that are added one after the other.
use Rattle.std.proofs.Common.{◌≡◌, ◌∙◌, ℕ, ◌+◌, ◌<◌, ◌≤◌, List, [], ◌∷◌, ◌++◌, length, take, get_or, sym, ap, refl, subst}
use Rattle.std.proofs.lemmas.List.{append-nil, append_assoc, take_all, take_more}
use Rattle.story_words.specs.declared.sentences.Sentence.{Sentence}
use Rattle.story_words.specs.Writing.{Adds, AreWritten}

-- the words of one more sentence
written_more : (IsWritten : Sentence → List ℕ → Type 0) (sentences : List Sentence) (one : Sentence) (words more : List ℕ) → AreWritten IsWritten sentences words → IsWritten one more → AreWritten IsWritten (sentences ++ one ∷ []) (words ++ more)
written_more IsWritten [] one words more is here = (more, [], here, refl, ap (λ (t : List ℕ). t ++ more) is ∙ sym (append-nil more))
written_more IsWritten (sentence ∷ sentences) one words more (first, others, this, behind, joined) here =
    (first, others ++ more, this, written_more IsWritten sentences one others more behind here, ap (λ (t : List ℕ). t ++ more) joined ∙ append_assoc first others more)

-- no sentence was added yet
pub none_added : (IsWritten : Sentence → List ℕ → Type 0) (old : List ℕ) → Adds (AreWritten IsWritten []) old old
none_added IsWritten old = ([], refl, sym (append-nil old))

-- the words of the sentence of this index were added
pub one_added : (IsWritten : Sentence → List ℕ → Type 0) (sentences : List Sentence) (i : ℕ) (one : Sentence) (old now new : List ℕ) → i < length sentences → one ≡ get_or sentences i one → Adds (AreWritten IsWritten (take i sentences)) old now → Adds (IsWritten one) now new → Adds (AreWritten IsWritten (take (i + 1) sentences)) old new
one_added IsWritten sentences i one old now new lt is (words, written, now_is) (more, here, new_is) =
    let P : List Sentence → Type 0 = λ these. AreWritten IsWritten these (words ++ more) in
    let longer = ap (λ (it : Sentence). take i sentences ++ it ∷ []) is ∙ sym (take_more sentences i one lt) in
    (words ++ more, subst P longer (written_more IsWritten (take i sentences) one words more written here), new_is ∙ ap (λ (t : List ℕ). t ++ more) now_is ∙ append_assoc old words more)

-- all sentences were added
pub all_added : (IsWritten : Sentence → List ℕ → Type 0) (sentences : List Sentence) (i : ℕ) (old new : List ℕ) → length sentences ≤ i → Adds (AreWritten IsWritten (take i sentences)) old new → Adds (AreWritten IsWritten sentences) old new
all_added IsWritten sentences i old new past added =
    let P : List Sentence → Type 0 = λ these. Adds (AreWritten IsWritten these) old new in
    subst P (take_all i sentences past) added
