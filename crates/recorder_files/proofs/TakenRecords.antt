-- A gathered log, as its records are taken.
use Rattle.std.proofs.Common.{◌≡◌, ℕ, List, [], ◌∷◌, ◌++◌, length, Option, Some, None, sym, ap, subst, ◌∙◌}
use Rattle.std.specs.Prelude.{◌≢◌, MatchOption, map}
use Rattle.std.proofs.lemmas.List.{length-map, map-append}
use Rattle.recorder_files.specs.declared.lines.Party.{Party}
use Rattle.recorder_files.specs.declared.gatherers.GatherFault.{GatherFault}
use Rattle.recorder_files.specs.declared.gatherers.GatherFault.TheVariants.{Missing}
use Rattle.recorder_files.specs.declared.taking.LogFault.TheVariants.{Files, Record, Memory}
use Rattle.recorder_files.specs.declared.taking.TakingFault.{TakingFault}
use Rattle.recorder_files.specs.declared.taking.TakingFault.TheVariants.{Log, Unfit}
use Rattle.recorder_files.specs.Logs.{Came, Gathering, IsGatherFault, SayLog, text_in}
use Rattle.recorder_files.specs.Records.{IsTakingFault, SayUpTo}
use Rattle.recorder_files.specs.inner.Noting.{Adds, IsTextFault, Notes, TakesText}
use Rattle.recorder_files.proofs.Elements.{all_push}

-- the next record's number and text
pub comes_next : (party : Party) (knowns : List (Option (List ℕ))) (now : Gathering) (log : List (List ℕ)) (found : Option ℕ) (number : ℕ) (text : List ℕ) → found ≡ Some number → text ≡ text_in now.files now.given → MatchOption found (SayLog party knowns now.files log) (λ n. (n ≡ length log) × Came party knowns now (log ++ text_in now.files now.given ∷ [])) → (number ≡ length log) × Came party knowns now (log ++ text ∷ [])
comes_next party knowns now log found number text is same came =
    let taken : (number ≡ length log) × Came party knowns now (log ++ text_in now.files now.given ∷ []) = subst (λ o. MatchOption o (SayLog party knowns now.files log) (λ n. (n ≡ length log) × Came party knowns now (log ++ text_in now.files now.given ∷ []))) is came in
    (taken.0, subst (λ t. Came party knowns now (log ++ t ∷ [])) (sym same) taken.1)

-- the next record came, and was taken
pub notes_more : {X T S : Type 0} (line : X → List ℕ) (IsOf : X → Type 0) (Takes : T → S → T → S → List X → Type 0) (party : Party) (knowns : List (Option (List ℕ))) (g now : Gathering) (before mid after : T) (onto half new : S) (text : List ℕ) (number : ℕ) → (n : Notes line IsOf Takes party knowns g before onto mid half) → number ≡ length (map line n.records) → Came party knowns now (map line n.records ++ text ∷ []) → TakesText line IsOf Takes text number mid half after new → Notes line IsOf Takes party knowns now before onto after new
notes_more line IsOf Takes party knowns g now before mid after onto half new text number n counted came taken = record {
  records = n.records ++ taken.rec ∷ [];
  came = subst (Came party knowns now) (ap (λ t. map line n.records ++ t ∷ []) taken.is_line ∙ sym (map-append line n.records (taken.rec ∷ []))) came;
  each = all_push IsOf n.records taken.rec n.each taken.is_of;
  took = λ first from takes. taken.took first from n.records (counted ∙ length-map n.records line) (n.took first from takes);
}

-- no record is left
pub says_records : {X T S : Type 0} (line : X → List ℕ) (IsOf : X → Type 0) (Takes : T → S → T → S → List X → Type 0) (party : Party) (knowns : List (Option (List ℕ))) (g now : Gathering) (before after : T) (onto new : S) (found : Option ℕ) → (n : Notes line IsOf Takes party knowns g before onto after new) → found ≡ None → MatchOption found (SayLog party knowns now.files (map line n.records)) (λ m. (m ≡ length (map line n.records)) × Came party knowns now (map line n.records ++ text_in now.files now.given ∷ [])) → (records : List X) × SayUpTo line IsOf party knowns now None records × Adds Takes before onto after new records
says_records line IsOf Takes party knowns g now before after onto new found n none taken =
    let says : SayLog party knowns now.files (map line n.records) = subst (λ o. MatchOption o (SayLog party knowns now.files (map line n.records)) (λ m. (m ≡ length (map line n.records)) × Came party knowns now (map line n.records ++ text_in now.files now.given ∷ []))) none taken in
    (n.records, record { log = says; each = n.each }, n.took)

-- no file has the next record
pub says_to_hole : {X T S : Type 0} (line : X → List ℕ) (IsOf : X → Type 0) (Takes : T → S → T → S → List X → Type 0) (party : Party) (knowns : List (Option (List ℕ))) (g now : Gathering) (before after : T) (onto new : S) (fault : GatherFault) (least : ℕ) → (n : Notes line IsOf Takes party knowns g before onto after new) → fault ≡ Missing least → IsGatherFault party knowns now (map line n.records) fault → (records : List X) × SayUpTo line IsOf party knowns now (Some least) records × Adds Takes before onto after new records
says_to_hole line IsOf Takes party knowns g now before after onto new fault least n is missing = (n.records, record { log = subst (IsGatherFault party knowns now (map line n.records)) is missing; each = n.each }, n.took)

-- the next record came, and was not taken
pub is_refused : {X T S : Type 0} (line : X → List ℕ) (IsOf : X → Type 0) (Takes : T → S → T → S → List X → Type 0) (IsUnfit : T → ℕ → X → Type 0) (party : Party) (knowns : List (Option (List ℕ))) (g now : Gathering) (before mid : T) (onto half : S) (text : List ℕ) (number : ℕ) (fault : TakingFault) → (n : Notes line IsOf Takes party knowns g before onto mid half) → number ≡ length (map line n.records) → Came party knowns now (map line n.records ++ text ∷ []) → IsTextFault line IsOf IsUnfit text number mid fault → IsTakingFault line IsOf Takes IsUnfit party knowns now before onto fault
is_refused line IsOf Takes IsUnfit party knowns g now before mid onto half text number (Log (Files why)) n counted came fault = absurd fault
is_refused line IsOf Takes IsUnfit party knowns g now before mid onto half text number (Log (Record m)) n counted came fault = (n.records, n.each, fault.0 ∙ (counted ∙ length-map n.records line), (text, came, fault.1))
is_refused line IsOf Takes IsUnfit party knowns g now before mid onto half text number (Log Memory) n counted came fault = tt
is_refused line IsOf Takes IsUnfit party knowns g now before mid onto half text number (Unfit m) n counted came fault = record {
  records = n.records;
  each = n.each;
  number = fault.0 ∙ (counted ∙ length-map n.records line);
  rec = fault.1.rec;
  is_of = fault.1.is_of;
  came = subst (λ t. Came party knowns now (map line n.records ++ t ∷ [])) fault.1.is_line came;
  at = mid;
  at_onto = half;
  took = n.took;
  unfit = subst (λ k. IsUnfit mid k fault.1.rec) (sym fault.0) fault.1.unfit;
}

-- nor is it that a number is missing
pub not_missing : {X T : Type 0} (line : X → List ℕ) (IsOf : X → Type 0) (IsUnfit : T → ℕ → X → Type 0) (text : List ℕ) (number : ℕ) (taker : T) (fault : TakingFault) → IsTextFault line IsOf IsUnfit text number taker fault → (n : ℕ) → fault ≢ Log (Files (Missing n))
not_missing line IsOf IsUnfit text number taker (Log (Files why)) is n e = absurd is
not_missing line IsOf IsUnfit text number taker (Log (Record m)) is n e = absurd cc
not_missing line IsOf IsUnfit text number taker (Log Memory) is n e = absurd cc
not_missing line IsOf IsUnfit text number taker (Unfit m) is n e = absurd cc
