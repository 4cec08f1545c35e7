use Rattle.std.proofs.Common.{◌≡◌, ◌∙◌, ℕ, List, [], ◌∷◌, ◌++◌, Option, None, refl, sym, ap, subst, map, append_assoc}
use Rattle.std.proofs.lemmas.List.{map-append}
use Rattle.recorder_files.specs.Gathered.{Numbered}
use Rattle.recorder_files.specs.Said.{CameTo, Goes, Standing}
use Rattle.recorder_files.specs.declared.lines.Party.TheVariants.{Machine}
use Rattle.recorder_files.specs.Machine.{numbered_line, AreMachineRecs, FileTells, IsMachineLogFault, IsMachineRec}
use Rattle.recorder_files.specs.declared.machine_log.MachineEntry.{MachineEntry}
use Rattle.recorder_files.specs.declared.machine_log.MachineLogFault.{MachineLogFault}
use Rattle.recorder_files.specs.declared.machine_log.MachineLogFault.TheVariants.{File, Record, Memory}
use Rattle.recorder_files.specs.inner.Described.{IsTextFault}

recs_push : (entries : List MachineEntry) (e : MachineEntry) → AreMachineRecs entries → IsMachineRec e.rec → AreMachineRecs (entries ++ e ∷ [])
recs_push [] e h is = (is, tt)
recs_push (x ∷ entries) e h is = (h.0, recs_push entries e h.1 is)

-- the record that came is this one
pub entry_came : (known : Option (List ℕ)) (s : Standing) (entries : List MachineEntry) (e : MachineEntry) (number : ℕ) (text : List ℕ) → CameTo Machine known s (map numbered_line entries ++ (number, s.text) ∷ []) → text ≡ s.text → numbered_line e ≡ (number, text) → CameTo Machine known s (map numbered_line (entries ++ e ∷ []))
entry_came known s entries e number text came same is =
    subst (λ (xs : Numbered (List ℕ)). CameTo Machine known s xs) (ap (λ (x : ℕ × List ℕ). map numbered_line entries ++ x ∷ []) (ap (λ (t : List ℕ). (number, t)) (sym same) ∙ sym is) ∙ sym (map-append numbered_line entries (e ∷ []))) came

pub entries_more : (known : Option (List ℕ)) (s : Standing) (old now new entries : List MachineEntry) (number : ℕ) (text : List ℕ) → CameTo Machine known s (map numbered_line entries ++ (number, s.text) ∷ []) → text ≡ s.text → AreMachineRecs entries → now ≡ old ++ entries → (e : MachineEntry) × IsMachineRec e.rec × (numbered_line e ≡ (number, text)) × (new ≡ now ++ e ∷ []) → (more : List MachineEntry) × CameTo Machine known s (map numbered_line more) × AreMachineRecs more × (new ≡ old ++ more)
entries_more known s old now new entries number text came same are is pushed =
    let e = pushed.0 in
    (entries ++ e ∷ [], entry_came known s entries e number text came same pushed.2, recs_push entries e are pushed.1, pushed.3 ∙ (ap (λ (xs : List MachineEntry). xs ++ e ∷ []) is ∙ append_assoc old entries (e ∷ [])))

pub file_tells : (known : Option (List ℕ)) (s : Standing) (entries : List MachineEntry) → Goes Machine known s (map numbered_line entries) None → AreMachineRecs entries → FileTells known entries
file_tells known s entries says are = record {
  said = record { name = s.name; opening = s.opening; records = map numbered_line entries; last = s.last };
  says = says;
  records = refl;
  each = are;
}

pub text_fault : (known : Option (List ℕ)) (s : Standing) (entries : List MachineEntry) (number : ℕ) (text : List ℕ) (fault : MachineLogFault) → AreMachineRecs entries → CameTo Machine known s (map numbered_line entries ++ (number, s.text) ∷ []) → text ≡ s.text → IsTextFault text number fault → IsMachineLogFault known s fault
text_fault known s entries number text (File fault) are came same h = absurd h
text_fault known s entries number text (Record n) are came same h = (entries, are, subst (λ k. CameTo Machine known s (map numbered_line entries ++ (k, s.text) ∷ [])) (sym h.0) came, λ r is e. h.1 r is (same ∙ e))
text_fault known s entries number text Memory are came same h = tt
