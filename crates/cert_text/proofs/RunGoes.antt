-- What the lines that a reader of runs holds say of each text that begins with them, and how it goes on.
use Rattle.std.proofs.Common.{◌≡◌, ◌≢◌, ℕ, zero, suc, ◌+◌, ◌-◌, ◌<◌, ◌≤◌, List, [], ◌∷◌, ◌++◌, length, map, refl, sym, ap, subst, ◌∙◌, append_assoc, length-append, arith}
use Rattle.std.specs.Prelude.{Result, Ok, Err, OnOk, OnErr, IfErr}
use Rattle.std.specs.List.{AllByRecursion}
use Rattle.std.specs.Fmt.{decimal}
use Rattle.std.proofs.lemmas.List.{append-nil, length-map}
use Rattle.text_lines.specs.Text.{Begins}
use Rattle.text_lines.proofs.Cut.{Begins-front}
use Rattle.text_lines.proofs.Sections.{section_push, section_end}
use Rattle.text_lines.specs.Counted.{Part, TakesItem, TakesItems}
use Rattle.text_lines.specs.declared.FaultKind.{FaultKind}
use Rattle.text_lines.specs.declared.FaultKind.TheVariants.{Memory}
use Rattle.migration_types.specs.declared.cert.Run.{Run}
use Rattle.migration_types.specs.declared.version.Version.{Version}
use Rattle.migration_types.specs.declared.size.Size.{Size}
use Rattle.migration_types.specs.Limits.{most_runs}
use Rattle.migration_types.specs.Certs.{RunFits, Alternate, AreRuns}
use Rattle.cert_text.specs.declared.run_lines.RunStage.{RunStage}
use Rattle.cert_text.specs.declared.run_lines.RunStage.TheVariants.{Count, Runs, Done}
use Rattle.cert_text.specs.Runs.{runs_key, closing, run_line, runs_lines, SpellsRunLines}
use Rattle.cert_text.specs.inner.Held.{MayFollow, Follows, runs_onto, runs_held, RunsFit, RunsLive}
use Rattle.cert_text.proofs.RunLaws.{runs_agree, runs_end, runs_same, NextRun, next_run, all_push, all_append, alternate_push, alternate_all, another}

runs_onto_append : (d : Part Run) (a b : List (List ℕ)) → runs_onto d a ++ b ≡ runs_onto d (a ++ b)
runs_onto_append d a b = ap (λ (t : List (List ℕ)). (runs_key ++ decimal d.count) ∷ t) (append_assoc (map run_line d.items) a b)

held_append : (stage : RunStage) (d : Part Run) (b : List (List ℕ)) → runs_held stage d [] ++ b ≡ runs_held stage d b
held_append Count d b = refl
held_append Runs d b = runs_onto_append d [] b
held_append Done d b = runs_onto_append d (closing ∷ []) b

-- a fact about a stage that is known
pub live_at : (version : Version) (size : Size) (stage at : RunStage) (d : Part Run) → stage ≡ at → RunsLive version size stage d → RunsLive version size at d
live_at version size stage at d is live = subst (λ (s : RunStage). RunsLive version size s d) is live

-- runs whose lines begin with a line more than is held
pub record Goes (version : Version) (size : Size) (stage : RunStage) (d : Part Run) (line : List ℕ) : Type 0 where
  pub runs : List Run
  pub more : List (List ℕ)
  pub fits : AreRuns version size runs
  pub whole : runs_held stage d (line ∷ more) ≡ runs_lines runs

pub goes_from : (version : Version) (size : Size) (stage at : RunStage) (d : Part Run) (held : List (List ℕ)) (line : List ℕ) → runs_held stage d [] ≡ held → stage ≡ at → Begins (SpellsRunLines version size) (held ++ line ∷ []) → Goes version size at d line
goes_from version size stage at d held line e is b = subst (λ (s : RunStage). Goes version size s d line) is (record {
  runs = b.0;
  more = b.1;
  fits = b.2.0;
  whole = sym (held_append stage d (line ∷ b.1)) ∙ (ap (λ (t : List (List ℕ)). t ++ (line ∷ b.1)) e ∙ (sym (append_assoc held (line ∷ []) b.1) ∙ b.2.1));
})

pub run_at : (version : Version) (size : Size) (d : Part Run) (line : List ℕ) → RunsFit version size d → length d.items < d.count → Goes version size Runs d line → NextRun version size d.items line
run_at version size d line f less g = next_run version size d.count g.runs d.items line g.more f.few g.fits f.each less g.whole

-- behind all the runs stands the closing line
pub tail_at : (version : Version) (size : Size) (d : Part Run) (more : List (List ℕ)) (runs : List Run) → RunsFit version size d → length d.items ≡ d.count → AreRuns version size runs → runs_onto d more ≡ runs_lines runs → closing ∷ [] ≡ more
tail_at version size d more runs f full fits e = runs_end version size d.count runs d.items more f.few fits full e

-- ---- one run more

pub run_held : (d : Part Run) (run : Run) → runs_onto d [] ++ run_line run ∷ [] ≡ runs_onto (record d { items = d.items ++ run ∷ [] }) []
run_held d run =
    runs_onto_append d [] (run_line run ∷ [])
    ∙ ap (λ (t : List (List ℕ)). (runs_key ++ decimal d.count) ∷ t) (sym (section_push run_line d.items run []))

pub run_push : (version : Version) (size : Size) (d : Part Run) (run : Run) → RunsFit version size d → length d.items < d.count → RunFits version size run → MayFollow d.items run.log → RunsFit version size (record d { items = d.items ++ run ∷ [] })
run_push version size d run f less fits follows = record {
  few = f.few;
  count = omega (arith, length-append d.items (run ∷ []));
  each = all_push (RunFits version size) d.items run f.each fits;
  alternate = alternate_push d.items run f.alternate follows;
}

-- ---- what a list of runs took

-- a run came, or the list stayed as it was
pub line_fits : (version : Version) (size : Size) (d e : Part Run) (line : List ℕ) (r : Result (Unit {0}) FaultKind) → RunsFit version size d → length d.items < d.count → OnOk r (TakesItem run_line (RunFits version size) Follows d e line) → OnErr r (e ≡ d) → RunsFit version size e
line_fits version size d e line (Ok done) f less t same = subst (RunsFit version size) (sym t.grown) (run_push version size d t.item f less t.fits t.follows)
line_fits version size d e line (Err kind) f less t same = subst (RunsFit version size) (sym same) f

-- a line that no run behind these has is no line of a text
pub line_refused : (version : Version) (size : Size) (stage : RunStage) (d : Part Run) (line : List ℕ) (lines : List (List ℕ)) (r : Result (Unit {0}) FaultKind) → runs_held stage d [] ≡ lines → stage ≡ Runs → RunsLive version size stage d → length d.items < d.count → IfErr r (λ kind. kind ≢ Memory → (run : Run) → RunFits version size run → Follows d.items run → line ≢ run_line run) → IfErr r (λ kind. kind ≢ Memory → Begins (SpellsRunLines version size) (lines ++ line ∷ []) → ⊥)
line_refused version size stage d line lines (Ok done) e is live less h = tt
line_refused version size stage d line lines (Err kind) e is live less h = λ other b.
    let n = run_at version size d line (live_at version size stage Runs d is live) less (goes_from version size stage Runs d lines line e is b) in
    h other n.run n.fits n.follows n.spelled

-- many runs came
pub lines_fit : (version : Version) (size : Size) (d e : Part Run) (bytes rest : List ℕ) (n : ℕ) → RunsFit version size d → e.count ≡ d.count → length e.items ≤ e.count → TakesItems run_line (RunFits version size) Follows d.items e.items bytes rest n → RunsFit version size e
lines_fit version size d e bytes rest n f same within t =
    record {
      few = subst (λ (n : ℕ). n ≤ most_runs version size) (sym same) f.few;
      count = within;
      each = subst (AllByRecursion (RunFits version size)) (sym t.items) (all_append (RunFits version size) d.items t.taken f.each t.fits);
      alternate = subst Alternate (sym t.items) (alternate_all d.items t.taken f.alternate t.follow);
    }

-- ---- each state goes on to whole lines

-- one state goes on through the next
step : (version : Version) (size : Size) (stage next : RunStage) (d e : Part Run) (more : List (List ℕ)) → runs_held stage d [] ++ more ≡ runs_held next e [] → Begins (SpellsRunLines version size) (runs_held next e []) → Begins (SpellsRunLines version size) (runs_held stage d [])
step version size stage next d e more eq b = Begins-front (SpellsRunLines version size) (runs_held stage d []) more (subst (Begins (SpellsRunLines version size)) (sym eq) b)

done_spells : (version : Version) (size : Size) (d : Part Run) → RunsFit version size d → length d.items ≡ d.count → SpellsRunLines version size d.items (runs_held Done d [])
done_spells version size d f full = (
  record { few = subst (λ (n : ℕ). n ≤ most_runs version size) (sym full) f.few; each = f.each; alternate = f.alternate },
  ap (λ (n : ℕ). (runs_key ++ decimal n) ∷ (map run_line d.items ++ closing ∷ [])) (sym full),
)

done_begins : (version : Version) (size : Size) (d : Part Run) → RunsFit version size d → length d.items ≡ d.count → Begins (SpellsRunLines version size) (runs_held Done d [])
done_begins version size d f full =
    let s = done_spells version size d f full in
    (d.items, [], (s.0, append-nil (runs_held Done d []) ∙ s.1))

-- with so many runs to come
runs_begin : (version : Version) (size : Size) (m : ℕ) (d : Part Run) → RunsFit version size d → d.count ≡ length d.items + m → Begins (SpellsRunLines version size) (runs_held Runs d [])
runs_begin version size zero d f e = step version size Runs Done d d (closing ∷ []) (held_append Runs d (closing ∷ [])) (done_begins version size d f (omega arith))
runs_begin version size (suc m) d f e =
    let x = another version size d.items in
    let next : Part Run = record d { items = d.items ++ x.0 ∷ [] } in
    step version size Runs Runs d next (run_line x.0 ∷ []) (run_held d x.0) (runs_begin version size m next (run_push version size d x.0 f (omega arith) x.1 x.2) (omega (arith, length-append d.items (x.0 ∷ []))))

count_begins : (version : Version) (size : Size) (d : Part Run) → Begins (SpellsRunLines version size) (runs_held Count d [])
count_begins version size d =
    let next : Part Run = record { count = 0; items = [] } in
    step version size Count Runs d next ((runs_key ++ decimal 0) ∷ []) refl (runs_begin version size 0 next (record {
      few = omega arith;
      count = omega arith;
      each = tt;
      alternate = λ k d lt. absurd (omega arith);
    }) (omega arith))

pub live_begins : (version : Version) (size : Size) (stage : RunStage) (d : Part Run) → RunsLive version size stage d → Begins (SpellsRunLines version size) (runs_held stage d [])
live_begins version size Count d live = count_begins version size d
live_begins version size Runs d live = let count = live.count in runs_begin version size (d.count - length d.items) d live (omega arith)
live_begins version size Done d live = done_begins version size d live.0 live.1

-- ---- what is not whole tells no runs

runs_not_whole : (version : Version) (size : Size) (d : Part Run) → RunsFit version size d → (runs : List Run) → AreRuns version size runs → runs_onto d [] ≡ runs_lines runs → ⊥
runs_not_whole version size d f runs fits e =
    let count = f.count in
    let a = runs_agree version size d.count runs d.items [] f.few fits e in
    let l : length (map run_line runs ++ closing ∷ []) ≡ length (map run_line d.items ++ []) = ap (λ (t : List (List ℕ)). length t) a.items in
    absurd (omega (arith, l, length-append (map run_line runs) (closing ∷ []), length-append (map run_line d.items) [], length-map runs run_line, length-map d.items run_line, a.count))

not_whole_at : (version : Version) (size : Size) (stage : RunStage) (d : Part Run) → RunsLive version size stage d → stage ≢ Done → (runs : List Run) → AreRuns version size runs → runs_held stage d [] ≡ runs_lines runs → ⊥
not_whole_at version size Count d live other runs fits e = absurd cc
not_whole_at version size Runs d live other runs fits e = runs_not_whole version size d live runs fits e
not_whole_at version size Done d live other runs fits e = absurd (other refl)

pub not_whole : (version : Version) (size : Size) (stage : RunStage) (d : Part Run) (held : List (List ℕ)) → runs_held stage d [] ≡ held → RunsLive version size stage d → stage ≢ Done → (runs : List Run) → SpellsRunLines version size runs held → ⊥
not_whole version size stage d held e live other runs s = not_whole_at version size stage d live other runs s.0 (e ∙ s.1)

-- ---- no runs' lines begin those of others

pub one_list_of_runs : (version : Version) (size : Size) (v w : List Run) (more : List (List ℕ)) → AreRuns version size v → AreRuns version size w → runs_lines v ++ more ≡ runs_lines w → (v ≡ w) × (more ≡ [])
one_list_of_runs version size v w more p q e =
    let d : Part Run = record { count = length v; items = v } in
    let whole : runs_onto d (closing ∷ more) ≡ runs_lines w = sym (held_append Done d more) ∙ e in
    let g = runs_agree version size (length v) w v (closing ∷ more) p.few q whole in
    let n = section_end run_line w v (closing ∷ []) (closing ∷ more) g.items g.count in
    let ends : closing ∷ [] ≡ closing ∷ more = n.1 in
    let nothing : [] ≡ more = cc in
    (runs_same version size v w p.each q.each (sym n.0), sym nothing)
