-- A reader of scripts takes the lines that may come of the virtual processors, and no others.
use Rattle.std.proofs.Common.{◌≡◌, ◌≢◌, ℕ, ◌+◌, ◌<◌, ◌≤◌, List, [], ◌∷◌, ◌++◌, length, map, refl, sym, ap, subst, ◌∙◌, append_assoc, length-append, arith}
use Rattle.std.specs.List.{AllByRecursion}
use Rattle.std.specs.Fmt.{decimal}
use Rattle.std.proofs.lemmas.List.{append-nil}
use Rattle.text_lines.specs.Counted.{Part}
use Rattle.text_lines.proofs.Sections.{section_push}
use Rattle.migration_types.specs.declared.version.Version.{Version}
use Rattle.migration_types.specs.Extents.{Extent, IsExtent}
use Rattle.migration_events.specs.declared.ops.Op.{Op}
use Rattle.migration_events.specs.Ops.{OpFits, LateOpFits}
use Rattle.session_grammar.specs.Grammar.{closing}
use Rattle.guest_script.specs.declared.vcpus.Vcpu.{Vcpu}
use Rattle.guest_script.specs.declared.stages.ScriptStage.TheVariants.{Count, First, Ops, Done}
use Rattle.guest_script.specs.declared.script.Scenario.{Scenario}
use Rattle.guest_script.specs.Scenarios.{VcpuFits, IsScenario}
use Rattle.guest_script.specs.Scripts.{vcpus_key, op_line, counts_line, vcpu_onto, vcpus_onto}
use Rattle.guest_script.specs.inner.ScriptHeld.{ScriptDraft, machine_of, held_lanes, held_vcpus, held_ops, vcpu_of, AgreesLane, OpsLeft, FitsLane, FitsCount, FitsOps, ScriptLive}
use Rattle.guest_script.specs.inner.ScriptDraft.{HasAllOps, begun, ended}
use Rattle.guest_script.proofs.Lists.{all_at, all_append}
use Rattle.guest_script.proofs.TextLists.{cons_parts, cons_same, keyed_same, none_left}
use Rattle.guest_script.proofs.LateOps.{late_op}
use Rattle.guest_script.proofs.ScriptTells.{counts_tell, op_tells}
use Rattle.guest_script.proofs.ScriptSteps.{Taken, RefusesAt, step}

-- ---- lines of virtual processors

pub vcpus_append : (vcpus : List Vcpu) (a b : List (List ℕ)) → vcpus_onto vcpus a ++ b ≡ vcpus_onto vcpus (a ++ b)
vcpus_append [] a b = refl
vcpus_append (vcpu ∷ vcpus) a b =
    let late = append_assoc (map op_line vcpu.after_move) (vcpus_onto vcpus a) b ∙ ap (λ (t : List (List ℕ)). map op_line vcpu.after_move ++ t) (vcpus_append vcpus a b) in
    let early = append_assoc (map op_line vcpu.before_move) (map op_line vcpu.after_move ++ vcpus_onto vcpus a) b ∙ ap (λ (t : List (List ℕ)). map op_line vcpu.before_move ++ t) late in
    ap (λ (t : List (List ℕ)). counts_line (length vcpu.before_move) (length vcpu.after_move) ∷ t) early

pub vcpus_push : (vcpus : List Vcpu) (vcpu : Vcpu) (more : List (List ℕ)) → vcpus_onto (vcpus ++ vcpu ∷ []) more ≡ vcpus_onto vcpus (vcpu_onto vcpu more)
vcpus_push [] vcpu more = refl
vcpus_push (first ∷ vcpus) vcpu more = ap (λ (t : List (List ℕ)). vcpu_onto first t) (vcpus_push vcpus vcpu more)

-- a virtual processor that may come
pub record NextVcpu (back : List Vcpu) (line : List ℕ) (more : List (List ℕ)) : Type 0 where
  pub vcpu : Vcpu
  pub others : List Vcpu
  pub whole : back ≡ vcpu ∷ others
  pub spelled : line ≡ counts_line (length vcpu.before_move) (length vcpu.after_move)
  pub lines : more ≡ map op_line vcpu.before_move ++ (map op_line vcpu.after_move ++ vcpus_onto others (closing ∷ []))
  pub few_before : length vcpu.before_move ≤ 65536
  pub few_after : length vcpu.after_move ≤ 65536

next_vcpu : (version : Version) (e : Extent) (back : List Vcpu) (line : List ℕ) (more : List (List ℕ)) → AllByRecursion (VcpuFits version e) back → 0 < length back → line ∷ more ≡ vcpus_onto back (closing ∷ []) → NextVcpu back line more
next_vcpu version e [] line more fits some is = absurd (omega arith)
next_vcpu version e (vcpu ∷ others) line more fits some is =
    let parts = cons_parts line (counts_line (length vcpu.before_move) (length vcpu.after_move)) more (map op_line vcpu.before_move ++ (map op_line vcpu.after_move ++ vcpus_onto others (closing ∷ []))) is in
    record { vcpu = vcpu; others = others; whole = refl; spelled = parts.0; lines = parts.1; few_before = fits.0.few_before; few_after = fits.0.few_after }

all_behind : {X : Type 0} (P : X → Type 0) (front back : List X) → AllByRecursion P (front ++ back) → AllByRecursion P back
all_behind P [] back h = h
all_behind P (x ∷ front) back h = all_behind P front back h.1

-- what came before the virtual processors, whatever came of these
front_fits : (d : ScriptDraft) (count : ℕ) (vcpus : List Vcpu) (before after : Part Op) → FitsLane d → FitsLane (record d { count = count; vcpus = vcpus; before = before; after = after })
front_fits d count vcpus before after f =
    let u = f.before in
    let w = u.before.before in
    let p = w.before in
    record { before = record { before = record { before = record { before = record { geometry = p.geometry; init = p.init; some = p.some; few = p.few }; some = w.some; few = w.few }; few = u.before.few }; few = u.few }; lane = f.lane }

-- ---- the number of virtual processors

abbrev pub with_count : ℕ → ScriptDraft → ScriptDraft
with_count n d = record d { count = n; vcpus = [] }

pub count_taken : (d : ScriptDraft) (n : ℕ) (line : List ℕ) → ScriptLive Count d → 1 ≤ n → n ≤ 64 → line ≡ vcpus_key ++ decimal n → Taken Count First d (with_count n d) line
count_taken d n line live some few is = step Count First d (with_count n d) line live
    (record { before = front_fits d n [] d.before d.after live.fits; some = some; few = few; vcpus = tt }, refl)
    (append-nil (held_lanes d ++ (vcpus_key ++ decimal n) ∷ []) ∙ ap (λ (l : List ℕ). held_lanes d ++ l ∷ []) (sym is))
    (λ v more r.
    let top = r.0.few_vcpus in
    let parts = cons_parts line (vcpus_key ++ decimal (length v.vcpus)) more (vcpus_onto v.vcpus (closing ∷ [])) r.2 in
    (r.0, r.1, keyed_same vcpus_key (length v.vcpus) n (omega arith) (omega arith) (sym parts.0 ∙ is), parts.1))
    (λ v more r. (r.0, r.1, cons_same line (vcpus_key ++ decimal (length v.vcpus)) more (vcpus_onto v.vcpus (closing ∷ [])) (is ∙ ap (λ (k : ℕ). vcpus_key ++ decimal k) (sym r.2)) r.3))

-- ---- the first virtual processor

begun_fits : (d : ScriptDraft) (b a : ℕ) → FitsCount d → length d.vcpus < d.count → b ≤ 65536 → a ≤ 65536 → FitsOps (begun b a d)
begun_fits d b a f room few_before few_after = record {
  before = record { before = front_fits d d.count d.vcpus (record { count = b; items = [] }) (record { count = a; items = [] }) f.before; some = f.some; few = f.few; vcpus = f.vcpus };
  room = room;
  few_before = few_before;
  few_after = few_after;
  within_before = omega arith;
  within_after = omega arith;
  before_move = tt;
  after_move = tt;
  in_turn = λ _. refl;
}

pub first_taken : (d new : ScriptDraft) (b a : ℕ) (line : List ℕ) → new ≡ begun b a d → ScriptLive First d → b ≤ 65536 → a ≤ 65536 → line ≡ counts_line b a → Taken First Ops d new line
first_taken d new b a line made live few_before few_after is =
    let f = live.fits.0 in
    let none = live.fits.1 in
    let some = f.some in
    let empty : length d.vcpus ≡ 0 = ap (λ (t : List Vcpu). length t) none in
    rw made (step First Ops d (begun b a d) line live (begun_fits d b a f (omega arith) few_before few_after)
    (ap (λ (l : List ℕ). held_vcpus d ++ l ∷ []) (sym is))
    (λ v more r.
    let many = r.0.some_vcpus in
    let n = next_vcpu v.version v.geometry v.vcpus line more r.0.vcpus (omega arith) r.3 in
    let same = counts_tell b a (length n.vcpu.before_move) (length n.vcpu.after_move) few_before few_after n.few_before n.few_after (sym is ∙ n.spelled) in
    record { fits = r.0; agrees = r.1; count = r.2; befores = n.vcpu.before_move; afters = n.vcpu.after_move; back = n.others; whole = n.whole ∙ ap (λ (t : List Vcpu). t ++ n.vcpu ∷ n.others) (sym none); all_before = sym same.0; all_after = sym same.1; lines = n.lines })
    (λ v more r.
    let w = vcpu_of r.befores r.afters in
    let whole : v.vcpus ≡ w ∷ r.back = r.whole ∙ ap (λ (t : List Vcpu). t ++ w ∷ r.back) none in
    let head : line ≡ counts_line (length r.befores) (length r.afters) = is ∙ ap (λ (k : ℕ). counts_line k a) (sym r.all_before) ∙ ap (λ (k : ℕ). counts_line (length r.befores) k) (sym r.all_after) in
    (r.fits, r.agrees, r.count, cons_same line (counts_line (length r.befores) (length r.afters)) more (map op_line r.befores ++ (map op_line r.afters ++ vcpus_onto r.back (closing ∷ []))) head r.lines ∙ ap (λ (t : List Vcpu). vcpus_onto t (closing ∷ [])) (sym whole))))

pub first_refused : (d : ScriptDraft) (line : List ℕ) → ((b a : ℕ) → b ≤ 65536 → a ≤ 65536 → line ≢ counts_line b a) → RefusesAt First d line
first_refused d line none v more r =
    let many = r.0.some_vcpus in
    let n = next_vcpu v.version v.geometry v.vcpus line more r.0.vcpus (omega arith) r.3 in
    none (length n.vcpu.before_move) (length n.vcpu.after_move) n.few_before n.few_after n.spelled

-- ---- operations

-- the virtual processor that is coming, as it will be
this_vcpu : (d : ScriptDraft) (v : Scenario) (lines : List (List ℕ)) (r : OpsLeft d v lines) → VcpuFits d.version (machine_of d) (vcpu_of (d.before.items ++ r.befores) (d.after.items ++ r.afters))
this_vcpu d v lines r =
    let w = vcpu_of (d.before.items ++ r.befores) (d.after.items ++ r.afters) in
    let own = all_at (VcpuFits v.version v.geometry) d.vcpus w r.back (subst (AllByRecursion (VcpuFits v.version v.geometry)) r.whole r.fits.vcpus) in
    let agrees = r.agrees.0.0.0.0.0 in
    subst (λ (e : Extent). VcpuFits d.version e w) agrees.1 (subst (λ (x : Version). VcpuFits x v.geometry w) agrees.0 own)

-- an operation that may come before the move
record NextEarly (d : ScriptDraft) (line : List ℕ) (more : List (List ℕ)) (befores : List Op) (tail : List (List ℕ)) : Type 0 where
  op : Op
  others : List Op
  whole : befores ≡ op ∷ others
  spelled : line ≡ op_line op
  lines : more ≡ map op_line others ++ tail

next_op : (d : ScriptDraft) (line : List ℕ) (more : List (List ℕ)) (ops : List Op) (tail : List (List ℕ)) → 0 < length ops → line ∷ more ≡ map op_line ops ++ tail → NextEarly d line more ops tail
next_op d line more [] tail some e = absurd (omega arith)
next_op d line more (op ∷ others) tail some e = let parts = cons_parts line (op_line op) more (map op_line others ++ tail) e in record { op = op; others = others; whole = refl; spelled = parts.0; lines = parts.1 }

abbrev tail_of : (d : ScriptDraft) (v : Scenario) (lines : List (List ℕ)) → OpsLeft d v lines → List (List ℕ)
tail_of d v lines r = map op_line r.afters ++ vcpus_onto r.back (closing ∷ [])

next_early : (d : ScriptDraft) (line : List ℕ) (v : Scenario) (more : List (List ℕ)) (r : OpsLeft d v (line ∷ more)) → length d.before.items < d.before.count → NextEarly d line more r.befores (tail_of d v (line ∷ more) r)
next_early d line v more r less = next_op d line more r.befores (tail_of d v (line ∷ more) r) (omega (arith, r.all_before, length-append d.before.items r.befores)) r.lines

early_fits : (d : ScriptDraft) (line : List ℕ) (v : Scenario) (more : List (List ℕ)) (r : OpsLeft d v (line ∷ more)) (op : Op) (others : List Op) → r.befores ≡ op ∷ others → OpFits (machine_of d) op
early_fits d line v more r op others is = all_at (OpFits (machine_of d)) d.before.items op others (subst (λ (t : List Op). AllByRecursion (OpFits (machine_of d)) (d.before.items ++ t)) is (this_vcpu d v (line ∷ more) r).before_move)

early_grown : (before after : List Op) (op : Op) (line : List ℕ) → after ≡ [] → line ≡ op_line op → map op_line (before ++ op ∷ []) ++ map op_line after ≡ (map op_line before ++ map op_line after) ++ line ∷ []
early_grown before after op line none is = rw none (section_push op_line before op [] ∙ ap (λ (l : List ℕ). map op_line before ++ l ∷ []) (sym is) ∙ ap (λ (t : List (List ℕ)). t ++ line ∷ []) (sym (append-nil (map op_line before))))

late_grown : (before after : List Op) (op : Op) (line : List ℕ) → line ≡ op_line op → map op_line before ++ map op_line (after ++ op ∷ []) ≡ (map op_line before ++ map op_line after) ++ line ∷ []
late_grown before after op line is =
    ap (λ (t : List (List ℕ)). map op_line before ++ t) (sym (append-nil (map op_line (after ++ op ∷ []))) ∙ section_push op_line after op [] ∙ ap (λ (l : List ℕ). map op_line after ++ l ∷ []) (sym is))
    ∙ sym (append_assoc (map op_line before) (map op_line after) (line ∷ []))

held_grown : (d : ScriptDraft) (ops new : List (List ℕ)) (line : List ℕ) → new ≡ ops ++ line ∷ [] → held_vcpus d ++ counts_line d.before.count d.after.count ∷ new ≡ (held_vcpus d ++ counts_line d.before.count d.after.count ∷ ops) ++ line ∷ []
held_grown d ops new line e = ap (λ (t : List (List ℕ)). held_vcpus d ++ counts_line d.before.count d.after.count ∷ t) e ∙ sym (append_assoc (held_vcpus d) (counts_line d.before.count d.after.count ∷ ops) (line ∷ []))

geometry_of : (d : ScriptDraft) → FitsOps d → IsExtent (machine_of d)
geometry_of d f = f.before.before.before.before.before.before.geometry

abbrev pub with_before : List Op → ScriptDraft → ScriptDraft
with_before ops d = record d { before = record { count = d.before.count; items = ops } }

pub early_taken : (d : ScriptDraft) (op : Op) (ops : List Op) (line : List ℕ) → ScriptLive Ops d → length d.before.items < d.before.count → ops ≡ d.before.items ++ op ∷ [] → OpFits (machine_of d) op → line ≡ op_line op → Taken Ops Ops d (with_before ops d) line
early_taken d op ops line live less is fits spelled =
    let f = live.fits in
    let c = f.before in
    let none = f.in_turn less in
    rw is (step Ops Ops d (with_before (d.before.items ++ op ∷ []) d) line live
    (record {
      before = record { before = front_fits d d.count d.vcpus (record { count = d.before.count; items = d.before.items ++ op ∷ [] }) d.after c.before; some = c.some; few = c.few; vcpus = c.vcpus };
      room = f.room;
      few_before = f.few_before;
      few_after = f.few_after;
      within_before = omega (arith, length-append d.before.items (op ∷ []));
      within_after = f.within_after;
      before_move = all_append (OpFits (machine_of d)) d.before.items (op ∷ []) f.before_move (fits, tt);
      after_move = f.after_move;
      in_turn = λ _. none;
    })
    (held_grown d (map op_line d.before.items ++ map op_line d.after.items) (map op_line (d.before.items ++ op ∷ []) ++ map op_line d.after.items) line (early_grown d.before.items d.after.items op line none spelled))
    (λ v more r.
    let n = next_early d line v more r less in
    let same = op_tells (machine_of d) (geometry_of d f) op n.op fits (early_fits d line v more r n.op n.others n.whole) (sym spelled ∙ n.spelled) in
    let befores : d.before.items ++ r.befores ≡ (d.before.items ++ op ∷ []) ++ n.others = ap (λ (t : List Op). d.before.items ++ t) (n.whole ∙ ap (λ (x : Op). x ∷ n.others) (sym same)) ∙ sym (append_assoc d.before.items (op ∷ []) n.others) in
    record { fits = r.fits; agrees = r.agrees; count = r.count; befores = n.others; afters = r.afters; back = r.back; whole = r.whole ∙ ap (λ (t : List Op). d.vcpus ++ vcpu_of t (d.after.items ++ r.afters) ∷ r.back) befores; all_before = ap (λ (t : List Op). length t) (sym befores) ∙ r.all_before; all_after = r.all_after; lines = n.lines })
    (λ v more r.
    let befores : (d.before.items ++ op ∷ []) ++ r.befores ≡ d.before.items ++ (op ∷ r.befores) = append_assoc d.before.items (op ∷ []) r.befores in
    record { fits = r.fits; agrees = r.agrees; count = r.count; befores = op ∷ r.befores; afters = r.afters; back = r.back; whole = r.whole ∙ ap (λ (t : List Op). d.vcpus ++ vcpu_of t (d.after.items ++ r.afters) ∷ r.back) befores; all_before = ap (λ (t : List Op). length t) (sym befores) ∙ r.all_before; all_after = r.all_after; lines = cons_same line (op_line op) more (map op_line r.befores ++ (map op_line r.afters ++ vcpus_onto r.back (closing ∷ []))) spelled r.lines }))

pub early_refused : (d : ScriptDraft) (line : List ℕ) → length d.before.items < d.before.count → ((op : Op) → OpFits (machine_of d) op → line ≢ op_line op) → RefusesAt Ops d line
early_refused d line less none v more r = let n = next_early d line v more r less in none n.op (early_fits d line v more r n.op n.others n.whole) n.spelled

-- no operation before the move is left
no_early : (d : ScriptDraft) (v : Scenario) (lines : List (List ℕ)) (r : OpsLeft d v lines) → length d.before.items ≡ d.before.count → r.befores ≡ []
no_early d v lines r all = none_left (d.before.items ++ r.befores) d.before.items r.befores refl (r.all_before ∙ sym all)

next_late : (d : ScriptDraft) (line : List ℕ) (v : Scenario) (more : List (List ℕ)) (r : OpsLeft d v (line ∷ more)) → length d.before.items ≡ d.before.count → length d.after.items < d.after.count → NextEarly d line more r.afters (vcpus_onto r.back (closing ∷ []))
next_late d line v more r all less = next_op d line more r.afters (vcpus_onto r.back (closing ∷ [])) (omega (arith, r.all_after, length-append d.after.items r.afters)) (r.lines ∙ ap (λ (t : List Op). map op_line t ++ tail_of d v (line ∷ more) r) (no_early d v (line ∷ more) r all))

late_fits : (d : ScriptDraft) (line : List ℕ) (v : Scenario) (more : List (List ℕ)) (r : OpsLeft d v (line ∷ more)) (op : Op) (others : List Op) → r.afters ≡ op ∷ others → LateOpFits d.version (machine_of d) op
late_fits d line v more r op others is = all_at (LateOpFits d.version (machine_of d)) d.after.items op others (subst (λ (t : List Op). AllByRecursion (LateOpFits d.version (machine_of d)) (d.after.items ++ t)) is (this_vcpu d v (line ∷ more) r).after_move)

abbrev pub with_after : List Op → ScriptDraft → ScriptDraft
with_after ops d = record d { after = record { count = d.after.count; items = ops } }

pub late_taken : (d : ScriptDraft) (op : Op) (ops : List Op) (line : List ℕ) → ScriptLive Ops d → length d.before.items ≡ d.before.count → length d.after.items < d.after.count → ops ≡ d.after.items ++ op ∷ [] → LateOpFits d.version (machine_of d) op → line ≡ op_line op → Taken Ops Ops d (with_after ops d) line
late_taken d op ops line live all less is fits spelled =
    let f = live.fits in
    let c = f.before in
    rw is (step Ops Ops d (with_after (d.after.items ++ op ∷ []) d) line live
    (record {
      before = record { before = front_fits d d.count d.vcpus d.before (record { count = d.after.count; items = d.after.items ++ op ∷ [] }) c.before; some = c.some; few = c.few; vcpus = c.vcpus };
      room = f.room;
      few_before = f.few_before;
      few_after = f.few_after;
      within_before = f.within_before;
      within_after = omega (arith, length-append d.after.items (op ∷ []));
      before_move = f.before_move;
      after_move = all_append (LateOpFits d.version (machine_of d)) d.after.items (op ∷ []) f.after_move (fits, tt);
      in_turn = λ lt. absurd (omega (arith, lt, all));
    })
    (held_grown d (map op_line d.before.items ++ map op_line d.after.items) (map op_line d.before.items ++ map op_line (d.after.items ++ op ∷ [])) line (late_grown d.before.items d.after.items op line spelled))
    (λ v more r.
    let n = next_late d line v more r all less in
    let same = op_tells (machine_of d) (geometry_of d f) op n.op (late_op d.version (machine_of d) op fits) (late_op d.version (machine_of d) n.op (late_fits d line v more r n.op n.others n.whole)) (sym spelled ∙ n.spelled) in
    let afters : d.after.items ++ r.afters ≡ (d.after.items ++ op ∷ []) ++ n.others = ap (λ (t : List Op). d.after.items ++ t) (n.whole ∙ ap (λ (x : Op). x ∷ n.others) (sym same)) ∙ sym (append_assoc d.after.items (op ∷ []) n.others) in
    let none = no_early d v (line ∷ more) r all in
    record { fits = r.fits; agrees = r.agrees; count = r.count; befores = []; afters = n.others; back = r.back; whole = r.whole ∙ ap (λ (t : List Op). d.vcpus ++ vcpu_of (d.before.items ++ t) (d.after.items ++ r.afters) ∷ r.back) none ∙ ap (λ (t : List Op). d.vcpus ++ vcpu_of (d.before.items ++ []) t ∷ r.back) afters; all_before = ap (λ (t : List Op). length (d.before.items ++ t)) (sym none) ∙ r.all_before; all_after = ap (λ (t : List Op). length t) (sym afters) ∙ r.all_after; lines = n.lines })
    (λ v more r.
    let afters : (d.after.items ++ op ∷ []) ++ r.afters ≡ d.after.items ++ (op ∷ r.afters) = append_assoc d.after.items (op ∷ []) r.afters in
    let none = none_left (d.before.items ++ r.befores) d.before.items r.befores refl (r.all_before ∙ sym all) in
    record { fits = r.fits; agrees = r.agrees; count = r.count; befores = []; afters = op ∷ r.afters; back = r.back; whole = r.whole ∙ ap (λ (t : List Op). d.vcpus ++ vcpu_of (d.before.items ++ t) ((d.after.items ++ op ∷ []) ++ r.afters) ∷ r.back) none ∙ ap (λ (t : List Op). d.vcpus ++ vcpu_of (d.before.items ++ []) t ∷ r.back) afters; all_before = ap (λ (t : List Op). length (d.before.items ++ t)) (sym none) ∙ r.all_before; all_after = ap (λ (t : List Op). length t) (sym afters) ∙ r.all_after; lines = cons_same line (op_line op) more (map op_line r.afters ++ vcpus_onto r.back (closing ∷ [])) spelled (r.lines ∙ ap (λ (t : List Op). map op_line t ++ (map op_line r.afters ++ vcpus_onto r.back (closing ∷ []))) none) }))

pub late_refused : (d : ScriptDraft) (line : List ℕ) → length d.before.items ≡ d.before.count → length d.after.items < d.after.count → ((op : Op) → LateOpFits d.version (machine_of d) op → line ≢ op_line op) → RefusesAt Ops d line
late_refused d line all less none v more r = let n = next_late d line v more r all less in none n.op (late_fits d line v more r n.op n.others n.whole) n.spelled

-- ---- behind the last operation

-- no operation is left
record NoOps (d : ScriptDraft) (v : Scenario) (lines : List (List ℕ)) (back : List Vcpu) : Type 0 where
  whole : v.vcpus ≡ d.vcpus ++ vcpu_of d.before.items d.after.items ∷ back
  tail : lines ≡ vcpus_onto back (closing ∷ [])

no_op : (d : ScriptDraft) (v : Scenario) (lines : List (List ℕ)) (r : OpsLeft d v lines) → HasAllOps d → NoOps d v lines r.back
no_op d v lines r all =
    let early = no_early d v lines r all.0 in
    let late = none_left (d.after.items ++ r.afters) d.after.items r.afters refl (r.all_after ∙ sym all.1) in
    let befores : d.before.items ++ r.befores ≡ d.before.items = ap (λ (t : List Op). d.before.items ++ t) early ∙ append-nil d.before.items in
    let afters : d.after.items ++ r.afters ≡ d.after.items = ap (λ (t : List Op). d.after.items ++ t) late ∙ append-nil d.after.items in
    record {
      whole = r.whole ∙ ap (λ (t : List Op). d.vcpus ++ vcpu_of t (d.after.items ++ r.afters) ∷ r.back) befores ∙ ap (λ (t : List Op). d.vcpus ++ vcpu_of d.before.items t ∷ r.back) afters;
      tail = r.lines ∙ ap (λ (t : List Op). map op_line t ++ (map op_line r.afters ++ vcpus_onto r.back (closing ∷ []))) early ∙ ap (λ (t : List Op). map op_line t ++ vcpus_onto r.back (closing ∷ [])) late;
    }

-- and so it is where these are the lines
with_no_op : (d : ScriptDraft) (v : Scenario) (lines : List (List ℕ)) (back : List Vcpu) → IsScenario v → AgreesLane d v → length v.vcpus ≡ d.count → HasAllOps d → NoOps d v lines back → OpsLeft d v lines
with_no_op d v lines back fits agrees count all n = record {
  fits = fits;
  agrees = agrees;
  count = count;
  befores = [];
  afters = [];
  back = back;
  whole = n.whole ∙ ap (λ (t : List Op). d.vcpus ++ vcpu_of t d.after.items ∷ back) (sym (append-nil d.before.items)) ∙ ap (λ (t : List Op). d.vcpus ++ vcpu_of (d.before.items ++ []) t ∷ back) (sym (append-nil d.after.items));
  all_before = ap (λ (t : List Op). length t) (append-nil d.before.items) ∙ all.0;
  all_after = ap (λ (t : List Op). length t) (append-nil d.after.items) ∙ all.1;
  lines = n.tail;
}

ended_held : (d : ScriptDraft) → HasAllOps d → held_vcpus (ended d) ≡ held_ops d
ended_held d all =
    let w = vcpu_of d.before.items d.after.items in
    let h = held_lanes d ++ (vcpus_key ++ decimal d.count) ∷ [] in
    let counts : counts_line (length d.before.items) (length d.after.items) ≡ counts_line d.before.count d.after.count = ap (λ (k : ℕ). counts_line k (length d.after.items)) all.0 ∙ ap (λ (k : ℕ). counts_line d.before.count k) all.1 in
    let ops : map op_line d.before.items ++ (map op_line d.after.items ++ []) ≡ map op_line d.before.items ++ map op_line d.after.items = ap (λ (t : List (List ℕ)). map op_line d.before.items ++ t) (append-nil (map op_line d.after.items)) in
    let this : vcpu_onto w [] ≡ counts_line d.before.count d.after.count ∷ (map op_line d.before.items ++ map op_line d.after.items) = cons_same (counts_line (length d.before.items) (length d.after.items)) (counts_line d.before.count d.after.count) (map op_line d.before.items ++ (map op_line d.after.items ++ [])) (map op_line d.before.items ++ map op_line d.after.items) counts ops in
    ap (λ (t : List (List ℕ)). h ++ t) (vcpus_push d.vcpus w [] ∙ sym (vcpus_append d.vcpus [] (vcpu_onto w [])) ∙ ap (λ (t : List (List ℕ)). vcpus_onto d.vcpus [] ++ t) this)
    ∙ sym (append_assoc h (vcpus_onto d.vcpus []) (counts_line d.before.count d.after.count ∷ (map op_line d.before.items ++ map op_line d.after.items)))

ended_fits : (d : ScriptDraft) → FitsOps d → FitsCount (ended d)
ended_fits d f =
    let c = f.before in
    let few_before = f.few_before in
    let few_after = f.few_after in
    let within_before = f.within_before in
    let within_after = f.within_after in
    record {
      before = front_fits d d.count (d.vcpus ++ vcpu_of d.before.items d.after.items ∷ []) (record { count = d.before.count; items = [] }) (record { count = d.after.count; items = [] }) c.before;
      some = c.some;
      few = c.few;
      vcpus = all_append (VcpuFits d.version (machine_of d)) d.vcpus (vcpu_of d.before.items d.after.items ∷ []) c.vcpus (record { few_before = omega arith; few_after = omega arith; before_move = f.before_move; after_move = f.after_move }, tt);
    }

pub next_taken : (d new : ScriptDraft) (b a : ℕ) (line : List ℕ) → new ≡ begun b a (ended d) → ScriptLive Ops d → HasAllOps d → length d.vcpus + 1 < d.count → b ≤ 65536 → a ≤ 65536 → line ≡ counts_line b a → Taken Ops Ops d new line
next_taken d new b a line is live all more_come few_before few_after spelled =
    let this = vcpu_of d.before.items d.after.items in
    let many = length-append d.vcpus (this ∷ []) in
    rw is (step Ops Ops d (begun b a (ended d)) line live (begun_fits (ended d) b a (ended_fits d live.fits) (omega arith) few_before few_after)
    (ap (λ (t : List (List ℕ)). t ++ counts_line b a ∷ []) (ended_held d all) ∙ ap (λ (l : List ℕ). held_ops d ++ l ∷ []) (sym spelled))
    (λ v more r.
    let left = no_op d v (line ∷ more) r all in
    let long = ap (λ (t : List Vcpu). length t) left.whole in
    let each = all_behind (VcpuFits v.version v.geometry) d.vcpus (this ∷ r.back) (subst (AllByRecursion (VcpuFits v.version v.geometry)) left.whole r.fits.vcpus) in
    let n = next_vcpu v.version v.geometry r.back line more each.1 (omega (arith, long, length-append d.vcpus (this ∷ r.back), r.count)) left.tail in
    let same = counts_tell b a (length n.vcpu.before_move) (length n.vcpu.after_move) few_before few_after n.few_before n.few_after (sym spelled ∙ n.spelled) in
    record { fits = r.fits; agrees = r.agrees; count = r.count; befores = n.vcpu.before_move; afters = n.vcpu.after_move; back = n.others; whole = left.whole ∙ ap (λ (t : List Vcpu). d.vcpus ++ this ∷ t) n.whole ∙ sym (append_assoc d.vcpus (this ∷ []) (n.vcpu ∷ n.others)); all_before = sym same.0; all_after = sym same.1; lines = n.lines })
    (λ v more r.
    let w = vcpu_of r.befores r.afters in
    let head : line ≡ counts_line (length r.befores) (length r.afters) = spelled ∙ ap (λ (k : ℕ). counts_line k a) (sym r.all_before) ∙ ap (λ (k : ℕ). counts_line (length r.befores) k) (sym r.all_after) in
    with_no_op d v (line ∷ more) (w ∷ r.back) r.fits r.agrees r.count all (record {
      whole = r.whole ∙ append_assoc d.vcpus (this ∷ []) (w ∷ r.back);
      tail = cons_same line (counts_line (length r.befores) (length r.afters)) more (map op_line r.befores ++ (map op_line r.afters ++ vcpus_onto r.back (closing ∷ []))) head r.lines;
    })))

pub next_refused : (d : ScriptDraft) (line : List ℕ) → HasAllOps d → length d.vcpus + 1 < d.count → ((b a : ℕ) → b ≤ 65536 → a ≤ 65536 → line ≢ counts_line b a) → RefusesAt Ops d line
next_refused d line all more_come none v more r =
    let this = vcpu_of d.before.items d.after.items in
    let left = no_op d v (line ∷ more) r all in
    let long = ap (λ (t : List Vcpu). length t) left.whole in
    let each = all_behind (VcpuFits v.version v.geometry) d.vcpus (this ∷ r.back) (subst (AllByRecursion (VcpuFits v.version v.geometry)) left.whole r.fits.vcpus) in
    let n = next_vcpu v.version v.geometry r.back line more each.1 (omega (arith, long, length-append d.vcpus (this ∷ r.back), r.count)) left.tail in
    none (length n.vcpu.before_move) (length n.vcpu.after_move) n.few_before n.few_after n.spelled

-- no virtual processor is left
last_vcpu : (d : ScriptDraft) (v : Scenario) (back : List Vcpu) (lines : List (List ℕ)) → NoOps d v lines back → length v.vcpus ≡ d.count → d.count ≤ length d.vcpus + 1 → back ≡ []
last_vcpu d v [] lines n count last = refl
last_vcpu d v (w ∷ back) lines n count last =
    let this = vcpu_of d.before.items d.after.items in
    let long = ap (λ (t : List Vcpu). length t) n.whole in
    absurd (omega (arith, long, length-append d.vcpus (this ∷ w ∷ back), count, last))

pub end_taken : (d new : ScriptDraft) (line : List ℕ) → new ≡ ended d → ScriptLive Ops d → HasAllOps d → d.count ≤ length d.vcpus + 1 → line ≡ closing → Taken Ops Done d new line
end_taken d new line is live all last spelled =
    let this = vcpu_of d.before.items d.after.items in
    let many = length-append d.vcpus (this ∷ []) in
    let room = live.fits.room in
    rw is (step Ops Done d (ended d) line live (ended_fits d live.fits, omega arith)
    (ap (λ (t : List (List ℕ)). t ++ closing ∷ []) (ended_held d all) ∙ ap (λ (l : List ℕ). held_ops d ++ l ∷ []) (sym spelled))
    (λ v more r.
    let left = no_op d v (line ∷ more) r all in
    let none = last_vcpu d v r.back (line ∷ more) left r.count last in
    let parts = cons_parts line closing more [] (left.tail ∙ ap (λ (t : List Vcpu). vcpus_onto t (closing ∷ [])) none) in
    (r.fits, r.agrees, left.whole ∙ ap (λ (t : List Vcpu). d.vcpus ++ this ∷ t) none, parts.1))
    (λ v more r. with_no_op d v (line ∷ more) [] r.0 r.1 (ap (λ (t : List Vcpu). length t) r.2 ∙ omega arith) all (record { whole = r.2; tail = cons_same line closing more [] spelled r.3 })))
