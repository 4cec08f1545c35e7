-- A script's lines tell the script.
use Rattle.std.proofs.Common.{◌≡◌, ℕ, ◌+◌, List, [], ◌∷◌, ◌++◌, length, map, refl, sym, ap, subst, ◌∙◌, append_assoc, arith}
use Rattle.std.specs.List.{AllByRecursion}
use Rattle.std.specs.Prelude.{Option}
use Rattle.std.specs.Fmt.{decimal}
use Rattle.std.proofs.lemmas.List.{append_cancel_left}
use Rattle.text_lines.specs.Text.{IsUnambiguous}
use Rattle.text_lines.specs.Counted.{counted}
use Rattle.text_lines.proofs.Cut.{unambiguous}
use Rattle.text_lines.proofs.Sections.{counted_agree, section_end}
use Rattle.migration_types.specs.declared.pages.InitPage.{InitPage}
use Rattle.migration_types.specs.declared.version.Version.{Version}
use Rattle.migration_types.specs.Extents.{Extent, IsExtent}
use Rattle.migration_types.specs.Pages.{InitPageFits}
use Rattle.migration_events.specs.declared.events.Fate.{Fate}
use Rattle.migration_events.specs.declared.ops.Op.{Op}
use Rattle.migration_events.specs.Ops.{OpFits, LateOpFits}
use Rattle.session_grammar.specs.Grammar.{pages_key, cells_key, init_key, page_line, closing}
use Rattle.session_grammar.proofs.Laws.{extent_same}
use Rattle.session_grammar.proofs.Lists.{spelled_same}
use Rattle.session_grammar.proofs.Values.{init_page_tells}
use Rattle.guest_script.specs.declared.vcpus.Vcpu.{Vcpu}
use Rattle.guest_script.specs.declared.script.Scenario.{Scenario}
use Rattle.guest_script.specs.Scenarios.{VcpuFits, IsScenario}
use Rattle.guest_script.specs.Scripts.{script_header, pivots_key, window_key, down_key, up_key, vcpus_key, fates_text, op_line, counts_line, vcpus_onto, vcpus_lines, lanes_lines, up_lines, down_lines, window_lines, pivots_lines, cells_lines, pages_lines, script_lines, SpellsScript}
use Rattle.guest_script.specs.inner.ScriptHeld.{vcpu_of}
use Rattle.guest_script.specs.inner.ScriptPlain.{plain_script}
use Rattle.guest_script.proofs.ByVersion.{header_tells, lanes_append, lanes_tell}
use Rattle.guest_script.proofs.TextLists.{cons_parts, keyed_same}
use Rattle.guest_script.proofs.LateOps.{late_op}
use Rattle.guest_script.proofs.ScriptTells.{counts_tell, fates_tell, op_tells}
use Rattle.guest_script.proofs.ScriptSteps.{few_init}
use Rattle.guest_script.proofs.ScriptVcpus.{vcpus_append}

-- ---- no script's lines begin another's

late_tells : (version : Version) (e : Extent) → IsExtent e → (x y : Op) → LateOpFits version e x → LateOpFits version e y → op_line x ≡ op_line y → x ≡ y
late_tells version e h x y a b same = op_tells e h x y (late_op version e x a) (late_op version e y b) same

vcpus_tell : (version : Version) (e : Extent) → IsExtent e → (xs ys : List Vcpu) (a b : List (List ℕ)) → AllByRecursion (VcpuFits version e) xs → AllByRecursion (VcpuFits version e) ys → length xs ≡ length ys → vcpus_onto xs a ≡ vcpus_onto ys b → (xs ≡ ys) × (a ≡ b)
vcpus_tell version e h [] [] a b p q l same = (refl, same)
vcpus_tell version e h [] (y ∷ ys) a b p q l same = absurd (omega arith)
vcpus_tell version e h (x ∷ xs) [] a b p q l same = absurd (omega arith)
vcpus_tell version e h (x ∷ xs) (y ∷ ys) a b p q l same =
    let parts = cons_parts (counts_line (length x.before_move) (length x.after_move)) (counts_line (length y.before_move) (length y.after_move)) (map op_line x.before_move ++ (map op_line x.after_move ++ vcpus_onto xs a)) (map op_line y.before_move ++ (map op_line y.after_move ++ vcpus_onto ys b)) same in
    let counts = counts_tell (length x.before_move) (length x.after_move) (length y.before_move) (length y.after_move) p.0.few_before p.0.few_after q.0.few_before q.0.few_after parts.0 in
    let early = section_end op_line x.before_move y.before_move (map op_line x.after_move ++ vcpus_onto xs a) (map op_line y.after_move ++ vcpus_onto ys b) parts.1 (sym counts.0) in
    let late = section_end op_line x.after_move y.after_move (vcpus_onto xs a) (vcpus_onto ys b) early.1 (sym counts.1) in
    let before = spelled_same op_line (OpFits e) (op_tells e h) x.before_move y.before_move p.0.before_move q.0.before_move early.0 in
    let after = spelled_same op_line (LateOpFits version e) (late_tells version e h) x.after_move y.after_move p.0.after_move q.0.after_move late.0 in
    let one : x ≡ y = ap (λ (t : List Op). vcpu_of t x.after_move) before ∙ ap (λ (t : List Op). vcpu_of y.before_move t) after in
    let rest = vcpus_tell version e h xs ys a b p.1 q.1 (omega arith) late.1 in
    (ap (λ (t : Vcpu). t ∷ xs) one ∙ ap (λ (t : List Vcpu). y ∷ t) rest.0, rest.1)

scenario_same : (v w : Scenario) → v.version ≡ w.version → v.geometry ≡ w.geometry → v.init ≡ w.init → v.pivots ≡ w.pivots → v.window ≡ w.window → v.down ≡ w.down → v.up ≡ w.up → v.lane ≡ w.lane → v.vcpus ≡ w.vcpus → v ≡ w
scenario_same v w k g i p n d u l c =
    let made : Version → Extent → List InitPage → ℕ → ℕ → List Fate → List Fate → Option (List Fate) → List Vcpu → Scenario = λ o a b x y z t l s. record { version = o; geometry = a; init = b; pivots = x; window = y; down = z; up = t; lane = l; vcpus = s } in
    let same : made v.version v.geometry v.init v.pivots v.window v.down v.up v.lane v.vcpus ≡ made w.version w.geometry w.init w.pivots w.window w.down w.up w.lane w.vcpus = rw (k, g, i, p, n, d, u, l, c) refl in
    same

lines_tell : (v w : Scenario) (more : List (List ℕ)) → IsScenario v → IsScenario w → script_lines v ++ more ≡ script_lines w → (v ≡ w) × (more ≡ [])
lines_tell v w more p q e =
    let vp = p.geometry.few_pages in
    let wp = q.geometry.few_pages in
    let vc = p.geometry.few_cells in
    let wc = q.geometry.few_cells in
    let vi = few_init v p in
    let wi = few_init w q in
    let v1 = p.few_pivots in
    let w1 = q.few_pivots in
    let v2 = p.few_window in
    let w2 = q.few_window in
    let v3 = p.few_vcpus in
    let w3 = q.few_vcpus in
    let from_header = cons_parts (script_header v.version) (script_header w.version) (pages_lines v ++ more) (pages_lines w) e in
    let version = header_tells v.version w.version from_header.0 in
    let from_pages = cons_parts (pages_key ++ decimal v.geometry.pages) (pages_key ++ decimal w.geometry.pages) (cells_lines v ++ more) (cells_lines w) from_header.1 in
    let rest = (init_key ++ decimal (length v.init)) ∷ (map page_line v.init ++ (pivots_lines v ++ more)) in
    let from_cells = cons_parts (cells_key ++ decimal v.geometry.cells) (cells_key ++ decimal w.geometry.cells) rest (counted init_key page_line w.init (pivots_lines w)) (ap (λ (t : List (List ℕ)). (cells_key ++ decimal v.geometry.cells) ∷ (init_key ++ decimal (length v.init)) ∷ t) (sym (append_assoc (map page_line v.init) (pivots_lines v) more)) ∙ from_pages.1) in
    let geometry = extent_same v.geometry w.geometry (p.small ∙ sym q.small) (keyed_same pages_key v.geometry.pages w.geometry.pages (omega arith) (omega arith) from_pages.0) (keyed_same cells_key v.geometry.cells w.geometry.cells (omega arith) (omega arith) from_cells.0) in
    let agree = counted_agree init_key page_line (length v.init) w.init v.init (pivots_lines w) (pivots_lines v ++ more) (omega arith) (omega arith) from_cells.1 in
    let pages = section_end page_line w.init v.init (pivots_lines w) (pivots_lines v ++ more) agree.items agree.count in
    let init = spelled_same page_line (InitPageFits w.geometry) (init_page_tells w.geometry q.geometry) v.init w.init (subst (λ (x : Extent). AllByRecursion (InitPageFits x) v.init) geometry p.init.each) q.init.each (sym pages.0) in
    let from_pivots = cons_parts (pivots_key ++ decimal v.pivots) (pivots_key ++ decimal w.pivots) (window_lines v ++ more) (window_lines w) (sym pages.1) in
    let from_window = cons_parts (window_key ++ decimal v.window) (window_key ++ decimal w.window) (down_lines v ++ more) (down_lines w) from_pivots.1 in
    let from_down = cons_parts (down_key ++ fates_text v.down) (down_key ++ fates_text w.down) (up_lines v ++ more) (up_lines w) from_window.1 in
    let from_up = cons_parts (up_key ++ fates_text v.up) (up_key ++ fates_text w.up) (lanes_lines v ++ more) (lanes_lines w) from_down.1 in
    let from_lanes = lanes_tell v.version w.version v.lane w.lane (vcpus_lines v ++ more) (vcpus_lines w) version p.lane q.lane (sym (lanes_append v.version v.lane (vcpus_lines v) more) ∙ from_up.1) in
    let from_vcpus = cons_parts (vcpus_key ++ decimal (length v.vcpus)) (vcpus_key ++ decimal (length w.vcpus)) (vcpus_onto v.vcpus (closing ∷ []) ++ more) (vcpus_onto w.vcpus (closing ∷ [])) from_lanes.1 in
    let pivots = keyed_same pivots_key v.pivots w.pivots (omega arith) (omega arith) from_pivots.0 in
    let window = keyed_same window_key v.window w.window (omega arith) (omega arith) from_window.0 in
    let down = fates_tell v.down w.down (append_cancel_left down_key (fates_text v.down) (fates_text w.down) from_down.0) in
    let up = fates_tell v.up w.up (append_cancel_left up_key (fates_text v.up) (fates_text w.up) from_up.0) in
    let many = keyed_same vcpus_key (length v.vcpus) (length w.vcpus) (omega arith) (omega arith) from_vcpus.0 in
    let own = subst (λ (x : Version). AllByRecursion (VcpuFits x w.geometry) v.vcpus) version (subst (λ (x : Extent). AllByRecursion (VcpuFits v.version x) v.vcpus) geometry p.vcpus) in
    let vcpus = vcpus_tell w.version w.geometry q.geometry v.vcpus w.vcpus (closing ∷ more) (closing ∷ []) own q.vcpus many (sym (vcpus_append v.vcpus (closing ∷ []) more) ∙ from_vcpus.1) in
    let end = cons_parts closing closing more [] vcpus.1 in
    (scenario_same v w version geometry init pivots window down up from_lanes.0 vcpus.0, end.1)

pub scripts_unambiguous : IsUnambiguous SpellsScript
scripts_unambiguous = unambiguous SpellsScript plain_script
    (λ v w a more s t. lines_tell v w more s.0 t.0 (ap (λ (x : List (List ℕ)). x ++ more) (sym s.1) ∙ t.1))
    (λ v a b s t. s.1 ∙ sym t.1)
