-- No line of a script's text has a line feed.
use Rattle.std.specs.Prelude.{ℕ, List, [], ◌∷◌, ◌++◌, length, map, refl, codes, Option, Some, None}
use Rattle.std.proofs.Common.{arith, subst, sym}
use Rattle.std.specs.List.{AllByRecursion}
use Rattle.std.specs.Fmt.{decimal}
use Rattle.text_lines.specs.Text.{IsLine}
use Rattle.text_lines.proofs.Plain.{plain_append, plain_decimal, plain_section, plain_codes}
use Rattle.migration_types.specs.declared.version.Version.{Version}
use Rattle.migration_types.specs.declared.version.Version.TheVariants.{One, Two}
use Rattle.migration_types.specs.Extents.{Extent, IsExtent}
use Rattle.migration_types.specs.Pages.{InitPageFits}
use Rattle.migration_events.specs.declared.events.Fate.{Fate}
use Rattle.migration_events.specs.declared.events.Fate.TheVariants.{Deliver, Lose, Repeat, Back}
use Rattle.migration_events.specs.declared.ops.Op.{Op}
use Rattle.migration_events.specs.declared.ops.Op.TheVariants.{Read, Write, Release}
use Rattle.migration_events.specs.Ops.{OpFits, LateOpFits}
use Rattle.session_grammar.specs.Grammar.{pages_key, cells_key, init_key, page_line, closing}
use Rattle.session_grammar.specs.inner.InitPages.{rise_of, rise_long}
use Rattle.session_grammar.specs.inner.RecordPlain.{plain_page}
use Rattle.session_grammar.specs.inner.RecordPlain.{plain_keyed, plain_number}
use Rattle.guest_script.specs.declared.vcpus.Vcpu.{Vcpu}
use Rattle.guest_script.specs.declared.script.Scenario.{Scenario}
use Rattle.guest_script.specs.Scenarios.{VcpuFits}
use Rattle.guest_script.specs.Scripts.{script_header, pivots_key, window_key, down_key, up_key, lane_key, vcpus_key, vcpu_key, fate_letter, fates_text, place_text, value_text, op_line, vcpus_onto, vcpus_lines, with_lanes, lanes_lines, up_lines, down_lines, window_lines, pivots_lines, init_lines, SpellsScript}

plain_header : (version : Version) → IsLine (script_header version)
plain_header One = plain_codes (script_header One) refl
plain_header Two = plain_codes (script_header Two) refl

plain_letters : (fates : List Fate) → IsLine (map fate_letter fates)
plain_letters [] = tt
plain_letters (Deliver ∷ fates) = ((λ e. absurd (omega arith)), plain_letters fates)
plain_letters (Lose ∷ fates) = ((λ e. absurd (omega arith)), plain_letters fates)
plain_letters (Repeat ∷ fates) = ((λ e. absurd (omega arith)), plain_letters fates)
plain_letters (Back ∷ fates) = ((λ e. absurd (omega arith)), plain_letters fates)

plain_fates : (fates : List Fate) → IsLine (fates_text fates)
plain_fates [] = plain_codes (fates_text []) refl
plain_fates (fate ∷ fates) = plain_letters (fate ∷ fates)

plain_lanes : (version : Version) (lane : Option (List Fate)) (more : List (List ℕ)) → AllByRecursion IsLine more → AllByRecursion IsLine (with_lanes version lane more)
plain_lanes One lane more rest = rest
plain_lanes Two None more rest = (plain_codes (codes "lanes 1") refl, rest)
plain_lanes Two (Some fates) more rest = (plain_codes (codes "lanes 2") refl, (plain_append lane_key (fates_text fates) (plain_codes lane_key refl) (plain_fates fates), rest))

module _ (e : Extent) (h : IsExtent e) where
  plain_op : (op : Op) → OpFits e op → IsLine (op_line op)
  plain_op (Read p c) fits = let a = h.few_pages in let b = h.few_cells in plain_append (codes "r ") (place_text p c) (plain_codes (codes "r ") refl) (plain_number p (decimal c) (omega (arith, fits.0)) (plain_decimal c (omega (arith, fits.1))))
  plain_op (Write p c x) fits = let a = h.few_pages in let b = h.few_cells in plain_append (codes "w ") (value_text p c x) (plain_codes (codes "w ") refl) (plain_number p (decimal c ++ 32 ∷ decimal x) (omega (arith, fits.0)) (plain_number c (decimal x) (omega (arith, fits.1)) (plain_decimal x fits.2)))
  plain_op (Release p) fits = let a = h.few_pages in plain_append (codes "z ") (decimal p) (plain_codes (codes "z ") refl) (plain_decimal p (omega (arith, fits)))

  plain_late : (version : Version) (op : Op) → LateOpFits version e op → IsLine (op_line op)
  plain_late version (Read p c) fits = plain_op (Read p c) fits
  plain_late version (Write p c x) fits = plain_op (Write p c x) fits
  plain_late version (Release p) fits = plain_op (Release p) fits.1

  plain_vcpus : (version : Version) (vcpus : List Vcpu) (more : List (List ℕ)) → AllByRecursion (VcpuFits version e) vcpus → AllByRecursion IsLine more → AllByRecursion IsLine (vcpus_onto vcpus more)
  plain_vcpus version [] more fits rest = rest
  plain_vcpus version (vcpu ∷ vcpus) more fits rest =
      let a = fits.0.few_before in
      let b = fits.0.few_after in
      let head = plain_append vcpu_key (decimal (length vcpu.before_move) ++ 32 ∷ decimal (length vcpu.after_move)) (plain_codes vcpu_key refl) (plain_number (length vcpu.before_move) (decimal (length vcpu.after_move)) (omega arith) (plain_decimal (length vcpu.after_move) (omega arith))) in
      let others = plain_vcpus version vcpus more fits.1 rest in
      let late = plain_section op_line (LateOpFits version e) vcpu.after_move (vcpus_onto vcpus more) (plain_late version) fits.0.after_move others in
      (head, plain_section op_line (OpFits e) vcpu.before_move (map op_line vcpu.after_move ++ vcpus_onto vcpus more) plain_op fits.0.before_move late)

pub plain_script : (v : Scenario) (lines : List (List ℕ)) → SpellsScript v lines → AllByRecursion IsLine lines
plain_script v lines s =
    let e = v.geometry in
    let f = s.0 in
    let few_pages = f.geometry.few_pages in
    let few_cells = f.geometry.few_cells in
    let few_pivots = f.few_pivots in
    let few_window = f.few_window in
    let few_vcpus = f.few_vcpus in
    let rises = rise_of e v.init f.init in
    let high = rises.1 in
    let long = rise_long 0 rises.0 v.init rises.2 in
    let vcpus : AllByRecursion IsLine (vcpus_lines v) = (plain_keyed vcpus_key (length v.vcpus) (plain_codes vcpus_key refl) (omega arith), plain_vcpus e f.geometry v.version v.vcpus (closing ∷ []) f.vcpus (plain_codes closing refl, tt)) in
    let lanes : AllByRecursion IsLine (lanes_lines v) = plain_lanes v.version v.lane (vcpus_lines v) vcpus in
    let up : AllByRecursion IsLine (up_lines v) = (plain_append up_key (fates_text v.up) (plain_codes up_key refl) (plain_fates v.up), lanes) in
    let down : AllByRecursion IsLine (down_lines v) = (plain_append down_key (fates_text v.down) (plain_codes down_key refl) (plain_fates v.down), up) in
    let window : AllByRecursion IsLine (window_lines v) = (plain_keyed window_key v.window (plain_codes window_key refl) (omega arith), down) in
    let pivots : AllByRecursion IsLine (pivots_lines v) = (plain_keyed pivots_key v.pivots (plain_codes pivots_key refl) (omega arith), window) in
    let init : AllByRecursion IsLine (init_lines v) = (plain_keyed init_key (length v.init) (plain_codes init_key refl) (omega arith), plain_section page_line (InitPageFits e) v.init (pivots_lines v) (plain_page e few_pages) f.init.each pivots) in
    subst (AllByRecursion IsLine) (sym s.1) (plain_header v.version, (plain_keyed pages_key e.pages (plain_codes pages_key refl) (omega arith), (plain_keyed cells_key e.cells (plain_codes cells_key refl) (omega arith), init)))
