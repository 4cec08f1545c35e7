-- Laws of what a text has by its version and its size.
use Rattle.std.proofs.Common.{◌≡◌, ◌≢◌, ◌==◌, ℕ, ◌+◌, ◌<◌, ◌≤◌, ◌^◌, List, [], ◌∷◌, ◌++◌, length, map, get_or, if◌then◌else◌, refl, sym, ap, ◌∙◌, arith, length-append}
use Rattle.std.specs.List.{AllByRecursion}
use Rattle.std.proofs.lemmas.List.{length-map}
use Rattle.text_lines.proofs.Sections.{CountedAgree}
use Rattle.migration_types.specs.declared.records.LaneRec.{LaneRec}
use Rattle.migration_types.specs.declared.records.LaneRec.TheVariants.{Down}
use Rattle.migration_types.specs.declared.version.Version.{Version}
use Rattle.migration_types.specs.declared.version.Version.TheVariants.{One, Two}
use Rattle.migration_types.specs.declared.size.Size.{Size}
use Rattle.migration_types.specs.declared.size.Size.TheVariants.{Small, Large}
use Rattle.migration_types.specs.Limits.{HasSize}
use Rattle.migration_types.specs.Sessions.{LaneRecIn, lane_lines}
use Rattle.session_grammar.specs.Records.{lane_line}
use Rattle.session_grammar.specs.Grammar.{header, lane_key, with_lane, counted}
use Rattle.session_grammar.specs.inner.Held.{Part, part_onto, IsWhole, lane_part_onto}
use Rattle.session_grammar.proofs.Sections.{part_append, onto_whole, agrees}

-- what a header's digit tells
abbrev version_in : List ℕ → Version
version_in line = if get_or line 17 49 == 49 then One else Two

abbrev size_in : List ℕ → Size
size_in line = if get_or line 17 51 == 51 then Large else Small

version_told : (version : Version) (size : Size) → version_in (header version size) ≡ version
version_told One Small = refl
version_told One Large = refl
version_told Two Small = refl
version_told Two Large = refl

size_told : (version : Version) (size : Size) → size_in (header version size) ≡ size
size_told One Small = refl
size_told One Large = refl
size_told Two Small = refl
size_told Two Large = refl

pub header_tells : (a b : Version) (k l : Size) → header a k ≡ header b l → (a ≡ b) × (k ≡ l)
header_tells a b k l e = (sym (version_told a k) ∙ ap version_in e ∙ version_told b l, sym (size_told a k) ∙ ap size_in e ∙ size_told b l)

pub no_header : (line : List ℕ) (version : Version) (size : Size) → HasSize version size → line ≢ header One Small → line ≢ header Two Small → line ≢ header Two Large → line ≢ header version size
no_header line One Small has first second third = first
no_header line One Large has first second third = absurd has
no_header line Two Small has first second third = second
no_header line Two Large has first second third = third

pub one_version : (version : Version) → version ≡ One → version ≡ Two → ⊥
one_version One first second = absurd cc
one_version Two first second = absurd cc

-- ---- the lane

-- the first version has no record of it
pub no_records : (past : ℕ) (records : List LaneRec) → AllByRecursion (LaneRecIn past One) records → records ≡ []
no_records past [] h = refl
no_records past (Down n ∷ records) h = absurd h.0.0

pub no_records_at : (past : ℕ) (version : Version) (records : List LaneRec) → version ≡ One → AllByRecursion (LaneRecIn past version) records → records ≡ []
no_records_at past One records is h = no_records past records h
no_records_at past Two records is h = absurd cc

-- the second has its lines
pub lane_is : (version : Version) (part : Part LaneRec) (more : List (List ℕ)) → version ≡ Two → lane_part_onto version part more ≡ part_onto lane_key lane_line part more
lane_is version part more is = ap (λ (v : Version). lane_part_onto v part more) is

pub lane_append : (version : Version) (part : Part LaneRec) (a b : List (List ℕ)) → lane_part_onto version part a ++ b ≡ lane_part_onto version part (a ++ b)
lane_append One part a b = refl
lane_append Two part a b = part_append lane_key lane_line part a b

pub lane_whole : (version : Version) (part : Part LaneRec) (more rest : List (List ℕ)) → IsWhole part → more ≡ rest → lane_part_onto version part more ≡ with_lane version part.items rest
lane_whole One part more rest whole e = e
lane_whole Two part more rest whole e = onto_whole lane_key lane_line part more rest whole e

pub lane_long : (version : Version) (part : Part LaneRec) (more : List (List ℕ)) → length (lane_part_onto version part more) ≡ lane_lines version (length part.items) + length more
lane_long One part more = omega arith
lane_long Two part more = omega (arith, length-append (map lane_line part.items) more, length-map part.items lane_line)

pub lane_short : (version : Version) (count : ℕ) → lane_lines version count ≤ 1 + count
lane_short One count = omega arith
lane_short Two count = omega arith

pub lane_some : (version : Version) (records : List LaneRec) (more : List (List ℕ)) → 0 < length more → 0 < length (with_lane version records more)
lane_some One records more some = some
lane_some Two records more some = omega arith

-- what the lane of a text is, of which these lines came; in the first version nothing can come
pub lane_agree : (past bound : ℕ) (a b : Version) (part : Part LaneRec) (xs : List LaneRec) (rest more : List (List ℕ)) → a ≡ b → (b ≡ One → IsWhole part) → part.count < 2 ^ 64 → length xs < 2 ^ 64 → AllByRecursion (LaneRecIn bound b) part.items → AllByRecursion (LaneRecIn past a) xs → with_lane a xs rest ≡ lane_part_onto b part more → CountedAgree lane_line part.count xs part.items rest more
lane_agree past bound One One part xs rest more is whole p q f h e =
    let none = no_records past xs h in
    let empty = no_records bound part.items f in
    let all = whole refl in
    record {
      count = omega (arith, ap (λ (t : List LaneRec). length t) none, ap (λ (t : List LaneRec). length t) empty);
      items = rw (none, empty) e;
    }
lane_agree past bound One Two part xs rest more is whole p q f h e = absurd cc
lane_agree past bound Two One part xs rest more is whole p q f h e = absurd cc
lane_agree past bound Two Two part xs rest more is whole p q f h e = agrees lane_key lane_line part xs rest more p q e

pub first_behind : (version : Version) (records : List LaneRec) (rest : List (List ℕ)) → version ≡ One → with_lane version records rest ≡ rest
first_behind version records rest is = ap (λ (v : Version). with_lane v records rest) is

pub second_behind : (version : Version) (records : List LaneRec) (rest : List (List ℕ)) → version ≡ Two → with_lane version records rest ≡ counted lane_key lane_line records rest
second_behind version records rest is = ap (λ (v : Version). with_lane v records rest) is
