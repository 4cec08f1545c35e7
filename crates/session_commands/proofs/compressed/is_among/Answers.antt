use Rattle.std.proofs.Common.{refl, subst, sym, ◌∙◌}
use Rattle.std.specs.Prelude.{map, string_bytes}
use Rattle.std.specs.List.{Contains}
use Rattle.std.proofs.lemmas.Bool.Decides.{Decides-eqb}
use Rattle.std.proofs.lemmas.Slice.Eq.{slice_eq-Decides}
use Rattle.session_commands.proofs.Compressing.{among_all, among_fewer, among_taken}
use Rattle.session_commands.proofs.compressed.is_among.Goals as goal

pub returns-then-eq : goal.returns-then-eq
returns-then-eq c =
    let same = (slice_eq-Decides Decides-eqb _ _ _ c.eq.ensures).0 c.if-eq.true in
    ((λ yes. subst (Contains (map string_bytes c.args.names.now)) (sym c.as_bytes.ensures.value ∙ same) (among_all string_bytes c.args.names.now c.loop-other.other-index c.other-item.result c.loop-other-test.true c.other-item.is)), (λ there. refl))

pub loop-other-preserved : goal.loop-other-preserved
loop-other-preserved c = among_fewer string_bytes c.args.names.now c.loop-other.other-index c.other-item.result c.args.name.now c.loop-other-test.true c.other-item.is (λ same. let equal = (slice_eq-Decides Decides-eqb _ _ _ c.eq.ensures).1 (c.as_bytes.ensures.value ∙ same) in let other = c.if-eq.false in absurd cc) c.loop-other.invariant

pub returns : goal.returns
returns c = ((λ yes. let yes = yes in absurd cc), (λ there. absurd (among_taken string_bytes c.args.names.now c.loop-other.other-index c.args.name.now c.loop-other-test.false c.loop-other.invariant there)))
