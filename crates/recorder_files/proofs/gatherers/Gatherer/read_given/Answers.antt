use Rattle.std.proofs.Common.{◌≡◌, ◌<◌, IfSome, Some, None, false, length, refl, sym, ap, subst, ◌∙◌, arith}
use Rattle.std.proofs.lemmas.List.{with_items_is}
use Rattle.std.proofs.lemmas.Result.{err_from_is_err_and}
use Rattle.std.specs.Vec.{with_items}
use Rattle.recorder_files.specs.Logs.{AreAt, Came, Gathering, is_given}
use Rattle.recorder_files.specs.Gathered.{Has}
use Rattle.recorder_files.specs.inner.Turns.{AreTurns}
use Rattle.recorder_files.proofs.Gathering.{came_read_on, came_here, given_is, others_not}
use Rattle.recorder_files.proofs.Waiting.{read_on}
use Rattle.recorder_files.proofs.gatherers.Gatherer.read_given.Goals as goal

pub returns-in_err-read_on-clause-refused : goal.returns-in_err-read_on-clause-refused
returns-in_err-read_on-clause-refused g c =
    let p = err_from_is_err_and c.from_residual.result c.from_residual.ensures.1 in
    rw (p.1, p.2) (λ party knowns log came gathering front.
    let inside = c.self.inside in
    let i = c.in-Some.i in
    let was : Gathering = record { files = inside.files.items; heads = inside.heads.items; given = inside.given; number = inside.number } in
    let here : Came party knowns was log = subst (λ (x : Gathering). Came party knowns x log) (sym c.self.view_is) came in
    let at = came_here party knowns was log i c.deref_mut.result.now c.deref_mut-in-Some.result.now here c.in-Some.is c.deref_mut.ensures.value c.deref_mut-in-Some.ensures.value in
    c.in_err-read_on.ensures.refused party knowns here.takens inside.number (is_given (Some i)) at (given_is i) gathering front)

pub returns-in_ok-read_on-clause-read : goal.returns-in_ok-read_on-clause-read
returns-in_ok-read_on-clause-read g c = λ party knowns log came.
    let inside = c.self.inside in
    let i = c.in-Some.i in
    let was : Gathering = record { files = inside.files.items; heads = inside.heads.items; given = inside.given; number = inside.number } in
    let here : Came party knowns was log = subst (λ (x : Gathering). Came party knowns x log) (sym c.self.view_is) came in
    let at = came_here party knowns was log i c.deref_mut.result.now c.deref_mut-in-Some.result.now here c.in-Some.is c.deref_mut.ensures.value c.deref_mut-in-Some.ensures.value in
    let files = c.read_on.new.files in
    let heads = c.read_on.new.heads in
    let now : AreAt party knowns files heads here.takens inside.number (λ _. false) = c.in_ok-read_on.ensures.read party knowns here.takens inside.number (is_given (Some i)) (λ _. false) at (given_is i) refl (others_not i) in
    let many_files : length files ≡ inside.files.len = omega (arith, now.many_knowns, at.many_knowns, c.deref_mut.ensures.len) in
    let many_heads : length heads ≡ inside.heads.len = omega (arith, now.many_knowns, now.many_heads, at.many_knowns, at.many_heads, c.deref_mut-in-Some.ensures.len) in
    let back_files : (with_items inside.files files).items ≡ files = with_items_is inside.files files many_files in
    let back_heads : (with_items inside.heads heads).items ≡ heads = with_items_is inside.heads heads many_heads in
    let after : Came party knowns (record { files = files; heads = heads; given = None; number = inside.number }) log = came_read_on party knowns was log files heads here now in
    subst (λ fs. Came party knowns (record { files = fs; heads = (with_items inside.heads heads).items; given = None; number = inside.number }) log) (sym back_files) (subst (λ hs. Came party knowns (record { files = files; heads = hs; given = None; number = inside.number }) log) (sym back_heads) after)

pub invariant_of-self : goal.invariant_of-self
invariant_of-self g c =
    let inside = c.self.inside in
    let heads = c.read_on.new.heads in
    let files = c.read_on.new.files in
    let given : (c.in-Some.i < length inside.files.items) × (c.in-Some.i ≡ inside.turns.last) = subst (λ o. IfSome o (λ i. (i < length inside.files.items) × (i ≡ inside.turns.last))) c.in-Some.is c.self.invariant.1 in
    let same_heads : length heads ≡ length inside.heads.items = c.read_on.auto.heads ∙ ap length c.deref_mut-in-Some.ensures.value in
    let same_files : length files ≡ length inside.files.items = c.read_on.auto.files ∙ ap length c.deref_mut.ensures.value in
    let back_heads : (with_items inside.heads heads).items ≡ heads = with_items_is inside.heads heads (omega (arith, same_heads, ap length c.deref_mut-in-Some.ensures.value, c.deref_mut-in-Some.ensures.len)) in
    let back_files : (with_items inside.files files).items ≡ files = with_items_is inside.files files (omega (arith, same_files, ap length c.deref_mut.ensures.value, c.deref_mut.ensures.len)) in
    let turns : AreTurns heads inside.turns = read_on inside.heads.items heads inside.turns (λ j n has other. subst (λ hs. Has hs j n) c.deref_mut-in-Some.ensures.value (c.read_on.ensures.kept j n has (λ e. other (e ∙ given.1)))) c.self.invariant.2 in (
      ap length back_heads ∙ same_heads ∙ c.self.invariant.0 ∙ sym same_files ∙ sym (ap length back_files),
      subst (λ o. IfSome o (λ i. (i < length (with_items inside.files files).items) × (i ≡ inside.turns.last))) (sym c.in-Some.is) (omega (arith, given.0, same_files, ap length back_files), given.1),
      subst (λ hs. AreTurns hs inside.turns) (sym back_heads) turns,
    )

pub invariant_of-self-in-Some : goal.invariant_of-self-in-Some
invariant_of-self-in-Some g c =
    let inside = c.self.inside in
    let heads = c.read_on.new.heads in
    let files = c.read_on.new.files in
    let given : (c.in-Some.i < length inside.files.items) × (c.in-Some.i ≡ inside.turns.last) = subst (λ o. IfSome o (λ i. (i < length inside.files.items) × (i ≡ inside.turns.last))) c.in-Some.is c.self.invariant.1 in
    let same_heads : length heads ≡ length inside.heads.items = c.read_on.auto.heads ∙ ap length c.deref_mut-in-Some.ensures.value in
    let same_files : length files ≡ length inside.files.items = c.read_on.auto.files ∙ ap length c.deref_mut.ensures.value in
    let back_heads : (with_items inside.heads heads).items ≡ heads = with_items_is inside.heads heads (omega (arith, same_heads, ap length c.deref_mut-in-Some.ensures.value, c.deref_mut-in-Some.ensures.len)) in
    let back_files : (with_items inside.files files).items ≡ files = with_items_is inside.files files (omega (arith, same_files, ap length c.deref_mut.ensures.value, c.deref_mut.ensures.len)) in
    let turns : AreTurns heads inside.turns = read_on inside.heads.items heads inside.turns (λ j n has other. subst (λ hs. Has hs j n) c.deref_mut-in-Some.ensures.value (c.read_on.ensures.kept j n has (λ e. other (e ∙ given.1)))) c.self.invariant.2 in (
      ap length back_heads ∙ same_heads ∙ c.self.invariant.0 ∙ sym same_files ∙ sym (ap length back_files),
      tt,
      subst (λ hs. AreTurns hs inside.turns) (sym back_heads) turns,
    )
