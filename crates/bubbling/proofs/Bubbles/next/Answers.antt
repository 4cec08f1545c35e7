use Rattle.std.proofs.Common.{◌≡◌, ◌+◌, ◌<◌, true, length, sym, ap, ◌∙◌, subst, arith}
use Rattle.migration_types.specs.PageSets.{without_page, size_below}
use Rattle.bubbling.specs.Bubbling.{Bubbling, marked, unsent, in_turn, HasMoved, NoneInward}
use Rattle.bubbling.specs.Edges.{IsReach, IsAtRest, AreReaches}
use Rattle.bubbling.proofs.Sizes.{size_without, marked_lt}
use Rattle.bubbling.proofs.Reaches.{reaches_length, in_turn_within, in_turn_reach, moved_reach, next_keeps, next_moved, next_outward}
use Rattle.bubbling.proofs.Bubbles.next.Goals as goal

pub at-requires : goal.at-requires
at-requires c =
    let i = c.self.inside in
    in_turn_within i.geometry.pages (marked i.unsent) i.pivots i.edges.items c.turn-turn.result c.keeps_limits.ensures c.self.invariant.1 c.turn-turn.ensures

pub moved-edges-requires-clause-start : goal.moved-edges-requires-clause-start
moved-edges-requires-clause-start c =
    let i = c.self.inside in
    let reach = in_turn_reach i.geometry.pages (marked i.unsent) i.pivots i.edges.items c.turn-turn.result c.at.result c.keeps_limits.ensures c.self.invariant.1 c.turn-turn.ensures c.at.ensures in
    omega (arith, reach.start, c.self.invariant.0)

pub moved-edges-requires-clause-end : goal.moved-edges-requires-clause-end
moved-edges-requires-clause-end c =
    let i = c.self.inside in
    let reach = in_turn_reach i.geometry.pages (marked i.unsent) i.pivots i.edges.items c.turn-turn.result c.at.result c.keeps_limits.ensures c.self.invariant.1 c.turn-turn.ensures c.at.ensures in
    omega (arith, reach.end, c.self.invariant.0)

pub moved-edges-requires-clause-none : goal.moved-edges-requires-clause-none
moved-edges-requires-clause-none c =
    let i = c.self.inside in
    (in_turn_reach i.geometry.pages (marked i.unsent) i.pivots i.edges.items c.turn-turn.result c.at.result c.keeps_limits.ensures c.self.invariant.1 c.turn-turn.ensures c.at.ensures).none

pub nearest-requires-clause-reach : goal.nearest-requires-clause-reach
nearest-requires-clause-reach c =
    let i = c.self.inside in
    let m = c.moved-edges.ensures in
    let reach = in_turn_reach i.geometry.pages (marked i.unsent) i.pivots i.edges.items c.turn-turn.result c.at.result c.keeps_limits.ensures c.self.invariant.1 c.turn-turn.ensures c.at.ensures in
    let here = subst (λ n. IsReach n (marked i.unsent) (in_turn i.pivots) c.at.result) (sym c.self.invariant.0) reach in
    let moved = subst (λ p. IsReach (length i.unsent) (marked i.unsent) p c.moved-edges.result) (sym c.in_turn.ensures) (moved_reach (length i.unsent) (marked i.unsent) (in_turn i.pivots) c.at.result c.moved-edges.result here m.outward m.end m.none) in
    subst (λ u. IsReach (length u) (marked u) c.in_turn.result c.moved-edges.result) (sym m.same) moved

pub put-requires : goal.put-requires
put-requires c =
    let i = c.self.inside in
    in_turn_within i.geometry.pages (marked i.unsent) i.pivots i.edges.items c.turn-turn.result c.keeps_limits.ensures c.self.invariant.1 c.turn-turn.ensures

pub invariant_of-self : goal.invariant_of-self
invariant_of-self c =
    let i = c.self.inside in
    subst (λ u. (length u ≡ i.geometry.pages) × AreReaches i.geometry.pages (marked u) i.pivots.pivots i.edges.items) (sym c.moved-edges.ensures.same) c.self.invariant

pub invariant_of-self-2 : goal.invariant_of-self-2
invariant_of-self-2 c =
    let i = c.self.inside in
    let m = c.moved-edges.ensures in
    let reach = in_turn_reach i.geometry.pages (marked i.unsent) i.pivots i.edges.items c.turn-turn.result c.at.result c.keeps_limits.ensures c.self.invariant.1 c.turn-turn.ensures c.at.ensures in
    let moved = moved_reach i.geometry.pages (marked i.unsent) (in_turn i.pivots) c.at.result c.moved-edges.result reach m.outward (omega (arith, m.end, c.self.invariant.0)) m.none in (
      c.remove.ensures.len ∙ ap length m.same ∙ c.self.invariant.0,
      next_keeps i.geometry.pages (marked i.unsent) (marked c.remove.new.self) i.pivots c.pass_turn.new.self i.edges.items c.put.new.edges.items c.turn-turn.result c.in_ok-nearest.nearest c.moved-edges.result c.self.invariant.1 moved c.turn-turn.ensures c.pass_turn.ensures c.put.ensures (c.remove.ensures.pages ∙ ap (λ u. without_page c.in_ok-nearest.nearest (marked u)) m.same),
    )

pub returns-clause-edges : goal.returns-clause-edges
returns-clause-edges c =
    let i = c.self.inside in
    let before : Bubbling = record { geometry = i.geometry; ring = i.pivots; edges = i.edges.items; marks = i.unsent } in
    let after : Bubbling = record { geometry = i.geometry; ring = c.pass_turn.new.self; edges = c.put.new.edges.items; marks = c.remove.new.self } in
    let rest = subst (λ n. IsAtRest n (marked i.unsent) c.moved-edges.result) c.self.invariant.0 c.moved-edges.ensures.rest in
    subst (λ (b : Bubbling). HasMoved b after (in_turn b.ring) c.in_ok-nearest.nearest) c.self.view_is (next_moved before after c.turn-turn.result c.in_ok-nearest.nearest c.moved-edges.result c.keeps_limits.ensures (reaches_length i.geometry.pages (marked i.unsent) i.pivots.pivots i.edges.items c.self.invariant.1) c.turn-turn.ensures c.pass_turn.ensures c.put.ensures c.in_ok-nearest.ensures.on_edge rest)

pub returns-clause-outward : goal.returns-clause-outward
returns-clause-outward c =
    let i = c.self.inside in
    let before : Bubbling = record { geometry = i.geometry; ring = i.pivots; edges = i.edges.items; marks = i.unsent } in
    let after : Bubbling = record { geometry = i.geometry; ring = c.pass_turn.new.self; edges = c.put.new.edges.items; marks = c.remove.new.self } in
    let within = in_turn_within i.geometry.pages (marked i.unsent) i.pivots i.edges.items c.turn-turn.result c.keeps_limits.ensures c.self.invariant.1 c.turn-turn.ensures in
    subst (λ (b : Bubbling). NoneInward b after) c.self.view_is (next_outward before after c.turn-turn.result c.at.result c.moved-edges.result within c.at.ensures c.moved-edges.ensures.outward c.pass_turn.ensures c.put.ensures)

pub returns-clause-fewer : goal.returns-clause-fewer
returns-clause-fewer c =
    let i = c.self.inside in
    let same = c.moved-edges.ensures.same in
    let is : marked i.unsent c.in_ok-nearest.nearest ≡ true = ap (λ u. marked u c.in_ok-nearest.nearest) (sym same) ∙ c.in_ok-nearest.ensures.page.is_unsent in
    let in_machine : c.in_ok-nearest.nearest < i.geometry.pages = omega (arith, marked_lt i.unsent c.in_ok-nearest.nearest is, c.self.invariant.0) in
    let fewer = size_without (marked i.unsent) c.in_ok-nearest.nearest i.geometry.pages in_machine is in
    let rest : marked c.remove.new.self ≡ without_page c.in_ok-nearest.nearest (marked i.unsent) = c.remove.ensures.pages ∙ ap (λ u. without_page c.in_ok-nearest.nearest (marked u)) same in
    subst (λ (b : Bubbling). size_below b.geometry.pages (unsent b) ≡ size_below b.geometry.pages (marked c.remove.new.self) + 1) c.self.view_is (fewer ∙ ap (λ pages. size_below i.geometry.pages pages + 1) (sym rest))
