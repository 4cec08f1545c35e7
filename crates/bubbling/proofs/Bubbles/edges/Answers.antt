use Rattle.std.proofs.Common.{◌≡◌, Some, None, get_or, sym, ap, ◌∙◌, subst, arith}
use Rattle.std.specs.Option.{option_map}
use Rattle.bubbling.specs.Bubbling.{Bubbling, edges_of, marked}
use Rattle.bubbling.specs.Edges.{low_edge, high_edge, edges_in, IsReach}
use Rattle.bubbling.proofs.Reaches.{reaches_length, reach_at, edges_at, edges_none}
use Rattle.bubbling.proofs.Bubbles.edges.Goals as goal

pub returns-in_err-place-clause-edges : goal.returns-in_err-place-clause-edges
returns-in_err-place-clause-edges c =
    let i = c.self.inside in
    let none : edges_in c.args.page i.pivots.pivots i.edges.items ≡ None = edges_none c.args.page i.pivots.pivots i.edges.items (λ h. grind (arith, c.place.ensures, c.branch-place.ensures, c.in_err-place.ensures)) in
    subst (λ (b : Bubbling). c.from_residual.result ≡ option_map (λ e. (low_edge e, high_edge e)) (edges_of c.args.page b)) c.self.view_is (c.from_residual.ensures ∙ ap (option_map (λ e. (low_edge e, high_edge e))) (sym none))

pub at-requires : goal.at-requires
at-requires c =
    let i = c.self.inside in
    omega (arith, c.in_ok-place.ensures.0, reaches_length i.geometry.pages (marked i.unsent) i.pivots.pivots i.edges.items c.self.invariant.1)

pub told-requires-clause-start : goal.told-requires-clause-start
told-requires-clause-start c =
    let i = c.self.inside in
    let reach = reach_at i.geometry.pages (marked i.unsent) i.pivots.pivots i.edges.items c.in_ok-place.place c.at.result c.self.invariant.1 c.in_ok-place.ensures.0 in
    let here = subst (λ e. IsReach i.geometry.pages (marked i.unsent) (get_or i.pivots.pivots c.in_ok-place.place 0) e) (sym c.at.ensures) reach in
    omega (arith, here.start, c.keeps_limits.ensures, c.self.invariant.0)

pub told-requires-clause-end : goal.told-requires-clause-end
told-requires-clause-end c =
    let i = c.self.inside in
    let reach = reach_at i.geometry.pages (marked i.unsent) i.pivots.pivots i.edges.items c.in_ok-place.place c.at.result c.self.invariant.1 c.in_ok-place.ensures.0 in
    let here = subst (λ e. IsReach i.geometry.pages (marked i.unsent) (get_or i.pivots.pivots c.in_ok-place.place 0) e) (sym c.at.ensures) reach in
    omega (arith, here.end, c.keeps_limits.ensures, c.self.invariant.0)

pub returns-clause-edges : goal.returns-clause-edges
returns-clause-edges c =
    let i = c.self.inside in
    let within = c.in_ok-place.ensures.0 in
    let found : edges_in c.args.page i.pivots.pivots i.edges.items ≡ Some c.at.result =
    ap (λ p. edges_in p i.pivots.pivots i.edges.items) (sym c.in_ok-place.ensures.1)
    ∙ edges_at i.pivots.pivots i.edges.items c.in_ok-place.place c.at.result c.keeps_limits-2.ensures.distinct (reaches_length i.geometry.pages (marked i.unsent) i.pivots.pivots i.edges.items c.self.invariant.1) within
    ∙ ap Some (sym c.at.ensures) in
    subst (λ (b : Bubbling). Some c.told.result ≡ option_map (λ e. (low_edge e, high_edge e)) (edges_of c.args.page b)) c.self.view_is (ap Some c.told.ensures ∙ ap (option_map (λ e. (low_edge e, high_edge e))) (sym found))
