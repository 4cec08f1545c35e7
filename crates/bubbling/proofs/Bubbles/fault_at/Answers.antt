use Rattle.std.proofs.Common.{◌≡◌, ◌<◌, ◌∷◌, take, sym, ap, ◌∙◌, subst, arith}
use Rattle.std.proofs.lemmas.Grind.{common_steps}
use Rattle.std.specs.List.{Contains}
use Rattle.bubbling.specs.Bubbling.{Ring, Bubbling, NoneInward, marked}
use Rattle.bubbling.specs.Edges.{at_page, AreReaches}
use Rattle.bubbling.proofs.Reaches.{reaches_new, fault_outward}
use Rattle.bubbling.proofs.Bubbles.fault_at.Goals as goal

pub invariant_of-self : goal.invariant_of-self
invariant_of-self c =
    let i = c.self.inside in
    let page : c.args.page < i.geometry.pages = subst (λ (b : Bubbling). c.args.page < b.geometry.pages) (sym c.self.view_is) c.requires in
    let new = reaches_new i.pivots.most i.geometry.pages (marked i.unsent) c.args.page i.pivots.pivots i.edges.items page c.self.invariant.1 in
    let most : c.most.result ≡ i.pivots.most = c.most.ensures ∙ ap (λ (r : Ring). r.most) c.add.ensures in
    let edges : c.add-then-is_none.new.edges.items ≡ take i.pivots.most (at_page c.args.page ∷ i.edges.items) = c.add-then-is_none.ensures ∙ ap (λ n. take n (at_page c.args.page ∷ i.edges.items)) most in (
      c.self.invariant.0,
      subst (λ (r : Ring). AreReaches i.geometry.pages (marked i.unsent) r.pivots c.add-then-is_none.new.edges.items) (sym c.add.ensures) (subst (λ es. AreReaches i.geometry.pages (marked i.unsent) (take i.pivots.most (c.args.page ∷ i.pivots.pivots)) es) (sym edges) new),
    )

pub returns-then-is_none-clause-outward : goal.returns-then-is_none-clause-outward
returns-then-is_none-clause-outward c =
    let i = c.self.inside in
    let new : Contains i.pivots.pivots c.args.page → ⊥ = grind (arith, common_steps, c.place.ensures, c.is_none.ensures, c.if-is_none.true) in
    let most : c.most.result ≡ i.pivots.most = c.most.ensures ∙ ap (λ (r : Ring). r.most) c.add.ensures in
    let edges : c.add-then-is_none.new.edges.items ≡ take i.pivots.most (at_page c.args.page ∷ i.edges.items) = c.add-then-is_none.ensures ∙ ap (λ n. take n (at_page c.args.page ∷ i.edges.items)) most in
    let after : Bubbling = record { geometry = i.geometry; ring = c.add.new.self; edges = c.add-then-is_none.new.edges.items; marks = i.unsent } in
    subst (λ (b : Bubbling). NoneInward b after) c.self.view_is (fault_outward (record { geometry = i.geometry; ring = i.pivots; edges = i.edges.items; marks = i.unsent }) after c.args.page new c.add.ensures edges)
