use Rattle.std.proofs.Common.{◌≡◌, ℕ, ◌-◌, List, ◌∷◌, take, sym, ap, ◌∙◌, subst, arith}
use Rattle.std.specs.List.{Contains}
use Rattle.bubbling.specs.Bubbling.{Ring, IsRing}
use Rattle.bubbling.proofs.Rings.{ring, newest, still_ring}
use Rattle.bubbling.proofs.pivots.Pivots.add.Goals as goal

pub invariant_of-self : goal.invariant_of-self
invariant_of-self c =
    let i = c.self.inside in
    let some = c.self.invariant.some in
    let few = c.self.invariant.few in
    let r = ring i.most i.pages.items i.turn in
    let all = still_ring r c.args.page c.self.invariant (λ h. c.requires (subst (λ (r : Ring). Contains r.pivots c.args.page) c.self.view_is h)) in
    let grown : c.insert.new.self.items ≡ c.args.page ∷ take (i.most - 1) i.pages.items = c.insert.ensures.items ∙ ap (λ (t : List ℕ). c.args.page ∷ t) c.truncate.ensures.items in
    subst (λ (pivots : List ℕ). IsRing (ring i.most pivots 0)) (sym (grown ∙ newest i.most c.args.page i.pages.items (omega arith))) all
