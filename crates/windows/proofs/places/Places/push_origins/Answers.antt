use Rattle.std.proofs.Common.{arith, rules, ◌<◌, ◌+◌, ◌^◌, ◌≡◌, ap, ◌∙◌, ◌++◌, ◌∷◌, [], map, append_assoc}
use Rattle.windows.specs.Origins.{list_origins}
use Rattle.windows.proofs.Found.{most}
use Rattle.windows.proofs.Lineage.{list_is}
use Rattle.windows.proofs.places.Places.push_origins.Goals as goal

pub push_lines-requires : goal.push_lines-requires
push_lines-requires c =
    let b : c.in_ok-item.item + c.self.inside.count < 2 ^ 64 = search rules in
    rw c.deref.ensures.value (λ k lt. let m = most 0 c.self.inside.count c.self.inside.kept.items k 0 c.self.invariant lt in omega (arith, m, b))

pub returns-clause-lines : goal.returns-clause-lines
returns-clause-lines c =
    let e : c.in_ok-item.item ≡ c.args.first + 1 = search rules in
    c.in_ok-push_lines.ensures
    ∙ ap (λ xs. xs ++ map (λ p. c.in_ok-item.item + p) c.deref.result.now) c.in_ok-push.ensures.items
    ∙ append_assoc c.args.lines.now.items (c.args.first ∷ []) (map (λ p. c.in_ok-item.item + p) c.deref.result.now)
    ∙ ap (λ xs. c.args.lines.now.items ++ c.args.first ∷ map (λ p. c.in_ok-item.item + p) xs) c.deref.ensures.value
    ∙ ap (λ xs. c.args.lines.now.items ++ xs) (list_is c.args.first c.in_ok-item.item c.self.inside.count c.self.inside.kept.items c.self.invariant e ∙ ap (list_origins c.args.first) c.self.view_is)
