use Rattle.std.proofs.Common.{rules, ◌≡◌, ℕ, List, [], ◌∷◌, ◌++◌, length, false, ap, ◌∙◌, sym, subst}
use Rattle.residency.specs.Placements.{placements, freed, is_resident}
use Rattle.target_side.specs.declared.target.Placement.{Placement}
use Rattle.target_side.specs.History.{Placed, IsHistoryOf}
use Rattle.target_side.specs.Kept.{Kept, part_of, part_held}
use Rattle.target_side.specs.inner.States.{held}
use Rattle.target_side.specs.inner.Woven.{woven}
use Rattle.target_side.proofs.Parts.{sized_own}
use Rattle.target_side.proofs.Targets.{placed_book, placed_history, place_after}
use Rattle.target_side.proofs.target.TargetBook.place.Goals as goal

abbrev placement : goal.After-push_reserved → Placement
placement c = record { after = c.len-after.result; page = c.args.page; number = c.args.number; contents = c.in_ok-stored.stored }

same_log : (c : goal.After-push_reserved) → (held c.place.new.self).log ≡ (held c.self.inside.state).log
same_log c = ap (λ v. v.items) c.place.ensures.log

stored : (c : goal.After-push_reserved) → c.in_ok-stored.stored ≡ c.args.contents.now
stored c = c.in_ok-stored.ensures

after : (c : goal.After-push_reserved) → (placement c).after ≡ length (held c.self.inside.state).log
after c = let e = c.len-after.ensures in search (rules, e)

pub invariant_of-self-2 : goal.invariant_of-self-2
invariant_of-self-2 c =
    let i = c.self.inside in
    let old = held i.state in
    let new = held c.place.new.self in
    let e = i.state.frames.geometry in
    let absent : is_resident (placements old.places c.args.page) (freed old.places c.args.page) ≡ false =
    ap (λ (k : Kept). is_resident ((part_of k).placed c.args.page) ((part_of k).freed c.args.page)) c.self.view_is ∙ c.requires.absent in
    let history = subst (λ (xs : List ℕ). IsHistoryOf (part_held new) (woven 0 old.log i.placements.items ++ Placed c.args.page c.args.number xs ∷ [])) (sym (stored c))
    (place_after old new i.placements.items c.args.page c.args.number c.args.contents.now c.self.invariant c.place.ensures.part absent) in
    rw (c.push_reserved.ensures.items, c.reserve.ensures.items)
    (placed_book old new i.placements.items (placement c) c.self.invariant (sized_own e new (c.place.ensures.sized e c.self.invariant.sized)) (same_log c) (after c) history)

pub returns-clause-history : goal.returns-clause-history
returns-clause-history c =
    let i = c.self.inside in
    let grown = placed_history (held i.state) (held c.place.new.self) i.placements.items (placement c) (same_log c) (after c) in
    rw (c.push_reserved.ensures.items, c.reserve.ensures.items)
    (grown
    ∙ ap (λ (xs : List ℕ). woven 0 (held i.state).log i.placements.items ++ Placed c.args.page c.args.number xs ∷ []) (stored c)
    ∙ ap (λ (k : Kept). k.history ++ Placed c.args.page c.args.number c.args.contents.now ∷ []) c.self.view_is)
