use Rattle.std.proofs.Common.{◌≡◌, ℕ, ◌+◌, ◌<◌, ◌≤◌, ◌++◌, ◌∷◌, [], true, false, Some, List, length, sym, ap, subst, ◌∙◌, arith}
use Rattle.std.specs.Prelude.{is_some, IsErrOf}
use Rattle.std.proofs.lemmas.Grind.{common_steps}
use Rattle.migration_types.specs.Extents.{Extent}
use Rattle.migration_types.specs.Limits.{most_records}
use Rattle.migration_types.specs.declared.records.PagerRec.{PagerRec}
use Rattle.migration_types.specs.declared.records.PagerRec.TheVariants.{Fault, Join, Want}
use Rattle.page_store.specs.Tables.{values, with_value}
use Rattle.fault_queue.specs.Waiting.{is_asked}
use Rattle.page_stream.specs.declared.Packet.TheVariants.{Want as WantPacket}
use Rattle.migration_events.specs.declared.faults.EventFault.TheVariants.{LogFull, Memory}
use Rattle.target_side.specs.PagerLists.{PagerLists, part_of, IsKept}
use Rattle.target_side.specs.inner.Steps.{learned, asks}
use Rattle.target_side.proofs.Sounds.{sound_with}
use Rattle.target_side.proofs.Ticking.{sound_wanting}
use Rattle.target_side.proofs.Paging.{asked_wanted, asks_length, kept_more_waiting, asked_part, kept_new, told_joined, told_new, asked_joined, asked_new}
use Rattle.target_side.proofs.pager.PagerBook.ask.Goals as goal

pub returns-in_err-make_room-clause-full : goal.returns-in_err-make_room-clause-full
returns-in_err-make_room-clause-full c =
    let full : IsErrOf c.from_residual.result LogFull → most_records < length c.self.inside.log.items + 2 = grind (arith, common_steps) in
    let e : length (asks c.args.missing.page c.args.missing.vcpu (learned c.args.missing.number (part_of c.args.self.now))).log ≡ length c.self.inside.log.items + 2 =
    ap (λ (v : PagerLists). length (asks c.args.missing.page c.args.missing.vcpu (learned c.args.missing.number (part_of v))).log) (sym c.self.view_is)
    ∙ asks_length _ c.args.missing.number c.args.missing.page c.args.missing.vcpu c.self.invariant.kept
    in
    λ h. subst (λ (n : ℕ). most_records < n) (sym e) (full h)

pub returns-in_err-make_room-clause-memory : goal.returns-in_err-make_room-clause-memory
returns-in_err-make_room-clause-memory c =
    let room : IsErrOf c.from_residual.result Memory → length c.self.inside.log.items + 2 ≤ most_records = grind (arith, common_steps) in
    let e : length (asks c.args.missing.page c.args.missing.vcpu (learned c.args.missing.number (part_of c.args.self.now))).log ≡ length c.self.inside.log.items + 2 =
    ap (λ (v : PagerLists). length (asks c.args.missing.page c.args.missing.vcpu (learned c.args.missing.number (part_of v))).log) (sym c.self.view_is)
    ∙ asks_length _ c.args.missing.number c.args.missing.page c.args.missing.vcpu c.self.invariant.kept
    in
    λ h. subst (λ (n : ℕ). n ≤ most_records) (sym e) (room h)

pub invariant_of-self-in-Some : goal.invariant_of-self-in-Some
invariant_of-self-in-Some c =
    let there : is_some c.self.inside.released ≡ true = ap (λ (v : PagerLists). is_some v.released) c.self.view_is ∙ c.requires.ready in
    let is : is_asked c.args.missing.page c.self.inside.waiting ≡ true = told_joined _ c.in-Ok.asked c.in-Ok.ensures.told c.in-Joined.is in
    let outbox = c.reserve.ensures.items in
    let kept = kept_more_waiting _ c.args.missing.number c.args.missing.page c.args.missing.vcpu c.in-Some.want c.append-in-Some.new.log.items c.fault.new.self there
    (c.append-in-Some.ensures.items
    ∙ ap (λ l. l ++ Join c.in-Some.want ∷ []) c.append.ensures.items
    ∙ ap (λ (l : List PagerRec). (l ++ Fault c.args.missing.number ∷ []) ++ Join c.in-Some.want ∷ []) c.make_room.ensures.items)
    (asked_joined _ c.args.missing.page c.args.missing.vcpu c.self.inside.waiting c.fault.new.self c.in-Ok.ensures.entries is)
    c.in_ok-make_room.ensures.fits c.self.invariant.kept
    in rw outbox (sound_with _ _ _ _ c.self.invariant kept)

pub invariant_of-self-in_default-at : goal.invariant_of-self-in_default-at
invariant_of-self-in_default-at c =
    let is : is_asked c.args.missing.page c.self.inside.waiting ≡ true = told_joined _ c.in-Ok.asked c.in-Ok.ensures.told c.in-Joined.is in
    let w = asked_wanted c.self.inside.geometry (values c.self.inside.wants) c.self.inside.waiting c.args.missing.page c.self.invariant.kept.tied.waiting is in
    absurd (c.in_default-at.not-Some w.0 (c.at.ensures ∙ w.1))

pub returns-in_default-at-clause-ok : goal.returns-in_default-at-clause-ok
returns-in_default-at-clause-ok c =
    let is : is_asked c.args.missing.page c.self.inside.waiting ≡ true = told_joined _ c.in-Ok.asked c.in-Ok.ensures.told c.in-Joined.is in
    let w = asked_wanted c.self.inside.geometry (values c.self.inside.wants) c.self.inside.waiting c.args.missing.page c.self.invariant.kept.tied.waiting is in
    absurd (c.in_default-at.not-Some w.0 (c.at.ensures ∙ w.1))

pub invariant_of-self-in-New : goal.invariant_of-self-in-New
invariant_of-self-in-New c =
    let there : is_some c.self.inside.released ≡ true = ap (λ (v : PagerLists). is_some v.released) c.self.view_is ∙ c.requires.ready in
    let same : c.args.self.now.geometry ≡ c.self.inside.geometry = sym (ap (λ (v : PagerLists). v.geometry) c.self.view_is) in
    let fits : c.args.missing.page < c.self.inside.geometry.pages = subst (λ (e : Extent). c.args.missing.page < e.pages) same c.requires.page in
    let new : is_asked c.args.missing.page c.self.inside.waiting ≡ false = told_new _ c.in-Ok.asked c.in-Ok.ensures.told c.in-New.is in
    let learned_log : c.append.new.log.items ≡ c.self.inside.log.items ++ Fault c.args.missing.number ∷ [] = c.append.ensures.items ∙ ap (λ l. l ++ Fault c.args.missing.number ∷ []) c.make_room.ensures.items in
    let number = c.want_page-number.ensures.number ∙ ap length learned_log in
    let part = asked_part _ c.args.missing.number c.args.missing.page c.args.missing.vcpu c.want_page-number.result c.want_page-number.new.log.items c.push_back_reserved.new.self.items c.fault.new.self (values c.want_page-number.new.wants)
    (c.want_page-number.ensures.items ∙ ap (λ l. l ++ Want c.args.missing.page ∷ []) learned_log)
    (c.push_back_reserved.ensures.items ∙ ap (λ xs. xs ++ WantPacket c.want_page-number.result c.args.missing.page ∷ []) c.reserve.ensures.items)
    (asked_new _ c.args.missing.page c.args.missing.vcpu c.self.inside.waiting c.fault.new.self c.in-Ok.ensures.entries new)
    (c.want_page-number.ensures.wants.values_are ∙ ap (λ (n : ℕ). with_value c.args.missing.page (Some n) (values c.self.inside.wants)) (sym c.want_page-number.ensures.number))
    number
    in
    sound_wanting _ _ _ _ c.self.invariant c.want_page-number.ensures.wants.pages
    (subst IsKept (sym part) (kept_new _ c.args.missing.number c.args.missing.page c.args.missing.vcpu there fits c.in_ok-make_room.ensures.fits c.self.invariant.kept))
