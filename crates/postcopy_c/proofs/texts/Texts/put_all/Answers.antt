use Rattle.std.proofs.Common.{◌≡◌, ◌+◌, ◌++◌, ◌≤◌, ap, drop, length, rules, subst, sym, take, ◌∙◌}
use Rattle.std.specs.List.{concat}
use Rattle.postcopy_c.proofs.Joined.{fits_next, long_next, next_front, parts}
use Rattle.postcopy_c.proofs.texts.Texts.put_all.Goals as goal

pub put_at-requires : goal.put_at-requires
put_at-requires c =
    let now = c.loop-text in
    subst (λ t. now.end + length t ≤ length now.room) (sym c.deref.ensures.value)
    (fits_next c.deref-text-items.result.now now.text-index c.text-item.result c.args.room.now now.room now.end c.loop-text-test.true c.text-item.is now.invariant.end now.invariant.front
    (subst (λ l. length (concat (parts l)) ≤ length c.args.room.now) (sym now.invariant.same) c.requires))

pub loop-text-preserved : goal.loop-text-preserved
loop-text-preserved c =
    let now = c.loop-text in
    let xs = c.deref-text-items.result.now in
    let x = c.text-item.result in
    let long : c.len-end.result ≡ length x.items = search rules in
    record {
      end = ap (λ n. now.end + n) long ∙ ap (λ e. e + length x.items) now.invariant.end ∙ sym (long_next xs now.text-index x c.loop-text-test.true c.text-item.is);
      front = next_front xs now.text-index x c.args.room.now now.room now.end c.loop-text-test.true c.text-item.is now.invariant.end now.invariant.front c.put_at.new.room
          (subst (λ t. c.put_at.new.room ≡ take now.end now.room ++ (t ++ drop (now.end + length t) now.room)) c.deref.ensures.value c.put_at.ensures);
      same = now.invariant.same;
    }
