use Rattle.std.proofs.Common.{◌≡◌, length, take}
use Rattle.std.specs.List.{concat}
use Rattle.postcopy_c.proofs.Joined.{has_front, parts}
use Rattle.postcopy_c.proofs.texts.Texts.put_all.Given as goal

abbrev pub invariant-loop-text : goal.invariant-loop-text
invariant-loop-text l = record {
  end : l.end ≡ length (concat (parts (take l.text-index l.text-items)));
  front : l.room ≡ has_front (parts (take l.text-index l.text-items)) l.fn.room;
  same : l.text-items ≡ l.self.each.items;
}
