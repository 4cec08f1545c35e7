use Rattle.std.proofs.Common.{◌≡◌, ◌∷◌, [], ◌++◌, arith, length-append}
use Rattle.std.proofs.lemmas.Grind.{common_steps}
use Rattle.cert_text.proofs.Taken.{took_entry}
use Rattle.cert_text.proofs.entry_lines.take_entries.Goals as goal

pub loop-at-preserved : goal.loop-at-preserved
loop-at-preserved c =
    let entry = c.in-Some.entry in
    let before = c.loop-at.entries.items in
    let count = c.loop-at.invariant.count in
    let grown : c.push.new.self.items ≡ before ++ entry ∷ [] = grind (arith, common_steps, c.push.ensures.items, c.if-is_err.ensures.value) in
    record {
      taken = took_entry c.args.version c.args.size c.args.entries.now.items before c.push.new.self.items c.args.bytes.now c.loop-at.rest.now c.in-Some.after.now c.loop-at.at c.len-page.result entry c.loop-at.invariant.taken (omega (arith, c.loop-at.entries.ok.0)) grown c.in-Some.ensures.0 c.in-Some.ensures.1;
      count = rw grown (omega (arith, length-append before (entry ∷ [])));
    }
