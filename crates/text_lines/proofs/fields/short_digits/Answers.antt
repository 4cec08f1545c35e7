use Rattle.std.proofs.Common.{◌≡◌, ◌<◌, ◌+◌, ◌*◌, ◌%◌, length, get_or, ◌∙◌, arith}
use Rattle.text_lines.proofs.Fronts.{short_value, stop_here, digit_push, byte_digit, value_push}
use Rattle.text_lines.proofs.fields.short_digits.Goals as goal

pub overflow_mul-n : goal.overflow_mul-n
overflow_mul-n c =
    let i = c.loop-at.invariant in
    omega (arith, i.value, short_value c.args.text.now c.loop-at.at (omega arith) (omega arith) i.digits)

pub overflow_add-n : goal.overflow_add-n
overflow_add-n c =
    let i = c.loop-at.invariant in
    let digit = c.from-in-loop-at.ensures in
    omega (arith, digit, i.value, short_value c.args.text.now c.loop-at.at (omega arith) (omega arith) i.digits)

pub returns-then-digit-gt9 : goal.returns-then-digit-gt9
returns-then-digit-gt9 c =
    let i = c.loop-at.invariant in
    let within : c.loop-at.at < length c.args.text.now = omega arith in
    rw c.from.ensures (stop_here c.args.text.now c.loop-at.n c.loop-at.at i.digits i.value within (omega (arith, c.type_inv.text c.loop-at.at)) c.if-digit-gt9.true)

pub loop-at-preserved : goal.loop-at-preserved
loop-at-preserved c =
    let i = c.loop-at.invariant in
    let within : c.loop-at.at < length c.args.text.now = omega arith in
    let byte : get_or c.args.text.now c.loop-at.at 0 < 256 = omega (arith, c.type_inv.text c.loop-at.at) in
    let d = byte_digit (get_or c.args.text.now c.loop-at.at 0) byte c.if-digit-gt9.false in
    let digit = c.from-in-loop-at.ensures in
    let same : c.loop-at.n * 10 + c.from-in-loop-at.result ≡ c.loop-at.n * 10 + (get_or c.args.text.now c.loop-at.at 0 + 208) % 256 = omega (arith, digit) in
    record {
      digits = digit_push c.args.text.now c.loop-at.at within i.digits (omega arith);
      value = same ∙ value_push c.args.text.now c.loop-at.n c.loop-at.at i.value within byte c.if-digit-gt9.false;
    }
