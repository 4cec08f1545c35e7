use Rattle.std.proofs.Common.{length, refl, arith}
use Rattle.std.proofs.lemmas.Option.{slice_get_read}
use Rattle.host_checks.proofs.Comparing.{other_ops}
use Rattle.host_checks.proofs.transcript.are_of_script.Goals as goal

pub returns-then-not-is_of_script : goal.returns-then-not-is_of_script
returns-then-not-is_of_script c =
    let k = c.loop-k.k in
    let vcpus = c.args.vcpus.now in
    let transcripts = c.args.transcripts.now in
    let one = c.index-transcripts-k.result in
    let asked = c.index-vcpus-k.result in
    other_ops vcpus transcripts k asked one
    (slice_get_read transcripts (length transcripts) k one refl (omega (arith, c.if-transcripts-vcpus.false, c.loop-k-test.true)) c.index-transcripts-k.is)
    (slice_get_read vcpus (length vcpus) k asked refl c.loop-k-test.true c.index-vcpus-k.is)
    c.if-not-is_of_script.ensures
