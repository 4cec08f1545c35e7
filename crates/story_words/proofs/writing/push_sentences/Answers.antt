use Rattle.std.proofs.Common.{◌≤◌, length, arith}
use Rattle.story_words.proofs.Wording.{all_added, none_added, one_added}
use Rattle.story_words.proofs.writing.push_sentences.Goals as goal

pub loop-sentence-init : goal.loop-sentence-init
loop-sentence-init g c = none_added (g.W.Writer.is_written c.args.writer.now c.args.session.now) c.args.out.now.bytes.items

pub loop-sentence-preserved : goal.loop-sentence-preserved
loop-sentence-preserved g c =
    one_added (g.W.Writer.is_written c.args.writer.now c.args.session.now) c.args.sentences.now c.loop-sentence.sentence-index c.sentence-item.result c.args.out.now.bytes.items c.loop-sentence.out.bytes.items c.push_sentence.new.out.bytes.items c.loop-sentence-test.true c.sentence-item.is c.loop-sentence.invariant c.in_ok-push_sentence.ensures

pub returns : goal.returns
returns g c =
    let past : length c.args.sentences.now ≤ c.loop-sentence.sentence-index = omega (arith, c.loop-sentence-test.false) in
    all_added (g.W.Writer.is_written c.args.writer.now c.args.session.now) c.args.sentences.now c.loop-sentence.sentence-index c.args.out.now.bytes.items c.loop-sentence.out.bytes.items past c.loop-sentence.invariant
