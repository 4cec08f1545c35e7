use Rattle.std.proofs.Common.{take}
use Rattle.story_words.specs.Writing.{Adds, AreWritten}
use Rattle.story_words.proofs.writing.push_sentences.Given as goal

abbrev pub invariant-loop-sentence : goal.invariant-loop-sentence
invariant-loop-sentence g l = Adds (AreWritten (g.W.Writer.is_written l.writer l.session) (take l.sentence-index l.sentences)) l.initial.out.bytes.items l.out.bytes.items
