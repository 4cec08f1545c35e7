use Rattle.std.proofs.Common.{◌≢◌, Bor, arith, rules}
use Rattle.std.proofs.lemmas.List.{length-map}
use Rattle.clap.specs.Words.{Text, kind_of}
use Rattle.clap.specs.declared.error.kind.ErrorKind.TheVariants.{OutOfMemory}
use Rattle.command_words.specs.Words.{word_texts}
use Rattle.command_words.proofs.Bare.{nothing_found}
use Rattle.command_words.proofs.Clashes.{kind_alone}
use Rattle.command_words.proofs.reading.read_words.Goals as goal

pub invariant_of-result : goal.invariant_of-result
invariant_of-result c = nothing_found _ (omega (arith, length-map c.args.words.now (λ (w : Bor Text). w.now), c.if-words-le1.true))

pub invariant_of-result-in-Err : goal.invariant_of-result-in-Err
invariant_of-result-in-Err c =
    let other : kind_of c.in-Err.error ≢ OutOfMemory = search rules in
    record {
      more = omega (arith, length-map c.args.words.now (λ (w : Bor Text). w.now), c.if-words-le1.false);
      kind = kind_alone (word_texts c.args.words.now) _ other c.in-Err.ensures.kinds;
    }
