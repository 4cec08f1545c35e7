use Rattle.recorder_files.proofs.Near.{first_feed}
use Rattle.recorder_files.proofs.pieces.feed_at.Goals as goal

pub returns : goal.returns
returns c = first_feed c.args.bytes.now c.args.at c.requires.within c.requires.high c.if-bytes-at-ne10.false
