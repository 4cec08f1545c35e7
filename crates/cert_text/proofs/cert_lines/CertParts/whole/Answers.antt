use Rattle.std.proofs.Common.{refl}
use Rattle.cert_text.specs.inner.CertDraft.{draft_of}
use Rattle.cert_text.specs.inner.Held.{held_by}
use Rattle.cert_text.proofs.Goes.{not_whole}
use Rattle.cert_text.proofs.cert_lines.CertParts.whole.Goals as goal

pub returns-in-None-clause-none : goal.returns-in-None-clause-none
returns-in-None-clause-none c =
    let i = c.args.self in
    not_whole c.args.stage (draft_of i) (held_by c.args.stage (draft_of i)) refl c.requires c.in-None.ensures.none
