use Rattle.std.proofs.lemmas.Option.{MatchOption-at_none}
use Rattle.cert_check.specs.Verdicts.{AreRightEntries, IsFirstBadPage}
use Rattle.cert_check.proofs.entry_judges.by_entries.Goals as goal

pub returns-in-None : goal.returns-in-None
returns-in-None c =
    let s = c.args.session.now in
    let entries = c.args.cert.now.entries in (
      c.requires.right.0,
      record {
        pages = c.requires.pages;
        entries = MatchOption-at_none (AreRightEntries s entries) (IsFirstBadPage s entries) c.in-None.is c.requires.bad;
        merging = c.requires.right.1;
      },
    )
