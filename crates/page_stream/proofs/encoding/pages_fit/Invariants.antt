use Rattle.std.proofs.Common.{drop}
use Rattle.page_stream.specs.Bytes.{Rises}
use Rattle.page_stream.proofs.encoding.pages_fit.Given as goal

abbrev pub invariant-loop-page : goal.invariant-loop-page
invariant-loop-page l =
    record {
      there : Rises 0 l.geometry.pages l.pages → Rises l.next l.geometry.pages (drop l.page-index l.pages);
      back : Rises l.next l.geometry.pages (drop l.page-index l.pages) → Rises 0 l.geometry.pages l.pages;
    }
