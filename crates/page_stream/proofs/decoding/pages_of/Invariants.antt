use Rattle.std.proofs.Common.{◌≡◌, ◌++◌, ℕ, List, length}
use Rattle.std.specs.List.{flat_map}
use Rattle.page_stream.specs.Bytes.{number_bytes, Rises}
use Rattle.page_stream.proofs.decoding.pages_of.Given as goal

abbrev pub invariant-loop-page : goal.invariant-loop-page
invariant-loop-page l =
    record {
      whole : l.bytes ≡ flat_map number_bytes l.pages.items ++ l.rest;
      back : (ps : List ℕ) → Rises l.next l.geometry.pages ps → Rises 0 l.geometry.pages (l.pages.items ++ ps);
      only : (ps : List ℕ) → Rises 0 l.geometry.pages ps → l.bytes ≡ flat_map number_bytes ps → (more : List ℕ) × Rises l.next l.geometry.pages more × (l.rest ≡ flat_map number_bytes more);
    }

abbrev pub decreases-loop-page : goal.decreases-loop-page
decreases-loop-page l = length l.rest
