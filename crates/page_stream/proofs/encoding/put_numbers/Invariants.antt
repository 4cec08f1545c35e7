use Rattle.std.proofs.Common.{◌≡◌, ◌++◌, take}
use Rattle.std.specs.List.{flat_map}
use Rattle.page_stream.specs.Bytes.{number_bytes}
use Rattle.page_stream.proofs.encoding.put_numbers.Given as goal

abbrev pub invariant-loop-page : goal.invariant-loop-page
invariant-loop-page l = l.out.items ≡ l.fn.out.items ++ flat_map number_bytes (take l.page-index l.pages)
