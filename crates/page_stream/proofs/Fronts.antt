-- Packets at the front of bytes.
use Rattle.std.proofs.Common.{◌≡◌, ℕ, ◌+◌, ◌-◌, List, length, drop, ap, ◌∙◌, length-append, arith}
use Rattle.std.specs.List.{flat_map}
use Rattle.std.proofs.lemmas.List.{drop_at}
use Rattle.migration_types.specs.Extents.{Extent}
use Rattle.page_stream.specs.Bytes.{packet_bytes}
use Rattle.page_stream.specs.Streams.{StandsFor}
use Rattle.page_stream.specs.declared.Packet.{Packet}

pub stands_suffix : (e : Extent) (bytes : List ℕ) (ps : List Packet) (rest : List ℕ) → StandsFor e bytes ps rest → drop (length bytes - length rest) bytes ≡ rest
stands_suffix e bytes ps rest s =
    let len : length bytes ≡ length (flat_map packet_bytes ps) + length rest = ap length s.whole ∙ length-append (flat_map packet_bytes ps) rest in
    ap (λ t. drop (length bytes - length rest) t) s.whole ∙ drop_at (flat_map packet_bytes ps) rest (length bytes - length rest) (omega (arith, len))
