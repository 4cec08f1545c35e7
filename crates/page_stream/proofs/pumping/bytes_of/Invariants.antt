use Rattle.std.proofs.Common.{◌≡◌, take, drop}
use Rattle.std.specs.List.{flat_map, AllByRecursion}
use Rattle.page_stream.specs.Bytes.{packet_bytes, IsShort}
use Rattle.page_stream.proofs.pumping.bytes_of.Given as goal

abbrev pub invariant-loop-packet : goal.invariant-loop-packet
invariant-loop-packet l = record {
  made : l.bytes.items ≡ flat_map packet_bytes (take l.packet-index l.packets);
  short : AllByRecursion IsShort (drop l.packet-index l.packets);
}
