use Rattle.host_threads.proofs.Packets.{if_true, packet_of}
use Rattle.host_threads.proofs.pager.is_packet_of.Goals as goal

pub returns : goal.returns
returns c = λ t. packet_of c.args.geometry c.args.packet.now (if_true _ c.fits.result t c.fits.ensures.fits)
