use Rattle.std.proofs.Common.{◌≡◌, ◌∙◌, ap}
use Rattle.std.specs.Int.{w32, to_be_bytes}
use Rattle.std.specs.Net.Addr.{ipv4_octets, IsIpv4OfBits}
use Rattle.std.specs.declared.net.ipv4_addr.Ipv4Addr.{Ipv4Addr}
use Rattle.node_wire.proofs.request.host.Goals as goal

octets_of_bits : (a : Ipv4Addr) (bits : _) → IsIpv4OfBits a bits → ipv4_octets a ≡ to_be_bytes w32 bits
unfolding IsIpv4OfBits
octets_of_bits a bits h = h

pub returns-clause-ip : goal.returns-clause-ip
returns-clause-ip c = ap (λ (a : Ipv4Addr). ipv4_octets a) c.new.ensures.ip ∙ octets_of_bits c.from_bits.result c.args.ask.now.addr c.from_bits.ensures
