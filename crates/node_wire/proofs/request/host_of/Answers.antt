use Rattle.std.proofs.Common.{rules, ◌≡◌, ◌++◌, ◌∙◌, ap, codes, decimal, string_bytes, subst, IfOk, List, ℕ}
use Rattle.std.specs.Int.{w32, to_be_bytes}
use Rattle.std.specs.Net.Socket.{v4_port}
use Rattle.std.specs.Net.Text.{ipv4_text, socket_v4_text}
use Rattle.node_wire.specs.Asking.{host_text}
use Rattle.node_wire.proofs.request.host_of.Goals as goal

pub returns : goal.returns
returns c =
    let addr = c.args.ask.now.addr in
    let host = c.host-host.result in
    let written : IfOk c.format.result (λ text. string_bytes text ≡ socket_v4_text host) = search rules in
    let same : socket_v4_text host ≡ host_text addr c.args.ask.now.port =
    ap (λ (octets : List ℕ). ipv4_text octets ++ codes ":" ++ decimal (v4_port host)) c.host-host.ensures.ip
    ∙ ap (λ (port : ℕ). ipv4_text (to_be_bytes w32 addr) ++ codes ":" ++ decimal port) c.host-host.ensures.port in
    subst (λ (t : List ℕ). IfOk c.format.result (λ text. string_bytes text ≡ t)) same written
