-- The bytes of the requests that nodes are sent (RFC 9112).
use Rattle.std.specs.Prelude.{◌≡◌, ℕ, List, ◌++◌, codes, decimal, length}
use Rattle.std.specs.Int.{w32, to_be_bytes}
use Rattle.std.specs.Net.Text.{ipv4_text}
use Rattle.std.specs.Net.Addr.{ipv4_octets}
use Rattle.std.specs.Net.Socket.{v4_ip, v4_port}
use Rattle.std.specs.declared.net.socket_addr.SocketAddr.{SocketAddr}
use Rattle.std.specs.declared.net.socket_addr.SocketAddr.TheVariants.{V4, V6}
use Rattle.hex.specs.Hex.{encode_lower}
use Rattle.sat_base.specs.declared.nodes.Ask.{Ask}

-- a node's address and port
abbrev pub host_text : ℕ → ℕ → List ℕ
host_text addr port = ipv4_text (to_be_bytes w32 addr) ++ codes ":" ++ decimal port

-- the request line
abbrev pub line_text : List ℕ → Ask → List ℕ
line_text method ask = method ++ codes " /piece/" ++ decimal ask.segment.0 ++ codes "/" ++ decimal ask.index ++ codes " HTTP/1.1\r\n"

-- the line of a header
abbrev pub header_text : List ℕ → List ℕ → List ℕ
header_text name value = name ++ codes ": " ++ value ++ codes "\r\n"

-- the request line, and the headers that both requests have
abbrev pub front_text : List ℕ → Ask → List ℕ
front_text method ask =
    line_text method ask ++ header_text (codes "host") (host_text ask.addr ask.port)
    ++ header_text (codes "x-order") (encode_lower ask.order)

-- a node is asked for the range of a piece
abbrev pub fetch_text : Ask → List ℕ
fetch_text ask =
    front_text (codes "GET") ask ++ header_text (codes "x-offset") (decimal ask.offset)
    ++ header_text (codes "x-length") (decimal ask.len) ++ header_text (codes "connection") (codes "close") ++ codes "\r\n"

-- a node is asked to keep a piece
abbrev pub put_text : Ask → List ℕ → List ℕ
put_text ask piece =
    front_text (codes "PUT") ask ++ header_text (codes "content-length") (decimal (length piece))
    ++ header_text (codes "connection") (codes "close") ++ codes "\r\n" ++ piece

-- the address and the port are those of an ask
abbrev pub IsAddressOf : Ask → SocketAddr → Type 0
IsAddressOf ask (V4 a) = (ipv4_octets (v4_ip a) ≡ to_be_bytes w32 ask.addr) × (v4_port a ≡ ask.port)
IsAddressOf ask (V6 a) = ⊥
