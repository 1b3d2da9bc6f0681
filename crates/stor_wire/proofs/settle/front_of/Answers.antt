use Rattle.std.proofs.Common.{rules, ◌≡◌, ◌++◌, ◌∙◌, codes, decimal, string_bytes, append_assoc}
use Rattle.stor_wire.proofs.settle.front_of.Goals as goal

pub returns : goal.returns
returns c =
    let line = codes "POST /n/" ++ (decimal c.args.node.0 ++ (codes "/settle HTTP/1.1\r\nhost: 127.0.0.1:" ++ (decimal c.args.port ++ codes "\r\nx-key: "))) in
    let rest = codes "\r\ncontent-type: application/json\r\ncontent-length: " ++ (decimal c.args.size ++ codes "\r\nconnection: close\r\n\r\n") in
    let e : string_bytes c.push_str-2.new.self ≡ (line ++ c.args.key.now) ++ rest = search rules in
    e ∙ simp append_assoc
