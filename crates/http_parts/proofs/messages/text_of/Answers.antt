use Rattle.std.proofs.Common.{rules, ◌≡◌, ◌++◌, ◌∙◌, codes, decimal, string_bytes, append_assoc}
use Rattle.http_parts.proofs.messages.text_of.Goals as goal

pub returns : goal.returns
returns c =
    let e : string_bytes c.push_str-3.new.self ≡ (((codes "HTTP/1.1 " ++ (decimal c.args.code ++ codes " ")) ++ c.args.phrase.now) ++ (codes "\r\ncontent-type: application/json\r\ncontent-length: " ++ (decimal c.args.size ++ codes "\r\nconnection: close\r\n\r\n"))) ++ c.args.body.now = search rules in
    e ∙ simp append_assoc
