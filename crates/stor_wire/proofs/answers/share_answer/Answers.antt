use Rattle.std.proofs.Common.{rules, ◌≡◌, ◌++◌, ◌∙◌, List, ℕ, length, ap, codes, decimal, string_bytes, append_assoc}
use Rattle.stor_wire.proofs.answers.share_answer.Goals as goal

pub returns : goal.returns
returns c =
    let bytes = c.args.bytes.now in
    let head = codes "HTTP/1.1 200 OK\r\ncontent-type: application/octet-stream\r\ncontent-length: " ++ (decimal (length bytes) ++ codes "\r\nconnection: close\r\n\r\n") in
    let front : string_bytes c.in_ok-head.head ≡ head = search rules in
    let text : c.into_bytes-text.result.items ≡ head = rw c.into_bytes-text.ensures.value front in
    let more : c.extend_from_slice.new.self.items ≡ c.into_bytes-text.result.items ++ bytes = c.in_ok-extend_from_slice.ensures.items in
    c.of.ensures ∙ more ∙ ap (λ (l : List ℕ). l ++ bytes) text ∙ simp append_assoc
