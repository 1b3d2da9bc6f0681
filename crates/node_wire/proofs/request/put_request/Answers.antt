use Rattle.std.proofs.Common.{rules, ◌≡◌, ◌++◌, ◌∙◌, ap, codes, decimal, length, List, ℕ}
use Rattle.node_wire.specs.Asking.{front_text, header_text}
use Rattle.node_wire.proofs.request.put_request.Goals as goal

pub returns : goal.returns
returns c =
    let piece = c.args.piece.now in
    let length_pushed : c.push_header.new.text.items ≡ front_text (codes "PUT") c.args.ask.now ++ header_text (codes "content-length") (decimal (length piece)) = search rules in
    let close_pushed : c.push_header-2.new.text.items ≡ c.push_header.new.text.items ++ header_text (codes "connection") (codes "close") = search rules in
    let ended : c.extend_from_slice.new.self.items ≡ c.push_header-2.new.text.items ++ codes "\r\n" = search rules in
    let whole : c.extend_from_slice-2.new.self.items ≡ c.extend_from_slice.new.self.items ++ piece = search rules in
    whole ∙ ap (λ (t : List ℕ). t ++ piece) (ended ∙ ap (λ (t : List ℕ). t ++ codes "\r\n") (close_pushed ∙ ap (λ (t : List ℕ). t ++ header_text (codes "connection") (codes "close")) length_pushed))
