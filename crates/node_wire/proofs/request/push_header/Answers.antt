use Rattle.std.proofs.Common.{rules, ◌≡◌, ◌++◌, ◌∙◌, codes, append_assoc}
use Rattle.node_wire.proofs.request.push_header.Goals as goal

pub returns : goal.returns
returns c =
    let pushed : c.extend_from_slice-4.new.self.items ≡ (((c.args.text.now.items ++ c.args.name.now) ++ codes ": ") ++ c.args.value.now) ++ codes "\r\n" = search rules in
    pushed ∙ simp append_assoc
