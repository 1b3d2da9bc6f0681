use Rattle.std.proofs.Common.{arith, rules, refl, sym, ◌≡◌, [], ◌+◌, ◌≤◌, ◌∙◌, vec_len, vec_capacity}
use Rattle.http_parts.specs.Heads.{max_head}
use Rattle.node_wire.specs.Heard.{asked_len}
use Rattle.node_wire.proofs.HeadLemmas.{lacks_nothing}
use Rattle.node_wire.proofs.reading.Reading.of.Goals as goal

pub returns : goal.returns
returns c =
    let empty : c.in_ok-bytes.bytes.items ≡ [] = search rules in
    let none : vec_len c.in_ok-bytes.bytes ≡ 0 = search rules in
    let room : c.in-Some.room ≡ max_head + asked_len c.args.question = search rules in
    let there : c.in-Some.room ≤ vec_capacity c.in_ok-bytes.bytes = search rules in
    record {
      open_yet = record { at = rw empty (lacks_nothing, omega arith); roomy = record { room = room; there = there; fits = omega (arith, none) } };
      asked = refl;
      none = empty;
    }
