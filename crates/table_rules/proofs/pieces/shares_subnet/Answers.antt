use Rattle.std.proofs.Common.{◌==◌, ◌∙◌, ℕ, ap, sym}
use Rattle.std.specs.List.{list_any}
use Rattle.sat_base.specs.declared.records.At.{At}
use Rattle.node_registry.specs.Registry.{node_at}
use Rattle.node_registry.specs.Subnet.{subnet_at}
use Rattle.machine_step.specs.Places.{addr_of}
use Rattle.table_rules.proofs.ListLemmas.{any-map}
use Rattle.table_rules.proofs.pieces.shares_subnet.Goals as goal

pub returns : goal.returns
returns c =
    c.is_one_in.ensures
    ∙ ap (λ (n : ℕ). list_any (λ (piece : At). n == subnet_at (addr_of (node_at c.args.nodes.now.nodes piece.node))) c.args.others.now) c.subnet_of.ensures
    ∙ sym (any-map (λ (piece : At). subnet_at (addr_of (node_at c.args.nodes.now.nodes piece.node))) (subnet_at (addr_of (node_at c.args.nodes.now.nodes c.args.place.node))) c.args.others.now)
