-- A node more. Its id is one above the greatest.
use Rattle.std.specs.Prelude.{ℕ, ◌+◌, [], ◌∷◌, length, nat_le}
use Rattle.sat_base.specs.declared.requests.Asked.TheVariants as asks
use Rattle.sat_base.specs.declared.requests.Done.TheVariants as dones
use Rattle.node_registry.specs.Registry.{joining}
use Rattle.machine_calls.specs.declared.asking.Asking.{Asking}
use Rattle.machine_calls.specs.declared.change.RecChange.TheVariants as changes
use Rattle.machine_calls.specs.declared.refusal.Refusal.TheVariants as refusals
use Rattle.machine_calls.specs.declared.refusal.TableName.TheVariants as names
use Rattle.machine_step.specs.Tables.{Tables}
use Rattle.machine_step.specs.Outcome.{Outcome, unless, of_caller, done_with}

abbrev pub node_added : Tables → Asking → ℕ → ℕ → ℕ → Outcome
node_added t asking addr port free =
    let id = length t.nodes + 1 in
    done_with (record t.marks { time = asking.time }) (changes.Node (joining (record { 0 = id }) addr port free asking.time) ∷ [])
    asking (asks.Node addr port free) (dones.NodeAdded (record { 0 = id }))

abbrev pub add_node : Tables → Asking → ℕ → ℕ → ℕ → Outcome
add_node t asking addr port free =
    of_caller t asking (asks.Node addr port free)
    (unless (nat_le t.setup.caps.nodes (length t.nodes)) (refusals.TableFull names.Nodes)
    (node_added t asking addr port free))
