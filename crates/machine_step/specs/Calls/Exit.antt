-- A node says that it leaves.
use Rattle.std.specs.Prelude.{ℕ, [], ◌∷◌}
use Rattle.sat_base.specs.declared.ids.NodeId.{NodeId}
use Rattle.node_registry.specs.declared.node.Node.{Node}
use Rattle.node_registry.specs.declared.node.Status.{Status}
use Rattle.node_registry.specs.declared.node.Status.TheVariants.{Active, Disqualified, Exiting, Exited}
use Rattle.node_registry.specs.Standing.{byte_of}
use Rattle.node_registry.specs.Registry.{node_at}
use Rattle.machine_calls.specs.declared.change.RecChange.TheVariants as changes
use Rattle.machine_calls.specs.declared.reply.Reply.TheVariants as replies
use Rattle.machine_calls.specs.declared.refusal.Refusal.TheVariants as refusals
use Rattle.machine_step.specs.Tables.{Tables}
use Rattle.machine_step.specs.Outcome.{Outcome, unchanged, refused, accepted, with_record}
use Rattle.machine_step.specs.Plans.{timed}

-- the node from now on gives its pieces away
abbrev pub exit_begun : Tables → ℕ → Node → Outcome
exit_begun t time node = accepted (timed t.marks time) (changes.Node (record node { status = Exiting }) ∷ []) (replies.Exiting node.id)

abbrev pub exit_as : Tables → ℕ → Node → Status → Outcome
exit_as t time node Active = exit_begun t time node
exit_as t time node Exiting = unchanged (replies.Exiting node.id)
exit_as t time node Disqualified = refused (refusals.NotServing (byte_of Disqualified))
exit_as t time node Exited = refused (refusals.NotServing (byte_of Exited))

abbrev pub exit : Tables → ℕ → NodeId → Outcome
exit t time node = with_record (node_at t.nodes node) (refusals.NoNode node) (λ found. exit_as t time found found.status)
