-- What a plan asks of the nodes at its places: a range of a piece, and the order that goes with it.
use Rattle.std.specs.Prelude.{ℕ, ◌*◌, List, map}
use Rattle.sat_base.specs.declared.ids.NodeId.{NodeId}
use Rattle.sat_base.specs.declared.ids.SegId.{SegId}
use Rattle.sat_base.specs.declared.ids.Serial.{Serial}
use Rattle.sat_base.specs.declared.nodes.Ask.{Ask}
use Rattle.sat_base.specs.declared.records.At.{At}
use Rattle.sat_base.specs.declared.requests.Place.{Place}
use Rattle.sat_base.specs.declared.scheme.Scheme.{Scheme}
use Rattle.sat_base.specs.Scheme.{stripe_count}
use Rattle.order_limits.specs.declared.grant.Grant.{Grant}
use Rattle.order_limits.specs.declared.limit.Action.{Action}
use Rattle.order_limits.specs.declared.limit.Action.TheVariants.{GetAudit, GetRepair, PutRepair}
use Rattle.order_limits.specs.Grant.{limit_at}
use Rattle.order_limits.specs.Order.{order_bytes}
use Rattle.audit_core.specs.declared.plan.AuditPlan.{AuditPlan}
use Rattle.audit_core.specs.declared.rechecking.RecheckPlan.{RecheckPlan}
use Rattle.repair_core.specs.declared.plan.RepairPlan.{RepairPlan}

-- ---- places

abbrev pub at_of : Place → At
at_of place = record { index = place.index; node = place.node }

-- these are the places of the pieces, in order
abbrev pub pieces_of : List Place → List At
pieces_of places = map at_of places

-- ---- one ask

-- a node is asked for a range, under an order for the whole limit
abbrev pub ask_of : List ℕ → Grant → Place → ℕ → ℕ → Ask
ask_of secret grant place offset len = record {
  node = place.node;
  addr = place.addr;
  port = place.port;
  segment = grant.segment;
  index = place.index;
  offset = offset;
  len = len;
  order = order_bytes secret (record { limit = limit_at grant (at_of place); amount = grant.limit });
}

-- the satellite's own leave to move so many bytes
abbrev pub grant_of : Action → Serial → SegId → ℕ → ℕ → Grant
grant_of action serial segment limit issued = record {
  action = action;
  serial = serial;
  segment = segment;
  limit = limit;
  issued = issued;
  customer = record { 0 = 0 };
}

-- ---- audits and rechecks: a share of one stripe

abbrev pub audit_grant : Scheme → AuditPlan → Grant
audit_grant scheme plan = grant_of GetAudit plan.serial plan.segment scheme.share plan.issued

abbrev pub audit_ask : List ℕ → Scheme → AuditPlan → Place → Ask
audit_ask secret scheme plan place = ask_of secret (audit_grant scheme plan) place (plan.stripe * scheme.share) scheme.share

abbrev pub audit_asks : List ℕ → Scheme → AuditPlan → List Place → List Ask
audit_asks secret scheme plan places = map (audit_ask secret scheme plan) places

abbrev pub recheck_ask : List ℕ → Scheme → RecheckPlan → Place → Ask
recheck_ask secret scheme plan place =
    ask_of secret (grant_of GetAudit plan.serial plan.segment scheme.share plan.issued) place (plan.stripe * scheme.share) scheme.share

-- ---- repairs: whole pieces, by windows

abbrev pub piece_len_of : Scheme → RepairPlan → ℕ
piece_len_of scheme plan = stripe_count scheme.k scheme.share plan.len * scheme.share

abbrev pub repair_grant : Action → Scheme → RepairPlan → Grant
repair_grant action scheme plan = grant_of action plan.serial plan.segment (piece_len_of scheme plan) plan.issued

-- so many stripes of a source's piece, from one on
abbrev pub window_ask : List ℕ → Scheme → RepairPlan → ℕ → ℕ → Place → Ask
window_ask secret scheme plan from number place =
    ask_of secret (repair_grant GetRepair scheme plan) place (from * scheme.share) (number * scheme.share)

-- a fresh piece is to be kept
abbrev pub put_ask : List ℕ → Scheme → RepairPlan → Place → Ask
put_ask secret scheme plan place = ask_of secret (repair_grant PutRepair scheme plan) place 0 (piece_len_of scheme plan)
