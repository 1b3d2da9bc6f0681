-- No answer holds a float, so each is written as the compact text of its data.
use Rattle.std.proofs.Common.{◌≡◌, ℕ, List, [], ◌∷◌, map, false, refl}
use Rattle.machine_calls.specs.declared.refusal.Refusal.{Refusal}
use Rattle.machine_calls.specs.declared.refusal.Refusal.TheVariants as refusals
use Rattle.machine_calls.specs.declared.reply.Reply.{Reply}
use Rattle.machine_calls.specs.declared.reply.Reply.TheVariants as replies
use Rattle.sat_base.specs.declared.requests.Done.TheVariants as dones
use Rattle.sat_base.specs.declared.requests.Offer.{Offer}
use Rattle.sat_base.specs.declared.requests.Place.{Place}
use Rattle.serde_json.specs.View.{items_of}
use Rattle.serde_json.specs.Written.{has_float, items_have_float}
use Rattle.http_edge.specs.Refusals.{refusal_data}
use Rattle.http_edge.specs.Answers.{place_data, reply_data, edge_data}
use Rattle.http_edge.specs.declared.errors.EdgeErr.{EdgeErr}
use Rattle.http_edge.specs.declared.errors.EdgeErr.TheVariants as edges

refusal_no_float : (r : Refusal) → has_float (refusal_data r) ≡ false
refusal_no_float (refusals.Length got) = refl
refusal_no_float (refusals.Version got) = refl
refusal_no_float (refusals.Action got) = refl
refusal_no_float refusals.LimitTag = refl
refusal_no_float refusals.OrderTag = refl
refusal_no_float (refusals.OtherNode limit_node) = refl
refusal_no_float (refusals.Differs kept) = refl
refusal_no_float (refusals.Late until) = refl
refusal_no_float (refusals.OverLimit limit) = refl
refusal_no_float (refusals.SettledFull cap) = refl
refusal_no_float (refusals.NoNode node) = refl
refusal_no_float (refusals.NoSegment segment) = refl
refusal_no_float (refusals.AlreadyLive version) = refl
refusal_no_float (refusals.Few chosen) = refl
refusal_no_float (refusals.TooFew have need) = refl
refusal_no_float (refusals.NotOffered index) = refl
refusal_no_float (refusals.Repeated index) = refl
refusal_no_float (refusals.RequestReused kept) = refl
refusal_no_float (refusals.MonthOpen now) = refl
refusal_no_float (refusals.MonthOrder next) = refl
refusal_no_float refusals.NothingToAudit = refl
refusal_no_float refusals.NothingToRepair = refl
refusal_no_float (refusals.NoPlan kept) = refl
refusal_no_float refusals.NothingToRecheck = refl
refusal_no_float (refusals.HourDone next) = refl
refusal_no_float (refusals.Size max) = refl
refusal_no_float refusals.Stopped = refl
refusal_no_float (refusals.TableFull table) = refl
refusal_no_float (refusals.RequestOld last) = refl
refusal_no_float (refusals.NoCustomer customer) = refl
refusal_no_float (refusals.NoStatement month) = refl
refusal_no_float (refusals.NotServing status) = refl
refusal_no_float refusals.NothingToExit = refl
refusal_no_float (refusals.MonthBegun now) = refl

places_no_float : (secret : List ℕ) (offer : Offer) (places : List Place) → items_have_float (items_of (map (place_data secret offer) places)) ≡ false
places_no_float secret offer [] = refl
places_no_float secret offer (place ∷ places) = places_no_float secret offer places

pub reply_no_float : (secret : List ℕ) (r : Reply) → has_float (reply_data secret r) ≡ false
reply_no_float secret (replies.Done (dones.NodeAdded node)) = refl
reply_no_float secret (replies.Done (dones.CustomerAdded customer)) = refl
reply_no_float secret (replies.Done (dones.Offer offer)) = rw (places_no_float secret offer offer.places) refl
reply_no_float secret (replies.Done (dones.Committed segment)) = refl
reply_no_float secret (replies.Done (dones.Deleted segment)) = refl
reply_no_float secret (replies.Settled amount) = refl
reply_no_float secret (replies.Again amount) = refl
reply_no_float secret replies.FreeSet = refl
reply_no_float secret replies.Stopping = refl
reply_no_float secret (replies.Refused refusal) = refusal_no_float refusal
reply_no_float secret (replies.StoreFault before after) = refl
reply_no_float secret replies.NoMemory = refl
reply_no_float secret (replies.Statement s) = refl
reply_no_float secret (replies.AuditPlanned p q) = refl
reply_no_float secret (replies.AuditEnded a b c d e) = refl
reply_no_float secret (replies.RecheckPlanned p q) = refl
reply_no_float secret (replies.RecheckEnded a b) = refl
reply_no_float secret replies.Gone = refl
reply_no_float secret (replies.RepairPlanned p q r) = refl
reply_no_float secret (replies.RepairEnded v) = refl
reply_no_float secret replies.Unrepaired = refl
reply_no_float secret (replies.Superseded a b) = refl
reply_no_float secret (replies.Tallied a b) = refl
reply_no_float secret (replies.Closed a b) = refl
reply_no_float secret (replies.Exiting n) = refl
reply_no_float secret (replies.Exited n) = refl
reply_no_float secret (replies.ExitPlanned p q r) = refl
reply_no_float secret (replies.RatesSet m) = refl

pub edge_no_float : (e : EdgeErr) → has_float (edge_data e) ≡ false
edge_no_float edges.Head = refl
edge_no_float edges.Short = refl
edge_no_float edges.HeadSize = refl
edge_no_float edges.NoRoute = refl
edge_no_float edges.BadMethod = refl
edge_no_float edges.Key = refl
edge_no_float edges.Transfer = refl
edge_no_float edges.NoLength = refl
edge_no_float edges.BadLength = refl
edge_no_float edges.BodySize = refl
edge_no_float edges.ShortBody = refl
edge_no_float edges.Json = refl
edge_no_float (edges.Field place) = refl
edge_no_float edges.NoMemory = refl
