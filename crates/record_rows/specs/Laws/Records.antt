-- Records of several fields by their fields, and what is one of a few by its byte.
use Rattle.std.proofs.Common.{◌≡◌, ◌∙◌, ℕ, List, [], arith, refl, sym, ap, lit≤, lit<}
use Rattle.std.specs.Prelude.{Some, unwrap_or}
use Rattle.std.proofs.Math.Bridge.{le_prop}
use Rattle.sat_base.specs.declared.limits.TheConstants as limits
use Rattle.sat_base.specs.declared.records.At.{At}
use Rattle.sat_base.specs.declared.scheme.Scheme.{Scheme}
use Rattle.sat_base.specs.declared.settings.Caps.{Caps}
use Rattle.sat_base.specs.declared.settings.Settings.{Settings}
use Rattle.repair_core.specs.declared.plan.RepairPlan.{RepairPlan}
use Rattle.sat_base.specs.declared.rates.Rates.{Rates}
use Rattle.sat_base.specs.Scheme.{IsScheme}
use Rattle.sat_base.specs.Limits.{AreCapsWithin, AreRatesWithin, IsMonthWithin}
use Rattle.order_limits.specs.Order.{action_byte, action_of}
use Rattle.order_limits.specs.declared.limit.Action.{Action}
use Rattle.order_limits.specs.declared.limit.Action.TheVariants as action
use Rattle.node_registry.specs.Standing.{byte_of}
use Rattle.node_registry.specs.declared.node.Status.{Status}
use Rattle.node_registry.specs.declared.node.Status.TheVariants as status
use Rattle.tally_payout.specs.declared.amounts.Sums.{Sums}
use Rattle.tally_payout.specs.declared.amounts.Parts.{Parts}
use Rattle.record_rows.specs.Numbers.{be8, listed, IsU8, IsU16, IsU32, IsHash}
use Rattle.record_rows.specs.Plans.{at_bytes, repair_plan_body}
use Rattle.record_rows.specs.Bodies.{sums_bytes, parts_bytes}
use Rattle.record_rows.specs.Settings.{scheme_bytes, caps_bytes, rates_bytes, settings_body}
use Rattle.record_rows.specs.Fits.{AtFits, PlacesFit, SumsFit, PartsFit, SettingsFit, RepairPlanFits}
use Rattle.record_rows.specs.Laws.{AreApart}
use Rattle.record_rows.specs.Laws.Apart.{made_apart, pair_apart, listed_apart, be8_apart, be16_apart, be32_apart, be64_apart, be128_apart, hash_apart, some_hash}
use Rattle.record_rows.specs.Laws.Ids.{node_apart, segment_apart, serial_apart, moment_apart, month_apart}

pub at_apart : AreApart at_bytes AtFits
at_apart = made_apart (λ (at : At). (at.index, at.node)) AtFits (pair_apart be8_apart node_apart) (λ at fits. (fits.index, fits.node)) (λ x y same. grind arith)

pub places_apart : AreApart (listed at_bytes) PlacesFit
places_apart = made_apart (λ places. places) PlacesFit (listed_apart limits.PLACES at_apart) (λ places fits. (fits.few, fits.each)) (λ x y same. same)

no_place : PlacesFit []
no_place = record {
  few = lit≤ tt;
  each = λ k d lt. absurd (omega arith);
  by_index = λ i j d lt w. absurd (omega arith);
  low = λ k d lt. absurd (omega arith);
}

pub no_places : (places : List At) × PlacesFit places
no_places = ([], no_place)

-- a status by its byte
one_status : (x y : Status) → byte_of x ≡ byte_of y → x ≡ y
one_status status.Active status.Active same = refl
one_status status.Disqualified status.Disqualified same = refl
one_status status.Exiting status.Exiting same = refl
one_status status.Exited status.Exited same = refl
one_status _ _ same = absurd (omega (arith, same))

status_byte : (x : Status) → IsU8 (byte_of x)
status_byte status.Active = lit< tt
status_byte status.Disqualified = lit< tt
status_byte status.Exiting = lit< tt
status_byte status.Exited = lit< tt

pub status_apart : AreApart (λ status. be8 (byte_of status)) (λ _. Unit {0})
status_apart = made_apart byte_of (λ _. Unit {0}) be8_apart (λ x fits. status_byte x) one_status

-- an action by its byte
named : (x : Action) → action_of (action_byte x) ≡ Some x
named action.Put = refl
named action.Get = refl
named action.GetAudit = refl
named action.GetRepair = refl
named action.PutRepair = refl

action_is_byte : (x : Action) → IsU8 (action_byte x)
action_is_byte action.Put = lit< tt
action_is_byte action.Get = lit< tt
action_is_byte action.GetAudit = lit< tt
action_is_byte action.GetRepair = lit< tt
action_is_byte action.PutRepair = lit< tt

pub action_apart : AreApart (λ action. be8 (action_byte action)) (λ _. Unit {0})
action_apart = made_apart action_byte (λ _. Unit {0}) be8_apart (λ x fits. action_is_byte x)
    (λ x y same. ap (λ o. unwrap_or o x) (sym (named x) ∙ ap action_of same ∙ named y))

-- a scheme by its numbers, as its facts are propositions
abbrev made : (k m o n share : ℕ) → IsScheme k m o n share → Scheme
made k m o n share rules = record {
  k = k;
  m = m;
  o = o;
  n = n;
  share = share;
  rebuilds = rules.rebuilds;
  repairs_in_time = rules.repairs_in_time;
  wants_more = rules.wants_more;
  tries_enough = rules.tries_enough;
  few_pieces = rules.few_pieces;
  some_bytes = rules.some_bytes;
  few_bytes = rules.few_bytes;
}

abbrev pub rules_of : (s : Scheme) → IsScheme s.k s.m s.o s.n s.share
rules_of s = record {
  rebuilds = s.rebuilds;
  repairs_in_time = s.repairs_in_time;
  wants_more = s.wants_more;
  tries_enough = s.tries_enough;
  few_pieces = s.few_pieces;
  some_bytes = s.some_bytes;
  few_bytes = s.few_bytes;
}

one_rules : (k m o n share : ℕ) (p q : IsScheme k m o n share) → p ≡ q
one_rules k m o n share p q = let prop : IsProp (IsScheme k m o n share) = hlevel le_prop in prop p q

same_made : (k m o n share k' m' o' n' share' : ℕ) → k ≡ k' → m ≡ m' → o ≡ o' → n ≡ n' → share ≡ share'
    → (p : IsScheme k m o n share) (q : IsScheme k' m' o' n' share') → made k m o n share p ≡ made k' m' o' n' share' q
same_made k m o n share k' m' o' n' share' ek em eo en es =
    rw (ek, em, eo, en, es) (λ p q. ap (made k' m' o' n' share') (one_rules k' m' o' n' share' p q))

abbrev pub numbers_of : Scheme → ℕ × (ℕ × (ℕ × (ℕ × ℕ)))
numbers_of s = (s.k, (s.m, (s.o, (s.n, s.share))))

pub one_scheme : (x y : Scheme) → numbers_of x ≡ numbers_of y → x ≡ y
one_scheme x y same = same_made x.k x.m x.o x.n x.share y.k y.m y.o y.n y.share
    (ap (λ p. p.0) same) (ap (λ p. p.1.0) same) (ap (λ p. p.1.1.0) same) (ap (λ p. p.1.1.1.0) same) (ap (λ p. p.1.1.1.1) same) (rules_of x) (rules_of y)

narrow_scheme : (s : Scheme) → Unit {0} → IsU8 s.k × (IsU8 s.m × (IsU8 s.o × (IsU8 s.n × IsU16 s.share)))
narrow_scheme s fits =
    let low = s.repairs_in_time in let more = s.wants_more in let enough = s.tries_enough in let few = s.few_pieces in let small = s.few_bytes in
    (omega (arith, low, more, enough, few), (omega (arith, more, enough, few), (omega (arith, enough, few), (omega (arith, few), omega (arith, small)))))

pub scheme_apart : AreApart (λ (s : Scheme). scheme_bytes s.k s.m s.o s.n s.share) (λ _. Unit {0})
scheme_apart = made_apart numbers_of (λ _. Unit {0})
    (pair_apart be8_apart (pair_apart be8_apart (pair_apart be8_apart (pair_apart be8_apart be16_apart))))
    narrow_scheme one_scheme

pub some_scheme : Scheme × Unit {0}
some_scheme = (
  record {
    k = 1;
    m = 1;
    o = 2;
    n = 2;
    share = 1;
    rebuilds = lit≤ tt;
    repairs_in_time = lit≤ tt;
    wants_more = lit< tt;
    tries_enough = lit≤ tt;
    few_pieces = lit≤ tt;
    some_bytes = lit≤ tt;
    few_bytes = lit≤ tt;
  },
  tt,
)

narrow_caps : (c : Caps) → AreCapsWithin c → IsU32 c.nodes × (IsU32 c.customers × (IsU32 c.segments × (IsU32 c.settled × (IsU32 c.tallies × IsU32 c.statements))))
narrow_caps c fits = (
  omega (arith, fits.nodes.1),
  (
    omega (arith, fits.customers.1),
    (
      omega (arith, fits.segments.1),
      (omega (arith, fits.settled.1), (omega (arith, fits.tallies.1), omega (arith, fits.statements.1))),
    ),
  ),
)

pub caps_apart : AreApart caps_bytes AreCapsWithin
caps_apart = made_apart
    (λ (c : Caps). (c.nodes, (c.customers, (c.segments, (c.settled, (c.tallies, c.statements)))))) AreCapsWithin
    (pair_apart be32_apart (pair_apart be32_apart (pair_apart be32_apart (pair_apart be32_apart (pair_apart be32_apart be32_apart)))))
    narrow_caps (λ x y same. grind arith)

pub some_caps : (caps : Caps) × AreCapsWithin caps
some_caps = (
  record { nodes = 1; customers = 1; segments = 1; settled = 1; tallies = 1; statements = 1 },
  record {
    nodes = (lit≤ tt, lit≤ tt);
    customers = (lit≤ tt, lit≤ tt);
    segments = (lit≤ tt, lit≤ tt);
    settled = (lit≤ tt, lit≤ tt);
    tallies = (lit≤ tt, lit≤ tt);
    statements = (lit≤ tt, lit≤ tt);
  },
)

pub rates_apart : AreApart rates_bytes AreRatesWithin
rates_apart = made_apart (λ (r : Rates). (r.get, (r.audit, (r.repair, r.storage)))) AreRatesWithin
    (pair_apart be64_apart (pair_apart be64_apart (pair_apart be64_apart be64_apart)))
    (λ r fits. (omega (arith, fits.get), (omega (arith, fits.audit), (omega (arith, fits.repair), omega (arith, fits.storage))))) (λ x y same. grind arith)

pub some_rates : (rates : Rates) × AreRatesWithin rates
some_rates = (record { get = 0; audit = 0; repair = 0; storage = 0 }, record { get = lit≤ tt; audit = lit≤ tt; repair = lit≤ tt; storage = lit≤ tt })

pub sums_apart : AreApart sums_bytes SumsFit
sums_apart = made_apart (λ (s : Sums). (s.get, (s.audit, (s.repair, s.byte_hours)))) SumsFit
    (pair_apart be128_apart (pair_apart be128_apart (pair_apart be128_apart be128_apart)))
    (λ s fits. (fits.get, (fits.audit, (fits.repair, fits.byte_hours)))) (λ x y same. grind arith)

pub no_sums : (sums : Sums) × SumsFit sums
no_sums = (record { get = 0; audit = 0; repair = 0; byte_hours = 0 }, record { get = lit< tt; audit = lit< tt; repair = lit< tt; byte_hours = lit< tt })

pub parts_apart : AreApart parts_bytes PartsFit
parts_apart = made_apart (λ (p : Parts). (p.get, (p.audit, (p.repair, (p.storage, p.gross))))) PartsFit
    (pair_apart be128_apart (pair_apart be128_apart (pair_apart be128_apart (pair_apart be128_apart be128_apart))))
    (λ p fits. (fits.get, (fits.audit, (fits.repair, (fits.storage, fits.gross))))) (λ x y same. grind arith)

pub no_parts : (parts : Parts) × PartsFit parts
no_parts = (
  record { get = 0; audit = 0; repair = 0; storage = 0; gross = 0 },
  record { get = lit< tt; audit = lit< tt; repair = lit< tt; storage = lit< tt; gross = lit< tt },
)

narrow_settings : (s : Settings) → SettingsFit s → IsU8 2 × (IsHash s.secret × (Unit {0} × (IsU16 s.vet × (IsU8 s.fresh × (AreCapsWithin s.caps × IsMonthWithin s.first_month.0)))))
narrow_settings s fits =
    (lit< tt, (fits.secret, (tt, (omega (arith, fits.vetting.few), (omega (arith, fits.vetting.fresh), (fits.caps, fits.first_month))))))

pub settings_apart : AreApart settings_body SettingsFit
settings_apart = made_apart
    (λ (s : Settings). (2, (s.secret, (s.scheme, (s.vet, (s.fresh, (s.caps, s.first_month))))))) SettingsFit
    (pair_apart be8_apart (pair_apart hash_apart (pair_apart scheme_apart (pair_apart be16_apart (pair_apart be8_apart (pair_apart caps_apart month_apart))))))
    narrow_settings (λ x y same. grind arith)

pub some_settings : (s : Settings) × SettingsFit s
some_settings = (
  record { secret = some_hash.0; scheme = some_scheme.0; vet = 1; fresh = 0; caps = some_caps.0; first_month = record { 0 = limits.FIRST_MONTH } },
  record {
    secret = some_hash.1;
    vetting = record { some = lit≤ tt; few = lit≤ tt; fresh = lit≤ tt };
    caps = some_caps.1;
    first_month = (lit≤ tt, lit≤ tt);
  },
)

pub repair_plan_apart : AreApart repair_plan_body RepairPlanFits
repair_plan_apart = made_apart
    (λ (p : RepairPlan). (p.plan, (p.segment, (p.version, (p.serial, (p.issued, (p.len, (p.sources, p.targets)))))))) RepairPlanFits
    (pair_apart be64_apart (pair_apart segment_apart (pair_apart be64_apart (pair_apart serial_apart (pair_apart moment_apart (pair_apart be64_apart (pair_apart places_apart places_apart)))))))
    (λ p fits. (fits.number, (fits.segment, (fits.version, (fits.serial, (fits.issued, (fits.len, (fits.sources, fits.targets))))))))
    (λ x y same. grind arith)

pub some_repair_plan : (plan : RepairPlan) × RepairPlanFits plan
some_repair_plan = (
  record { plan = 0; segment = record { 0 = 0 }; version = 0; serial = record { 0 = 0 }; issued = 0; len = 0; sources = []; targets = [] },
  record {
    number = lit< tt;
    segment = lit< tt;
    version = lit< tt;
    serial = lit< tt;
    issued = lit< tt;
    len = lit< tt;
    sources = no_place;
    targets = no_place;
  },
)
