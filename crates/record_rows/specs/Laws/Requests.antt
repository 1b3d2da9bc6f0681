-- Kept requests, part by part.
use Rattle.std.proofs.Common.{◌≡◌, ◌≤◌, ◌∷◌, ◌++◌, ℕ, zero, suc, List, [], length, get_or, drop, arith, refl, ap, lit≤, lit<}
use Rattle.std.specs.Prelude.{All, IsSome}
use Rattle.sat_base.specs.Moments.{IsMoment}
use Rattle.sat_base.specs.declared.limits.TheConstants as limits
use Rattle.sat_base.specs.declared.requests.Place.{Place}
use Rattle.sat_base.specs.declared.requests.Offer.{Offer}
use Rattle.sat_base.specs.declared.requests.Asked.{Asked}
use Rattle.sat_base.specs.declared.requests.Asked.TheVariants as asks
use Rattle.sat_base.specs.declared.requests.Done.{Done}
use Rattle.sat_base.specs.declared.requests.Done.TheVariants as dones
use Rattle.order_limits.specs.Order.{action_of}
use Rattle.record_rows.specs.Numbers.{IsU8, IsU32, IsU64}
use Rattle.record_rows.specs.Requests.{place_bytes, offer_bytes, asked_bytes, done_bytes}
use Rattle.record_rows.specs.Fits.{PlaceFits, IsOfferWithin, IsAsked, IsDone}
use Rattle.record_rows.specs.Laws.{AreApart}
use Rattle.record_rows.specs.Laws.Apart.{made_apart, pair_apart, listed_apart, be8_apart, be16_apart, be32_apart, be64_apart}
use Rattle.record_rows.specs.Laws.Ids.{node_apart, customer_apart, segment_apart, serial_apart, moment_apart}

pub place_apart : AreApart place_bytes PlaceFits
place_apart = made_apart (λ (p : Place). (p.index, (p.node, (p.addr, p.port)))) PlaceFits
    (pair_apart be8_apart (pair_apart node_apart (pair_apart be32_apart be16_apart)))
    (λ p fits. (fits.index, (fits.node, (fits.addr, fits.port)))) (λ x y same. grind arith)

pub some_place : (place : Place) × PlaceFits place
some_place = (record { index = 0; node = record { 0 = 0 }; addr = 0; port = 0 }, record { index = lit< tt; node = lit< tt; addr = lit< tt; port = lit< tt })

action_is_named : (n : ℕ) → IsSome (action_of n) → IsU8 n
action_is_named zero h = lit< tt
action_is_named (suc zero) h = lit< tt
action_is_named (suc (suc zero)) h = lit< tt
action_is_named (suc (suc (suc zero))) h = lit< tt
action_is_named (suc (suc (suc (suc zero)))) h = lit< tt
action_is_named (suc (suc (suc (suc (suc zero))))) h = lit< tt
action_is_named (suc (suc (suc (suc (suc (suc n)))))) h = absurd (cc)

narrow_offer : (o : Offer) → IsOfferWithin o → IsU32 o.customer.0 × (IsU64 o.segment.0 × (IsU64 o.serial.0 × (IsU8 o.action
    × (IsU64 o.piece_len × (IsMoment o.issued × ((length o.places ≤ limits.PLACES) × All PlaceFits o.places))))))
narrow_offer o (few, fits) =
    (fits.customer, (fits.segment, (fits.serial, (action_is_named o.action fits.action, (fits.piece_len, (fits.issued, (few, fits.places)))))))

pub offer_apart : AreApart offer_bytes IsOfferWithin
offer_apart = made_apart
    (λ (o : Offer). (o.customer, (o.segment, (o.serial, (o.action, (o.piece_len, (o.issued, o.places))))))) IsOfferWithin
    (pair_apart customer_apart (pair_apart segment_apart (pair_apart serial_apart (pair_apart be8_apart (pair_apart be64_apart (pair_apart moment_apart (listed_apart limits.PLACES place_apart)))))))
    narrow_offer (λ x y same. grind arith)

pub some_offer : (offer : Offer) × IsOfferWithin offer
some_offer = (
  record { customer = record { 0 = 0 }; segment = record { 0 = 0 }; serial = record { 0 = 0 }; action = 1; piece_len = 0; issued = 0; places = [] },
  (
    lit≤ tt,
    record {
      customer = lit< tt;
      segment = lit< tt;
      serial = lit< tt;
      action = refl;
      piece_len = lit< tt;
      issued = lit< tt;
      places = λ k d lt. absurd (omega arith);
    },
  ),
)

-- what stands behind a kind
behind : (k : ℕ) (xs ys : List ℕ) → k ∷ xs ≡ k ∷ ys → xs ≡ ys
behind k xs ys same = ap (drop 1) same

asked_one : (x y : Asked) (r s : List ℕ) → IsAsked x → IsAsked y → asked_bytes x ++ r ≡ asked_bytes y ++ s → (x ≡ y) × (r ≡ s)
asked_one (asks.Node a p f) (asks.Node a' p' f') r s fx fy same =
    let fields = (pair_apart be32_apart (pair_apart be16_apart be64_apart)).one (a, (p, f)) (a', (p', f')) r s fx.1 fy.1 (behind 1 _ _ same) in
    (ap (λ t. asks.Node t.0 t.1.0 t.1.1) fields.0, fields.1)
asked_one asks.Customer asks.Customer r s fx fy same = (refl, behind 2 _ _ same)
asked_one (asks.Begin len) (asks.Begin len') r s fx fy same =
    let field = be64_apart.one len len' r s fx.1 fy.1 (behind 3 _ _ same) in (ap asks.Begin field.0, field.1)
asked_one (asks.Commit id xs) (asks.Commit id' xs') r s fx fy same =
    let fields = (pair_apart segment_apart (listed_apart limits.PLACES be8_apart)).one (id, xs) (id', xs') r s
    (fx.1.0, (fx.0, fx.1.1)) (fy.1.0, (fy.0, fy.1.1)) (behind 4 _ _ same) in
    (ap (λ t. asks.Commit t.0 t.1) fields.0, fields.1)
asked_one (asks.Get id) (asks.Get id') r s fx fy same =
    let field = segment_apart.one id id' r s fx.1 fy.1 (behind 5 _ _ same) in (ap asks.Get field.0, field.1)
asked_one (asks.Delete id) (asks.Delete id') r s fx fy same =
    let field = segment_apart.one id id' r s fx.1 fy.1 (behind 6 _ _ same) in (ap asks.Delete field.0, field.1)
asked_one _ _ r s fx fy same = let kinds = ap (λ bytes. get_or bytes 0 0) same in absurd (omega (arith, kinds))

pub asked_apart : AreApart asked_bytes IsAsked
asked_apart = record { one = asked_one }

done_one : (x y : Done) (r s : List ℕ) → IsDone x → IsDone y → done_bytes x ++ r ≡ done_bytes y ++ s → (x ≡ y) × (r ≡ s)
done_one (dones.NodeAdded id) (dones.NodeAdded id') r s fx fy same =
    let field = node_apart.one id id' r s fx.1 fy.1 (behind 1 _ _ same) in (ap dones.NodeAdded field.0, field.1)
done_one (dones.CustomerAdded id) (dones.CustomerAdded id') r s fx fy same =
    let field = customer_apart.one id id' r s fx.1 fy.1 (behind 2 _ _ same) in (ap dones.CustomerAdded field.0, field.1)
done_one (dones.Offer offer) (dones.Offer offer') r s fx fy same =
    let field = offer_apart.one offer offer' r s fx fy (behind 3 _ _ same) in (ap dones.Offer field.0, field.1)
done_one (dones.Committed id) (dones.Committed id') r s fx fy same =
    let field = segment_apart.one id id' r s fx.1 fy.1 (behind 4 _ _ same) in (ap dones.Committed field.0, field.1)
done_one (dones.Deleted id) (dones.Deleted id') r s fx fy same =
    let field = segment_apart.one id id' r s fx.1 fy.1 (behind 5 _ _ same) in (ap dones.Deleted field.0, field.1)
done_one _ _ r s fx fy same = let kinds = ap (λ bytes. get_or bytes 0 0) same in absurd (omega (arith, kinds))

pub done_apart : AreApart done_bytes IsDone
done_apart = record { one = done_one }
