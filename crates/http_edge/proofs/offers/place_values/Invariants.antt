use Rattle.std.proofs.Common.{◌≡◌, map, take}
use Rattle.serde_json.specs.View.{view}
use Rattle.http_edge.specs.Answers.{place_data}
use Rattle.http_edge.proofs.offers.place_values.Given as goal

abbrev pub invariant-loop-place : goal.invariant-loop-place
invariant-loop-place l = map view l.values.items ≡ map (place_data l.keys l.offer) (take l.place-index l.offer.places)
