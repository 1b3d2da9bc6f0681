use Rattle.std.proofs.Common.{rules, sym, ap, ◌∙◌}
use Rattle.turnstile.specs.Known.{or_else}
use Rattle.turnstile.specs.Steps.{both, without_parts}
use Rattle.turnstile.proofs.Sharing.{recalls, joins_as}
use Rattle.turnstile.proofs.Passes.{resting, joined_known, join_standing}
use Rattle.turnstile.proofs.desk.Desk.join.Goals as goal

pub join_seat-requires : goal.join_seat-requires
join_seat-requires g c =
    let first = c.reseat-seat.ensures.2 in
    let second = c.reseat-other.ensures.2 in
    let here = sym (ap (λ d. d.table) c.self.view_is) in (
      c.reseat-seat.ensures.0 ∙ (ap (λ k. k.desk.table) c.first.view_is ∙ (ap (λ d. d.table) c.requires.first ∙ here)),
      c.reseat-other.ensures.0 ∙ (ap (λ k. k.desk.table) c.second.view_is ∙ (ap (λ d. d.table) c.requires.second ∙ here)),
      search rules,
      search rules,
      joins_as g.V.Turn.base g.V.Turn.entries g.V.Turn.room g.V.Turn.lawful _ _ _ c.first.inside.seat.me.0 _ _ c.second.inside.seat.me.0 _ _ (λ i. (first i).0) (λ i. (second i).0)
          (resting c.first.inside c.first.invariant) (resting c.second.inside c.second.invariant),
    )

pub load-requires : goal.load-requires
load-requires g c = (
  c.join_seat.ensures.0 ∙ (c.reseat-seat.ensures.0 ∙ (ap (λ k. k.desk.table) c.first.view_is ∙ (ap (λ d. d.table) c.requires.first ∙ sym (ap (λ d. d.table) c.self.view_is)))),
  search rules,
  recalls g.V.Turn.base g.V.Turn.entries g.V.Turn.room g.V.Turn.lawful _ _ _ _ _,
)

pub invariant_of-result : goal.invariant_of-result
invariant_of-result g c =
    let a = c.first.invariant in
    let b = c.second.invariant in
    let first = c.reseat-seat.ensures.2 in
    let second = c.reseat-other.ensures.2 in
    let joined = c.join_seat.ensures.2 in
    let loaded = c.load.ensures.2.0 in
    let last = c.reseat.ensures.2 in
    let is = (λ i. (last i).0) ∙ (λ i. (loaded i).0) ∙ (λ i. without_parts ((joined i).0)) ∙ (λ i. without_parts (both ((first i).0) ((second i).0))) in
    record {
      number_is = ap (λ k. k.number) is ∙ a.number_is;
      spare_is = ap (λ k. k.spare) is ∙ a.spare_is;
      mark_is = ap (λ k. k.ticket) is ∙ (λ i. or_else (a.mark_is i) (b.mark_is i)) ∙ sym c.first_of.ensures;
      no_slot = λ i. (last i).1;
      no_turn = ap (λ k. k.turn) is ∙ a.no_turn;
      no_parts = ap (λ k. k.joined) is;
      standing = join_standing _ _ _ c.first.inside.seat.me.0 c.second.inside.seat.me.0 _ is
          (ap (λ k. k.desk.term) c.second.view_is ∙ (ap (λ d. d.term) c.requires.second ∙ (sym (ap (λ d. d.term) c.requires.first) ∙ sym (ap (λ k. k.desk.term) c.first.view_is))))
          a.standing b.standing;
    }

pub returns : goal.returns
returns g c =
    let first = c.reseat-seat.ensures.2 in
    let second = c.reseat-other.ensures.2 in
    let is = (λ i. (c.join_seat.ensures.2 i).0) ∙ (λ i. both ((first i).0) ((second i).0)) in
    let table = c.reseat.ensures.0 ∙ (c.load.ensures.0 ∙ (c.join_seat.ensures.0 ∙ c.reseat-seat.ensures.0)) in
    joined_known c.first.inside c.second.inside _ _ _ _ _ _ c.first.view_is c.second.view_is table is c.load.ensures.2 (λ i. (c.reseat.ensures.2 i).0)
