use Rattle.std.proofs.Common.{rules, ◌≡◌, ◌≤◌, sym, ap, ◌∙◌, arith}
use Rattle.turnstile.proofs.Sharing.{vacants, splits_as}
use Rattle.turnstile.proofs.Passes.{resting}
use Rattle.turnstile.proofs.desk.Desk.split.Goals as goal

pub load-requires : goal.load-requires
load-requires g c = (
  c.reseat-seat.ensures.0 ∙ (ap (λ k. k.desk.table) c.pass.view_is ∙ (ap (λ d. d.table) c.requires.desk ∙ sym (ap (λ d. d.table) c.self.view_is))),
  search rules,
  vacants g.V.Turn.base g.V.Turn.entries g.V.Turn.room g.V.Turn.lawful _ _ _ _ _,
)

pub split_seat-other-requires : goal.split_seat-other-requires
split_seat-other-requires g c =
    let p = c.pass.inside in
    let same = c.load.ensures.2.0 ∙ c.reseat-seat.ensures.2 in
    let spare : p.seat.me.0.spare ≡ c.args.pass.spare = ap (λ k. k.spare) c.pass.view_is in
    let enough : 2 ≤ c.args.pass.spare = c.requires.spare in (
      c.load.ensures.0 ∙ (c.reseat-seat.ensures.0 ∙ (ap (λ k. k.desk.table) c.pass.view_is ∙ (ap (λ d. d.table) c.requires.desk ∙ sym (ap (λ d. d.table) c.self.view_is)))),
      search rules,
      splits_as g.V.Turn.base g.V.Turn.entries g.V.Turn.room g.V.Turn.lawful _ _ _ p.seat.me.0 _ (λ i. (same i).0) (resting p c.pass.invariant) (omega arith) c.pass.invariant.standing.enough_parts,
    )
