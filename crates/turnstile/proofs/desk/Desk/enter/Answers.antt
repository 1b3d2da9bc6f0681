use Rattle.std.proofs.Common.{rules, ◌≡◌, ◌<◌, ◌∷◌, length, Some, refl, sym, ap, ◌∙◌, arith}
use Rattle.turnstile.specs.History.{has}
use Rattle.turnstile.specs.Entry.{entry_of}
use Rattle.turnstile.specs.Steps.{with_ticket}
use Rattle.turnstile.proofs.Steps.{draws}
use Rattle.turnstile.proofs.Passes.{resting}
use Rattle.turnstile.proofs.Entering.{came_with, takes_mine, serves_mine, finishes_from}
use Rattle.turnstile.proofs.desk.Desk.enter.Goals as goal

pub fetch_add-ticket-requires : goal.fetch_add-ticket-requires
fetch_add-ticket-requires g c =
    let rest = c.pass.invariant in
    let same = ap (λ m. m.0) c.reseat-seat.ensures.2 in
    let live = (resting c.pass.inside rest).live in (
      c.reseat-seat.ensures.0 ∙ (ap (λ k. k.desk.table) c.pass.view_is ∙ (ap (λ d. d.table) c.requires.desk ∙ sym (ap (λ d. d.table) c.self.view_is))),
      search rules,
      draws g.V.Turn.base g.V.Turn.entries g.V.Turn.room g.V.Turn.lawful _ _ _ _ _
          (ap (λ k. k.ticket) same ∙ (rest.mark_is ∙ c.in_default.is))
          (let e = ap (λ k. k.parts) same in omega arith),
    )

pub store-requires : goal.store-requires
store-requires g c =
    let p = c.pass.inside in
    let rest = c.pass.invariant in
    let v = p.seat.me.0 in
    let t = c.fetch_add-ticket.result in
    let r = c.reseat-seat.ensures.2 in
    let drawn = c.fetch_add-ticket.ensures.2 ∙ (λ i. (with_ticket ((r i).0) (Some t), (r i).1)) in
    let came = came_with g.V.Turn.base g.V.Turn.entries g.V.Turn.room g.V.Turn.lawful v t _ _ drawn c.wait.ensures.came in
    let x = c.slot_mut-value.result.now in
    let mine = takes_mine g.V.Turn.base g.V.Turn.entries g.V.Turn.room g.V.Turn.lawful v t _ x came c.slot_mut-value.ensures.value in
    let y = c.turn-answer.new.self in
    let own_pass = ap (λ n. has v.numbers n) (sym rest.number_is) ∙ rest.standing.own_number in (
      c.wait.ensures.same.0 ∙ (c.fetch_add-ticket.ensures.0 ∙ (c.reseat-seat.ensures.0 ∙ (ap (λ k. k.desk.table) c.pass.view_is ∙ (ap (λ d. d.table) c.requires.desk ∙ sym (ap (λ d. d.table) c.self.view_is))))),
      search rules,
      serves_mine g.V.Turn.base g.V.Turn.entries g.V.Turn.room g.V.Turn.lawful _ _ _ _ t v c.wait.new.seat.me.0 x y
          (entry_of (length (g.V.Turn.entries x)) p.number c.args.call (g.V.Turn.reply c.turn-answer.result)) _
          (λ i. (c.wait.new.seat.me.0, (0, y) ∷ mine.1 i))
          mine.0 (ap length rest.no_parts) own_pass c.turn-answer.ensures.entry c.turn-answer.ensures.base c.turn-answer.ensures.room c.turn-answer.ensures.lawful,
    )

pub returns-clause-done : goal.returns-clause-done
returns-clause-done g c =
    let p = c.pass.inside in
    let rest = c.pass.invariant in
    let v = p.seat.me.0 in
    let t = c.fetch_add-ticket.result in
    let r = c.reseat-seat.ensures.2 in
    let drawn = c.fetch_add-ticket.ensures.2 ∙ (λ i. (with_ticket ((r i).0) (Some t), (r i).1)) in
    let came = came_with g.V.Turn.base g.V.Turn.entries g.V.Turn.room g.V.Turn.lawful v t _ _ drawn c.wait.ensures.came in
    let x = c.slot_mut-value.result.now in
    let mine = takes_mine g.V.Turn.base g.V.Turn.entries g.V.Turn.room g.V.Turn.lawful v t _ x came c.slot_mut-value.ensures.value in
    let y = c.turn-answer.new.self in
    let stored = c.store.ensures.2 y refl in
    let u = (λ i. (c.reseat-2.ensures.2 i).0) ∙ (λ i. (stored i).0) in
    let own_pass = ap (λ n. has v.numbers n) (sym rest.number_is) ∙ rest.standing.own_number in
    let table = c.reseat-2.ensures.0 ∙ (c.store.ensures.0 ∙ (c.wait.ensures.same.0 ∙ (c.fetch_add-ticket.ensures.0 ∙ c.reseat-seat.ensures.0))) in
    let term : v.term ≡ c.self.inside.term = ap (λ k. k.desk.term) c.pass.view_is ∙ (ap (λ d. d.term) c.requires.desk ∙ sym (ap (λ d. d.term) c.self.view_is)) in
    let under : t < v.term = let b = c.if-ticket-self.false in omega arith in
    finishes_from g.V.Turn.base g.V.Turn.entries g.V.Turn.room g.V.Turn.lawful c.args.pass _ _ v t _ _ x y p.number _ _ _ c.pass.view_is table mine.0
    (rest.mark_is ∙ c.in_default.is) under rest.number_is own_pass c.turn-answer.ensures.entry c.turn-answer.ensures.place c.turn-answer.ensures.base c.turn-answer.ensures.lawful u
