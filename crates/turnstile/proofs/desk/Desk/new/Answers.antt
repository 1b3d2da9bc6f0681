use Rattle.std.proofs.Common.{rules, ◌≡◌, [], ◌∷◌, ap, sym, subst}
use Rattle.turnstile.proofs.Steps.{begins}
use Rattle.turnstile.proofs.desk.Desk.new.Goals as goal

pub new-requires : goal.new-requires
new-requires g c =
    let e : c.push.new.self.items ≡ c.args.value ∷ [] = search rules in
    rw e (begins g.V.Turn.base g.V.Turn.entries g.V.Turn.room g.V.Turn.lawful _ c.args.term c.args.value c.requires.empty (ap g.V.Turn.base (sym c.of.ensures)) c.requires.term.2 c.requires.term.1
    (subst (λ (x : g.row.V.Denot). g.V.Turn.lawful (g.V.Turn.base x) []) (sym c.of.ensures) c.requires.lawful))
