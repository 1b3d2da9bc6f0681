-- A pass as its fields, and what contracts see of it.
use Rattle.std.specs.Prelude.{◌≡◌, [], false}
use Rattle.atomic_table.specs.Seated.{TableId}
use Rattle.turnstile.specs.Known.{Known}
use Rattle.turnstile.specs.declared.view.SeatView.{SeatView}
use Rattle.turnstile.specs.declared.pass.Pass.TheInside.{Inside}
use Rattle.turnstile.specs.Known.{Standing}

module _ {C A B : Type 0} where
  abbrev pub known_of : TableId → SeatView C A B → Known C A B
  known_of table v = record { desk = record { table = table; term = v.term }; base = v.base; number = v.number; spare = v.spare; numbers = v.numbers; seen = v.seen; parts = v.parts; mark = v.ticket }

  abbrev pub known : Inside C A B → Known C A B
  known p = known_of p.seat.table_id p.seat.me.0

  -- Between two calls a pass holds no value, its turn hasn't come and no join is under way.
  pub record AtRest (p : Inside C A B) : Type 0 where
    pub number_is : p.seat.me.0.number ≡ p.number
    pub spare_is : p.seat.me.0.spare ≡ p.spare
    pub mark_is : p.seat.me.0.ticket ≡ p.mark
    pub no_slot : p.seat.me.1 ≡ []
    pub no_turn : p.seat.me.0.turn ≡ false
    pub no_parts : p.seat.me.0.joined ≡ []
    pub standing : Standing (known p)
