use Rattle.order_uses.proofs.KeepLemmas.{kept_same}
use Rattle.order_uses.proofs.uses.Uses.note_moment.Goals as goal

pub invariant_of-self : goal.invariant_of-self
invariant_of-self g c = kept_same _ _ c.advance.new.self.rows c.advance.new.self.key c.self.invariant c.advance.ensures.rows c.advance.ensures.key
