use Rattle.std.proofs.Common.{List, ◌≡◌, subst, sym, ◌∙◌, ap, refl}
use Rattle.sat_base.specs.declared.nodes.Stored.TheVariants as stores
use Rattle.stor_base.specs.declared.pieces.Piece.{Piece}
use Rattle.stor_base.specs.Pieces.{Holding, WrittenTo, with_piece}
use Rattle.stor_base.proofs.WriteLemmas.{written_to}
use Rattle.stor_base.proofs.mem_pieces.MemPiecesPieces.write.Goals as goal

held_now : (c : goal.After-replace) → c.replace.new.held.items ≡ with_piece c.args.segment c.args.index c.args.bytes.now c.args.self.now.held
held_now c =
    let was : c.reserve.new.self.items ≡ c.args.self.now.held
    = c.reserve.ensures.items ∙ ap (λ (holding : Holding). holding.held) (c.self.view_is ∙ c.fails.ensures.counted) in
    let copied : c.of.result ≡ c.args.bytes.now = c.of.ensures ∙ c.in-Ok.ensures.items in
    c.replace.ensures ∙ rw (was, copied) refl

pub returns-clause-told : goal.returns-clause-told
returns-clause-told c = (
  c.replace.new.held.items,
  refl,
  subst (λ (pieces : List Piece). WrittenTo c.args.self.now.held c.args.segment c.args.index c.args.bytes.now stores.Kept pieces)
      (sym (held_now c)) (written_to c.args.segment c.args.index c.args.bytes.now c.args.self.now.held),
)
