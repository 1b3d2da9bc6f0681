-- What is held after a write.
use Rattle.std.proofs.Common.{◌≡◌, ℕ, List, [], true, false, Option, ap, arith}
use Rattle.std.specs.Option.{option_map}
use Rattle.std.proofs.lemmas.Grind.{common_steps}
use Rattle.sat_base.specs.declared.ids.SegId.{SegId}
use Rattle.sat_base.specs.declared.nodes.Stored.TheVariants as stores
use Rattle.sat_base.proofs.Pieces.{found_behind, found_before}
use Rattle.stor_base.specs.declared.pieces.Piece.{Piece}
use Rattle.stor_base.specs.Pieces.{is_piece, with_piece, WrittenTo}

-- a piece of one key isn't of another
piece_of_one : (segment : SegId) (index : ℕ) (held piece : Piece) → is_piece segment index held ≡ false
    → is_piece segment index piece ≡ true → is_piece held.segment held.index piece ≡ false
piece_of_one segment index held piece apart of = grind (arith, common_steps)

pub written_to : (segment : SegId) (index : ℕ) (bytes : List ℕ) (pieces : List Piece)
    → WrittenTo pieces segment index bytes stores.Kept (with_piece segment index bytes pieces)
written_to segment index bytes pieces =
    let put : Piece = record { segment = segment; index = index; bytes = bytes } in
    let own : is_piece segment index put ≡ true = grind (arith, common_steps) in (
      λ e. ap (λ (found : Option Piece). option_map (λ (piece : Piece). piece.bytes) found) (found_behind (is_piece segment index) put own pieces),
      λ held apart. ap (λ (found : Option Piece). option_map (λ (piece : Piece). piece.bytes) found)
          (found_before (is_piece segment index) (is_piece held.segment held.index) put
          (piece_of_one segment index held put apart own) (λ piece of. piece_of_one segment index held piece apart of) pieces),
    )
