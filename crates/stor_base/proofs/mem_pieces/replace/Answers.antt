use Rattle.std.proofs.Common.{rules, List, ◌++◌, ◌∷◌, [], not, ap, ◌∙◌}
use Rattle.std.proofs.lemmas.Fn.{filter_same}
use Rattle.stor_base.specs.declared.pieces.Piece.{Piece}
use Rattle.stor_base.specs.Pieces.{is_piece}
use Rattle.stor_base.proofs.mem_pieces.replace.Goals as goal

pub returns : goal.returns
returns c =
    let piece = c.args.piece in
    let kept = filter_same _ (λ (held : Piece). not (is_piece piece.segment piece.index held)) _ (λ x b f k. search rules) _ _ c.retain.ensures.filtered in
    c.push_reserved.ensures.items ∙ ap (λ (held : List Piece). held ++ piece ∷ []) kept
