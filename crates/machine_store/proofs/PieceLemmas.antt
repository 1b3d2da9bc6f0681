-- One more node among those that pieces lie on.
use Rattle.std.proofs.Common.{◌≡◌, ℕ, zero, suc, ◌+◌, ◌<◌, List, [], ◌∷◌, ◌++◌, length, take, get_or, sym, ap, ◌∙◌, arith}
use Rattle.sat_base.specs.declared.ids.NodeId.{NodeId}
use Rattle.sat_base.specs.declared.records.At.{At}
use Rattle.machine_step.specs.Places.{pieces_from}

pub pieces-more : (i : ℕ) (ids : List NodeId) (k : ℕ) (d : NodeId) → k < length ids → pieces_from i (take (suc k) ids) ≡ pieces_from i (take k ids) ++ record { index = i + k; node = get_or ids k d } ∷ []
pieces-more i [] k d lt = absurd (omega arith)
pieces-more i (id ∷ ids) zero d lt = let same : i ≡ i + 0 = omega arith in ap (λ (n : ℕ). record { index = n; node = id } ∷ []) same
pieces-more i (id ∷ ids) (suc k) d lt =
    let same : suc i + k ≡ i + suc k = omega arith in
    ap (λ (ps : List At). record { index = i; node = id } ∷ ps) (pieces-more (suc i) ids k d (omega arith) ∙ ap (λ (n : ℕ). pieces_from (suc i) (take k ids) ++ record { index = n; node = get_or ids k d } ∷ []) same)

-- one piece more, counted from 0
pub next-piece : (ids : List NodeId) (i : ℕ) (d : NodeId) (before after : List At) → after ≡ before ++ record { index = i; node = get_or ids i d } ∷ [] → before ≡ pieces_from 0 (take i ids) → i < length ids
    → after ≡ pieces_from 0 (take (i + 1) ids)
next-piece ids i d before after is invariant lt =
    let more : pieces_from 0 (take (suc i) ids) ≡ pieces_from 0 (take i ids) ++ record { index = 0 + i; node = get_or ids i d } ∷ [] = pieces-more 0 ids i d lt in
    let index : 0 + i ≡ i = omega arith in
    let next : suc i ≡ i + 1 = omega arith in
    is ∙ ap (λ (ps : List At). ps ++ record { index = i; node = get_or ids i d } ∷ []) invariant
    ∙ sym (more ∙ ap (λ (n : ℕ). pieces_from 0 (take i ids) ++ record { index = n; node = get_or ids i d } ∷ []) index)
    ∙ ap (λ (n : ℕ). pieces_from 0 (take n ids)) next
