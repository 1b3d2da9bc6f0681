-- One stripe: its answers, its marks and the pieces that it is written to.
use Rattle.std.proofs.Common.{◌≡◌, ℕ, suc, ◌+◌, ◌*◌, ◌<◌, List, [], ◌∷◌, ◌++◌, length, get_or, take, refl, sym, ap, ap₂, ◌∙◌, subst, arith}
use Rattle.std.specs.Prelude.{All, map}
use Rattle.std.proofs.Math.Seq.{take-append_seam}
use Rattle.sat_base.specs.declared.items.Share.{Share}
use Rattle.bw_decode.specs.Altered.{indexes_of}
use Rattle.bw_decode.proofs.NearStripes.{index_at, indexes_length}
use Rattle.rs_stripe.specs.Encoding.{Encoding}
use Rattle.repair_core.specs.Answers.{answers_at}
use Rattle.repair_core.specs.Stripes.{longer}
use Rattle.repair_core.specs.Room.{IsWritten, IsEncoder, cut_short}

-- what was written over the whole of a vector
pub written : {A : Type 0} (new : List A) (len : ℕ) (rest : List A) → len ≡ length new → take len (new ++ rest) ≡ new
written new len rest e = rw e (take-append_seam new rest)

pub indexes_of-answers_at : (size count s : ℕ) (pieces : List Share) → indexes_of (answers_at size count s pieces) ≡ indexes_of pieces
indexes_of-answers_at size count s [] = refl
indexes_of-answers_at size count s (x ∷ xs) = ap (λ (rest : List ℕ). x.index ∷ rest) (indexes_of-answers_at size count s xs)

pub fresh_written : (k size done : ℕ) (stripe : List ℕ) (old new : List Share) → length new ≡ length old
    → ((i : ℕ) (d : Share) → i < length old → IsWritten k size done stripe (get_or old i d) (get_or new i d))
    → map (cut_short ((done + 1) * size)) new ≡ map (longer k size (stripe ∷ [])) (map (cut_short (done * size)) old)
fresh_written k size done stripe [] [] len each = refl
fresh_written k size done stripe [] (x ∷ xs) len each = absurd (omega (arith, len))
fresh_written k size done stripe (x ∷ xs) [] len each = absurd (omega (arith, len))
fresh_written k size done stripe (x ∷ xs) (y ∷ ys) len each =
    let one = (each 0 x (omega arith)).written in
    let rest = fresh_written k size done stripe xs ys (omega (arith, len)) (λ i d h. each (suc i) d (omega (arith, h))) in
    ap (λ (z : Share). z ∷ map (cut_short ((done + 1) * size)) ys) one
    ∙ ap (λ (zs : List Share). longer k size (stripe ∷ []) (cut_short (done * size) x) ∷ zs) rest

pub still_below : (k size done n : ℕ) (stripe : List ℕ) (old new : List Share) → length new ≡ length old
    → ((i : ℕ) (d : Share) → i < length old → IsWritten k size done stripe (get_or old i d) (get_or new i d))
    → All (λ piece. piece.index < n) old → All (λ piece. piece.index < n) new
still_below k size done n stripe old new len each all i d h =
    let within : i < length old = omega (arith, len, h) in
    omega (arith, (each i d within).index, all i d within)

pub still_long : (k size done whole : ℕ) (stripe : List ℕ) (old new : List Share) → length new ≡ length old
    → ((i : ℕ) (d : Share) → i < length old → IsWritten k size done stripe (get_or old i d) (get_or new i d))
    → All (λ piece. length piece.bytes ≡ whole) old → All (λ piece. length piece.bytes ≡ whole) new
still_long k size done whole stripe old new len each all i d h =
    let within : i < length old = omega (arith, len, h) in
    (each i d within).long ∙ all i d within

pub pieces_below : (n : ℕ) (pieces : List Share) (indexes : List ℕ) → indexes_of pieces ≡ indexes → All (λ index. index < n) indexes
    → All (λ piece. piece.index < n) pieces
pieces_below n pieces indexes are below i d h =
    let within : i < length indexes = omega (arith, h, indexes_length pieces, ap length are) in
    let at : get_or indexes i 0 ≡ (get_or pieces i d).index = sym (ap (λ (xs : List ℕ). get_or xs i 0) are) ∙ index_at pieces i d h in
    omega (arith, at, below i 0 within)

-- the shares that the pieces' encoder makes are the scheme's
pub of_scheme : (k size done : ℕ) (encoder : Encoding) (stripe : List ℕ) (fresh old new : List Share) → IsEncoder k size fresh encoder
    → ((i : ℕ) (d : Share) → i < length old → IsWritten encoder.k encoder.size done stripe (get_or old i d) (get_or new i d))
    → (i : ℕ) (d : Share) → i < length old → IsWritten k size done stripe (get_or old i d) (get_or new i d)
of_scheme k size done encoder stripe fresh old new is each =
    subst (λ n. (i : ℕ) (d : Share) → i < length old → IsWritten n size done stripe (get_or old i d) (get_or new i d)) is.k_is
    (subst (λ n. (i : ℕ) (d : Share) → i < length old → IsWritten encoder.k n done stripe (get_or old i d) (get_or new i d)) is.size_is each)

-- pieces keep their indexes
pub still_indexes : (k size done : ℕ) (stripe : List ℕ) (old new : List Share) → length new ≡ length old
    → ((i : ℕ) (d : Share) → i < length old → IsWritten k size done stripe (get_or old i d) (get_or new i d))
    → indexes_of new ≡ indexes_of old
still_indexes k size done stripe [] [] len each = refl
still_indexes k size done stripe [] (x ∷ xs) len each = absurd (omega (arith, len))
still_indexes k size done stripe (x ∷ xs) [] len each = absurd (omega (arith, len))
still_indexes k size done stripe (x ∷ xs) (y ∷ ys) len each =
    ap₂ (λ (n : ℕ) (ns : List ℕ). n ∷ ns) (each 0 x (omega arith)).index
    (still_indexes k size done stripe xs ys (omega (arith, len)) (λ i d h. each (suc i) d (omega (arith, h))))
