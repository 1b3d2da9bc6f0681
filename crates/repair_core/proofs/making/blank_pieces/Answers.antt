use Rattle.std.proofs.Common.{◌≡◌, ◌<◌, ◌+◌, ◌∷◌, ◌++◌, [], ℕ, List, length, take, get_or, ap, sym, ◌∙◌, refl, arith}
use Rattle.std.proofs.lemmas.Grind.{elements}
use Rattle.std.proofs.lemmas.List.{map-append, take_more}
use Rattle.sat_base.specs.declared.items.Share.{Share}
use Rattle.sat_base.specs.declared.records.At.{At}
use Rattle.bw_decode.specs.Altered.{indexes_of}
use Rattle.repair_core.specs.Indexes.{place_indexes}
use Rattle.repair_core.proofs.making.blank_pieces.Goals as goal

-- a piece more, for the next target
more : (fresh : List Share) (piece : Share) (targets : List At) (i : ℕ) (d : At) → i < length targets → indexes_of fresh ≡ place_indexes (take i targets)
    → piece.index ≡ (get_or targets i d).index → indexes_of (fresh ++ piece ∷ []) ≡ place_indexes (take (i + 1) targets)
more fresh piece targets i d within before is =
    map-append (λ (a : Share). a.index) fresh (piece ∷ [])
    ∙ ap (λ (xs : List ℕ). xs ++ piece.index ∷ []) before
    ∙ ap (λ n. place_indexes (take i targets) ++ n ∷ []) is
    ∙ sym (map-append (λ (a : At). a.index) (take i targets) (get_or targets i d ∷ []))
    ∙ ap (λ (xs : List At). place_indexes xs) (sym (take_more targets i d within))

pub loop-target-preserved : goal.loop-target-preserved
loop-target-preserved c = record {
  indexes = ap (λ (xs : List Share). indexes_of xs) c.in_ok-push.ensures.items
      ∙ more c.loop-target.fresh.items _ c.args.targets.now c.loop-target.target-index (record { index = 0; node = record { 0 = 0 } }) c.loop-target-test.true c.loop-target.invariant.indexes refl;
  long = λ k d within. let all = c.loop-target.invariant.long k d in grind (arith, elements, all, c.in_ok-push.ensures.items);
}
