use Rattle.std.proofs.Common.{◌≡◌, ◌≤◌, ◌++◌, ℕ, List, All, length, take, drop}
use Rattle.std.specs.List.{flat_map}
use Rattle.record_rows.proofs.list.take_items.Given as goal

abbrev pub invariant-loop-i : goal.invariant-loop-i
invariant-loop-i g l = record {
  number : length l.items.items ≡ l._i;
  fits : All g.T.Coded.fits l.items.items;
  size : l.at ≤ length l.bytes;
  found : take l.at l.bytes ≡ flat_map g.T.Spelled.spelling l.items.items;
  only : (xs : List g.row.T.Denot) (rest : List ℕ) → length xs ≡ l.count → All g.T.Coded.fits xs
      → l.bytes ≡ flat_map g.T.Spelled.spelling xs ++ rest
      → (l.items.items ≡ take l._i xs) × (drop l.at l.bytes ≡ flat_map g.T.Spelled.spelling (drop l._i xs) ++ rest);
}
