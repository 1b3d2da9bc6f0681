-- Lists of rows in the order of their keys.
use Rattle.std.proofs.Common.{◌≡◌, ◌∙◌, Bool, true, false, ◌&&◌, List, [], ◌∷◌, ◌++◌, T}
use Rattle.std.specs.FinMap.{entries-from_sorted, same_entries_map}
use Rattle.std.specs.FinMap.Entries.{below_all}
use Rattle.std.specs.Prelude.{map}
use Rattle.sat_base.specs.declared.rows.Row.{Row}
use Rattle.sat_base.specs.Rows.{Key, Rows, AreInOrder, AreThe, entry, key_cmp, key_of, rows_of}

pub both : (a b : Bool) → T a → T b → T (a && b)
both true b p q = q
both false b p q = p

pub split : (a b : Bool) → T (a && b) → T a × T b
split true b h = (tt, h)
split false b h = absurd h

-- a front of them is in order
below_front : (k : Key) (xs ys : List Row) → T (below_all key_cmp k (map entry (xs ++ ys))) → T (below_all key_cmp k (map entry xs))
below_front k [] ys h = tt
below_front k (x ∷ xs) ys h = let s = split _ _ h in both _ _ s.0 (below_front k xs ys s.1)

pub order_front : (xs ys : List Row) → AreInOrder (xs ++ ys) → AreInOrder xs
order_front [] ys order = tt
order_front (x ∷ xs) ys order = let s = split _ _ order in both _ _ (below_front (key_of x) xs ys s.0) (order_front xs ys s.1)

-- they are the rows that they list
pub the_rows : (all : Rows) (list : List Row) → AreInOrder list → AreThe all list → rows_of list ≡ all
the_rows all list order are = same_entries_map (rows_of list) all (entries-from_sorted key_cmp (map entry list) order ∙ are)
