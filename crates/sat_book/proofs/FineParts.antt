-- Parts of rows in order are in order, and parts of records that fit do.
use Rattle.std.proofs.Common.{◌≡◌, List, [], ◌∷◌, ◌++◌, refl, ap, subst}
use Rattle.std.specs.Prelude.{map}
use Rattle.sat_base.specs.declared.rows.Row.{Row}
use Rattle.sat_base.specs.Rows.{AreInOrder}
use Rattle.sat_base.proofs.RowLists.{split, order_front}
use Rattle.record_kinds.specs.declared.rec.Rec.{Rec}
use Rattle.record_rows.specs.Fits.{Fits}
use Rattle.record_rows.specs.Spelling.{row_of}
use Rattle.machine_step.specs.Bounds.{Each}
use Rattle.sat_book.specs.TableRows.{joined}

order_back : (xs ys : List Row) → AreInOrder (xs ++ ys) → AreInOrder ys
order_back [] ys h = h
order_back (x ∷ xs) ys h = order_back xs ys (split _ _ h).1

pub map_behind : {A B : Type 0} (f : A → B) (xs ys : List A) → map f (xs ++ ys) ≡ map f xs ++ map f ys
map_behind f [] ys = refl
map_behind f (x ∷ xs) ys = ap (λ (l : List _). f x ∷ l) (map_behind f xs ys)

each_front : {A : Type 0} (P : A → Type 0) (xs ys : List A) → Each P (xs ++ ys) → Each P xs
each_front P [] ys each = tt
each_front P (x ∷ xs) ys each = (each.0, each_front P xs ys each.1)

each_back : {A : Type 0} (P : A → Type 0) (xs ys : List A) → Each P (xs ++ ys) → Each P ys
each_back P [] ys each = each
each_back P (x ∷ xs) ys each = each_back P xs ys each.1

-- the records of some kinds, fitting and in order
pub record AreFine (recs : List Rec) : Type 0 where
  pub fit : Each Fits recs
  pub order : AreInOrder (map row_of recs)

fine_front : (xs ys : List Rec) → AreFine (xs ++ ys) → AreFine xs
fine_front xs ys fine = record {
  fit = each_front Fits xs ys fine.fit;
  order = order_front (map row_of xs) (map row_of ys) (subst AreInOrder (map_behind row_of xs ys) fine.order);
}

fine_back : (xs ys : List Rec) → AreFine (xs ++ ys) → AreFine ys
fine_back xs ys fine = record {
  fit = each_back Fits xs ys fine.fit;
  order = order_back (map row_of xs) (map row_of ys) (subst AreInOrder (map_behind row_of xs ys) fine.order);
}

-- one list among lists
pub fine_among : (before : List (List Rec)) (own : List Rec) (after : List (List Rec)) → AreFine (joined (before ++ own ∷ after)) → AreFine own
fine_among [] own after fine = fine_front own (joined after) fine
fine_among (first ∷ before) own after fine = fine_among before own after (fine_back first (joined (before ++ own ∷ after)) fine)
