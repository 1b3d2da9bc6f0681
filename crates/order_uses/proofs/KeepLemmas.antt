-- What holds of uses over a keeper after each call.
use Rattle.std.proofs.Common.{◌≡◌, ℕ, List, sym, ap, subst, ◌∙◌}
use Rattle.rows.specs.Rows.{Each}
use Rattle.sat_base.specs.Keeper.{KeeperView, CommitsTo, Commits}
use Rattle.sat_base.specs.Rows.{Rows, changed, rows_of}
use Rattle.sat_base.specs.declared.keeper.Committed.{Committed}
use Rattle.sat_base.specs.declared.keeper.Committed.TheVariants as committed
use Rattle.sat_base.proofs.RowLists.{the_rows}
use Rattle.order_uses.specs.Opening.{HasSerial}
use Rattle.order_uses.specs.Uses.{AreUses, IsUnderKey}
use Rattle.order_uses.specs.View.{IsKept, LoadsUses, UsesView, putting, rows_by, store_of}
use Rattle.order_uses.specs.declared.row.OrderUse.{OrderUse}
use Rattle.order_uses.proofs.PutLemmas.{each_put, store_put, uses_put}

uses_by : (key : List ℕ) (rows : List OrderUse) (row : OrderUse) (answer : Committed) → AreUses key rows → IsUnderKey key row → AreUses key (rows_by answer rows row)
uses_by key rows row committed.Done are under = uses_put key rows row are under
uses_by key rows row committed.Fault are under = are
uses_by key rows row committed.NoMemory are under = are

serials_by : (rows : List OrderUse) (row : OrderUse) (answer : Committed) → Each HasSerial rows → HasSerial row → Each HasSerial (rows_by answer rows row)
serials_by rows row committed.Done each fits = each_put HasSerial rows row each fits
serials_by rows row committed.Fault each fits = each
serials_by rows row committed.NoMemory each fits = each

store_by : (key : List ℕ) (rows : List OrderUse) (row : OrderUse) (answer : Committed) (old new : Rows) → AreUses key rows → Each HasSerial rows → HasSerial row
    → CommitsTo answer old (changed (putting row) old) new → old ≡ store_of rows → new ≡ store_of (rows_by answer rows row)
store_by key rows row committed.Done old new are each fits is was = is ∙ ap (changed (putting row)) was ∙ sym (store_put rows row are.rising each fits)
store_by key rows row committed.Fault old new are each fits is was = is ∙ was
store_by key rows row committed.NoMemory old new are each fits is was = is ∙ was

module _ {K : Type 0} (about : K → KeeperView) where
  abbrev Kept : UsesView K → Type 0
  Kept = IsKept about

  -- after a commit of a row
  pub kept_by : (uses : UsesView K) (row : OrderUse) (answer : Committed) (rows : List OrderUse) (key : List ℕ) (keeper : K) → Kept uses → IsUnderKey uses.key row → HasSerial row
      → rows ≡ rows_by answer uses.rows row → key ≡ uses.key → Commits (putting row) answer (about uses.keeper) (about keeper) → Kept (record uses { rows = rows; key = key; keeper = keeper })
  kept_by uses row answer rows key keeper kept under fits is same commits =
      subst (λ (k : List ℕ). Kept (record uses { rows = rows; key = k; keeper = keeper })) (sym same) (subst (λ (l : List OrderUse). Kept (record uses { rows = l; keeper = keeper })) (sym is) (record {
        are = uses_by uses.key uses.rows row answer kept.are under;
        serials = serials_by uses.rows row answer kept.serials fits;
        clean = λ c. kept.clean (commits.clean c);
        opened = λ o. kept.opened (commits.opened o);
        told = λ o t. commits.told o (kept.told (commits.opened o) t);
        kept = λ o t. store_by uses.key uses.rows row answer (about uses.keeper).rows (about keeper).rows kept.are kept.serials fits
            (commits.to_rows o (kept.told (commits.opened o) t)) (kept.kept (commits.opened o) t);
      }))

  -- where the rows and the key stay
  pub kept_same : (uses : UsesView K) (rows : List OrderUse) (key : List ℕ) → Kept uses → rows ≡ uses.rows → key ≡ uses.key → Kept (record uses { rows = rows; key = key })
  kept_same uses rows key kept rows_are key_is =
      subst (λ (k : List ℕ). Kept (record uses { rows = rows; key = k })) (sym key_is) (subst (λ (l : List OrderUse). Kept (record uses { rows = l })) (sym rows_are) kept)

  abbrev LoadedUses : List ℕ → K → K → List OrderUse → Type 0
  LoadedUses = LoadsUses about

  -- after opening
  pub kept_opened : (uses : UsesView K) (handed : K) (key : List ℕ) → uses.first ≡ handed → uses.key ≡ key → LoadedUses key handed uses.keeper uses.rows → Kept uses
  kept_opened uses handed key is same loads =
      let stays = loads.loads.stays in
      subst (λ (k : K). Kept (record uses { first = k })) (sym is) (record {
        are = subst (λ (k : List ℕ). AreUses k uses.rows) (sym same) loads.are.uses_are;
        serials = loads.are.serials;
        clean = stays.clean;
        opened = stays.opened;
        told = stays.told;
        kept = λ o t. stays.kept o t ∙ sym (the_rows (about handed).rows loads.loaded loads.loads.ordered (loads.loads.are o t)) ∙ ap rows_of (sym loads.are.rows_are);
      })
