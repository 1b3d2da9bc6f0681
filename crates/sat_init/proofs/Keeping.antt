-- The rows of a new store, and what a crash leaves of it.
use Rattle.std.proofs.Common.{◌≡◌, ℕ, List, [], ◌∷◌, map, inl, inr, ◌⊎◌, refl, sym, ap, ◌∙◌}
use Rattle.std.specs.FinMap.{entries, insert, entries-insert}
use Rattle.std.specs.FinMap.Entries.{put}
use Rattle.sat_base.specs.declared.rows.Row.{Row}
use Rattle.sat_base.specs.Keeper.{KeeperView}
use Rattle.sat_base.specs.Rows.{Rows, AreThe, changed, entry, key_cmp, key_of}
use Rattle.sat_base.proofs.KeyOrder.{keys_total}
use Rattle.sat_init.specs.declared.setup.Setup.{Setup}
use Rattle.sat_init.specs.Init.{IsMade}
use Rattle.record_kinds.specs.declared.rec.Rec.TheVariants as records
use Rattle.record_rows.specs.Spelling.{row_of}
use Rattle.sat_init.specs.NewStore.{marks_at, new_rows, puts, settings_of, tariff_from}

abbrev three : Row → Row → Row → List ((ℕ × List ℕ) × List ℕ) → List ((ℕ × List ℕ) × List ℕ)
three first second third all =
    put key_cmp (key_of third) third.body (put key_cmp (key_of second) second.body (put key_cmp (key_of first) first.body all))

-- three rows that are put
put_three : (rows : Rows) (first second third : Row)
    → entries (changed (puts (first ∷ second ∷ third ∷ [])) rows) ≡ three first second third (entries rows)
put_three rows first second third =
    entries-insert keys_total (insert (insert rows (key_of first) first.body) (key_of second) second.body) (key_of third) third.body
    ∙ ap (put key_cmp (key_of third) third.body) (entries-insert keys_total (insert rows (key_of first) first.body) (key_of second) second.body
    ∙ ap (put key_cmp (key_of second) second.body) (entries-insert keys_total rows (key_of first) first.body))

-- a keeper without rows then has those of the new store alone
pub made_of : (setup : Setup) (secret : List ℕ) (now month : ℕ) (rows : Rows) → AreThe rows []
    → AreThe (changed (puts (new_rows setup secret now month)) rows) (new_rows setup secret now month)
made_of setup secret now month rows none =
    let first : Row = row_of (records.Settings (settings_of setup secret month)) in
    let second : Row = row_of (records.Marks (marks_at now month)) in
    let third : Row = row_of (records.Tariff (tariff_from setup month)) in
    ap (three first second third) none ∙ sym (put_three rows first second third)

-- what a crash leaves of the second of two calls, where the first left the rows
module _ (setup : Setup) (old mid new : KeeperView) where
  abbrev Leaves : KeeperView → KeeperView → Type 0
  Leaves before after = after.is_clean → (m : Rows) → after.leaves m → before.leaves m ⊎ (before.is_open × IsMade setup before.tells before.rows m)

  pub left_through : (new.is_clean → mid.is_clean) → (mid.is_clean → (m : Rows) → mid.leaves m → old.leaves m)
      → (mid.is_open → old.is_open) → (mid.is_open → old.tells → mid.tells) → (mid.is_open → old.tells → mid.rows ≡ old.rows)
      → Leaves mid new → Leaves old new
  left_through clean crash opened told kept left is_clean_new m at = elim (left is_clean_new m at) [
    | inl before ↦ inl (crash (clean is_clean_new) m before)
    | inr (o, (secret, now, month, is)) ↦ inr (opened o, (secret, now, month, λ t. is (told o t) ∙ ap (changed (puts (new_rows setup secret now month))) (kept o t)))
  ]
