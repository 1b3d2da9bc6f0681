-- A store that is made, or isn't.
use Rattle.std.proofs.Common.{◌≡◌, ℕ, List, [], ◌∷◌, map, refl, sym, ◌∙◌, inl, inr}
use Rattle.std.specs.Prelude.{◌⊎◌}
use Rattle.sat_base.specs.Outside.{About, Rose}
use Rattle.sat_base.specs.Rows.{AreThe, Rows, entry}
use Rattle.sat_base.specs.declared.rows.Row.{Row}
use Rattle.sat_init.specs.Init.{Told}
use Rattle.sat_init.specs.declared.setup.Setup.{Setup}
use Rattle.satellite_cli.specs.Making.{Inits}

no_rows : (list : List Row) → map entry list ≡ [] → list ≡ []
no_rows [] e = refl
no_rows (row ∷ list) e = absurd (cc)

-- over an empty store, where no count rose
pub inits_well : (setup : Setup) (told : Told) (status : ℕ) (old new : About) (store store_after words words_after : ℕ) (Tells : Type 0) (rows rows_after : Rows)
    → Inits setup told status old new store store_after words words_after Tells rows rows_after → Tells → AreThe rows []
    → (Rose store store_after → ⊥) → (Rose words words_after → ⊥) → (Rose old.write_faults new.write_faults → ⊥) → (status ≡ 0) ⊎ (status ≡ 9)
inits_well setup told status old new store store_after words words_after Tells rows rows_after (inl (inl well, made)) tells empty no_fault no_words no_cut = inl well
inits_well setup told status old new store store_after words words_after Tells rows rows_after (inl (inr cut, made)) tells empty no_fault no_words no_cut = absurd (no_cut cut.1)
inits_well setup told status old new store store_after words words_after Tells rows rows_after (inr (none, inl fault)) tells empty no_fault no_words no_cut = absurd (no_fault fault.1)
inits_well setup told status old new store store_after words words_after Tells rows rows_after (inr (none, inr (inl refused))) tells empty no_fault no_words no_cut =
    let some = refused.1 in absurd (some.1 (no_rows some.0 (some.2 tells ∙ sym empty)))
inits_well setup told status old new store store_after words words_after Tells rows rows_after (inr (none, inr (inr (inl wordless)))) tells empty no_fault no_words no_cut = absurd (no_words wordless.1)
inits_well setup told status old new store store_after words words_after Tells rows rows_after (inr (none, inr (inr (inr wanting)))) tells empty no_fault no_words no_cut = inr wanting
