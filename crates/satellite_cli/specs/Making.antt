-- What `init` writes, and what it leaves in the keeper.
use Rattle.std.specs.Prelude.{◌≡◌, ◌⊎◌, ℕ, List, [], ◌∷◌, ◌++◌, codes, ◌==◌, if◌then◌else◌}
use Rattle.hex.specs.Hex.{encode_lower}
use Rattle.sat_base.specs.Outside.{About, Rose, with_end}
use Rattle.sat_base.specs.Rows.{Rows, AreThe}
use Rattle.sat_base.specs.declared.rows.Row.{Row}
use Rattle.command_line.specs.Command.{NewStore, numbers_of}
use Rattle.sat_console.specs.Run.{Says, fault_line}
use Rattle.sat_init.specs.Init.{Told, Makes}
use Rattle.sat_init.specs.declared.setup.Setup.{Setup}

-- the settings that the words ask for
pub record IsAsked (store : NewStore) (setup : Setup) : Type 0 where
  pub secret : setup.secret ≡ store.secret
  pub scheme : numbers_of setup.scheme ≡ store.scheme
  pub vet : setup.vet ≡ store.vet
  pub fresh : setup.fresh ≡ store.fresh
  pub rates : setup.rates ≡ store.rates
  pub caps : setup.caps ≡ store.caps

-- the line of the operator's key
abbrev pub key_text : List ℕ → List ℕ
key_text key = codes "operator " ++ encode_lower key ++ 10 ∷ []

-- the line at a status: that of a store that has rows, or of the fault
abbrev pub init_line : ℕ → List ℕ
init_line status = if status == 8 then codes "error: refused store-not-empty\n" else fault_line status

-- no store was made: nothing is changed in the keeper, and the line of the status is written
pub record NotMade (status : ℕ) (old new : About) (Tells : Type 0) (rows rows_after : Rows) : Type 0 where
  pub says : Says (init_line status) old new
  pub left : Tells → rows_after ≡ rows

-- a store was made, and its key is written; at status 5 a front of it
pub record IsNew (setup : Setup) (told : Told) (status : ℕ) (old new : About) (Tells : Type 0) (rows_after : Rows) : Type 0 where
  pub key : List ℕ
  pub makes : Makes setup told key Tells rows_after
  pub says : Says (key_text key) old new
  pub all : status ≡ 0 → new.written ≡ with_end old.written (key_text key)

-- `init`, by its status
abbrev pub Inits : Setup → Told → ℕ → (old new : About) → (store store_after words words_after : ℕ) → (Tells : Type 0) → (rows rows_after : Rows) → Type 0
Inits setup told status old new store store_after words words_after Tells rows rows_after =
    (((status ≡ 0) ⊎ ((status ≡ 5) × Rose old.write_faults new.write_faults)) × IsNew setup told status old new Tells rows_after)
    ⊎ (NotMade status old new Tells rows rows_after
    × (((status ≡ 3) × Rose store store_after)
    ⊎ (((status ≡ 8) × ((list : List Row) × ((list ≡ []) → ⊥) × (Tells → AreThe rows list)))
    ⊎ (((status ≡ 10) × Rose words words_after) ⊎ (status ≡ 9)))))
