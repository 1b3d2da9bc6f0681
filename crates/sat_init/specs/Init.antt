-- What comes of making a store, by what clock, words and keeper tell and by their counts.
use Rattle.std.specs.Prelude.{◌≡◌, ◌≢◌, ℕ, ◌-◌, List, [], ◌∷◌, length, min, Option, Some, None}
use Rattle.std.specs.List.{flat_map}
use Rattle.sat_base.specs.declared.limits.TheConstants as limits
use Rattle.sat_base.specs.declared.rows.Row.{Row}
use Rattle.sat_base.specs.Clock.{or_zero}
use Rattle.sat_base.specs.Month.{IsMonthOf}
use Rattle.sat_base.specs.Outside.{Rose, with_front}
use Rattle.sat_base.specs.Rows.{Rows, AreThe, changed}
use Rattle.order_limits.specs.Keys.{operator_key}
use Rattle.record_rows.specs.Numbers.{be64}
use Rattle.sat_init.specs.declared.setup.InitErr.{InitErr}
use Rattle.sat_init.specs.declared.setup.InitErr.TheVariants as errs
use Rattle.sat_init.specs.declared.setup.Setup.{Setup}
use Rattle.sat_init.specs.NewStore.{new_rows, puts}

-- a secret that was drawn: the next four words, each with its most significant byte first
pub record IsDrawn (words after : Option (List ℕ)) (secret : List ℕ) : Type 0 where
  pub drawn : List ℕ
  pub four : length drawn ≡ 4
  pub bytes : secret ≡ flat_map be64 drawn
  pub taken : words ≡ with_front drawn after

-- the secret is the given one, and no word was drawn; or none is given, and it was drawn
abbrev pub IsSecret : Option (List ℕ) → Option (List ℕ) → Option (List ℕ) → List ℕ → Type 0
IsSecret (Some given) words after secret = (secret ≡ given) × (after ≡ words)
IsSecret None words after secret = IsDrawn words after secret

-- what clock and words tell before and after
pub record Told : Type 0 where
  pub coming : Option (List ℕ)
  pub coming_after : Option (List ℕ)
  pub words : Option (List ℕ)
  pub words_after : Option (List ℕ)

-- a secret, the clock's next moment, and its month
pub record Begins (setup : Setup) (told : Told) (secret : List ℕ) (now month : ℕ) : Type 0 where
  pub is_secret : IsSecret setup.secret told.words told.words_after secret
  pub moment : ℕ
  pub timed : or_zero told.coming ≡ with_front (moment ∷ []) told.coming_after
  pub is_now : now ≡ min moment (limits.MOMENTS - 1)
  pub in_month : IsMonthOf now month

-- a store was made: where the keeper tells, its rows are those of the three records alone
pub record Makes (setup : Setup) (told : Told) (key : List ℕ) (Tells : Type 0) (rows : Rows) : Type 0 where
  pub secret : List ℕ
  pub now : ℕ
  pub month : ℕ
  pub begins : Begins setup told secret now month
  pub is_key : key ≡ operator_key secret
  pub kept : Tells → AreThe rows (new_rows setup secret now month)

-- why none was made
abbrev pub Cause : InitErr → (store store_after words words_after : ℕ) → (Tells : Type 0) → Rows → Type 0
Cause errs.StoreFault store store_after words words_after Tells rows = Rose store store_after
Cause errs.NotEmpty store store_after words words_after Tells rows = (list : List Row) × (list ≢ []) × (Tells → AreThe rows list)
Cause errs.WordsFault store store_after words words_after Tells rows = Rose words words_after
Cause errs.NoMemory store store_after words words_after Tells rows = Unit {0}

-- rows that a crash may leave behind, beside those that it might have left before: those of a store that is made
abbrev pub IsMade : Setup → (Tells : Type 0) → Rows → Rows → Type 0
IsMade setup Tells old rows =
    (secret : List ℕ) × (now : ℕ) × (month : ℕ) × (Tells → rows ≡ changed (puts (new_rows setup secret now month)) old)
