-- What rows of version 1 hold, and why they hold nothing.
use Rattle.std.proofs.Common.{◌≡◌, ◌≢◌, ℕ, suc, ◌+◌, ◌<◌, inl, inr, List, [], ◌++◌, length, refl, sym, ap, subst, ◌∙◌, length-append, arith, lit≤}
use Rattle.std.specs.Prelude.{Option, Some, None, Result, Ok, Err, IfOk, IfErr, IfSome, MatchOption}
use Rattle.std.specs.Option.{ok_or}
use Rattle.std.proofs.lemmas.Bool.{cases_eq, cases_lt}
use Rattle.sat_base.specs.declared.kinds.TheConstants as kinds
use Rattle.sat_base.specs.declared.rows.Row.{Row}
use Rattle.sat_base.specs.declared.scheme.Scheme.{Scheme}
use Rattle.sat_base.specs.declared.settings.Caps.{Caps}
use Rattle.sat_base.specs.declared.settings.Settings.{Settings}
use Rattle.sat_base.specs.declared.month.Month.{Month}
use Rattle.sat_base.specs.declared.rates.Rates.{Rates}
use Rattle.sat_base.specs.declared.rates.Tariff.{Tariff}
use Rattle.sat_base.specs.Limits.{IsMonthWithin, AreCapsWithin, AreRatesWithin}
use Rattle.record_kinds.specs.declared.rec.Rec.{Rec}
use Rattle.record_kinds.specs.declared.rec.Rec.TheVariants as rec
use Rattle.record_rows.specs.declared.kind.RowErr.{RowErr}
use Rattle.record_rows.specs.declared.kind.RowErr.TheVariants as no
use Rattle.record_rows.specs.declared.kinds.settings.version1.Settings1.{Settings1}
use Rattle.record_rows.specs.declared.upgrading.Upgraded.{Upgraded}
use Rattle.record_rows.specs.declared.version.Version.{Version}
use Rattle.record_rows.specs.declared.version.Version.TheVariants as versions
use Rattle.record_rows.specs.Numbers.{be16, be32, be64, IsU8, IsU16, IsHash}
use Rattle.record_rows.specs.Settings.{settings_body}
use Rattle.record_kinds.specs.Kinds.{kind_of}
use Rattle.record_rows.specs.Spelling.{id_of, row_of}
use Rattle.record_rows.specs.Fits.{Fits, SettingsFit}
use Rattle.record_rows.specs.Reading.{HasId, HasNoBody, HasNoId, IsKind, IsNoKind, IsRowOf}
use Rattle.record_rows.specs.Laws.{AreApart}
use Rattle.record_rows.specs.Laws.Apart.{made_apart, pair_apart, be8_apart, be16_apart, hash_apart}
use Rattle.record_rows.specs.Laws.Ids.{month_apart}
use Rattle.record_rows.specs.Laws.Records.{caps_apart, rates_apart, scheme_apart, some_rates, some_settings}
use Rattle.record_rows.specs.Version1.{IsOldRow, IsRecordIn1, Implies1, IsKind1, first_tariff, old_row, old_settings_body}
use Rattle.record_rows.specs.Versions.{AreWithin, HoldsNone, Implies, IsRecordIn, IsCause, IsOldFirst, IsReplaced, UpgradesTo}

-- ---- settings with rates

abbrev pub old_fields : Settings → Rates → List ℕ × (Scheme × (ℕ × (ℕ × (Rates × (Caps × Month)))))
old_fields s rates = (s.secret, (s.scheme, (s.vet, (s.fresh, (rates, (s.caps, s.first_month))))))

pub old_fields_fit : (s : Settings) (rates : Rates) → SettingsFit s → AreRatesWithin rates
    → IsHash s.secret × (Unit {0} × (IsU16 s.vet × (IsU8 s.fresh × (AreRatesWithin rates × (AreCapsWithin s.caps × IsMonthWithin s.first_month.0)))))
old_fields_fit s rates fits within =
    (fits.secret, (tt, (omega (arith, fits.vetting.few), (omega (arith, fits.vetting.fresh), (within, (fits.caps, fits.first_month))))))

abbrev AreOldFit : Settings × Rates → Type 0
AreOldFit p = SettingsFit p.0 × AreRatesWithin p.1

old_apart : AreApart (λ (p : Settings × Rates). old_settings_body p.0 p.1) AreOldFit
old_apart = made_apart (λ (p : Settings × Rates). old_fields p.0 p.1) AreOldFit
    (pair_apart hash_apart (pair_apart scheme_apart (pair_apart be16_apart (pair_apart be8_apart (pair_apart rates_apart (pair_apart caps_apart month_apart))))))
    (λ p fits. old_fields_fit p.0 p.1 fits.0 fits.1) (λ x y same. grind arith)

-- a row is that of one pair of settings and rates
pub one_old : (row : Row) (s t : Settings) (r q : Rates) → IsOldRow row s r → IsOldRow row t q → (s ≡ t) × (r ≡ q)
one_old row s t r q x y =
    let same = (old_apart.one (s, r) (t, q) [] [] (x.settings_fit, x.rates_fit) (y.settings_fit, y.rates_fit)
    (ap (λ l. l ++ []) (sym (ap (λ (z : Row). z.body) x.is) ∙ ap (λ (z : Row). z.body) y.is))).0 in
    (ap (λ (p : Settings × Rates). p.0) same, ap (λ (p : Settings × Rates). p.1) same)

-- it is longer than that of settings of version 2
old_long : (s : Settings) (r : Rates) → length (old_settings_body s r) ≡ length s.secret + 69
unfolding be16 be32 be64
old_long s r = length-append s.secret _

new_long : (s : Settings) → length (settings_body s) ≡ suc (length s.secret + 37)
unfolding be16 be32 be64
new_long s = ap suc (length-append s.secret _)

pub old_is_other : (row : Row) (s : Settings) (r : Rates) → IsOldRow row s r → row ≡ row_of (rec.Settings s) → ⊥
old_is_other row s r old new =
    let same : length (old_settings_body s r) ≡ length (settings_body s) = ap (λ (z : Row). length z.body) (sym old.is ∙ new) in
    absurd (omega (arith, same, old_long s r, new_long s))

-- ---- the record of a row

-- its kind and its id are the row's
pub keyed1 : (row : Row) (r : Rec) → IsRecordIn1 row r → Fits r × (kind_of r ≡ row.kind) × (id_of r ≡ row.id)
keyed1 row (rec.Settings s) is = (is.1.settings_fit, sym (ap (λ (z : Row). z.kind) is.1.is), sym (ap (λ (z : Row). z.id) is.1.is))
keyed1 row (rec.Tariff t) is = absurd is
keyed1 row _ is = (is.0, sym (ap (λ (z : Row). z.kind) is.1), sym (ap (λ (z : Row). z.id) is.1))

-- records of other kinds than settings and tariffs are as they are now
pub as_now : (row : Row) (r : Rec) → (kind_of r ≡ kinds.SETTINGS → ⊥) → IsRecordIn1 row r → IsRowOf row r
as_now row (rec.Settings s) other is = absurd (other refl)
as_now row (rec.Tariff t) other is = absurd is
as_now row _ other is = is

pub as_then : (row : Row) (r : Rec) → (kind_of r ≡ kinds.SETTINGS → ⊥) → (kind_of r ≡ kinds.TARIFF → ⊥) → IsRowOf row r → IsRecordIn1 row r
as_then row (rec.Settings s) other no_tariff is = absurd (other refl)
as_then row (rec.Tariff t) other no_tariff is = absurd (no_tariff refl)
as_then row _ other no_tariff is = is

-- settings have their rates
pub old_of : (row : Row) (r : Rec) → IsRecordIn1 row r → row.kind ≡ kinds.SETTINGS → (s : Settings) × (rates : Rates) × (r ≡ rec.Settings s) × IsOldRow row s rates
old_of row (rec.Settings s) is kind = (s, is.0, refl, is.1)
old_of row (rec.Tariff t) is kind = absurd is
old_of row _ is kind =
    let has = ap (λ (z : Row). z.kind) is.1 in
    absurd (omega (arith, has, kind))

-- its kind is one of the 15
kind1 : (row : Row) (r : Rec) → IsRecordIn1 row r → IsKind1 row.kind
kind1 row (rec.Settings s) is = let has = ap (λ (z : Row). z.kind) is.1.is in (omega (arith, has), omega (arith, has))
kind1 row (rec.Tariff t) is = absurd is
kind1 row _ is = let has = ap (λ (z : Row). z.kind) is.1 in (omega (arith, has), omega (arith, has))

-- a row is that of one record
pub one_record1 : ((x y : Rec) → Fits x → Fits y → row_of x ≡ row_of y → x ≡ y) → (row : Row) (x y : Rec) → IsRecordIn1 row x → IsRecordIn1 row y → x ≡ y
one_record1 one row x y ix iy = elim (cases_eq row.kind kinds.SETTINGS) [
  | inl settings ↦
      let a = old_of row x ix settings in
      let b = old_of row y iy settings in
      a.2 ∙ ap rec.Settings (one_old row a.0 b.0 a.1 b.1 a.3 b.3).0 ∙ sym b.2
  | inr other ↦
      let a = as_now row x (λ (e : kind_of x ≡ kinds.SETTINGS). other (sym (keyed1 row x ix).1 ∙ e)) ix in
      let b = as_now row y (λ (e : kind_of y ≡ kinds.SETTINGS). other (sym (keyed1 row y iy).1 ∙ e)) iy in
      one x y a.0 b.0 (sym a.1 ∙ b.1)
]

-- ---- what a row implies

pub implied1 : (row : Row) (r : Rec) → Implies1 row r → (s : Settings) × (rates : Rates) × IsOldRow row s rates × (r ≡ rec.Tariff (first_tariff s rates))
implied1 row (rec.Tariff t) is = (is.0, is.1, is.2, ap rec.Tariff is.3)
implied1 row _ is = absurd is

pub one_implied1 : (row : Row) (x y : Rec) → Implies1 row x → Implies1 row y → x ≡ y
one_implied1 row x y ix iy =
    let a = implied1 row x ix in
    let b = implied1 row y iy in
    let same = one_old row a.0 b.0 a.1 b.1 a.2 b.2 in
    a.3 ∙ ap (λ (s : Settings). rec.Tariff (first_tariff s a.1)) same.0 ∙ ap (λ (r : Rates). rec.Tariff (first_tariff b.0 r)) same.1 ∙ sym b.3

pub implied_fits1 : (row : Row) (r : Rec) → Implies1 row r → Fits r
implied_fits1 row (rec.Tariff t) is = subst (λ (z : Tariff). Fits (rec.Tariff z)) (sym is.3) (record { from = is.2.settings_fit.first_month; rates = is.2.rates_fit })
implied_fits1 row _ is = absurd is

-- ---- what becomes of it

pub replaced_old : (row : Row) (s : Settings) (r : Rates) → IsOldRow row s r → IsReplaced versions.One row (record { rec = rec.Settings s; also = Some (rec.Tariff (first_tariff s r)) })
replaced_old row s r old = record { record_in = (r, old); also = (s, r, old, refl); other = λ is. old_is_other row s r old is.1 }

module _ (row : Row) (no_settings : row.kind ≡ kinds.SETTINGS → ⊥) (no_tariff : row.kind ≡ kinds.TARIFF → ⊥) where
  then_of : (other : Row) (r : Rec) → other.kind ≡ row.kind → IsRowOf other r → IsRecordIn1 other r
  then_of other r same is =
      let kind : kind_of r ≡ row.kind = sym (ap (λ (z : Row). z.kind) is.1) ∙ same in
      as_then other r (λ (e : kind_of r ≡ kinds.SETTINGS). no_settings (sym kind ∙ e)) (λ (e : kind_of r ≡ kinds.TARIFF). no_tariff (sym kind ∙ e)) is

  now_of : (other : Row) (r : Rec) → other.kind ≡ row.kind → IsRecordIn1 other r → IsRowOf other r
  now_of other r same is = as_now other r (λ (e : kind_of r ≡ kinds.SETTINGS). no_settings (sym same ∙ sym (keyed1 other r is).1 ∙ e)) is

  pub upgrades_then : (up : Option Upgraded) → UpgradesTo versions.Two row up → UpgradesTo versions.One row up
  upgrades_then None stays = record {
    rec = stays.rec;
    record_in = then_of row stays.rec refl stays.same;
    same = stays.same;
    no_more = λ also is. let old = implied1 row also is in no_settings (ap (λ (z : Row). z.kind) old.2.is);
  }
  upgrades_then (Some up) replaced = absurd (replaced.other replaced.record_in)

  pub cause_then : (why : RowErr) → IsCause versions.Two row why → IsCause versions.One row why
  cause_then no.Kind cause = elim cause [ inl low ↦ inl low | inr high ↦ inr (omega (arith, high)) ]
  cause_then no.Id cause =
      ((cause.0.0, kind_below cause.0), λ other r is same id. cause.1 other r (now_of other r same is) same id)
    where
      kind_below : IsKind row.kind → row.kind < kinds.TARIFF
      kind_below is = elim (cases_lt row.kind kinds.TARIFF) [ inl less ↦ less | inr more ↦ absurd (no_tariff (omega (arith, is.1, more))) ]
  cause_then no.Body cause = (
    record { other = cause.0.other; rec = cause.0.rec; record_in = then_of cause.0.other cause.0.rec cause.0.same_kind cause.0.record_in; same_kind = cause.0.same_kind; same_id = cause.0.same_id },
    λ other r is same body. cause.1 other r (now_of other r same is) same body,
  )
  cause_then no.NoMemory cause = tt

-- ---- why it holds no record

-- settings whose id or body none has
pub no_old_id : (row : Row) → row.kind ≡ kinds.SETTINGS → (row.id ≡ [] → ⊥) → IsCause versions.One row no.Id
no_old_id row kind other = (
  (omega (arith, kind), omega (arith, kind)),
  λ z r is same id.
      let old = old_of z r is (same ∙ kind) in
      other (sym id ∙ ap (λ (y : Row). y.id) old.3.is),
)

pub no_old_body : (row : Row) → row.kind ≡ kinds.SETTINGS → row.id ≡ [] → ((s : Settings) (r : Rates) → SettingsFit s → AreRatesWithin r → row.body ≢ old_settings_body s r) → IsCause versions.One row no.Body
no_old_body row kind id none = (
  record {
    other = old_row some_settings.0 some_rates.0;
    rec = rec.Settings some_settings.0;
    record_in = (some_rates.0, record { settings_fit = some_settings.1; rates_fit = some_rates.1; is = refl });
    same_kind = sym kind;
    same_id = sym id;
  },
  λ z r is same body.
      let old = old_of z r is (same ∙ kind) in
      none old.0 old.1 old.3.settings_fit old.3.rates_fit (sym body ∙ ap (λ (y : Row). y.body) old.3.is),
)

pub cause_now : (row : Row) (why : RowErr) → (why ≡ no.Kind → IsNoKind row.kind) → (why ≡ no.Id → IsKind row.kind × HasNoId row) → (why ≡ no.Body → HasId row × HasNoBody row) → IsCause versions.Two row why
cause_now row no.Kind kind id body = kind refl
cause_now row no.Id kind id body =
    let found = id refl in
    (found.0, λ other r is same same_id. found.1 r is.0 (sym (ap (λ (z : Row). z.kind) is.1) ∙ same) (sym (ap (λ (z : Row). z.id) is.1) ∙ same_id))
cause_now row no.Body kind id body =
    let found = body refl in
    let has = found.0 in (
      record { other = row_of has.0; rec = has.0; record_in = (has.1, refl); same_kind = has.2; same_id = has.3 },
      λ other r is same same_body. found.1 r is.0 (sym (ap (λ (z : Row). z.kind) is.1) ∙ same) (sym (ap (λ (z : Row). z.body) is.1) ∙ same_body),
    )
cause_now row no.NoMemory kind id body = tt

kind_now : (r : Rec) → IsKind (kind_of r)
kind_now (rec.Settings x) = (lit≤ tt, lit≤ tt)
kind_now _ = (lit≤ tt, lit≤ tt)

pub none_by_cause : (v : Version) (row : Row) (why : RowErr) → IsCause v row why → why ≢ no.NoMemory → HoldsNone v row
none_by_cause versions.One row no.Kind cause mem r is = elim cause [ inl low ↦ omega (arith, low, (kind1 row r is).0) | inr high ↦ omega (arith, high, (kind1 row r is).1) ]
none_by_cause versions.Two row no.Kind cause mem r is =
    let kind = subst (λ (k : ℕ). IsKind k) (sym (ap (λ (z : Row). z.kind) is.1)) (kind_now r) in
    elim cause [ inl low ↦ omega (arith, low, kind.0) | inr high ↦ omega (arith, high, kind.1) ]
none_by_cause v row no.Id cause mem r is = cause.1 row r is refl refl
none_by_cause v row no.Body cause mem r is = cause.1 row r is refl refl
none_by_cause v row no.NoMemory cause mem r is = mem refl

-- what is made of fields that were read, or none
pub made_or : (row : Row) (made : Option Settings1) → (made ≡ None → IsCause versions.One row no.Body) → IfErr (ok_or made no.Body) (IsCause versions.One row)
made_or row None cause = cause refl
made_or row (Some old) cause = tt

-- the first row says that a store is of version 1
pub is_old_first : (first : Option Row) (row : Row) (s : Settings) (r : Rates) → first ≡ Some row → IsOldRow row s r → IsOldFirst first
is_old_first first row s r is old = subst IsOldFirst (sym is) (s, r, old)

pub is_new_first : (first : Option Row) (row : Row) (why : RowErr) → first ≡ Some row → IsCause versions.One row why → why ≢ no.NoMemory → IsOldFirst first → ⊥
is_new_first first row why is cause mem old =
    let found = subst IsOldFirst is old in
    none_by_cause versions.One row why cause mem (rec.Settings found.0) (found.1, found.2)

-- what was found of a row, at other kinds
pub stays_then : (row : Row) → (row.kind ≡ kinds.SETTINGS → ⊥) → (row.kind ≡ kinds.TARIFF → ⊥) → (result : Result (Option Upgraded) RowErr) → IfOk result (UpgradesTo versions.Two row) → IfOk result (UpgradesTo versions.One row)
stays_then row a b (Ok up) found = upgrades_then row a b up found
stays_then row a b (Err why) found = tt

pub refused_then : (row : Row) → (row.kind ≡ kinds.SETTINGS → ⊥) → (row.kind ≡ kinds.TARIFF → ⊥) → (result : Result (Option Upgraded) RowErr) → IfErr result (IsCause versions.Two row) → IfErr result (IsCause versions.One row)
refused_then row a b (Ok up) cause = tt
refused_then row a b (Err why) cause = cause_then row a b why cause

implied_fits : (v : Version) (row : Row) (also : Option Rec) → MatchOption also ((r : Rec) → Implies v row r → ⊥) (Implies v row) → IfSome also Fits
implied_fits v row None is = tt
implied_fits versions.One row (Some r) is = implied_fits1 row r is
implied_fits versions.Two row (Some r) is = absurd is

own_fits : (v : Version) (row : Row) (r : Rec) → IsRecordIn v row r → Fits r
own_fits versions.One row r is = (keyed1 row r is).0
own_fits versions.Two row r is = is.0

pub upgraded_within : (v : Version) (row : Row) (result : Result (Option Upgraded) RowErr) → IfOk result (UpgradesTo v row) → IfOk result (λ up. IfSome up AreWithin)
upgraded_within v row (Err why) found = tt
upgraded_within v row (Ok None) found = tt
upgraded_within v row (Ok (Some up)) found = (own_fits v row up.rec found.record_in, implied_fits v row up.also found.also)

pub refused_none : (v : Version) (row : Row) (result : Result (Option Upgraded) RowErr) → IfErr result (IsCause v row) → IfErr result (λ why. why ≢ no.NoMemory → HoldsNone v row)
refused_none v row (Ok up) cause = tt
refused_none v row (Err why) cause = none_by_cause v row why cause
