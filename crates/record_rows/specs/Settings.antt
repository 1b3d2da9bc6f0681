-- What a store is set up with, as bytes: of version 2, and of version 1, which kept the rates beside the rest.
use Rattle.std.specs.Prelude.{ℕ, List}
use Rattle.sat_base.specs.declared.settings.Caps.{Caps}
use Rattle.sat_base.specs.declared.settings.Settings.{Settings}
use Rattle.sat_base.specs.declared.rates.Rates.{Rates}
use Rattle.record_rows.specs.Numbers.{be8, be16, be32, be64, ◌‖◌}

abbrev pub scheme_bytes : (k m o n share : ℕ) → List ℕ
scheme_bytes k m o n share = be8 k ‖ be8 m ‖ be8 o ‖ be8 n ‖ be16 share

abbrev pub caps_bytes : Caps → List ℕ
caps_bytes caps =
    be32 caps.nodes ‖ be32 caps.customers ‖ be32 caps.segments
    ‖ be32 caps.settled ‖ be32 caps.tallies ‖ be32 caps.statements

abbrev pub rates_bytes : Rates → List ℕ
rates_bytes rates = be64 rates.get ‖ be64 rates.audit ‖ be64 rates.repair ‖ be64 rates.storage

-- version 2: the version, the secret, the scheme, from how many audits on a node is vetted, the percent of fresh nodes,
-- the caps and the first month
abbrev pub settings_bytes : List ℕ → (k m o n share vet fresh : ℕ) → Caps → ℕ → List ℕ
settings_bytes secret k m o n share vet fresh caps first_month =
    be8 2 ‖ secret ‖ scheme_bytes k m o n share ‖ be16 vet ‖ be8 fresh ‖ caps_bytes caps ‖ be32 first_month

-- version 1: the same without the version, and the rates before the caps
abbrev pub old_settings_bytes : List ℕ → (k m o n share vet fresh : ℕ) → Rates → Caps → ℕ → List ℕ
old_settings_bytes secret k m o n share vet fresh rates caps first_month =
    secret ‖ scheme_bytes k m o n share ‖ be16 vet ‖ be8 fresh ‖ rates_bytes rates ‖ caps_bytes caps ‖ be32 first_month

abbrev pub settings_body : Settings → List ℕ
settings_body s =
    settings_bytes s.secret s.scheme.k s.scheme.m s.scheme.o s.scheme.n s.scheme.share s.vet s.fresh s.caps s.first_month.0
