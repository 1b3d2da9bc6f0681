-- The status of a term, from the ends of its workers.
use Rattle.std.proofs.Common.{◌≡◌, ℕ, suc, List, [], ◌∷◌, map, Bool, true, false, Option, Some, None, refl, sym, ap, ◌∙◌, subst, inl, inr, arith}
use Rattle.std.specs.Prelude.{◌⊎◌, ◌||◌, IfSome}
use Rattle.std.specs.List.{list_any}
use Rattle.std.proofs.lemmas.Bool.{or_cases}
use Rattle.sat_base.specs.Keeper.{KeeperView}
use Rattle.sat_base.specs.Outside.{About, Rose, counted, raised}
use Rattle.sat_book.specs.Book.{BookView}
use Rattle.sat_book.specs.Legal.{E}
use Rattle.sat_book.specs.Openings.{Opens}
use Rattle.sat_book.specs.declared.opening.OpenErr.TheVariants as errs
use Rattle.sat_book.specs.declared.opening.Opening.{Opening}
use Rattle.sat_sessions.specs.Lanes.{PostView}
use Rattle.sat_sessions.specs.declared.lanes.LaneEnd.{LaneEnd}
use Rattle.sat_term.specs.Workers.{Every, LaneRow}
use Rattle.sat_term.specs.Term.{LaneClauses, TermClauses, is_failed}
use Rattle.sat_term.specs.declared.term.Ends.{Ends}
use Rattle.sat_term.specs.declared.term.Term.{Term}
use Rattle.node_rounds.specs.Kits.{Tells}
use Rattle.node_rounds.specs.Tally.{TallyTells}
use Rattle.node_rounds.specs.declared.upkeep.Upkeep.TheVariants as kinds
use Rattle.satellite_cli.proofs.Wordless.{told_words}
use Rattle.satellite_cli.specs.Ending.{EndsWith, Finishes, Flags, SaysEntries, flags_of, term_status}
use Rattle.satellite_cli.specs.Serving.{AreSound, Causes, IsIdle, IsTerm, Kits, NoneRose, NotOpened, NoWordsRose, RoseBelow, Some1, DevicesView}
use Rattle.satellite_cli.specs.declared.ending.LastLine.{LastLine}
use Rattle.satellite_cli.specs.declared.ending.LastLine.TheVariants as last

-- a run over the console's input never ends as words outside the grammar do
pub not_usage : (code ended : ℕ) → ended ≡ code → (code ≡ 0) ⊎ ((code ≡ 5) ⊎ ((code ≡ 8) ⊎ ((code ≡ 9) ⊎ ((code ≡ 11) ⊎ (code ≡ 12))))) → ended ≡ 2 → ⊥
not_usage code ended is (inl e) two = omega arith
not_usage code ended is (inr (inl e)) two = omega arith
not_usage code ended is (inr (inr (inl e))) two = omega arith
not_usage code ended is (inr (inr (inr (inl e)))) two = omega arith
not_usage code ended is (inr (inr (inr (inr (inl e))))) two = omega arith
not_usage code ended is (inr (inr (inr (inr (inr e))))) two = omega arith

module _ (secret : List ℕ) (term : ℕ) (h : List E) where
  same_count : (end : LaneEnd) (old new : ℕ) → new ≡ counted (is_failed end) old → is_failed end ≡ true → Rose old new
  same_count end old new is failed = let e : new ≡ raised old = is ∙ ap (λ (b : Bool). counted b old) failed in omega (arith, e)

  rose_count : (b : Bool) (old new : ℕ) → new ≡ counted b old → RoseBelow old new → b ≡ true
  rose_count true old new is rose = refl
  rose_count false old new is rose = let a = rose.0 in let b = rose.1 in absurd (omega (arith, is))

  failed_rose : (rows : List LaneRow) → Every (LaneClauses secret term h) rows → list_any is_failed (map (λ (r : LaneRow). r.end) rows) ≡ true
      → Some1 (λ (row : LaneRow). Rose row.before.lane.faults row.after.lane.faults) rows
  failed_rose [] e h1 = absurd (cc)
  failed_rose (r ∷ rows) e h1 = go (is_failed r.end) refl (failed_rose rows e.1)
    where
      go : (b : Bool) → is_failed r.end ≡ b → (list_any is_failed (map (λ (x : LaneRow). x.end) rows) ≡ true → Some1 (λ (row : LaneRow). Rose row.before.lane.faults row.after.lane.faults) rows)
          → Some1 (λ (row : LaneRow). Rose row.before.lane.faults row.after.lane.faults) (r ∷ rows)
      go true q rest = inl (same_count r.end r.before.lane.faults r.after.lane.faults e.0.failed q)
      go false q rest = inr (rest (ap (λ (b : Bool). b || list_any is_failed (map (λ (x : LaneRow). x.end) rows)) (sym q) ∙ h1))

  rose_failed : (rows : List LaneRow) → Every (LaneClauses secret term h) rows → Some1 (λ (row : LaneRow). RoseBelow row.before.lane.faults row.after.lane.faults) rows
      → list_any is_failed (map (λ (r : LaneRow). r.end) rows) ≡ true
  rose_failed [] e some = absurd some
  rose_failed (r ∷ rows) e (inl rose) = ap (λ (b : Bool). b || list_any is_failed (map (λ (x : LaneRow). x.end) rows)) (rose_count (is_failed r.end) r.before.lane.faults r.after.lane.faults e.0.failed rose)
  rose_failed (r ∷ rows) e (inr some) = later (is_failed r.end) (rose_failed rows e.1 some)
    where
      later : (b : Bool) {c : Bool} → c ≡ true → (b || c) ≡ true
      later true q = refl
      later false q = q

-- a lane of which the count rose stands in the lists of the posts
pub none_rose : (rows : List LaneRow) → NoneRose (map (λ (r : LaneRow). r.before) rows) (map (λ (r : LaneRow). r.after) rows)
    → Some1 (λ (row : LaneRow). Rose row.before.lane.faults row.after.lane.faults) rows → ⊥
none_rose [] none some = some
none_rose (r ∷ rows) none (inl rose) = none 0 r.before r.after refl refl rose
none_rose (r ∷ rows) none (inr some) = none_rose rows (λ i p q. none (suc i) p q) some

-- ---- the status by its parts

-- the status of four flags and the last line
abbrev by_flags : Bool → Bool → Bool → Bool → LastLine → ℕ
by_flags full failed wordless wanting line = term_status (record { full = full; failed = failed; wordless = wordless; wanting = wanting }) line

six_only : (full failed wordless wanting : Bool) (line : LastLine) → by_flags full failed wordless wanting line ≡ 6 → full ≡ true
six_only true failed wordless wanting line h = refl
six_only false true wordless wanting line h = absurd (cc)
six_only false false true wanting line h = absurd (cc)
six_only false false false true line h = absurd (cc)
six_only false false false false last.Whole h = absurd (cc)
six_only false false false false last.Cut h = absurd (cc)
six_only false false false false last.NoMemory h = absurd (cc)

seven_only : (full failed wordless wanting : Bool) (line : LastLine) → by_flags full failed wordless wanting line ≡ 7 → failed ≡ true
seven_only true failed wordless wanting line h = absurd (cc)
seven_only false true wordless wanting line h = refl
seven_only false false true wanting line h = absurd (cc)
seven_only false false false true line h = absurd (cc)
seven_only false false false false last.Whole h = absurd (cc)
seven_only false false false false last.Cut h = absurd (cc)
seven_only false false false false last.NoMemory h = absurd (cc)

ten_only : (full failed wordless wanting : Bool) (line : LastLine) → by_flags full failed wordless wanting line ≡ 10 → wordless ≡ true
ten_only true failed wordless wanting line h = absurd (cc)
ten_only false true wordless wanting line h = absurd (cc)
ten_only false false true wanting line h = refl
ten_only false false false true line h = absurd (cc)
ten_only false false false false last.Whole h = absurd (cc)
ten_only false false false false last.Cut h = absurd (cc)
ten_only false false false false last.NoMemory h = absurd (cc)

five_only : (full failed wordless wanting : Bool) (line : LastLine) → by_flags full failed wordless wanting line ≡ 5 → line ≡ last.Cut
five_only true failed wordless wanting line h = absurd (cc)
five_only false true wordless wanting line h = absurd (cc)
five_only false false true wanting line h = absurd (cc)
five_only false false false true line h = absurd (cc)
five_only false false false false last.Whole h = absurd (cc)
five_only false false false false last.Cut h = refl
five_only false false false false last.NoMemory h = absurd (cc)

six_is : (full failed wordless wanting : Bool) (line : LastLine) → full ≡ true → by_flags full failed wordless wanting line ≡ 6
six_is true failed wordless wanting line h = refl
six_is false failed wordless wanting line h = absurd (cc)

seven_is : (full failed wordless wanting : Bool) (line : LastLine) → failed ≡ true → (by_flags full failed wordless wanting line ≡ 6 → ⊥) → by_flags full failed wordless wanting line ≡ 7
seven_is true failed wordless wanting line h other = absurd (other refl)
seven_is false true wordless wanting line h other = refl
seven_is false false wordless wanting line h other = absurd (cc)

ten_is : (full failed wordless wanting : Bool) (line : LastLine) → wordless ≡ true → (by_flags full failed wordless wanting line ≡ 6 → ⊥) → (by_flags full failed wordless wanting line ≡ 7 → ⊥)
    → by_flags full failed wordless wanting line ≡ 10
ten_is true failed wordless wanting line h other another = absurd (other refl)
ten_is false true wordless wanting line h other another = absurd (another refl)
ten_is false false true wanting line h other another = refl
ten_is false false false wanting line h other another = absurd (cc)

abbrev IsOne : ℕ → Type 0
IsOne status = (status ≡ 0) ⊎ ((status ≡ 5) ⊎ ((status ≡ 6) ⊎ ((status ≡ 7) ⊎ ((status ≡ 9) ⊎ (status ≡ 10)))))

one_of : (full failed wordless wanting : Bool) (line : LastLine) → IsOne (by_flags full failed wordless wanting line)
one_of true failed wordless wanting line = inr (inr (inl refl))
one_of false true wordless wanting line = inr (inr (inr (inl refl)))
one_of false false true wanting line = inr (inr (inr (inr (inr refl))))
one_of false false false true line = inr (inr (inr (inr (inl refl))))
one_of false false false false last.Whole = inl refl
one_of false false false false last.Cut = inr (inl refl)
one_of false false false false last.NoMemory = inr (inr (inr (inr (inl refl))))

-- the last line was cut off: the console's count of writes rose
cut_rose : (n status : ℕ) (line : LastLine) (old mid new : About) → SaysEntries n line old mid → EndsWith status mid new → line ≡ last.Cut → status ≡ 5 → Rose old.write_faults new.write_faults
cut_rose n status line old mid new said fault cut five =
    let same : new ≡ mid = (subst (λ (s : ℕ). EndsWith s mid new) five fault).0 refl in
    let says : SaysEntries n last.Cut old mid = subst (λ (l : LastLine). SaysEntries n l old mid) cut said in
    subst (λ (a : About). Rose old.write_faults a.write_faults) (sym same) says.1

true_or : (a b : Bool) → (a ≡ true) ⊎ (b ≡ true) → (a || b) ≡ true
true_or true b h = refl
true_or false b (inl h) = absurd (cc)
true_or false b (inr h) = h

module _ (secret : List ℕ) (term : ℕ) (opening : Opening) (t : Term) (ends : Ends) (posts posts_after : List PostView) (kits kits_after : Kits) where
  pub causes_of : (entries status : ℕ) (old new : About)
      (c : TermClauses (Tells kinds.Recheck kinds.Audit (Some opening)) (Tells kinds.Repair kinds.Exit (Some opening)) (TallyTells (Some opening)) secret term opening t ends posts posts_after kits kits_after)
      → Finishes (flags_of t ends) entries status old new → Causes t c.rows kits kits_after status old new
  causes_of entries status old new c f =
      let flags : Flags = flags_of t ends in
      let is : status ≡ by_flags flags.full flags.failed flags.wordless flags.wanting f.line = f.status_is in
      let by_rows : list_any is_failed (map (λ (r : LaneRow). r.end) c.rows) ≡ flags.failed = ap (list_any is_failed) c.are_rows.ends_are in
      let audit = told_words kinds.Recheck kinds.Audit opening t.history.items kits.audit t.audits.items _ kits_after.audit c.audit.told in
      let repair = told_words kinds.Repair kinds.Exit opening t.history.items kits.repair t.repairs.items _ kits_after.repair c.repair.told in
      record {
        full = λ h. six_only flags.full flags.failed flags.wordless flags.wanting f.line (sym is ∙ h);
        is_full = λ h. is ∙ six_is flags.full flags.failed flags.wordless flags.wanting f.line h;
        failed = λ h. failed_rose secret term t.history.items c.rows c.lanes (by_rows ∙ seven_only flags.full flags.failed flags.wordless flags.wanting f.line (sym is ∙ h));
        is_failed = λ other some. is ∙ seven_is flags.full flags.failed flags.wordless flags.wanting f.line (sym by_rows ∙ rose_failed secret term t.history.items c.rows c.lanes some) (λ h. other (is ∙ h));
        wordless = λ h. elim (or_cases _ _ (ten_only flags.full flags.failed flags.wordless flags.wanting f.line (sym is ∙ h))) [
          | inl some ↦ inl (audit.rose some)
          | inr some ↦ inr (repair.rose some)
        ];
        is_wordless = λ other another some. is ∙ ten_is flags.full flags.failed flags.wordless flags.wanting f.line (true_or _ _ (elim some [
          | inl rose ↦ inl (audit.only rose)
          | inr rose ↦ inr (repair.only rose)
        ])) (λ h. other (is ∙ h)) (λ h. another (is ∙ h));
        cut = λ h. cut_rose entries status f.line old f.mid new f.said f.fault (five_only flags.full flags.failed flags.wordless flags.wanting f.line (sym is ∙ h)) h;
        which = subst IsOne (sym is) (one_of flags.full flags.failed flags.wordless flags.wanting f.line);
      }

-- ---- a run that ends well

pub ends_well : (t : Term) (rows : List LaneRow) (status : ℕ) (old new : About) (posts posts_after : List PostView) (kits kits_after : Kits) → Causes t rows kits kits_after status old new
    → map (λ (r : LaneRow). r.before) rows ≡ posts → map (λ (r : LaneRow). r.after) rows ≡ posts_after → NoneRose posts posts_after
    → (Rose old.write_faults new.write_faults → ⊥) → NoWordsRose kits kits_after → (status ≡ 6 → ⊥) → (status ≡ 0) ⊎ (status ≡ 9)
ends_well t rows status old new posts posts_after kits kits_after c before after none no_cut no_words no_full = elim c.which [
  | inl well ↦ inl well
  | inr (inl cut) ↦ absurd (no_cut (c.cut cut))
  | inr (inr (inl full)) ↦ absurd (no_full full)
  | inr (inr (inr (inl failed))) ↦ absurd (none_rose rows (subst (λ (z : List PostView × List PostView). NoneRose z.0 z.1) (λ i. (sym before i, sym after i)) none) (c.failed failed))
  | inr (inr (inr (inr (inl wanting)))) ↦ inr wanting
  | inr (inr (inr (inr (inr wordless)))) ↦ absurd (elim (c.wordless wordless) [ inl rose ↦ no_words.0 rose | inr rose ↦ no_words.1 rose ])
]

module _ {K : Type 0} (about : K → KeeperView) where
  -- a sound store isn't opened only for lack of memory
  pub closed_well : (old new : K) (status : ℕ) (said said_after : About) → NotOpened about old new status said said_after
      → (about new).is_open → (about old).tells → AreSound (about old).rows → (Rose (about old).faults (about new).faults → ⊥) → status ≡ 9
  closed_well old new status said said_after (inl (errs.Fault, refused, inl says)) up told sound no_fault = absurd (no_fault refused.cause)
  closed_well old new status said said_after (inl (errs.BadRow kind id, refused, inl says)) up told sound no_fault =
      let cause = refused.cause in absurd (sound.no_bad_row cause.0 kind id (cause.1 up told) cause.2)
  closed_well old new status said said_after (inl (errs.BadTables rule kind id, refused, inl says)) up told sound no_fault =
      let cause = refused.cause in absurd (sound.no_broken_rule cause.0 rule kind id (cause.1 up told) cause.2)
  closed_well old new status said said_after (inl (errs.NoMemory, refused, inl says)) up told sound no_fault = says.0
  closed_well old new status said said_after (inl (why, refused, inr wanting)) up told sound no_fault = wanting.0
  closed_well old new status said said_after (inr none) up told sound no_fault = none.1

  -- over sound rows, where no count rose and the term wasn't full
  pub serves_well : (told : Option Term) (secret : BookView K → List ℕ) (term lanes : ℕ) (old new : K) (status : ℕ) (said said_after : About) (devices devices_after : DevicesView) (Back : Type 0)
      → (told ≡ None → NotOpened about old new status said said_after × Back)
      → IfSome told (λ t. (b : BookView K) × Opens about old term b
      × (IsTerm about (secret b) term b new t status said said_after devices devices_after
      ⊎ (IsIdle about lanes b new t status said said_after × Back)))
      → (about new).is_open → (about old).tells → AreSound (about old).rows → (Rose (about old).faults (about new).faults → ⊥) → (Rose said.write_faults said_after.write_faults → ⊥)
      → NoneRose devices.posts devices_after.posts → NoWordsRose devices.kits devices_after.kits → (status ≡ 6 → ⊥) → (status ≡ 0) ⊎ (status ≡ 9)
  serves_well None secret term lanes old new status said said_after devices devices_after Back closed ran up told sound no_fault no_cut none no_words no_full =
      inr (closed_well old new status said said_after (closed refl).0 up told sound no_fault)
  serves_well (Some t) secret term lanes old new status said said_after devices devices_after Back closed (b, opens, inl ran) up told sound no_fault no_cut none no_words no_full =
      ends_well t ran.clauses.rows status said said_after devices.posts devices_after.posts devices.kits devices_after.kits ran.causes ran.clauses.are_rows.befores_are ran.clauses.are_rows.afters_are none no_cut no_words no_full
  serves_well (Some t) secret term lanes old new status said said_after devices devices_after Back closed (b, opens, inr (idle, back)) up told sound no_fault no_cut none no_words no_full = inr idle.is_out_of_memory
