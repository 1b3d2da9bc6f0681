-- What comes of reading a row of a kind.
use Rattle.std.proofs.Common.{◌≡◌, ◌≢◌, ℕ, List, ◌++◌, [], refl, sym, ◌∙◌, ap, subst, Err, inl, rules}
use Rattle.std.specs.Ordering.{nat_cmp}
use Rattle.std.specs.Cmp.Lexicographic.{slice_cmp}
use Rattle.sat_base.specs.declared.rows.Row.{Row}
use Rattle.sat_base.specs.declared.kinds.TheConstants as kinds
use Rattle.record_kinds.specs.declared.rec.Rec.{Rec}
use Rattle.record_kinds.specs.declared.rec.Rec.TheVariants as rec
use Rattle.record_rows.specs.declared.kind.RowErr.TheVariants as no
use Rattle.record_kinds.specs.Kinds.{kind_of}
use Rattle.record_rows.specs.Spelling.{id_of, body_of}
use Rattle.record_rows.specs.Fits.{Fits}
use Rattle.record_rows.specs.Reading.{HasId, HasNoBody, IsRead}
use Rattle.record_rows.specs.Ranks.{rank_of}
use Rattle.record_rows.specs.Laws.{AreApart, StandByRank, AreMade, IsToldApart}

-- one spelling is of one value
one_value : {A : Type 0} {spelling : A → List ℕ} {IsFit : A → Type 0} → AreApart spelling IsFit
    → (x y : A) → IsFit x → IsFit y → spelling x ≡ spelling y → x ≡ y
one_value apart x y fx fy same = (apart.one x y [] [] fx fy (ap (λ l. l ++ []) same)).0

module _ {I B : Type 0} {kind : ℕ} {made : I → B → Rec} {id : I → List ℕ} {IsId : I → Type 0} {rank : I → ℕ} {body : B → List ℕ} {IsBody : B → Type 0}
    (k : AreMade kind made id IsId rank body IsBody) where
  -- a record of the kind by its parts
  record Parts (rec : Rec) : Type 0 where
    i : I
    b : B
    fit_id : IsId i
    fit_body : IsBody b
    is : rec ≡ made i b
    id_is : id_of rec ≡ id i
    body_is : body_of rec ≡ body b
    rank_is : rank_of rec ≡ rank i

  parts_of : (rec : Rec) → kind_of rec ≡ kind → Fits rec → Parts rec
  parts_of rec of fits =
      let w = k.whole rec of in
      let fit = k.parted w.0 w.1 (subst Fits w.2 fits) in
      record {
        i = w.0;
        b = w.1;
        fit_id = fit.0;
        fit_body = fit.1;
        is = w.2;
        id_is = ap id_of w.2 ∙ ap (λ row. row.id) (k.row w.0 w.1);
        body_is = ap body_of w.2 ∙ ap (λ row. row.body) (k.row w.0 w.1);
        rank_is = ap rank_of w.2 ∙ k.ranked w.0 w.1;
      }

  -- what tells ids and bodies apart tells the records apart
  pub told_apart : AreApart id IsId → StandByRank id IsId rank → AreApart body IsBody → IsToldApart kind
  told_apart ids by bodies = record {
    one = λ x y kx ky fx fy same.
        let p = parts_of x kx fx in
        let q = parts_of y ky fy in
        let same_id = one_value ids p.i q.i p.fit_id q.fit_id (sym p.id_is ∙ ap (λ row. row.id) same ∙ q.id_is) in
        let same_body = one_value bodies p.b q.b p.fit_body q.fit_body (sym p.body_is ∙ ap (λ row. row.body) same ∙ q.body_is) in
        p.is ∙ ap (λ i. made i p.b) same_id ∙ ap (λ b. made q.i b) same_body ∙ sym q.is;
    ids = λ x y r s kx ky fx fy same.
        let p = parts_of x kx fx in
        let q = parts_of y ky fy in
        let both = ids.one p.i q.i r s p.fit_id q.fit_id (ap (λ l. l ++ r) (sym p.id_is) ∙ same ∙ ap (λ l. l ++ s) q.id_is) in
        (p.id_is ∙ ap id both.0 ∙ sym q.id_is, both.1);
    bodies = λ x y r s kx ky fx fy same.
        let p = parts_of x kx fx in
        let q = parts_of y ky fy in
        let both = bodies.one p.b q.b r s p.fit_body q.fit_body (ap (λ l. l ++ r) (sym p.body_is) ∙ same ∙ ap (λ l. l ++ s) q.body_is) in
        (p.body_is ∙ ap body both.0 ∙ sym q.body_is, both.1);
    order = λ x y kx ky fx fy.
        let p = parts_of x kx fx in
        let q = parts_of y ky fy in
        ap (λ l. slice_cmp nat_cmp l (id_of y)) p.id_is ∙ ap (λ l. slice_cmp nat_cmp (id p.i) l) q.id_is
        ∙ by.order p.i q.i p.fit_id q.fit_id
        ∙ sym (ap (λ n. nat_cmp n (rank_of y)) p.rank_is ∙ ap (λ n. nat_cmp (rank p.i) n) q.rank_is);
  }

module _ {I B : Type 0} {kind : ℕ} {made : I → B → Rec} {id : I → List ℕ} {IsId : I → Type 0} {rank : I → ℕ} {body : B → List ℕ} {IsBody : B → Type 0}
    (k : AreMade kind made id IsId rank body IsBody) (row : Row) (is : row.kind ≡ kind) where
  -- where the id is spelled, and something can be a body, some record has the id
  has_id : (i : I) → IsId i → row.id ≡ id i → ((b : B) × IsBody b) → HasId row
  has_id i fit same some =
      let spelled = k.row i some.0 in
      (made i some.0, k.joined i some.0 fit some.1, ap (λ r. r.kind) spelled ∙ sym is, ap (λ r. r.id) spelled ∙ sym same)

  has_no_body : ((b : B) → IsBody b → row.body ≢ body b) → HasNoBody row
  has_no_body none rec fits same_kind same =
      let parts = k.whole rec (same_kind ∙ is) in
      let fit = k.parted parts.0 parts.1 (subst Fits parts.2 fits) in
      none parts.1 fit.1 (sym same ∙ ap body_of parts.2 ∙ ap (λ r. r.body) (k.row parts.0 parts.1))

  pub read_no_body : (i : I) → IsId i → row.id ≡ id i → ((b : B) × IsBody b) → ((b : B) → IsBody b → row.body ≢ body b) → IsRead row (Err no.Body)
  read_no_body i fit same some none =
      let known = has_id i fit same some in
      let unknown = has_no_body none in
      record {
        found = search rules;
        only = λ rec fits is_row mem. absurd (unknown rec fits (sym (ap (λ r. r.kind) is_row)) (sym (ap (λ r. r.body) is_row)));
        kind = λ e. cc;
        no_id = λ e. absurd (cc);
        id_refused = λ none_has. absurd (none_has known.0 known.1 known.2 known.3);
        no_body = λ e. (known, unknown);
        body_refused = λ has has_none. inl refl;
      }

-- what holds at each kind holds at the kind of a record
pub by_kind : (P : ℕ → Type 0) → P kinds.SETTINGS → P kinds.MARKS → P kinds.NODE → P kinds.CUSTOMER → P kinds.SEGMENT → P kinds.SETTLED_ROW
    → P kinds.TALLY → P kinds.STATEMENT → P kinds.AUDIT_PLAN → P kinds.RECHECK_PLAN → P kinds.REPAIR_PLAN → P kinds.CONTAINMENT
    → P kinds.KEPT → P kinds.EXIT_PLAN → P kinds.LEFT → P kinds.TARIFF → (r : Rec) → P (kind_of r)
by_kind P a b c d e f g h i j k l m n o p (rec.Settings x) = a
by_kind P a b c d e f g h i j k l m n o p (rec.Marks x) = b
by_kind P a b c d e f g h i j k l m n o p (rec.Node x) = c
by_kind P a b c d e f g h i j k l m n o p (rec.Customer x) = d
by_kind P a b c d e f g h i j k l m n o p (rec.Segment x) = e
by_kind P a b c d e f g h i j k l m n o p (rec.SettledRow x) = f
by_kind P a b c d e f g h i j k l m n o p (rec.Tally x) = g
by_kind P a b c d e f g h i j k l m n o p (rec.Statement x) = h
by_kind P a b c d e f g h i j k l m n o p (rec.AuditPlan x) = i
by_kind P a b c d e f g h i j k l m n o p (rec.RecheckPlan x) = j
by_kind P a b c d e f g h i j k l m n o p (rec.RepairPlan x) = k
by_kind P a b c d e f g h i j k l m n o p (rec.Containment x) = l
by_kind P a b c d e f g h i j k l m n o p (rec.Kept x) = m
by_kind P a b c d e f g h i j k l m n o p (rec.ExitPlan x) = n
by_kind P a b c d e f g h i j k l m n o p (rec.Left x) = o
by_kind P a b c d e f g h i j k l m n o p (rec.Tariff x) = p
