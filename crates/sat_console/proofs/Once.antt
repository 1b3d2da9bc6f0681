-- Nothing settles twice: the answers to lines, beside the rows that the lines before them left.
use Rattle.std.proofs.Common.{◌≡◌, ℕ, zero, suc, ◌<◌, ◌≤◌, List, [], ◌∷◌, Option, Some, None, Result, Ok, Err, Bool, true, false, cond, eqb, refl, sym, ap, subst, ◌∙◌, arith}
use Rattle.std.proofs.lemmas.Bool.{eq-eqb, ne_eqb}
use Rattle.std.specs.Prelude.{slice_get, option_map}
use Rattle.std.proofs.lemmas.Option.{same_Some}
use Rattle.sat_base.specs.declared.ids.NodeId.{NodeId}
use Rattle.order_limits.specs.Read.{order_of}
use Rattle.order_limits.specs.declared.limit.Order.{Order}
use Rattle.order_limits.specs.declared.read.OrderErr.{OrderErr}
use Rattle.settlement.specs.Place.{place}
use Rattle.settlement.specs.Rows.{key, row_of, added}
use Rattle.settlement.specs.declared.row.SettledRow.{SettledRow}
use Rattle.settlement.specs.declared.answer.Settlable.{Settlable}
use Rattle.settlement.specs.declared.answer.Settlable.TheVariants as may
use Rattle.settlement.specs.declared.answer.Settling.TheVariants as did
use Rattle.settlement.specs.declared.answer.SettleErr.{SettleErr}
use Rattle.settlement.specs.declared.answer.SettleErr.TheVariants as no
use Rattle.settlement.specs.Settle.{beside, order_settlable, on_order, settlable, settled_as, rows_after}
use Rattle.settlement.proofs.New.{named, order_new}
use Rattle.settlement.proofs.Once.{row_added, row_kept}
use Rattle.sat_console.specs.Form.{Asked, asked_of}
use Rattle.sat_console.specs.Answers.{Answer, settlable_of, rows_behind, line_settlable, answers_from}
use Rattle.sat_console.specs.Once.{Presents, PresentsAt, SamePair, SettlesOnce}

-- ---- one step

-- rows that are there stay
order_keeps : (rows : List SettledRow) (cap : ℕ) (node : NodeId) (now : ℕ) (o : Order) (s : Result Settlable SettleErr) → order_settlable rows cap node now o ≡ s
    → (k : ℕ) (r : SettledRow) → row_of rows k ≡ Some r → row_of (rows_after s rows) k ≡ Some r
order_keeps rows cap node now o (Ok (may.New row)) e k r there = row_kept row rows (order_new rows cap node now o row e).absent k r there
order_keeps rows cap node now o (Ok (may.Again a)) e k r there = there
order_keeps rows cap node now o (Err d) e k r there = there

read_keeps : (rows : List SettledRow) (cap : ℕ) (node : NodeId) (now : ℕ) (x : Result Order OrderErr) (k : ℕ) (r : SettledRow) → row_of rows k ≡ Some r
    → row_of (rows_after (on_order x (order_settlable rows cap node now)) rows) k ≡ Some r
read_keeps rows cap node now (Ok o) k r there = order_keeps rows cap node now o (order_settlable rows cap node now o) refl k r there
read_keeps rows cap node now (Err d) k r there = there

line_keeps : (secret : List ℕ) (cap : ℕ) (rows : List SettledRow) (x : Option Asked) (k : ℕ) (r : SettledRow) → row_of rows k ≡ Some r
    → row_of (rows_behind rows (settlable_of secret cap rows x)) k ≡ Some r
unfolding settlable
line_keeps secret cap rows None k r there = there
line_keeps secret cap rows (Some a) k r there = read_keeps rows cap a.node a.moment (order_of secret a.order) k r there

keeps : (secret : List ℕ) (cap : ℕ) (rows : List SettledRow) (line : List ℕ) (k : ℕ) (r : SettledRow) → row_of rows k ≡ Some r
    → row_of (rows_behind rows (line_settlable secret cap rows line)) k ≡ Some r
unfolding line_settlable
keeps secret cap rows line k r there = line_keeps secret cap rows (asked_of line) k r there

-- a line that presents an order is answered by it
presented : (secret : List ℕ) (cap : ℕ) (rows : List SettledRow) (line : List ℕ) (o : Order) (p : Presents secret line o)
    → line_settlable secret cap rows line ≡ Some (order_settlable rows cap p.asked.node p.asked.moment o)
unfolding line_settlable settlable
presented secret cap rows line o p = rw (p.form, p.reads) refl

-- ---- a repeat

-- what an order is answered beside a row of its serial and node
abbrev repeated : ℕ → ℕ → Result Settlable SettleErr
repeated kept amount = cond (eqb kept amount) (Ok (may.Again amount)) (Err (no.Differs kept))

beside_row : (rows : List SettledRow) (cap : ℕ) (node : NodeId) (now : ℕ) (o : Order) (r : SettledRow) → o.limit.node.0 ≡ node.0
    → row_of rows (place o.limit.serial o.limit.node) ≡ Some r → order_settlable rows cap node now o ≡ repeated r.amount o.amount
unfolding order_settlable beside
beside_row rows cap node now o r own there = rw (eq-eqb o.limit.node.0 node.0 own, there) refl

abbrev answer_at : List ℕ → ℕ → List SettledRow → List (List ℕ) → ℕ → Option Answer
answer_at secret cap rows lines j = slice_get (answers_from secret cap rows lines) j

abbrev settled_answer : Result Settlable SettleErr → Option Answer
settled_answer s = Some (Some (settled_as s))

-- wherever an order comes beside a row of its serial and node
later : (secret : List ℕ) (cap : ℕ) (rows : List SettledRow) (lines : List (List ℕ)) (j : ℕ) (p : Order) (r : SettledRow)
    → row_of rows (place p.limit.serial p.limit.node) ≡ Some r → PresentsAt secret lines j p
    → answer_at secret cap rows lines j ≡ settled_answer (repeated r.amount p.amount)
later secret cap rows [] j p r there at = absurd (let e = at.1 in cc)
later secret cap rows (line ∷ lines) zero p r there at =
    let is : line ≡ at.0 = same_Some _ _ at.1 in
    rw (is, presented secret cap rows at.0 p at.2, beside_row rows cap at.2.asked.node at.2.asked.moment p r at.2.own there) refl
later secret cap rows (line ∷ lines) (suc j) p r there at =
    later secret cap (rows_behind rows (line_settlable secret cap rows line)) lines j p r (keeps secret cap rows line _ r there) at

-- ---- the first time

new_of : (s : Result Settlable SettleErr) (a : ℕ) → settled_answer s ≡ Some (Some (Ok (did.Settled a))) → (row : SettledRow) × (s ≡ named row) × (row.amount ≡ a)
new_of (Ok (may.New row)) a e = (row, refl, cc)
new_of (Ok (may.Again b)) a e = absurd cc
new_of (Err d) a e = absurd cc

abbrev behind : List ℕ → ℕ → List SettledRow → List ℕ → List SettledRow
behind secret cap rows line = rows_behind rows (line_settlable secret cap rows line)

abbrev rows_of : List SettledRow → Option (Result Settlable SettleErr) → List SettledRow
rows_of rows s = rows_behind rows s

-- a line that settles an order leaves its row
settles : (secret : List ℕ) (cap : ℕ) (rows : List SettledRow) (line : List ℕ) (o : Order) (a : ℕ) → Presents secret line o
    → Some (option_map settled_as (line_settlable secret cap rows line)) ≡ Some (Some (Ok (did.Settled a)))
    → (r : SettledRow) × (row_of (behind secret cap rows line) (place o.limit.serial o.limit.node) ≡ Some r) × (r.amount ≡ a) × (o.amount ≡ a) × (a ≤ o.limit.limit)
settles secret cap rows line o a p e =
    let is = presented secret cap rows line o p in
    let n = new_of (order_settlable rows cap p.asked.node p.asked.moment o) a (rw is at e) in
    let row = n.0 in
    let made = order_new rows cap p.asked.node p.asked.moment o row n.1 in
    let left : behind secret cap rows line ≡ added row rows = ap (rows_of rows) (is ∙ ap Some n.1) in
    let place_is : place o.limit.serial o.limit.node ≡ key row = sym (ap key made.is) in
    let amount : o.amount ≡ a = sym (ap (λ (r : SettledRow). r.amount) made.is) ∙ n.2 in
    (row, rw (left, place_is) (row_added row rows made.absent), n.2, amount, let w = made.within in omega arith)

same_place : (o p : Order) → SamePair o p → place o.limit.serial o.limit.node ≡ place p.limit.serial p.limit.node
unfolding place
same_place o p same = rw (same.0, same.1) refl

-- the answer to a later order of the same serial and node
repeat_answer : (secret : List ℕ) (cap : ℕ) (rows : List SettledRow) (lines : List (List ℕ)) (i j a : ℕ) (o p : Order) → i < j
    → PresentsAt secret lines i o → PresentsAt secret lines j p → SamePair o p → answer_at secret cap rows lines i ≡ Some (Some (Ok (did.Settled a)))
    → (answer_at secret cap rows lines j ≡ settled_answer (repeated a p.amount)) × (o.amount ≡ a)
repeat_answer secret cap rows [] i j a o p lt at next same settled = absurd (let e = at.1 in cc)
repeat_answer secret cap rows (line ∷ lines) i zero a o p lt at next same settled = absurd (omega arith)
repeat_answer secret cap rows (line ∷ lines) zero (suc j) a o p lt at next same settled =
    let here : Presents secret line o = subst (λ (l : List ℕ). Presents secret l o) (sym (same_Some _ _ at.1)) at.2 in
    let first = settles secret cap rows line o a here settled in
    let there : row_of (behind secret cap rows line) (place p.limit.serial p.limit.node) ≡ Some first.0 = rw (← same_place o p same) first.1 in
    (later secret cap (behind secret cap rows line) lines j p first.0 there next ∙ ap (λ n. settled_answer (repeated n p.amount)) first.2, first.3)
repeat_answer secret cap rows (line ∷ lines) (suc i) (suc j) a o p lt at next same settled =
    repeat_answer secret cap (behind secret cap rows line) lines i j a o p (omega arith) at next same settled

not_settled : (x : Bool) (a b n : ℕ) → settled_answer (cond x (Ok (may.Again b)) (Err (no.Differs a))) ≡ Some (Some (Ok (did.Settled n))) → ⊥
not_settled true a b n e = cc
not_settled false a b n e = cc

-- ---- within its limit

some_asked : (secret : List ℕ) (cap : ℕ) (rows : List SettledRow) (x : Option Asked) (a : ℕ) → option_map settled_as (settlable_of secret cap rows x) ≡ Some (Ok (did.Settled a)) → (q : Asked) × (x ≡ Some q)
some_asked secret cap rows None a e = absurd cc
some_asked secret cap rows (Some q) a e = (q, refl)

some_order : (rows : List SettledRow) (cap : ℕ) (node : NodeId) (now : ℕ) (x : Result Order OrderErr) (a : ℕ) → settled_answer (on_order x (order_settlable rows cap node now)) ≡ Some (Some (Ok (did.Settled a)))
    → (o : Order) × (x ≡ Ok o) × (o.limit.node.0 ≡ node.0)
some_order rows cap node now (Ok o) a e =
    let n = new_of (order_settlable rows cap node now o) a e in
    (o, refl, (order_new rows cap node now o n.0 n.1).own)
some_order rows cap node now (Err d) a e = absurd cc

presents : (secret : List ℕ) (cap : ℕ) (rows : List SettledRow) (line : List ℕ) (a : ℕ) → option_map settled_as (line_settlable secret cap rows line) ≡ Some (Ok (did.Settled a)) → (o : Order) × Presents secret line o
unfolding line_settlable settlable
presents secret cap rows line a e =
    let q = some_asked secret cap rows (asked_of line) a e in
    let o = some_order rows cap q.0.node q.0.moment (order_of secret q.0.order) a (ap Some (rw q.1 at e)) in
    (o.0, record { asked = q.0; form = q.1; reads = o.1; own = o.2 })

within_at : (secret : List ℕ) (cap : ℕ) (rows : List SettledRow) (lines : List (List ℕ)) (i a : ℕ) → answer_at secret cap rows lines i ≡ Some (Some (Ok (did.Settled a)))
    → (o : Order) × PresentsAt secret lines i o × (o.amount ≡ a) × (a ≤ o.limit.limit)
within_at secret cap rows [] i a e = absurd cc
within_at secret cap rows (line ∷ lines) zero a e =
    let p = presents secret cap rows line a (same_Some _ _ e) in
    let s = settles secret cap rows line p.0 a p.1 e in
    (p.0, (line, refl, p.1), s.3, s.4)
within_at secret cap rows (line ∷ lines) (suc i) a e = within_at secret cap (behind secret cap rows line) lines i a e

-- ---- the law

pub settles_once : (secret : List ℕ) (cap : ℕ) (lines : List (List ℕ)) → SettlesOnce secret lines (answers_from secret cap [] lines)
settles_once secret cap lines = record {
  within = λ i a e. within_at secret cap [] lines i a e;
  once = λ i j a b o p lt at next same first second.
      let r = repeat_answer secret cap [] lines i j a o p lt at next same first in
      not_settled (eqb a p.amount) a p.amount b (sym r.0 ∙ second);
  again = λ i j a o p lt at next same first equal.
      let r = repeat_answer secret cap [] lines i j a o p lt at next same first in
      let is : p.amount ≡ a = sym equal ∙ r.1 in
      r.0 ∙ rw (is, eq-eqb a a refl) refl;
  differs = λ i j a o p lt at next same first other.
      let r = repeat_answer secret cap [] lines i j a o p lt at next same first in
      r.0 ∙ rw (ne_eqb a p.amount (λ e. other (r.1 ∙ e))) refl;
}
