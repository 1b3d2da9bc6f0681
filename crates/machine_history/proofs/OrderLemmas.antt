-- Each order settles once: a row that is made stays.
use Rattle.std.proofs.Common.{◌≡◌, ◌⊎◌, inl, inr, ℕ, suc, zero, ◌<◌, ◌≤◌, ◌^◌, Bool, true, false, List, [], ◌∷◌, ◌++◌, Option, Some, None, Result, Ok, Err, take, drop, length, slice_index, nat_eq, refl, sym, ap, subst, ◌∙◌, arith}
use Rattle.std.specs.Prelude.{if◌then◌else◌, slice_get, ◌==◌}
use Rattle.std.specs.Cmp.Lexicographic.{pointwise}
use Rattle.std.specs.Int.{w32, w64, from_be_bytes}
use Rattle.std.proofs.lemmas.Bool.Decides.{nat_tests}
use Rattle.sat_base.specs.declared.records.Key.TheVariants as keys
use Rattle.sat_base.specs.declared.ids.NodeId.{NodeId}
use Rattle.order_limits.specs.Order.{FitsLimit, FitsOrder, IsGoodOrder}
use Rattle.order_limits.specs.Part.{part}
use Rattle.order_limits.specs.Keys.{node_key, order_tag_of}
use Rattle.order_limits.specs.Order.{action_of}
use Rattle.order_limits.specs.Read.{number_in, limit_in, with_action, is_tag_of, fields_of, order_of}
use Rattle.order_limits.specs.declared.limit.Action.{Action}
use Rattle.order_limits.specs.declared.limit.Limit.{Limit}
use Rattle.order_limits.specs.declared.read.OrderErr.TheVariants as bad
use Rattle.sat_base.specs.Results.{◌>>=◌}
use Rattle.order_limits.specs.declared.limit.Order.{Order}
use Rattle.order_limits.specs.declared.read.OrderErr.{OrderErr}
use Rattle.order_limits.proofs.Fields.{IsBytes, IsBytes-part, test_ok}
use Rattle.order_limits.proofs.Reading.{order_found, order_read}
use Rattle.node_registry.specs.declared.node.Node.{Node}
use Rattle.node_registry.specs.Registry.{node_at}
use Rattle.settlement.specs.declared.row.SettledRow.{SettledRow}
use Rattle.settlement.specs.declared.answer.Settlable.{Settlable}
use Rattle.settlement.specs.declared.answer.Settlable.TheVariants as may
use Rattle.settlement.specs.declared.answer.SettleErr.{SettleErr}
use Rattle.settlement.specs.declared.answer.SettleErr.TheVariants as no
use Rattle.settlement.specs.Place.{place}
use Rattle.settlement.specs.Refusals.{as_settle}
use Rattle.settlement.specs.Rows.{key, row_of}
use Rattle.settlement.specs.Settle.{on_order, order_settlable, settlable}
use Rattle.settlement.proofs.New.{Made, named, order_new}
use Rattle.rows.specs.Slots.{with_row}
use Rattle.segment_core.specs.Commit.{is_among}
use Rattle.machine_calls.specs.Replies.{is_lost}
use Rattle.machine_calls.specs.declared.call.Call.{Call}
use Rattle.machine_calls.specs.declared.call.Call.TheVariants as calls
use Rattle.machine_calls.specs.declared.task.Task.TheVariants as tasks
use Rattle.machine_calls.specs.declared.wish.Wish.TheVariants as wishes
use Rattle.machine_calls.specs.declared.change.RecChange.{RecChange}
use Rattle.machine_calls.specs.declared.change.RecChange.TheVariants as changes
use Rattle.machine_calls.specs.declared.refusal.Refusal.TheVariants as refusals
use Rattle.machine_calls.specs.declared.reply.Reply.{Reply}
use Rattle.machine_calls.specs.declared.reply.Reply.TheVariants as replies
use Rattle.machine_step.specs.Bounds.{IsValid}
use Rattle.machine_step.specs.Calls.Settle.{settle, settle_as}
use Rattle.machine_step.specs.Containment.{swept}
use Rattle.machine_step.specs.Outcome.{refused, with_record}
use Rattle.machine_step.specs.Step.{after, case_of, risen, step}
use Rattle.machine_step.specs.Tables.{Setup, Tables, changed, all_changed}
use Rattle.machine_step.proofs.OrderFits.{order_is, good_of}
use Rattle.machine_step.proofs.ReleaseLemmas.{releases_are}
use Rattle.machine_step.proofs.RowLemmas.{row_at-with_row}
use Rattle.machine_step.proofs.Touches.{kinds_of, touched, frame}
use Rattle.machine_history.specs.History.{Said, IsLegal, IsRight, replay, taken}
use Rattle.machine_history.specs.Orders.{AreOfBytes, HasBytes, IfSettled, IsFirst, SettleOnce, SettlesAs}
use Rattle.machine_history.proofs.HistoryLemmas.{follows_all, legal-append, replay-append}
use Rattle.machine_calls.specs.Changes.{kind_changed}

-- ---- rows of settled orders stay

leaves-settled : (c : RecChange) (t : Tables) → (kind_changed c == 6) ≡ false → (changed t c).settled ≡ t.settled
leaves-settled (changes.SettledRow r) t other = cc
leaves-settled (changes.Remove (keys.Segment id)) t other = refl
leaves-settled (changes.Remove (keys.Plan kind)) t other = refl
leaves-settled (changes.Remove (keys.Containment node)) t other = refl
leaves-settled _ t other = refl

-- a call settles, or leaves the rows
settles_or : (call : Call) → (is_among (kinds_of call) 6 ≡ false) ⊎ ((now : ℕ) × (words : List ℕ) × (node : NodeId) × (bytes : List ℕ) × (call ≡ calls.Asked now words (wishes.Settle node bytes)))
settles_or (calls.Asked now words (wishes.Settle node bytes)) = inr (now, words, node, bytes, refl)
settles_or (calls.Own now tasks.TallyHour) = inl refl
settles_or _ = inl refl

-- the rows behind a step are those behind its case
after_case : (t : Tables) (call : Call) → ((after t call).settled ≡ t.settled) ⊎ ((after t call).settled ≡ (all_changed t (case_of t call).changes).settled)
after_case t call = go t.stopped
  where
    go : (b : Bool) → ((all_changed t (if b then refused refusals.Stopped else swept t (case_of t call)).changes).settled ≡ t.settled)
        ⊎ ((all_changed t (if b then refused refusals.Stopped else swept t (case_of t call)).changes).settled ≡ (all_changed t (case_of t call).changes).settled)
    go true = inl refl
    go false = inr (ap (λ (x : Tables). x.settled) (releases_are t (case_of t call).changes))

-- what settling comes to
record IsNewRow (t : Tables) (node : NodeId) (time : ℕ) (bytes : List ℕ) (row : SettledRow) : Type 0 where
  order : Order
  read : order_of t.setup.secret bytes ≡ Ok order
  made : Made t.settled node time order row

new_row : (t : Tables) (node : NodeId) (time : ℕ) (bytes : List ℕ) (row : SettledRow) → settlable t.settled t.setup.caps.settled t.setup.secret node time bytes ≡ named row → IsNewRow t node time bytes row
unfolding settlable
new_row t node time bytes row is = go (order_of t.setup.secret bytes) refl is
  where
    go : (read : Result Order OrderErr) → order_of t.setup.secret bytes ≡ read → on_order read (order_settlable t.settled t.setup.caps.settled node time) ≡ named row → IsNewRow t node time bytes row
    go (Ok o) is h = record { order = o; read = is; made = order_new t.settled t.setup.caps.settled node time o row h }
    go (Err e) is h = absurd (none (as_settle e) h)
      where
        none : (cause : SettleErr) → Err cause ≡ named row → ⊥
        none cause h = cc

-- an order that a case settles
record IsSettled (t : Tables) (node : NodeId) (time : ℕ) (bytes : List ℕ) (amount : ℕ) (next : List SettledRow) : Type 0 where
  row : SettledRow
  new : IsNewRow t node time bytes row
  amount_is : row.amount ≡ amount
  rows : next ≡ with_row key t.settled row

settled_by : (t : Tables) (time : ℕ) (node : NodeId) (bytes : List ℕ) (amount : ℕ) → (settle t time node bytes).reply ≡ replies.Settled amount
    → IsSettled t node time bytes amount (all_changed t (settle t time node bytes).changes).settled
settled_by t time node bytes amount said = found (node_at t.nodes node) said
  where
    by : (r : Result Settlable SettleErr) → settlable t.settled t.setup.caps.settled t.setup.secret node time bytes ≡ r → (settle_as t time r).reply ≡ replies.Settled amount
        → IsSettled t node time bytes amount (all_changed t (settle_as t time r).changes).settled
    by (Ok (may.New row)) is said = record { row = row; new = new_row t node time bytes row is; amount_is = (let same : replies.Settled row.amount ≡ replies.Settled amount = said in cc); rows = refl }
    by (Ok (may.Again a)) is said = absurd cc
    by (Err (no.Length got)) is said = absurd cc
    by (Err (no.Version got)) is said = absurd cc
    by (Err (no.Action got)) is said = absurd cc
    by (Err no.LimitTag) is said = absurd cc
    by (Err no.OrderTag) is said = absurd cc
    by (Err (no.OtherNode limit_node)) is said = absurd cc
    by (Err (no.Differs kept)) is said = absurd cc
    by (Err (no.Late until)) is said = absurd cc
    by (Err (no.OverLimit limit)) is said = absurd cc
    by (Err (no.SettledFull cap)) is said = absurd cc
    by (Err no.NoMemory) is said = absurd cc

    found : (x : Option Node) → (with_record x (refusals.NoNode node) (λ _. settle_as t time (settlable t.settled t.setup.caps.settled t.setup.secret node time bytes))).reply ≡ replies.Settled amount
        → IsSettled t node time bytes amount (all_changed t (with_record x (refusals.NoNode node) (λ _. settle_as t time (settlable t.settled t.setup.caps.settled t.setup.secret node time bytes))).changes).settled
    found None said = absurd cc
    found (Some x) said = by (settlable t.settled t.setup.caps.settled t.setup.secret node time bytes) refl said

-- what settles in a step
settled_step : (t : Tables) (now : ℕ) (words : List ℕ) (node : NodeId) (bytes : List ℕ) (amount : ℕ) → (step t (calls.Asked now words (wishes.Settle node bytes))).reply ≡ replies.Settled amount
    → IsSettled t node (risen t now) bytes amount (after t (calls.Asked now words (wishes.Settle node bytes))).settled
settled_step t now words node bytes amount said = go t.stopped said
  where
    go : (b : Bool) → (if b then refused refusals.Stopped else swept t (settle t (risen t now) node bytes)).reply ≡ replies.Settled amount
        → IsSettled t node (risen t now) bytes amount (all_changed t (if b then refused refusals.Stopped else swept t (settle t (risen t now) node bytes)).changes).settled
    go true said = absurd cc
    go false said =
        subst (IsSettled t node (risen t now) bytes amount) (sym (ap (λ (x : Tables). x.settled) (releases_are t (settle t (risen t now) node bytes).changes)))
        (settled_by t (risen t now) node bytes amount said)

-- another row leaves the row of a key
stays_beside : (rows : List SettledRow) (new : SettledRow) (k : ℕ) (row : SettledRow) → row_of rows (key new) ≡ None → row_of rows k ≡ Some row → row_of (with_row key rows new) k ≡ Some row
stays_beside rows new k row absent at = row_at-with_row key rows new k ∙ go (key new == k) refl
  where
    go : (b : Bool) → (key new == k) ≡ b → (if b then Some new else row_of rows k) ≡ Some row
    go true is =
        let same : key new ≡ k = grind (arith, nat_tests, is) in
        let never : None ≡ Some row = sym absent ∙ ap (row_of rows) same ∙ at in
        absurd cc
    go false is = at

stays_settling : (t : Tables) (time : ℕ) (node : NodeId) (bytes : List ℕ) (k : ℕ) (row : SettledRow) → row_of t.settled k ≡ Some row → row_of (all_changed t (settle t time node bytes).changes).settled k ≡ Some row
stays_settling t time node bytes k row at = found (node_at t.nodes node)
  where
    by : (r : Result Settlable SettleErr) → settlable t.settled t.setup.caps.settled t.setup.secret node time bytes ≡ r → row_of (all_changed t (settle_as t time r).changes).settled k ≡ Some row
    by (Ok (may.New new)) is =
        let made = (new_row t node time bytes new is).made in
        stays_beside t.settled new k row made.absent at
    by (Ok (may.Again a)) is = at
    by (Err (no.Length got)) is = at
    by (Err (no.Version got)) is = at
    by (Err (no.Action got)) is = at
    by (Err no.LimitTag) is = at
    by (Err no.OrderTag) is = at
    by (Err (no.OtherNode limit_node)) is = at
    by (Err (no.Differs kept)) is = at
    by (Err (no.Late until)) is = at
    by (Err (no.OverLimit limit)) is = at
    by (Err (no.SettledFull cap)) is = at
    by (Err no.NoMemory) is = at

    found : (x : Option Node) → row_of (all_changed t (with_record x (refusals.NoNode node) (λ _. settle_as t time (settlable t.settled t.setup.caps.settled t.setup.secret node time bytes))).changes).settled k ≡ Some row
    found None = at
    found (Some x) = by (settlable t.settled t.setup.caps.settled t.setup.secret node time bytes) refl

stays_case : (t : Tables) (call : Call) (k : ℕ) (row : SettledRow) → row_of t.settled k ≡ Some row → row_of (all_changed t (case_of t call).changes).settled k ≡ Some row
stays_case t call k row at = elim (settles_or call) [
  | inl other ↦ ap (λ (rows : List SettledRow). row_of rows k) (frame (λ (x : Tables). x.settled) 6 leaves-settled (kinds_of call) (case_of t call).changes t (touched t call) other) ∙ at
  | inr settles ↦ subst (λ (c : Call). row_of (all_changed t (case_of t c).changes).settled k ≡ Some row) (sym settles.4) (stays_settling t (risen t settles.0) settles.2 settles.3 k row at)
]

stays_said : (t : Tables) (said : Said) (k : ℕ) (row : SettledRow) → row_of t.settled k ≡ Some row → row_of (taken t said).settled k ≡ Some row
stays_said t said k row at = go (is_lost said.reply)
  where
    go : (b : Bool) → row_of (if b then t else after t said.call).settled k ≡ Some row
    go true = at
    go false = elim (after_case t said.call) [
      | inl same ↦ ap (λ (rows : List SettledRow). row_of rows k) same ∙ at
      | inr same ↦ ap (λ (rows : List SettledRow). row_of rows k) same ∙ stays_case t said.call k row at
    ]

stays_all : (h : List Said) (t : Tables) (k : ℕ) (row : SettledRow) → row_of t.settled k ≡ Some row → row_of (replay t h).settled k ≡ Some row
stays_all [] t k row at = at
stays_all (said ∷ h) t k row at = stays_all h (taken t said) k row (stays_said t said k row at)

-- ---- over a history

cut : (h : List Said) (i : ℕ) (said : Said) → slice_get h i ≡ Some said → h ≡ take i h ++ said ∷ drop (suc i) h
cut [] i said at = cc
cut (x ∷ h) zero said at = let same : x ≡ said = cc in ap (λ (y : Said). y ∷ h) same
cut (x ∷ h) (suc i) said at = ap (λ (l : List Said). x ∷ l) (cut h i said at)

taken_front : (h : List Said) (i j : ℕ) (said : Said) → j < i → slice_get h j ≡ Some said → slice_get (take i h) j ≡ Some said
taken_front [] i j said lt at = cc
taken_front (x ∷ h) zero j said lt at = absurd (omega arith)
taken_front (x ∷ h) (suc i) zero said lt at = at
taken_front (x ∷ h) (suc i) (suc j) said lt at = taken_front h i j said (omega arith) at

-- the tables before a place
abbrev at_place : Tables → List Said → ℕ → Tables
at_place t h i = replay t (take i h)

-- what was settled at a place
record IsSettledAt (t : Tables) (h : List Said) (i : ℕ) (said : Said) (node : NodeId) (bytes : List ℕ) (amount : ℕ) : Type 0 where
  order : Order
  settles : SettlesAs t.setup.secret node bytes amount order
  read_as : order_of t.setup.secret bytes ≡ Ok order
  row : SettledRow
  its_key : key row ≡ place order.limit.serial order.limit.node
  absent : row_of (at_place t h i).settled (key row) ≡ None
  rows : (taken (at_place t h i) said).settled ≡ with_row key (at_place t h i).settled row

settled_at : (t : Tables) (h : List Said) → IsValid t → IsLegal t h → (i : ℕ) (said : Said) → slice_get h i ≡ Some said → (now : ℕ) (words : List ℕ) (node : NodeId) (bytes : List ℕ) (amount : ℕ)
    → said.call ≡ calls.Asked now words (wishes.Settle node bytes) → said.reply ≡ replies.Settled amount → IsBytes bytes → IsSettledAt t h i said node bytes amount
settled_at t h v legal i said at now words node bytes amount is_call is_reply fits =
    let parts = legal-append (take i h) (said ∷ drop (suc i) h) t (subst (IsLegal t) (cut h i said at) legal) in
    let here : Tables = at_place t h i in
    let right : IsRight here said = parts.1.0 in
    let setup : here.setup ≡ t.setup = (follows_all (take i h) t v parts.0).grows.setup in
    let found : is_lost said.reply ≡ false = ap is_lost is_reply in
    let answer : (step here (calls.Asked now words (wishes.Settle node bytes))).reply ≡ replies.Settled amount = ap (λ (c : Call). (step here c).reply) (sym is_call) ∙ sym (right.answer found) ∙ is_reply in
    let s = settled_step here now words node bytes amount answer in
    let o = s.new.order in
    let made = s.new.made in
    let read : order_of t.setup.secret bytes ≡ Ok o = ap (λ (x : Setup). order_of x.secret bytes) (sym setup) ∙ s.new.read in
    let its_amount : o.amount ≡ amount = sym (ap (λ (r : SettledRow). r.amount) made.is) ∙ s.amount_is in
    record {
      order = o;
      settles = record { good = good_of t.setup.secret bytes o fits read; own = made.own; amount_is = its_amount; within = subst (λ (n : ℕ). n ≤ o.limit.limit) its_amount made.within };
      read_as = read;
      row = s.row;
      its_key = ap key made.is;
      absent = made.absent;
      rows = ap (λ (b : Bool). (if b then here else after here said.call).settled) found ∙ ap (λ (c : Call). (after here c).settled) is_call ∙ s.rows;
    }

one_order : (secret bytes : List ℕ) (a b : Order) → order_of secret bytes ≡ Ok a → order_of secret bytes ≡ Ok b → a ≡ b
one_order secret bytes a b is is' = order_is a b (sym is ∙ is')

put_there : (rows : List SettledRow) (row : SettledRow) → row_of (with_row key rows row) (key row) ≡ Some row
put_there rows row = row_at-with_row key rows row (key row) ∙ go (key row == key row) (same (key row))
  where
    same : (n : ℕ) → (n == n) ≡ true
    same n = grind (arith, nat_tests)

    go : (b : Bool) → b ≡ true → (if b then Some row else row_of rows (key row)) ≡ Some row
    go true is = refl
    go false is = absurd cc

first_at : (t : Tables) (h : List Said) → IsValid t → IsLegal t h → AreOfBytes h → (i : ℕ) (said : Said) → slice_get h i ≡ Some said → (node : NodeId) (bytes : List ℕ) (amount : ℕ)
    → (s : IsSettledAt t h i said node bytes amount) → IsFirst t h i s.order
first_at t h v legal fits i said at node bytes amount s = record {
  not_at_start = start (row_of t.settled (place s.order.limit.serial s.order.limit.node)) refl;
  not_before = λ j other lt at_j. before j other lt at_j other.call other.reply refl refl;
}
  where
    k : ℕ
    k = place s.order.limit.serial s.order.limit.node

    none_here : row_of (at_place t h i).settled k ≡ None
    none_here = ap (row_of (at_place t h i).settled) (sym s.its_key) ∙ s.absent

    start : (x : Option SettledRow) → row_of t.settled k ≡ x → x ≡ None
    start None is = refl
    start (Some row) is = let never : None ≡ Some row = sym none_here ∙ stays_all (take i h) t k row is in absurd cc

    legal_front : IsLegal t (take i h)
    legal_front = (legal-append (take i h) (said ∷ drop (suc i) h) t (subst (IsLegal t) (cut h i said at) legal)).0

    settled_before : (j : ℕ) (other : Said) → j < i → slice_get h j ≡ Some other → (now : ℕ) (words : List ℕ) (from : NodeId) (text : List ℕ) (paid : ℕ) → other.call ≡ calls.Asked now words (wishes.Settle from text) → other.reply ≡ replies.Settled paid
        → (p : Order) → SettlesAs t.setup.secret from text paid p → place p.limit.serial p.limit.node ≡ k → ⊥
    settled_before j other lt at_j now words from text paid is_call is_reply p settles same =
        let front = taken_front h i j other lt at_j in
        let bytes_of : IsBytes text = subst HasBytes is_call (fits j other at_j) in
        let e = settled_at t (take i h) v legal_front j other front now words from text paid is_call is_reply bytes_of in
        let one : e.order ≡ p = one_order t.setup.secret text e.order p e.read_as (order_read t.setup.secret text p settles.good) in
        let its : key e.row ≡ k = e.its_key ∙ ap (λ (o : Order). place o.limit.serial o.limit.node) one ∙ same in
        let there : row_of (taken (at_place t (take i h) j) other).settled (key e.row) ≡ Some e.row =
        ap (λ (rows : List SettledRow). row_of rows (key e.row)) e.rows ∙ put_there (at_place t (take i h) j).settled e.row in
        let later : row_of (replay (taken (at_place t (take i h) j) other) (drop (suc j) (take i h))).settled (key e.row) ≡ Some e.row =
        stays_all (drop (suc j) (take i h)) (taken (at_place t (take i h) j) other) (key e.row) e.row there in
        let whole : at_place t h i ≡ replay (taken (at_place t (take i h) j) other) (drop (suc j) (take i h)) =
        ap (replay t) (cut (take i h) j other front) ∙ replay-append (take j (take i h)) (other ∷ drop (suc j) (take i h)) t in
        let never : None ≡ Some e.row = sym none_here ∙ ap (row_of (at_place t h i).settled) (sym its) ∙ ap (λ (x : Tables). row_of x.settled (key e.row)) whole ∙ later in
        absurd cc

    before : (j : ℕ) (other : Said) → j < i → slice_get h j ≡ Some other → (call : Call) (reply : Reply) → other.call ≡ call → other.reply ≡ reply
        → IfSettled call reply (λ from text paid. (p : Order) → SettlesAs t.setup.secret from text paid p → place p.limit.serial p.limit.node ≡ k → ⊥)
    before j other lt at_j (calls.Asked now words (wishes.Settle from text)) (replies.Settled paid) is_call is_reply = settled_before j other lt at_j now words from text paid is_call is_reply
    before j other lt at_j _ _ is_call is_reply = tt

pub settle_once : (t : Tables) (h : List Said) → IsValid t → IsLegal t h → AreOfBytes h → SettleOnce t h
settle_once t h v legal fits i said at = go said.call said.reply refl refl
  where
    go : (call : Call) (reply : Reply) → said.call ≡ call → said.reply ≡ reply → IfSettled call reply (λ node bytes amount. (o : Order) × SettlesAs t.setup.secret node bytes amount o × IsFirst t h i o)
    go (calls.Asked now words (wishes.Settle node bytes)) (replies.Settled amount) is_call is_reply =
        let s = settled_at t h v legal i said at now words node bytes amount is_call is_reply (subst HasBytes is_call (fits i said at)) in
        (s.order, s.settles, first_at t h v legal fits i said at node bytes amount s)
    go _ _ is_call is_reply = tt
