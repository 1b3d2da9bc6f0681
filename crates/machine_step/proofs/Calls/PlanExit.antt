-- What a planned move changes fits, and a node that has left.
use Rattle.std.proofs.Common.{◌≡◌, ℕ, ◌/◌, ◌%◌, ◌<◌, ◌≤◌, ◌^◌, Bool, true, false, not, List, [], ◌∷◌, length, Option, Some, None, is_some, refl, sym, ap, subst, ◌∙◌, arith}
use Rattle.std.specs.Prelude.{if◌then◌else◌, nat_lt, nat_le, ◌==◌, filter, find, slice_index, drop}
use Rattle.std.specs.List.{list_all, list_any}
use Rattle.std.proofs.lemmas.Bool.Decides.{nat_tests}
use Rattle.std.proofs.lemmas.Bool.{and_parts, and_from}
use Rattle.sat_base.specs.declared.ids.NodeId.{NodeId}
use Rattle.sat_base.specs.declared.records.At.{At}
use Rattle.rows.specs.Rows.{row_at}
use Rattle.rows.specs.Slots.{with_row}
use Rattle.node_registry.specs.declared.node.Node.{Node}
use Rattle.node_registry.specs.declared.node.Left.{Left}
use Rattle.node_registry.specs.declared.node.Status.{Status}
use Rattle.node_registry.specs.declared.node.Status.TheVariants.{Active, Disqualified, Exiting, Exited}
use Rattle.node_registry.specs.Standing.{is_counted, is_disqualified}
use Rattle.node_registry.specs.Registry.{node_rank, node_at}
use Rattle.segment_core.specs.Record.{SegmentRecord, segment_rank}
use Rattle.segment_core.specs.Health.{is_healthy, is_counting}
use Rattle.placement.specs.Eligible.{subnet_of}
use Rattle.placement.proofs.Picks.{Got, got-kept}
use Rattle.repair_core.specs.declared.plan.RepairPlan.{RepairPlan}
use Rattle.repair_core.specs.declared.plan.ExitPlan.{ExitPlan}
use Rattle.machine_calls.specs.declared.change.RecChange.TheVariants as changes
use Rattle.machine_calls.specs.declared.refusal.Refusal.TheVariants as refusals
use Rattle.machine_calls.specs.declared.refusal.TableName.TheVariants as names
use Rattle.node_registry.specs.Left.{left_rank}
use Rattle.machine_step.specs.Tables.{Tables, ledger_of, segment_at, all_changed}
use Rattle.machine_step.specs.Containment.{has_piece, is_live}
use Rattle.machine_step.specs.Health.{healthy_of, picked}
use Rattle.machine_step.specs.Places.{picks_of, subnets_of, addr_of}
use Rattle.machine_step.specs.Plans.{timed, has_no_plan}
use Rattle.machine_step.specs.Health.{first_of}
use Rattle.machine_step.specs.Calls.PlanRepair.{terms_beside, repair_of}
use Rattle.machine_step.specs.Calls.PlanExit.{is_exiting, exiting_nodes, lies_on, is_movable, node_exited, target_at, exit_planned, exit_to, exit_from, exit_segment, plan_exit_of, plan_exit}
use Rattle.machine_step.specs.Rules.{first_bad, breaks_node, is_known, are_known}
use Rattle.machine_step.specs.PlanRules.{is_planned_of, is_target_of, is_move_of, is_exited, is_sound_left, is_accounted}
use Rattle.machine_step.specs.Bounds.{Each, IsValid}
use Rattle.machine_step.proofs.Outcomes.{unless-P, with_record-P, if_found-P}
use Rattle.machine_step.proofs.RowLemmas.{row_at-with_row, rising-with_row, all-with_row, all-found, rank-found}
use Rattle.machine_step.proofs.PieceLemmas.{known-healthy}
use Rattle.machine_step.proofs.PickLemmas.{got-picks}
use Rattle.machine_step.proofs.GrowthLemmas.{extends_set, nodes-set, found-got}
use Rattle.machine_step.proofs.IndexLemmas.{by_index-rising}
use Rattle.machine_step.proofs.Hold.{LeftHold}
use Rattle.machine_step.proofs.Changes.{steady_leaving}
use Rattle.machine_step.proofs.Becoming.{all_become}
use Rattle.machine_step.proofs.MarkLemmas.{month-open}
use Rattle.machine_step.proofs.Paid.{paid_same}
use Rattle.month_pay.proofs.Steps.{same_then, same_set, same_left}
use Rattle.machine_step.proofs.Validity.{steady_of}
use Rattle.machine_step.proofs.Fits.{After, still, fitting_apart, fine_found, picks_found, timed_fit}
use Rattle.machine_step.proofs.Drawn.{some-within, among-some, drawn_fit, is_drawn_now, version_now}
use Rattle.machine_step.proofs.RowLemmas.{row_got}
use Rattle.machine_step.proofs.TakenLemmas.{OffTaken, off-picks, off-member}
use Rattle.machine_step.proofs.ApartLemmas.{below-place}
use Rattle.node_registry.specs.Subnet.{subnet_at}
use Rattle.sat_base.specs.declared.limits.TheConstants as limits

pub first-got : {R : Type 0} (rows : List R) (row : R) → first_of rows ≡ Some row → Got rows row
first-got [] row is = absurd cc
first-got (x ∷ rows) row is = (0, is)

module _ (t : Tables) (v : IsValid t) (time : ℕ) (le : t.marks.time ≤ time) (lt : time < 2 ^ 36) where
  -- ---- PlanExit

  exiting-counts : (status : Status) → is_exiting status ≡ true → is_counted status ≡ true
  exiting-counts Active h = cc
  exiting-counts Disqualified h = cc
  exiting-counts Exiting h = refl
  exiting-counts Exited h = cc

  exiting-stays : (status : Status) → is_exiting status ≡ true → is_exited status ≡ false
  exiting-stays Active h = cc
  exiting-stays Disqualified h = cc
  exiting-stays Exiting h = refl
  exiting-stays Exited h = cc

  exiting-serves : (status : Status) → is_exiting status ≡ true → is_disqualified status ≡ true → ⊥
  exiting-serves Active h gone = cc
  exiting-serves Disqualified h gone = cc
  exiting-serves Exiting h gone = cc
  exiting-serves Exited h gone = cc

  exiting-found : (word : ℕ) (node : Node) → picked (exiting_nodes t) word ≡ Some node → (is_exiting node.status ≡ true) × (node_at t.nodes node.id ≡ Some node)
  exiting-found word node is =
      let kept = got-kept (λ (n : Node). is_exiting n.status) t.nodes node (word % length (exiting_nodes t)) is in
      (kept.0, found-got t.setup t.marks t.nodes 0 kept.1.0 node v.rules.nodes kept.1.1)

  -- the node has left
  fit_node_exited : (node : Node) → is_exiting node.status ≡ true → node_at t.nodes node.id ≡ Some node → After t (node_exited t time node)
  fit_node_exited node exiting at =
      let from = t.marks.segment in
      let marks = timed t.marks time in
      let here : Tables = record t { marks = marks } in
      let b = all_become from (changes.Marks marks ∷ []) t (steady_of t v) (timed_fit t v time le lt, tt) in
      let gone : Node = record node { status = Exited } in
      let row : Left = record { node = node.id; at = time } in
      let nodes = with_row node_rank t.nodes gone in
      let left = with_row left_rank t.left row in
      let s = b.steady in
      let hold : first_bad (breaks_node t.setup marks) 0 nodes ≡ None = nodes-set t.setup marks gone node t.nodes 0 s.nodes at refl refl in
      let extends = extends_set t.nodes gone node at refl in
      let now : nat_le time time ≡ true = grind (arith, nat_tests) in
      let self : node_at nodes node.id ≡ Some gone = grind (arith, nat_tests, row_at-with_row node_rank t.nodes gone node.id.0) in
      let rows : LeftHold marks nodes left = record {
        all = all-with_row left_rank (is_sound_left marks nodes) t.left row
            (weaker (is_sound_left marks t.nodes) (is_sound_left marks nodes) t.left (λ (r : Left) h. grind (arith, nat_tests, h, row_at-with_row node_rank t.nodes gone r.node.0)) s.left.all)
            (rw self now);
        accounted = all-with_row node_rank (is_accounted left) t.nodes gone
            (weaker (is_accounted t.left) (is_accounted left) t.nodes (λ (n : Node) h. grind (arith, nat_tests, h, row_at-with_row left_rank t.left row n.id.0)) s.left.accounted)
            (grind (arith, nat_tests, row_at-with_row left_rank t.left row node.id.0));
        rising = rising-with_row left_rank t.left row s.left.rising;
      } in
      let steady = steady_leaving from here s nodes left extends hold rows in
      let g = b.grows in
      let set = same_set (ledger_of t) gone node at (record { id = refl; joined = refl; gone = λ disqualified. absurd (exiting-serves node.status exiting disqualified) }) in
      let first_row : row_at left_rank t.left node.id.0 ≡ None = none-left (row_at left_rank t.left node.id.0) refl in
      let pay = same_then (ledger_of t) (record (ledger_of t) { nodes = nodes }) (record (ledger_of t) { nodes = nodes; left = left }) set
      (same_left (record (ledger_of t) { nodes = nodes }) row first_row (month-open t.setup t.marks time le v.rules.marks)) in
      record {
        becomes = record { steady = steady; grows = record { setup = refl; later = g.later; extends = extends; stay = λ id h. h; segments = g.segments } };
        paid = paid_same t v (all_changed t (node_exited t time node).changes) pay;
        written = (tt, (tt, (tt, tt)));
      }
    where
      -- a node that stays has no row yet
      none-left : (found : Option Left) → row_at left_rank t.left node.id.0 ≡ found → row_at left_rank t.left node.id.0 ≡ None
      none-left None is = is
      none-left (Some old) is =
          let sound : is_sound_left t.marks t.nodes old ≡ true = all-found left_rank (is_sound_left t.marks t.nodes) t.left node.id.0 old (steady_of t v).left.all is in
          let own : old.node.0 ≡ node.id.0 = rank-found left_rank t.left node.id.0 old is in
          let there : node_at t.nodes old.node ≡ Some node = ap (λ (k : ℕ). row_at node_rank t.nodes k) own ∙ at in
          let stays = exiting-stays node.status exiting in
          absurd (grind (arith, nat_tests, sound, there, stays))

      weaker : {X : Type 0} (strong weak : X → Bool) (xs : List X) → ((x : X) → strong x ≡ true → weak x ≡ true) → list_all strong xs ≡ true → list_all weak xs ≡ true
      weaker strong weak [] so all = refl
      weaker strong weak (x ∷ xs) so all =
          let parts = and_parts (strong x) (list_all strong xs) all in
          and_from _ _ (so x parts.0) (weaker strong weak xs so parts.1)

  -- the piece that leaves is among the healthy ones
  find-lies : (id : NodeId) (pieces : List At) (leaving : At) → find (lies_on id) pieces ≡ Some leaving → lies_on id leaving ≡ true
  find-lies id [] leaving is = cc
  find-lies id (x ∷ xs) leaving is = go (lies_on id x) refl is (find-lies id xs leaving)
    where
      go : (b : Bool) → lies_on id x ≡ b → (if b then Some x else find (lies_on id) xs) ≡ Some leaving → (find (lies_on id) xs ≡ Some leaving → lies_on id leaving ≡ true) → lies_on id leaving ≡ true
      go true h same rest = let equal : x ≡ leaving = cc in ap (lies_on id) (sym equal) ∙ h
      go false h same rest = rest same

  find-has : (id : NodeId) (test : At → Bool) (pieces : List At) (leaving : At) → find (lies_on id) pieces ≡ Some leaving → test leaving ≡ true → has_piece (filter test pieces) leaving ≡ true
  find-has id test [] leaving is passes = cc
  find-has id test (x ∷ xs) leaving is passes = go (lies_on id x) is (find-has id test xs leaving)
    where
      more : (b : Bool) → has_piece (filter test xs) leaving ≡ true → has_piece (if b then x ∷ filter test xs else filter test xs) leaving ≡ true
      more true h = grind (arith, nat_tests, h)
      more false h = h

      first_is : (b : Bool) → b ≡ true → x ≡ leaving → has_piece (if b then x ∷ filter test xs else filter test xs) leaving ≡ true
      first_is true b same = let i : x.index ≡ leaving.index = ap (λ (p : At). p.index) same in let n : x.node.0 ≡ leaving.node.0 = ap (λ (p : At). p.node.0) same in grind (arith, nat_tests, i, n)
      first_is false b same = cc

      go : (b : Bool) → (if b then Some x else find (lies_on id) xs) ≡ Some leaving → (find (lies_on id) xs ≡ Some leaving → test leaving ≡ true → has_piece (filter test xs) leaving ≡ true) → has_piece (if test x then x ∷ filter test xs else filter test xs) leaving ≡ true
      go true same rest = let equal : x ≡ leaving = cc in first_is (test x) (ap test equal ∙ passes) equal
      go false same rest = more (test x) (rest same passes)

  each-first : {X : Type 0} (P : X → Type 0) (xs : List X) (x : X) → Each P xs → first_of xs ≡ Some x → P x
  each-first P [] x each is = absurd cc
  each-first {X} P (y ∷ xs) x each is = let same : y ≡ x = cc in subst P same each.0

  fit_exit_planned : (node : Node) (found : SegmentRecord) (leaving : At) (words : List ℕ) (pick : Node) → is_exiting node.status ≡ true → node_at t.nodes node.id ≡ Some node
      → is_movable t node.id found ≡ true → segment_at t.segments found.id.0 ≡ Some found → find (lies_on node.id) found.pieces ≡ Some leaving → has_no_plan t.marks ≡ false
      → first_of (picks_of (terms_beside t (healthy_of t found) found.len words) 1 (t.setup.fresh / 100)) ≡ Some pick
      → After t (exit_planned t time (record { leaving = leaving; plan = repair_of t time found (healthy_of t found) (target_at leaving pick ∷ []) }) (target_at leaving pick))
  fit_exit_planned node found leaving words pick exiting node_is movable at leaves number picked_is =
      let f = fine_found t v found.id.0 found at in
      let sources = healthy_of t found in
      let where_ = terms_beside t sources found.len words in
      let fresh = t.setup.fresh / 100 in
      let target = target_at leaving pick in
      let plan : RepairPlan = repair_of t time found sources (target ∷ []) in
      let move : ExitPlan = record { leaving = leaving; plan = plan } in
      let live : is_live found ≡ true = grind (arith, nat_tests, movable) in
      let enough : nat_le t.setup.k (length sources) ≡ true = grind (arith, nat_tests, movable) in
      let lies : leaving.node.0 ≡ node.id.0 = let h = find-lies node.id found.pieces leaving leaves in grind (arith, nat_tests, h) in
      let counts : is_healthy t.nodes leaving ≡ true = ap (λ (k : ℕ). is_counting (row_at node_rank t.nodes k)) lies ∙ ap is_counting node_is ∙ exiting-counts node.status exiting in
      let has : has_piece sources leaving ≡ true = find-has node.id (is_healthy t.nodes) found.pieces leaving leaves counts in
      let known : are_known t.nodes sources ≡ true = known-healthy t.nodes found.pieces in
      let pick_is : node_at t.nodes pick.id ≡ Some pick = each-first (λ n. node_at t.nodes n.id ≡ Some n) (picks_of where_ 1 fresh) pick (picks_found t v (picks_of where_ 1 fresh) (got-picks where_ 1 fresh)) picked_is in
      let off : list_any (λ other. subnet_of pick == other) (subnets_of t.nodes sources) ≡ false = off-member (subnet_of pick) (subnets_of t.nodes sources) (each-first (OffTaken where_) (picks_of where_ 1 fresh) pick (off-picks where_ 1 fresh) picked_is) in
      let subnet_is : subnet_at (addr_of (node_at t.nodes pick.id)) ≡ subnet_of pick = ap (λ (o : Option Node). subnet_at (addr_of o)) pick_is in
      let off' : list_any (λ other. subnet_at (addr_of (node_at t.nodes pick.id)) == other) (subnets_of t.nodes sources) ≡ false = ap (λ (x : ℕ). list_any (λ other. x == other) (subnets_of t.nodes sources)) subnet_is ∙ off in
      let there : is_known t.nodes pick.id ≡ true = ap is_some pick_is in
      let index : (leaving.index == leaving.index) ≡ true = grind (arith, nat_tests) in
      let target_of : is_target_of t.nodes leaving sources (target ∷ []) ≡ true = and_from _ _ index (and_from _ _ there (ap not off')) in
      let len : (found.len == found.len) ≡ true = grind (arith, nat_tests) in
      let own : is_move_of move found ≡ true = and_from _ _ (and_from _ _ len (among-some found.pieces (is_healthy t.nodes))) has in
      let planned : is_planned_of (segment_at t.segments found.id.0) found.version (is_move_of move) ≡ true = rw at (grind (arith, nat_tests, own)) in
      let low : nat_lt leaving.index limits.PLACES ≡ true = below-place limits.PLACES sources leaving (some-within t v (is_healthy t.nodes) found.id.0 found at).below has in
      fitting_apart t v (exit_planned t time move target) refl (
        drawn_fit t v time le lt number,
        (
          record {
            sound = and_from _ _ (is_drawn_now t v time le lt found.id.0 f.below) (and_from _ _ (version_now t v time le lt found live f.version) (and_from _ _ planned (and_from _ _ enough (and_from _ _ known target_of))));
            below = (let b = f.below in grind (arith, nat_tests, b));
            within = record { sources = some-within t v (is_healthy t.nodes) found.id.0 found at; targets = record { by_index = by_index-rising (target ∷ []) (tt, tt); few = omega arith; below = and_from _ _ low refl } };
          },
          tt,
        ),
      )

  movable-found : (node : Node) (found : SegmentRecord) → first_of (filter (is_movable t node.id) t.segments) ≡ Some found → (is_movable t node.id found ≡ true) × (segment_at t.segments found.id.0 ≡ Some found)
  movable-found node found is =
      let got = first-got (filter (is_movable t node.id) t.segments) found is in
      let kept = got-kept (is_movable t node.id) t.segments found got.0 got.1 in
      (kept.0, row_got segment_rank t.segments v.order.segments kept.1.0 found kept.1.1)

  pub fit_plan_exit : (words : List ℕ) → After t (plan_exit t time words)
  fit_plan_exit words =
      with_record-P (After t) (still t v) (picked (exiting_nodes t) (slice_index words 0)) refusals.NothingToExit (plan_exit_of t time (drop 1 words)) (λ node is.
      let e = exiting-found (slice_index words 0) node is in
      if_found-P (After t) (still t v) (first_of (filter (is_movable t node.id) t.segments)) (node_exited t time node) (exit_segment t time (drop 1 words) node) (fit_node_exited node e.0 e.1) (λ found first_is.
      let there = movable-found node found first_is in
      if_found-P (After t) (still t v) (find (lies_on node.id) found.pieces) (node_exited t time node) (exit_from t time (drop 1 words) found (healthy_of t found)) (fit_node_exited node e.0 e.1) (λ leaving leaves.
      unless-P (After t) (still t v) (has_no_plan t.marks) (refusals.TableFull names.Numbers)
      (exit_to t time found (healthy_of t found) leaving (first_of (picks_of (terms_beside t (healthy_of t found) found.len (drop 1 words)) 1 (t.setup.fresh / 100)))) (λ number.
      with_record-P (After t) (still t v) (first_of (picks_of (terms_beside t (healthy_of t found) found.len (drop 1 words)) 1 (t.setup.fresh / 100))) (refusals.Few 0)
      (λ pick. exit_planned t time (record { leaving = leaving; plan = repair_of t time found (healthy_of t found) (target_at leaving pick ∷ []) }) (target_at leaving pick)) (λ pick picked_is.
      fit_exit_planned node found leaving (drop 1 words) pick e.0 e.1 there.0 there.1 leaves number picked_is)))))
