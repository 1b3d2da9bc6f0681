-- A node has at most one row of its leaving, so that a look-up finds it.
use Rattle.std.proofs.Common.{◌≡◌, ℕ, ◌≤◌, Bool, true, false, List, [], ◌∷◌, Option, Some, None, refl, arith}
use Rattle.std.specs.Prelude.{if◌then◌else◌, ◌==◌, ◌&&◌, ◌||◌, nat_le}
use Rattle.std.specs.List.{list_any}
use Rattle.std.proofs.lemmas.Bool.Decides.{nat_tests}
use Rattle.sat_base.specs.declared.ids.NodeId.{NodeId}
use Rattle.rows.specs.Rows.{row_at, AllAbove, IsRising}
use Rattle.node_registry.specs.declared.node.Left.{Left}
use Rattle.month_pay.specs.Months.{month_at}
use Rattle.node_registry.specs.Left.{left_rank}
use Rattle.month_pay.specs.Ledger.{has_left}

abbrev pub left_by : ℕ → Option Left → Bool
left_by month None = false
left_by month (Some row) = nat_le (month_at row.at) month

none-above : (rows : List Left) (n : ℕ) (node : NodeId) (month : ℕ) → AllAbove left_rank n rows → node.0 ≤ n → list_any (λ row. (row.node.0 == node.0) && nat_le (month_at row.at) month) rows ≡ false
none-above [] n node month above le = refl
none-above (row ∷ rows) n node month above le = grind (arith, nat_tests, above.0, le, none-above rows n node month above.1 le)

any-found : (rows : List Left) (node : NodeId) (month : ℕ) → IsRising left_rank rows → list_any (λ row. (row.node.0 == node.0) && nat_le (month_at row.at) month) rows ≡ left_by month (row_at left_rank rows node.0)
any-found [] node month rising = refl
any-found (row ∷ rows) node month rising =
    let none : node.0 ≤ row.node.0 → list_any (λ row. (row.node.0 == node.0) && nat_le (month_at row.at) month) rows ≡ false = λ le. none-above rows row.node.0 node month rising.0 le in
    go (row.node.0 == node.0) refl (any-found rows node month rising.1) none
  where
    go : (b : Bool) → (row.node.0 == node.0) ≡ b → list_any (λ r. (r.node.0 == node.0) && nat_le (month_at r.at) month) rows ≡ left_by month (row_at left_rank rows node.0)
        → (node.0 ≤ row.node.0 → list_any (λ r. (r.node.0 == node.0) && nat_le (month_at r.at) month) rows ≡ false)
        → ((b && nat_le (month_at row.at) month) || list_any (λ r. (r.node.0 == node.0) && nat_le (month_at r.at) month) rows) ≡ left_by month (if b then Some row else row_at left_rank rows node.0)
    go true e later none =
        let same : node.0 ≤ row.node.0 = grind (arith, nat_tests, e) in
        let rest = none same in
        or-none (nat_le (month_at row.at) month) (list_any (λ r. (r.node.0 == node.0) && nat_le (month_at r.at) month) rows) rest
      where
        or-none : (a b : Bool) → b ≡ false → (a || b) ≡ a
        or-none true b h = refl
        or-none false b h = h
    go false e later none = later

pub has_left-found : (rows : List Left) (node : NodeId) (month : ℕ) → IsRising left_rank rows → has_left rows node month ≡ left_by month (row_at left_rank rows node.0)
unfolding has_left
has_left-found rows node month rising = any-found rows node month rising
