-- Plans that the test takes for equal are equal.
use Rattle.std.proofs.Common.{◌≡◌, ℕ, Bool, true, List, [], ◌∷◌, Option, Some, None, refl, ap, ◌∙◌, arith}
use Rattle.std.specs.Str.{bytes_eq}
use Rattle.std.proofs.lemmas.Bool.Decides.{nat_tests}
use Rattle.sat_base.specs.declared.ids.NodeId.{NodeId}
use Rattle.sat_base.specs.declared.ids.SegId.{SegId}
use Rattle.sat_base.specs.declared.ids.Serial.{Serial}
use Rattle.sat_base.specs.declared.records.At.{At}
use Rattle.audit_core.specs.declared.plan.AuditPlan.{AuditPlan}
use Rattle.audit_core.specs.declared.rechecking.RecheckPlan.{RecheckPlan}
use Rattle.repair_core.specs.declared.plan.RepairPlan.{RepairPlan}
use Rattle.machine_step.specs.Containment.{same_place}
use Rattle.machine_step.specs.Plans.{same_places, same_audit, same_recheck, same_repair, is_open}
use Rattle.month_pay.proofs.Conserved.{same-id}

pub same-segment : (a b : SegId) → a.0 ≡ b.0 → a ≡ b
same-segment a b e = ap (λ (k : ℕ). let x : SegId = record { 0 = k } in x) e

same-serial : (a b : Serial) → a.0 ≡ b.0 → a ≡ b
same-serial a b e = ap (λ (k : ℕ). let x : Serial = record { 0 = k } in x) e

pub same-place : (a b : At) → same_place a b ≡ true → a ≡ b
same-place a b same =
    let index : a.index ≡ b.index = grind (arith, nat_tests, same) in
    let id : a.node.0 ≡ b.node.0 = grind (arith, nat_tests, same) in
    ap (λ (k : ℕ). record a { index = k }) index ∙ ap (λ (n : NodeId). record b { node = n }) (same-id a.node b.node id)

same-list : (xs ys : List At) → same_places xs ys ≡ true → xs ≡ ys
same-list [] [] same = refl
same-list [] (y ∷ ys) same = cc
same-list (x ∷ xs) [] same = cc
same-list (x ∷ xs) (y ∷ ys) same =
    let first : same_place x y ≡ true = grind (arith, nat_tests, same) in
    let rest : same_places xs ys ≡ true = grind (arith, nat_tests, same) in
    ap (λ (p : At). p ∷ xs) (same-place x y first) ∙ ap (λ (ps : List At). y ∷ ps) (same-list xs ys rest)

same-bytes : (xs ys : List ℕ) → bytes_eq xs ys ≡ true → xs ≡ ys
same-bytes [] [] same = refl
same-bytes [] (y ∷ ys) same = cc
same-bytes (x ∷ xs) [] same = cc
same-bytes (x ∷ xs) (y ∷ ys) same =
    let first : x ≡ y = grind (arith, nat_tests, same) in
    let rest : bytes_eq xs ys ≡ true = grind (arith, nat_tests, same) in
    ap (λ (p : ℕ). p ∷ xs) first ∙ ap (λ (ps : List ℕ). y ∷ ps) (same-bytes xs ys rest)

pub same-audit : (a b : AuditPlan) → same_audit a b ≡ true → a ≡ b
same-audit a b same =
    let plan : a.plan ≡ b.plan = grind (arith, nat_tests, same) in
    let segment : a.segment.0 ≡ b.segment.0 = grind (arith, nat_tests, same) in
    let version : a.version ≡ b.version = grind (arith, nat_tests, same) in
    let stripe : a.stripe ≡ b.stripe = grind (arith, nat_tests, same) in
    let serial : a.serial.0 ≡ b.serial.0 = grind (arith, nat_tests, same) in
    let issued : a.issued ≡ b.issued = grind (arith, nat_tests, same) in
    let asked : same_places a.asked b.asked ≡ true = grind (arith, nat_tests, same) in
    ap (λ (x : ℕ). record a { plan = x }) plan
    ∙ ap (λ (x : SegId). record a { plan = b.plan; segment = x }) (same-segment a.segment b.segment segment)
    ∙ ap (λ (x : ℕ). record a { plan = b.plan; segment = b.segment; version = x }) version
    ∙ ap (λ (x : ℕ). record a { plan = b.plan; segment = b.segment; version = b.version; stripe = x }) stripe
    ∙ ap (λ (x : Serial). record b { serial = x; issued = a.issued; asked = a.asked }) (same-serial a.serial b.serial serial)
    ∙ ap (λ (x : ℕ). record b { issued = x; asked = a.asked }) issued
    ∙ ap (λ (x : List At). record b { asked = x }) (same-list a.asked b.asked asked)

pub same-recheck : (a b : RecheckPlan) → same_recheck a b ≡ true → a ≡ b
same-recheck a b same =
    let plan : a.plan ≡ b.plan = grind (arith, nat_tests, same) in
    let serial : a.serial.0 ≡ b.serial.0 = grind (arith, nat_tests, same) in
    let issued : a.issued ≡ b.issued = grind (arith, nat_tests, same) in
    let node : a.node.0 ≡ b.node.0 = grind (arith, nat_tests, same) in
    let segment : a.segment.0 ≡ b.segment.0 = grind (arith, nat_tests, same) in
    let index : a.index ≡ b.index = grind (arith, nat_tests, same) in
    let stripe : a.stripe ≡ b.stripe = grind (arith, nat_tests, same) in
    let expect : bytes_eq a.expect b.expect ≡ true = grind (arith, nat_tests, same) in
    ap (λ (x : ℕ). record a { plan = x }) plan
    ∙ ap (λ (x : Serial). record a { plan = b.plan; serial = x }) (same-serial a.serial b.serial serial)
    ∙ ap (λ (x : ℕ). record a { plan = b.plan; serial = b.serial; issued = x }) issued
    ∙ ap (λ (x : NodeId). record a { plan = b.plan; serial = b.serial; issued = b.issued; node = x }) (same-id a.node b.node node)
    ∙ ap (λ (x : SegId). record b { segment = x; index = a.index; stripe = a.stripe; expect = a.expect }) (same-segment a.segment b.segment segment)
    ∙ ap (λ (x : ℕ). record b { index = x; stripe = a.stripe; expect = a.expect }) index
    ∙ ap (λ (x : ℕ). record b { stripe = x; expect = a.expect }) stripe
    ∙ ap (λ (x : List ℕ). record b { expect = x }) (same-bytes a.expect b.expect expect)

pub same-repair : (a b : RepairPlan) → same_repair a b ≡ true → a ≡ b
same-repair a b same =
    let plan : a.plan ≡ b.plan = grind (arith, nat_tests, same) in
    let segment : a.segment.0 ≡ b.segment.0 = grind (arith, nat_tests, same) in
    let version : a.version ≡ b.version = grind (arith, nat_tests, same) in
    let serial : a.serial.0 ≡ b.serial.0 = grind (arith, nat_tests, same) in
    let issued : a.issued ≡ b.issued = grind (arith, nat_tests, same) in
    let len : a.len ≡ b.len = grind (arith, nat_tests, same) in
    let sources : same_places a.sources b.sources ≡ true = grind (arith, nat_tests, same) in
    let targets : same_places a.targets b.targets ≡ true = grind (arith, nat_tests, same) in
    ap (λ (x : ℕ). record a { plan = x }) plan
    ∙ ap (λ (x : SegId). record a { plan = b.plan; segment = x }) (same-segment a.segment b.segment segment)
    ∙ ap (λ (x : ℕ). record a { plan = b.plan; segment = b.segment; version = x }) version
    ∙ ap (λ (x : Serial). record a { plan = b.plan; segment = b.segment; version = b.version; serial = x }) (same-serial a.serial b.serial serial)
    ∙ ap (λ (x : ℕ). record b { issued = x; len = a.len; sources = a.sources; targets = a.targets }) issued
    ∙ ap (λ (x : ℕ). record b { len = x; sources = a.sources; targets = a.targets }) len
    ∙ ap (λ (x : List At). record b { sources = x; targets = a.targets }) (same-list a.sources b.sources sources)
    ∙ ap (λ (x : List At). record b { targets = x }) (same-list a.targets b.targets targets)

-- the open plan is the one that is held
pub open-is : {P : Type 0} (same : P → P → Bool) → ((a b : P) → same a b ≡ true → a ≡ b) → (opened : Option P) (plan : P) → is_open same opened plan ≡ true → opened ≡ Some plan
open-is same equal None plan is = cc
open-is same equal (Some opened) plan is = ap Some (equal opened plan is)
