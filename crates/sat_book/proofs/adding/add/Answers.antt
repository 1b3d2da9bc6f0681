use Rattle.std.proofs.Common.{subst, take, drop}
use Rattle.record_kinds.specs.declared.rec.Rec.{Rec}
use Rattle.record_kinds.specs.declared.rec.Rec.TheVariants as records
use Rattle.record_kinds.specs.Kinds.{kind_of}
use Rattle.sat_book.specs.ByKind.{HasNoneBehind, rec_lists}
use Rattle.sat_book.proofs.SortLemmas.{listed-one}
use Rattle.sat_book.proofs.adding.add.Goals as goal

pub returns-in_ok-push-in-Kept-clause-listed : goal.returns-in_ok-push-in-Kept-clause-listed
returns-in_ok-push-in-Kept-clause-listed c =
    listed-one records.Kept (take 12 (rec_lists c.args.parts.now)) c.args.parts.now.kept.items _ c.in-Kept.one c.args.rec (drop 13 (rec_lists c.args.parts.now))
    c.in-Kept.is c.in_ok-push-in-Kept.ensures.items (subst (λ (rec : Rec). HasNoneBehind (kind_of rec) c.args.parts.now) c.in-Kept.is c.requires)

pub returns-in_ok-push-in-ExitPlan-clause-listed : goal.returns-in_ok-push-in-ExitPlan-clause-listed
returns-in_ok-push-in-ExitPlan-clause-listed c =
    listed-one records.ExitPlan (take 13 (rec_lists c.args.parts.now)) c.args.parts.now.exit_plans.items _ c.in-ExitPlan.one c.args.rec (drop 14 (rec_lists c.args.parts.now))
    c.in-ExitPlan.is c.in_ok-push-in-ExitPlan.ensures.items (subst (λ (rec : Rec). HasNoneBehind (kind_of rec) c.args.parts.now) c.in-ExitPlan.is c.requires)

pub returns-in_ok-push-in-Left-clause-listed : goal.returns-in_ok-push-in-Left-clause-listed
returns-in_ok-push-in-Left-clause-listed c =
    listed-one records.Left (take 14 (rec_lists c.args.parts.now)) c.args.parts.now.left.items _ c.in-Left.one c.args.rec (drop 15 (rec_lists c.args.parts.now))
    c.in-Left.is c.in_ok-push-in-Left.ensures.items (subst (λ (rec : Rec). HasNoneBehind (kind_of rec) c.args.parts.now) c.in-Left.is c.requires)

pub returns-in_ok-push-in-Tariff-clause-listed : goal.returns-in_ok-push-in-Tariff-clause-listed
returns-in_ok-push-in-Tariff-clause-listed c =
    listed-one records.Tariff (take 15 (rec_lists c.args.parts.now)) c.args.parts.now.tariffs.items _ c.in-Tariff.one c.args.rec (drop 16 (rec_lists c.args.parts.now))
    c.in-Tariff.is c.in_ok-push-in-Tariff.ensures.items (subst (λ (rec : Rec). HasNoneBehind (kind_of rec) c.args.parts.now) c.in-Tariff.is c.requires)
