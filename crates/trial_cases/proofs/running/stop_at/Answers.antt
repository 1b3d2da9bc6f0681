use Rattle.std.proofs.Common.{◌≡◌, ℕ, List, [], Option, Some, None, refl, sym, ap, subst, arith}
use Rattle.std.specs.Prelude.{IsSome}
use Rattle.turnstile.specs.declared.entry.Entry.{Entry}
use Rattle.turnstile.specs.Known.{Known, SameRights}
use Rattle.machine_calls.specs.declared.call.Call.{Call}
use Rattle.machine_calls.specs.declared.call.Call.TheVariants as calls
use Rattle.machine_calls.specs.declared.wish.Wish.TheVariants as wishes
use Rattle.sat_book.specs.Book.{MayEnter}
use Rattle.sat_book.specs.declared.opening.Origin.{Origin}
use Rattle.trial_cases.proofs.running.stop_at.Goals as goal

-- a machine may be stopped at any time
abbrev stopping : Call
stopping = calls.Asked 0 [] wishes.Stop

may_stop : {K : Type 0} (base : Option (Origin K)) → IsSome base → MayEnter base stopping
may_stop None some = absurd (cc)
may_stop (Some origin) some = record { formed = record { timely = omega arith; words = refl; bytes = tt; tariff = tt }; scheme = tt }

rights : {C A B : Type 0} (k k' : Known C A B) (seen : List (Entry C A)) (mark : Option ℕ) → k' ≡ record k { seen = seen; mark = mark } → SameRights k k'
rights {C} {A} {B} k k' seen mark same = record {
  desk = ap (λ (z : Known C A B). z.desk) same;
  base = ap (λ (z : Known C A B). z.base) same;
  number = ap (λ (z : Known C A B). z.number) same;
  spare = ap (λ (z : Known C A B). z.spare) same;
  numbers = ap (λ (z : Known C A B). z.numbers) same;
  parts = ap (λ (z : Known C A B). z.parts) same;
}

pub enter-requires-clause-call : goal.enter-requires-clause-call
enter-requires-clause-call g c = subst (MayEnter c.args.pass.base) (sym c.stopping.ensures) (may_stop c.args.pass.base c.requires.base)

pub returns-in-Done : goal.returns-in-Done
returns-in-Done g c = rights c.args.pass c.in-Done.pass c.in-Done.pass.seen c.args.pass.mark c.in-Done.ensures.done.same

pub returns-in-TermFull : goal.returns-in-TermFull
returns-in-TermFull g c = rights c.args.pass c.in-TermFull.pass c.args.pass.seen (Some _) c.in-TermFull.ensures.full.0
