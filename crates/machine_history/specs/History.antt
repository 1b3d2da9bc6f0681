-- Histories: the calls that were made, one after another, with what was answered.
use Rattle.std.specs.Prelude.{◌≡◌, false, List, [], ◌∷◌, if◌then◌else◌}
use Rattle.machine_calls.specs.declared.call.Call.{Call}
use Rattle.machine_calls.specs.declared.reply.Reply.{Reply}
use Rattle.machine_calls.specs.Replies.{is_lost}
use Rattle.machine_step.specs.Tables.{Tables}
use Rattle.machine_step.specs.Step.{step, after, IsWellFormed}

-- a call, and what was answered
pub record Said : Type 0 where
  pub call : Call
  pub reply : Reply

-- the tables after one of them, where the step may have been lost
abbrev pub taken : Tables → Said → Tables
taken t said = if is_lost said.reply then t else after t said.call

-- and after all
abbrev pub replay : Tables → List Said → Tables
replay t [] = t
replay t (said ∷ rest) = replay (taken t said) rest

-- the call is well formed, and the answer is its step's, or the step was lost
pub record IsRight (t : Tables) (said : Said) : Type 0 where
  pub formed : IsWellFormed t said.call
  pub answer : is_lost said.reply ≡ false → said.reply ≡ (step t said.call).reply

-- each is right from the tables that the earlier ones leave
abbrev pub IsLegal : Tables → List Said → Type 0
IsLegal t [] = Unit {0}
IsLegal t (said ∷ rest) = IsRight t said × IsLegal (taken t said) rest
