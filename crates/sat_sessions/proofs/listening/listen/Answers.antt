use Rattle.std.proofs.Common.{◌≡◌, ◌<◌, ◌-◌, ◌^◌, ℕ, List, length, refl, subst, arith}
use Rattle.std.specs.Prelude.{min}
use Rattle.machine_calls.specs.declared.call.Call.TheVariants as calls
use Rattle.machine_step.specs.Step.{HasBytes, HasTariff, IsAsked, words_for}
use Rattle.http_edge.specs.Wishes.{IsWishWithin}
use Rattle.machine_calls.specs.declared.wish.Wish.{Wish}
use Rattle.machine_calls.specs.declared.wish.Wish.TheVariants as wishes
use Rattle.sat_sessions.specs.Listening.{Enters, IfCall, Told}
use Rattle.sat_sessions.specs.declared.listening.Listened.{Listened}
use Rattle.sat_sessions.specs.declared.listening.Listened.TheVariants as listens
use Rattle.sat_sessions.proofs.listening.listen.Goals as goal

-- rates that were read are ones that a tariff may have
has-tariff : (wish : Wish) (now : ℕ) (words : List ℕ) → IsWishWithin wish → HasTariff (calls.Asked now words wish)
has-tariff (wishes.SetRates month rates) now words within = record { from = within.0; rates = within.1 }
has-tariff (wishes.AddNode request addr port free) now words within = tt
has-tariff (wishes.AddCustomer request) now words within = tt
has-tariff (wishes.Begin customer request len) now words within = tt
has-tariff (wishes.Commit customer request segment indexes) now words within = tt
has-tariff (wishes.Get customer request segment) now words within = tt
has-tariff (wishes.Delete customer request segment) now words within = tt
has-tariff (wishes.Settle node bytes) now words within = tt
has-tariff (wishes.SetFree node free) now words within = tt
has-tariff (wishes.Exit node) now words within = tt
has-tariff (wishes.Statement node month) now words within = tt
has-tariff (wishes.CloseMonth month) now words within = tt
has-tariff wishes.Stop now words within = tt

asked : (wish : Wish) (now : ℕ) (words : List ℕ) → now < 2 ^ 36 → length words ≡ words_for wish → IsWishWithin wish → HasBytes (calls.Asked now words wish) → IsAsked (calls.Asked now words wish)
asked wish now words fits count within bytes = record {
  formed = record { timely = fits; words = count; bytes = bytes; tariff = has-tariff wish now words within };
  asked = refl;
}

ready : (wish : Wish) (told : Told) (heard : Listened) → IsWishWithin wish → Enters wish told heard → IfCall heard HasBytes → IfCall heard IsAsked
ready wish told (listens.Call call) within e bytes = rw e.is_call (asked wish (min e.moment (2 ^ 36 - 1)) e.drawn (omega arith) e.count within (subst HasBytes e.is_call bytes))
ready wish told (listens.Edge error) within e bytes = tt
ready wish told listens.ReadFault within e bytes = tt
ready wish told listens.WordsFault within e bytes = tt

pub returns-in-Ok-clause-ready : goal.returns-in-Ok-clause-ready
returns-in-Ok-clause-ready g c =
    let told : Told = record {
      coming = g.T.Clock.coming c.args.clock.now;
      coming_after = g.T.Clock.coming c.enter.new.clock;
      words = g.W.Words.left c.args.words.now;
      words_after = g.W.Words.left c.enter.new.words;
      faults = g.W.Words.faults c.args.words.now;
      faults_after = g.W.Words.faults c.enter.new.words;
    } in
    ready c.in-Ok.wish told c.enter.result c.in-Ok.ensures.within c.enter.ensures.hears c.enter.ensures.bytes

pub returns-in-Ok-clause-took : goal.returns-in-Ok-clause-took
returns-in-Ok-clause-took g c = rw c.enter.ensures.read_faults c.in-Ok.ensures.took
