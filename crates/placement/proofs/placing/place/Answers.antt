use Rattle.std.proofs.Common.{◌≡◌, length, sym, ◌∙◌, arith, rules}
use Rattle.placement.specs.Eligible.{terms}
use Rattle.placement.proofs.Picks.{all-phases}
use Rattle.placement.proofs.placing.place.Goals as goal

pub returns-then-len-need-clause-few : goal.returns-then-len-need-clause-few
returns-then-len-need-clause-few c chosen is =
    let all = all-phases (terms c.args.table.now.nodes c.args.vet c.args.taken.now c.args.piece_len c.args.words.now) c.args.need c.args.fresh c.in_ok-picks.picks.items c.requires.fresh c.in_ok-picks.ensures in
    let number : length c.in_ok-picks.picks.items ≡ c.len-then-len-need.result = omega arith in
    let same : chosen ≡ c.len-then-len-need.result = cc in
    same ∙ sym number ∙ all.few (omega arith)

pub returns-clause-spread : goal.returns-clause-spread
returns-clause-spread c =
    let all = all-phases (terms c.args.table.now.nodes c.args.vet c.args.taken.now c.args.piece_len c.args.words.now) c.args.need c.args.fresh c.in_ok-picks.picks.items c.requires.fresh c.in_ok-picks.ensures in
    record {
      picks = c.in_ok-picks.picks.items;
      named = search rules;
      number = let within = all.within in omega arith;
      among = all.spread.among;
      apart = all.spread.apart;
    }

pub returns-clause-enough : goal.returns-clause-enough
returns-clause-enough c =
    let all = all-phases (terms c.args.table.now.nodes c.args.vet c.args.taken.now c.args.piece_len c.args.words.now) c.args.need c.args.fresh c.in_ok-picks.picks.items c.requires.fresh c.in_ok-picks.ensures in
    let le = all.le in
    omega arith
