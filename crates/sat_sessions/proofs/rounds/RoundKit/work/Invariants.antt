use Rattle.std.proofs.Common.{false}
use Rattle.std.specs.Prelude.{IsSome}
use Rattle.sat_book.specs.Book.{opening_of}
use Rattle.sat_sessions.proofs.RoundLemmas.{SoFar}
use Rattle.sat_sessions.proofs.rounds.RoundKit.work.Given as goal

abbrev pub invariant-loop : goal.invariant-loop
invariant-loop g l =
    let opening = opening_of l.initial.pass.base in
    let view = g.Self.RoundKit.view in
    record {
      far : SoFar IsSome (g.Self.RoundKit.tells opening) l.desk (view l.initial.kit) l.initial.pass l.rounds.items (view l.kit) l.pass false;
      fits : g.Self.RoundKit.fits opening l.kit;
    }
