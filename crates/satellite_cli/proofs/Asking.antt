-- What the words ask for is what is done.
use Rattle.std.proofs.Common.{◌≡◌, ℕ, List, Option, Some, sym, ◌∙◌}
use Rattle.sat_base.specs.declared.rates.Rates.{Rates}
use Rattle.sat_base.specs.declared.scheme.Scheme.{Scheme}
use Rattle.sat_base.specs.declared.settings.Caps.{Caps}
use Rattle.command_line.specs.Command.{MonthSheet, NewStore, Server, command_of, numbers_of}
use Rattle.command_line.specs.Command.Asked.{init, serve, sheet}
use Rattle.satellite_cli.specs.Making.{IsAsked}

same_store : (a b : NewStore) → Some (init a) ≡ Some (init b) → a ≡ b
same_store a b e = cc

pub is_asked : (store : List ℕ) (secret : Option (List ℕ)) (scheme : Scheme) (vet fresh : ℕ) (rates : Rates) (caps : Caps) (line : List (List ℕ)) (asked : NewStore)
    → command_of line ≡ Some (init (record { store = store; secret = secret; scheme = numbers_of scheme; vet = vet; fresh = fresh; rates = rates; caps = caps }))
    → command_of line ≡ Some (init asked)
    → IsAsked asked (record { secret = secret; scheme = scheme; vet = vet; fresh = fresh; rates = rates; caps = caps })
is_asked store secret scheme vet fresh rates caps line asked is same =
    let e = same_store _ asked (sym is ∙ same) in
    record {
      secret = λ i. (e i).secret;
      scheme = λ i. (e i).scheme;
      vet = λ i. (e i).vet;
      fresh = λ i. (e i).fresh;
      rates = λ i. (e i).rates;
      caps = λ i. (e i).caps;
    }

same_server : (a b : Server) → Some (serve a) ≡ Some (serve b) → a ≡ b
same_server a b e = cc

-- the term that the words of `serve` ask for is the one that is served
pub same_term : (said asked : Server) (line : List (List ℕ)) → command_of line ≡ Some (serve said) → command_of line ≡ Some (serve asked) → asked.term ≡ said.term
same_term said asked line is same = let e = same_server said asked (sym is ∙ same) in λ i. (sym e i).term

one_sheet : (a b : MonthSheet) → Some (sheet a) ≡ Some (sheet b) → a ≡ b
one_sheet a b e = cc

-- the month that the words of `sheet` ask for is the one that is printed
pub same_month : (said asked : MonthSheet) (line : List (List ℕ)) → command_of line ≡ Some (sheet said) → command_of line ≡ Some (sheet asked) → asked.month ≡ said.month
same_month said asked line is same = let e = one_sheet said asked (sym is ∙ same) in λ i. (sym e i).month
