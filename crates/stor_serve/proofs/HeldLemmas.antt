-- What a link does to the pieces.
use Rattle.std.proofs.Common.{◌≡◌, ◌⊎◌, inl, inr, ℕ, Bool, true, false, List, [], Option, Some, None, Result, Ok, Err, is_ok, refl, sym, ap, subst, ◌∙◌, arith}
use Rattle.std.specs.Prelude.{◌==◌}
use Rattle.std.proofs.lemmas.Bool.{and_parts, eqb-true}
use Rattle.std.proofs.lemmas.Option.{same_Some}
use Rattle.sat_base.specs.Keeper.{KeeperView}
use Rattle.sat_base.specs.Outside.{About}
use Rattle.sat_base.specs.declared.ids.SegId.{SegId}
use Rattle.sat_base.specs.declared.nodes.Stored.{Stored}
use Rattle.sat_base.specs.declared.nodes.Stored.TheVariants as stores
use Rattle.order_uses.specs.declared.take.TakeErr.{TakeErr}
use Rattle.order_uses.specs.declared.take.Wanted.{Wanted}
use Rattle.stor_base.specs.Pieces.{KeepsOthers, Writes, held_at, is_piece}
use Rattle.stor_base.specs.declared.pieces.Piece.{Piece}
use Rattle.stor_wire.specs.Answers.{answer_status}
use Rattle.stor_wire.specs.Requests.{Asks, Outcome}
use Rattle.stor_wire.specs.declared.answers.Answer.{Answer}
use Rattle.stor_wire.specs.declared.answers.Answer.TheVariants as answers
use Rattle.stor_wire.specs.declared.request.ReadErr.{ReadErr}
use Rattle.stor_wire.specs.declared.request.Request.{Request}
use Rattle.stor_wire.specs.declared.request.Request.TheVariants.{Fetch, Put}
use Rattle.stor_serve.specs.Links.{Answers, Does, Listens, Performs}
use Rattle.stor_serve.specs.Performing.{Follows, kept_as}
use Rattle.stor_serve.specs.Totals.{AsksToPut, PutsAt}
use Rattle.stor_serve.specs.Views.{NodeView, PiecesView}
use Rattle.stor_serve.specs.declared.served.Served.{Served}

-- ---- what one link leaves of the pieces

-- a piece that the link wasn't taken to put is as it was; and where it was, and is answered by 200, its body is held
pub record LinkHolds (segment : SegId) (index : ℕ) (old new : List Piece) (link : About) (served : Served) : Type 0 where
  pub untouched : (PutsAt segment index served → ⊥) → held_at new segment index ≡ held_at old segment index
  pub put : PutsAt segment index served → served.status ≡ 200 → (body : List ℕ) × AsksToPut link.left served.wanted body × (held_at new segment index ≡ Some body)

abbrev pub LinkHeld : Option (List Piece) → Option (List Piece) → About → Served → Type 0
LinkHeld None new link served = new ≡ None
LinkHeld (Some old) new link served = (pieces : List Piece) × (new ≡ Some pieces) × ((segment : SegId) (index : ℕ) → LinkHolds segment index old pieces link served)

-- ---- a link that puts nothing

abbrev pub PutsNothing : Served → Type 0
PutsNothing served = (segment : SegId) (index : ℕ) → PutsAt segment index served → ⊥

no_both : (b : Bool) → b ≡ true → b ≡ false → ⊥
no_both b p q = cc

untaken : (served : Served) → served.taken ≡ false → PutsNothing served
untaken served none = λ segment index puts. no_both served.taken puts.2 none

fetched : (served : Served) (wanted : Wanted) → served.wanted ≡ Some wanted → wanted.put ≡ false → PutsNothing served
fetched served wanted asked fetches = λ segment index puts.
    no_both wanted.put (ap (λ (w : Wanted). w.put) (same_Some wanted puts.0 (sym asked ∙ puts.1)) ∙ puts.3) fetches

held_same : (old new : Option (List Piece)) (link : About) (served : Served) → PutsNothing served → new ≡ old → LinkHeld old new link served
held_same None new link served nothing same = same
held_same (Some pieces) new link served nothing same =
    (pieces, same, λ segment index. record { untouched = λ _. refl; put = λ puts _. absurd (nothing segment index puts) })

-- ---- a put that was taken

-- 200 says that the piece is kept
kept_by : (stored : Stored) (said : Answer) → (said ≡ kept_as stored) ⊎ (said ≡ answers.NoMemory) → answer_status said ≡ 200 → stored ≡ stores.Kept
kept_by stored said (inr none) ok = absurd (let n : 507 ≡ 200 = sym (ap answer_status none) ∙ ok in omega arith)
kept_by stores.Kept said (inl meant) ok = refl
kept_by stores.NoAnswer said (inl meant) ok = absurd (let n : 503 ≡ 200 = sym (ap answer_status meant) ∙ ok in omega arith)
kept_by stores.NoMemory said (inl meant) ok = absurd (let n : 507 ≡ 200 = sym (ap answer_status meant) ∙ ok in omega arith)

asks_put : (left : Option (List ℕ)) (served : Served) (bytes : List ℕ) (wanted : Wanted) (body : List ℕ) → served.wanted ≡ Some wanted → Asks bytes (Put wanted body)
    → ((all : List ℕ) → left ≡ Some all → Outcome all (Ok (Put wanted body))) → AsksToPut left served.wanted body
asks_put None served bytes wanted body asked says outcome = (bytes, (wanted, asked, says))
asks_put (Some all) served bytes wanted body asked says outcome = (wanted, asked, outcome all refl)

-- a piece with no bytes, by which another one than what was put is named
abbrev named : SegId → ℕ → Piece
named segment index = record { segment = segment; index = index; bytes = [] }

module _ (served : Served) (wanted : Wanted) (body : List ℕ) (link : About) (asked : served.wanted ≡ Some wanted) (puts : wanted.put ≡ true) (taken : served.taken ≡ true) where
  it_is : (segment : SegId) (index : ℕ) → is_piece wanted.segment wanted.index (named segment index) ≡ true → PutsAt segment index served
  it_is segment index same =
      let both = and_parts (segment.0 == wanted.segment.0) (index == wanted.index) same in
      (wanted, asked, taken, puts, ap (λ (n : ℕ). record { 0 = n }) (sym (eqb-true _ _ both.0)), sym (eqb-true _ _ both.1))

  other_stays : (segment : SegId) (index : ℕ) (old new : List Piece) → KeepsOthers wanted.segment wanted.index old new → (PutsAt segment index served → ⊥) → held_at new segment index ≡ held_at old segment index
  other_stays segment index old new others nothing = by_test (is_piece wanted.segment wanted.index (named segment index)) refl
    where
      by_test : (b : Bool) → is_piece wanted.segment wanted.index (named segment index) ≡ b → held_at new segment index ≡ held_at old segment index
      by_test true same = absurd (nothing (it_is segment index same))
      by_test false differs = others (named segment index) differs

  put_holds : (old new : Option (List Piece)) (stored : Stored) → Writes old wanted.segment wanted.index body stored new → (served.status ≡ 200 → stored ≡ stores.Kept) → AsksToPut link.left served.wanted body
      → LinkHeld old new link served
  put_holds None new stored writes kept asks = writes
  put_holds (Some old) new stored writes kept asks = (
    writes.0,
    writes.1,
    λ segment index. record {
      untouched = other_stays segment index old writes.0 writes.2.1;
      put = λ at ok.
          let same = same_Some wanted at.0 (sym asked ∙ at.1) in
          let segment_is = ap (λ (w : Wanted). w.segment) same ∙ at.4 in
          let index_is = ap (λ (w : Wanted). w.index) same ∙ at.5 in
          (body, asks, subst (λ (s : SegId). held_at writes.0 s index ≡ Some body) segment_is (subst (λ (n : ℕ). held_at writes.0 wanted.segment n ≡ Some body) index_is (writes.2.0 (kept ok))));
    },
  )

-- ---- any link

status_is : (answer : Answer) (stored : Stored) (link link' : About) (served : Served) → Answers answer link link' served.status served.sent → answer ≡ kept_as stored → served.status ≡ 200 → stored ≡ stores.Kept
status_is answer stored link link' served says is ok = kept_by stored says.said (meant says.is_said) (sym says.status_is ∙ ok)
  where
    meant : (says.said ≡ answer) ⊎ (says.said ≡ answers.NoMemory) → (says.said ≡ kept_as stored) ⊎ (says.said ≡ answers.NoMemory)
    meant (inl same) = inl (same ∙ is)
    meant (inr none) = inr none

put_follows : (wanted : Wanted) (body : List ℕ) (took : Result (Unit {0}) TakeErr) (old new : PiecesView) (answer : Answer) (link between link' : About) (served : Served) → Follows (Put wanted body) took old new answer
    → Answers answer between link' served.status served.sent → served.wanted ≡ Some wanted → served.taken ≡ is_ok took → wanted.put ≡ true → AsksToPut link.left served.wanted body → LinkHeld old.held new.held link served
put_follows wanted body (Ok u) old new answer link between link' served follows says asked taken puts asks =
    put_holds served wanted body link asked puts taken old.held new.held follows.stored follows.writes (status_is answer follows.stored between link' served says follows.answer_is) asks
put_follows wanted body (Err err) old new answer link between link' served follows says asked taken puts asks =
    held_same old.held new.held link served (untaken served taken) (ap (λ (p : PiecesView). p.held) follows.0)

fetch_follows : (wanted : Wanted) (offset : ℕ) (took : Result (Unit {0}) TakeErr) (old new : PiecesView) (answer : Answer) → Follows (Fetch wanted offset) took old new answer → new.held ≡ old.held
fetch_follows wanted offset (Ok u) old new answer follows = follows.held
fetch_follows wanted offset (Err err) old new answer follows = ap (λ (p : PiecesView). p.held) follows.0

module _ {K : Type 0} (about : K → KeeperView) where
  performs_holds : (request : Request) (old new : NodeView K) (link between link' : About) (served : Served) → Listens link between (Ok request) → Performs about request old new between link' served
      → LinkHeld old.pieces.held new.pieces.held link served
  performs_holds (Fetch wanted offset) old new link between link' served listens does =
      held_same old.pieces.held new.pieces.held link served (fetched served wanted does.wanted_is listens.says.says.1.fetches)
      (fetch_follows wanted offset does.took old.pieces new.pieces does.answer does.follows)
  performs_holds (Put wanted body) old new link between link' served listens does =
      put_follows wanted body does.took old.pieces new.pieces does.answer link between link' served does.follows does.answers does.wanted_is does.taken_is
      listens.says.says.0.1.puts (asks_put link.left served listens.bytes wanted body does.wanted_is listens.says listens.outcome)

  pub link_holds : (read : Result Request ReadErr) (old new : NodeView K) (link between link' : About) (served : Served) → Listens link between read → Does about read old new between link' served
      → LinkHeld old.pieces.held new.pieces.held link served
  link_holds (Ok request) old new link between link' served listens does = performs_holds request old new link between link' served listens does
  link_holds (Err why) old new link between link' served listens does =
      held_same old.pieces.held new.pieces.held link served (untaken served does.taken_is) (ap (λ (p : PiecesView). p.held) does.pieces_are)
