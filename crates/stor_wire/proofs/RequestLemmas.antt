-- What all bytes of a connection ask, from what was read of them.
use Rattle.std.proofs.Common.{◌≡◌, ℕ, ◌+◌, ◌<◌, List, ◌++◌, length, map, refl, sym, ◌∙◌, ap, subst, arith, append-nil, Option, Some, Result, Ok, Err}
use Rattle.std.proofs.lemmas.List.{length-append, take-append-le}
use Rattle.httparse.specs.Grammar.{NeverHasRequest, RequestHead, print_request}
use Rattle.httparse.specs.Spans.{name_and_value}
use Rattle.httparse.proofs.GrammarLemmas.{ReadsRequest-append, request_unique}
use Rattle.http_parts.specs.Heads.{HasHead, LacksHead, max_head}
use Rattle.http_parts.proofs.FrontLemmas.{lacks_more}
use Rattle.order_uses.specs.declared.take.Wanted.{Wanted}
use Rattle.stor_wire.specs.Requests.{Asks, Begins, Demands, HeadPuts, IsRead, IsReadBehind, IsReadPiece, IsRefused, IsRefusedBehind, LacksRequest, Outcome, Says, SaysNothing, ended, ended_behind, full, never, never_behind}
use Rattle.stor_wire.specs.declared.demand.Demand.{Demand}
use Rattle.stor_wire.specs.declared.demand.Demand.TheVariants.{Range, Body}
use Rattle.stor_wire.specs.declared.request.ReadErr.{ReadErr}
use Rattle.stor_wire.specs.declared.request.ReadErr.TheVariants.{Fault, Head, NoMemory}
use Rattle.stor_wire.specs.declared.request.Request.{Request}
use Rattle.stor_wire.specs.declared.request.Request.TheVariants.{Fetch, Put}
use Rattle.stor_wire.proofs.AskLemmas.{methods_apart, one_put, says_as}

-- ---- more bytes

has_more : (bytes more : List ℕ) (h : RequestHead) (rest : List ℕ) → HasHead bytes h rest → HasHead (bytes ++ more) h (rest ++ more)
has_more bytes more h rest x = record { reads = ReadsRequest-append bytes h rest more x.reads; lines = x.lines; size = x.size }

says_more : (h : RequestHead) (rest more : List ℕ) (request : Request) → Says h rest request → Says h (rest ++ more) request
says_more h rest more (Fetch wanted offset) x = x
says_more h rest more (Put wanted piece) x = (
  x.0,
  omega (arith, x.1, length-append rest more),
  x.2 ∙ sym (take-append-le wanted.len rest more x.1),
)

asks_more : (bytes more : List ℕ) (request : Request) → Asks bytes request → Asks (bytes ++ more) request
asks_more bytes more request a = record {
  head = a.head;
  rest = a.rest ++ more;
  has = has_more bytes more a.head a.rest a.has;
  says = says_more a.head a.rest more request a.says;
}

begins_of : (bytes : List ℕ) (request : Request) → Asks bytes request → Begins bytes request
begins_of bytes request a = record { head = a.head; rest = a.rest; reads = a.has.reads; lines = a.has.lines; says = a.says }

-- ---- all bytes

refused_all : (bytes rest : List ℕ) (left : Option (List ℕ)) → left ≡ Some rest → IsRefused bytes left
    → (request : Request) → Asks (bytes ++ rest) request → ⊥
refused_all bytes rest left told (never none) request a = none rest request (begins_of (bytes ++ rest) request a)
refused_all bytes rest left told (ended none end) request a =
    let P : List ℕ → Type 0 = λ l. Asks l request in
    let whole : bytes ++ rest ≡ bytes = ap (λ l. bytes ++ l) (end rest told) ∙ append-nil bytes in
    none request (begins_of bytes request (subst P whole a))
refused_all bytes rest left told (full lacks size) request a = (lacks_more bytes rest size lacks).none a.head a.rest a.has

pub outcome_of : (bytes rest all : List ℕ) (left : Option (List ℕ)) (result : Result Request ReadErr) → left ≡ Some rest → all ≡ bytes ++ rest
    → IsRead bytes left result → Outcome all result
outcome_of bytes rest all left (Ok request) told is read = rw is (asks_more bytes rest request read)
outcome_of bytes rest all left (Err Head) told is read = rw is (refused_all bytes rest left told read)
outcome_of bytes rest all left (Err Fault) told is read = tt
outcome_of bytes rest all left (Err NoMemory) told is read = tt

-- ---- a head that stands at the front

-- where it says nothing, the bytes lack a request
lacks_by : (bytes : List ℕ) (h : RequestHead) (rest : List ℕ) → HasHead bytes h rest → SaysNothing h rest → LacksRequest bytes
lacks_by bytes h rest has none request b =
    let same = request_unique bytes h b.head rest b.rest has.reads b.reads in
    none request (says_as bytes h rest request b same.0 same.1)

refused_by : (bytes : List ℕ) (h : RequestHead) (rest : List ℕ) (left : Option (List ℕ)) → HasHead bytes h rest → IsRefusedBehind h rest left → IsRefused bytes left
refused_by bytes h rest left has (never_behind none) = never (λ more. lacks_by (bytes ++ more) h (rest ++ more) (has_more bytes more h rest has) (none more))
refused_by bytes h rest left has (ended_behind none end) = ended (lacks_by bytes h rest has none) end

pub read_of : (bytes : List ℕ) (h : RequestHead) (rest : List ℕ) (left : Option (List ℕ)) (result : Result Request ReadErr) → HasHead bytes h rest
    → IsReadBehind h rest left result → IsRead bytes left result
read_of bytes h rest left (Ok request) has says = record { head = h; rest = rest; has = has; says = says }
read_of bytes h rest left (Err Head) has refused = refused_by bytes h rest left has refused
read_of bytes h rest left (Err Fault) has none = lacks_by bytes h rest has none
read_of bytes h rest left (Err NoMemory) has x = tt

nothing_said : (h : RequestHead) (rest : List ℕ) → ((demand : Demand) → Demands h demand → ⊥) → SaysNothing h rest
nothing_said h rest none (Fetch wanted offset) says = none (Range wanted offset) says
nothing_said h rest none (Put wanted piece) says = none (Body wanted) says.0

-- a head that asks nothing
pub nothing_behind : (h : RequestHead) (rest : List ℕ) (left : Option (List ℕ)) → ((demand : Demand) → Demands h demand → ⊥) → IsRefusedBehind h rest left
nothing_behind h rest left none = never_behind (λ more. nothing_said h (rest ++ more) none)

-- the bytes of a piece that is to be kept are too few
too_few : (h : RequestHead) (rest : List ℕ) (wanted : Wanted) → HeadPuts h wanted → length rest < wanted.len → SaysNothing h rest
too_few h rest wanted puts few (Fetch other offset) says = methods_apart h.method says.0 puts.0
too_few h rest wanted puts few (Put other piece) says =
    let same = one_put h.target (map name_and_value h.fields) wanted other puts.1 says.0.1 in
    let len : wanted.len ≡ other.len = ap (λ (w : Wanted). w.len) same in
    omega (arith, few, says.1, len)

pub piece_behind : (h : RequestHead) (rest : List ℕ) (left : Option (List ℕ)) (wanted : Wanted) (result : Result Request ReadErr) → HeadPuts h wanted
    → IsReadPiece wanted rest left result → IsReadBehind h rest left result
piece_behind h rest left wanted (Ok request) puts read = rw read.1 (puts, read.0, refl)
piece_behind h rest left wanted (Err Head) puts read = ended_behind (too_few h rest wanted puts read.0) read.1
piece_behind h rest left wanted (Err Fault) puts read = too_few h rest wanted puts read
piece_behind h rest left wanted (Err NoMemory) puts read = tt

-- ---- no head

pub refused_never : (bytes : List ℕ) (left : Option (List ℕ)) → NeverHasRequest bytes → IsRefused bytes left
refused_never bytes left none = never (λ more request b. none more b.head b.rest b.reads)

-- a head of fewer bytes would be there
pub lacks_short : (bytes : List ℕ) → LacksHead bytes → length bytes < max_head → LacksRequest bytes
lacks_short bytes lacks short request b =
    let size : length bytes ≡ length (print_request b.head) + length b.rest = ap length b.reads.1 ∙ length-append (print_request b.head) b.rest in
    lacks.none b.head b.rest (record { reads = b.reads; lines = b.lines; size = omega (arith, size, short) })
