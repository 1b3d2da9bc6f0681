-- What the bytes of a connection ask of a node.
use Rattle.std.specs.Prelude.{◌≡◌, ℕ, ◌+◌, ◌-◌, ◌^◌, ◌<◌, ◌≤◌, List, ◌++◌, length, take, map, codes, Option, Some, None, Result, Ok, Err, Bool, true, false}
use Rattle.httparse.specs.Grammar.{RequestHead, ReadsRequest}
use Rattle.httparse.specs.Spans.{name_and_value}
use Rattle.sat_base.specs.Streams.{AtEnd}
use Rattle.sat_base.specs.declared.limits.TheConstants as limits
use Rattle.http_parts.specs.Headers.{value_named}
use Rattle.http_parts.specs.Heads.{max_head, max_lines, HasHead, LacksHead, MayReadHead}
use Rattle.order_uses.specs.declared.take.Wanted.{Wanted}
use Rattle.stor_wire.specs.Paths.{IsPath}
use Rattle.stor_wire.specs.Values.{Fields, length_named, number_named, order_named}
use Rattle.stor_wire.specs.declared.demand.Demand.{Demand}
use Rattle.stor_wire.specs.declared.demand.Demand.TheVariants.{Range, Body}
use Rattle.stor_wire.specs.declared.request.ReadErr.{ReadErr}
use Rattle.stor_wire.specs.declared.request.ReadErr.TheVariants.{Fault, Head, NoMemory}
use Rattle.stor_wire.specs.declared.request.Request.{Request}
use Rattle.stor_wire.specs.declared.request.Request.TheVariants.{Fetch, Put}

-- the most bytes of a piece
abbrev pub max_piece : ℕ
max_piece = limits.PIECE

-- ---- a head alone

-- a piece, and an order that comes along. Nothing is coded on its way
pub record IsNamed (target : List ℕ) (hs : Fields) (wanted : Wanted) : Type 0 where
  pub path : IsPath target wanted.segment wanted.index
  pub order : order_named hs ≡ Some wanted.order
  pub plain : value_named (codes "transfer-encoding") hs ≡ None

-- a range of a piece's bytes is to be given
pub record IsFetch (target : List ℕ) (hs : Fields) (wanted : Wanted) (offset : ℕ) : Type 0 where
  pub named : IsNamed target hs wanted
  pub fetches : wanted.put ≡ false
  pub from : number_named (codes "x-offset") (2 ^ 64 - 1) hs ≡ Some offset
  pub len : number_named (codes "x-length") max_piece hs ≡ Some wanted.len

-- a piece is to be kept, of so many bytes
pub record IsPut (target : List ℕ) (hs : Fields) (wanted : Wanted) : Type 0 where
  pub named : IsNamed target hs wanted
  pub puts : wanted.put ≡ true
  pub len : length_named max_piece hs ≡ Some wanted.len

abbrev pub HeadFetches : RequestHead → Wanted → ℕ → Type 0
HeadFetches h wanted offset = (h.method ≡ codes "GET") × IsFetch h.target (map name_and_value h.fields) wanted offset

abbrev pub HeadPuts : RequestHead → Wanted → Type 0
HeadPuts h wanted = (h.method ≡ codes "PUT") × IsPut h.target (map name_and_value h.fields) wanted

-- ---- a whole request

-- what a head and the bytes behind it ask: a put has its piece there, at the front
abbrev pub Says : RequestHead → List ℕ → Request → Type 0
Says h rest (Fetch wanted offset) = HeadFetches h wanted offset
Says h rest (Put wanted piece) = HeadPuts h wanted × (wanted.len ≤ length rest) × (piece ≡ take wanted.len rest)

abbrev pub SaysNothing : RequestHead → List ℕ → Type 0
SaysNothing h rest = (request : Request) → Says h rest request → ⊥

-- the bytes begin with a request, whose head has at most 64 header lines
pub record Begins (bytes : List ℕ) (request : Request) : Type 0 where
  pub head : RequestHead
  pub rest : List ℕ
  pub reads : ReadsRequest bytes head rest
  pub lines : length head.fields ≤ max_lines
  pub says : Says head rest request

-- no request is whole
abbrev pub LacksRequest : List ℕ → Type 0
LacksRequest bytes = (request : Request) → Begins bytes request → ⊥

-- the bytes ask that: so they begin, with a head of at most 8192 bytes
pub record Asks (bytes : List ℕ) (request : Request) : Type 0 where
  pub head : RequestHead
  pub rest : List ℕ
  pub has : HasHead bytes head rest
  pub says : Says head rest request

-- what all bytes of a connection say: a request, or that they ask none
abbrev pub Outcome : List ℕ → Result Request ReadErr → Type 0
Outcome all (Ok request) = Asks all request
Outcome all (Err Head) = (request : Request) → Asks all request → ⊥
Outcome all (Err Fault) = Unit {0}
Outcome all (Err NoMemory) = Unit {0}

-- ---- what was read

-- why the bytes that were read show no request: no bytes that can follow make one; or the source ended before one was
-- whole; or they are 8192, and no head of at most 64 header lines is whole
pub data IsRefused (bytes : List ℕ) (left : Option (List ℕ)) : Type 0 where
  never : ((more : List ℕ) → LacksRequest (bytes ++ more)) → IsRefused bytes left
  ended : LacksRequest bytes → AtEnd left → IsRefused bytes left
  full : LacksHead bytes → length bytes ≡ max_head → IsRefused bytes left

-- what was read shows the answer
abbrev pub IsRead : List ℕ → Option (List ℕ) → Result Request ReadErr → Type 0
IsRead bytes left (Ok request) = Asks bytes request
IsRead bytes left (Err Head) = IsRefused bytes left
IsRead bytes left (Err Fault) = LacksRequest bytes
IsRead bytes left (Err NoMemory) = Unit {0}

-- a head asks to keep a piece, of which that many bytes are missing behind it
pub record MayReadBehind (h : RequestHead) (rest : List ℕ) (asked : ℕ) : Type 0 where
  pub wanted : Wanted
  pub puts : HeadPuts h wanted
  pub missing : length rest + asked ≤ wanted.len

-- where a connection may be read on for behind the bytes so far, and how many bytes at most: they don't decide and the head
-- is within its bound, or a head asks to keep a piece of which that many bytes are missing
pub data MayRead (bytes : List ℕ) (asked : ℕ) : Type 0 where
  a_head : MayReadHead bytes asked → MayRead bytes asked
  a_piece : (h : RequestHead) (rest : List ℕ) → HasHead bytes h rest → MayReadBehind h rest asked → MayRead bytes asked

abbrev pub failed_request : Result Request ReadErr → Bool
failed_request (Ok request) = false
failed_request (Err Head) = false
failed_request (Err Fault) = true
failed_request (Err NoMemory) = false

-- the most bytes of a request
abbrev pub max_request : ℕ
max_request = max_head + max_piece

-- ---- steps of the reading

-- what a head alone says, where it says something
abbrev pub Demands : RequestHead → Demand → Type 0
Demands h (Range wanted offset) = HeadFetches h wanted offset
Demands h (Body wanted) = HeadPuts h wanted

-- the answer is that, or there is none that is, unless memory ran out
abbrev pub FoundBy : {A : Type 0} → (A → Type 0) → Result A ReadErr → Type 0
FoundBy {A} is (Ok x) = is x
FoundBy {A} is (Err Head) = (x : A) → is x → ⊥
FoundBy {A} is (Err Fault) = ⊥
FoundBy {A} is (Err NoMemory) = Unit {0}

-- a piece is named by a path and headers, so many bytes of which are to be kept or given
pub record IsWantedAs (put : Bool) (len : ℕ) (target : List ℕ) (hs : Fields) (wanted : Wanted) : Type 0 where
  pub named : IsNamed target hs wanted
  pub put_is : wanted.put ≡ put
  pub len_is : wanted.len ≡ len

-- the piece that is to be kept is the first of the bytes behind the head, or they are too few, as the source is at its end
abbrev pub IsReadPiece : Wanted → List ℕ → Option (List ℕ) → Result Request ReadErr → Type 0
IsReadPiece wanted rest left (Ok request) = (wanted.len ≤ length rest) × (request ≡ Put wanted (take wanted.len rest))
IsReadPiece wanted rest left (Err Head) = (length rest < wanted.len) × AtEnd left
IsReadPiece wanted rest left (Err Fault) = length rest < wanted.len
IsReadPiece wanted rest left (Err NoMemory) = Unit {0}

-- why a head and the bytes behind it show no request
pub data IsRefusedBehind (h : RequestHead) (rest : List ℕ) (left : Option (List ℕ)) : Type 0 where
  never_behind : ((more : List ℕ) → SaysNothing h (rest ++ more)) → IsRefusedBehind h rest left
  ended_behind : SaysNothing h rest → AtEnd left → IsRefusedBehind h rest left

abbrev pub IsReadBehind : RequestHead → List ℕ → Option (List ℕ) → Result Request ReadErr → Type 0
IsReadBehind h rest left (Ok request) = Says h rest request
IsReadBehind h rest left (Err Head) = IsRefusedBehind h rest left
IsReadBehind h rest left (Err Fault) = SaysNothing h rest
IsReadBehind h rest left (Err NoMemory) = Unit {0}

-- the body of a put is at most as long as a piece
abbrev pub IsSmall : Result Demand ReadErr → Type 0
IsSmall (Ok (Range wanted offset)) = Unit {0}
IsSmall (Ok (Body wanted)) = wanted.len ≤ max_piece
IsSmall (Err e) = Unit {0}
