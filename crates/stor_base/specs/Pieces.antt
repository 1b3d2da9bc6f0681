-- What a keeper of pieces tells of what it holds.
use Rattle.std.specs.Prelude.{◌≡◌, Bool, false, ℕ, ◌≤◌, ◌==◌, ◌&&◌, List, [], ◌∷◌, ◌++◌, length, Option, Some, None, take, drop, find, option_map, filter, not, Contains}
use Rattle.sat_base.specs.Outside.{raised}
use Rattle.sat_base.specs.declared.ids.SegId.{SegId}
use Rattle.sat_base.specs.declared.nodes.Fetched.{Fetched}
use Rattle.sat_base.specs.declared.nodes.Fetched.TheVariants as fetches
use Rattle.sat_base.specs.declared.nodes.Stored.{Stored}
use Rattle.sat_base.specs.declared.nodes.Stored.TheVariants as stores
use Rattle.stor_base.specs.declared.pieces.Piece.{Piece}

-- which piece of which segment
abbrev pub is_piece : SegId → ℕ → Piece → Bool
is_piece segment index piece = piece.segment.0 == segment.0 && piece.index == index

-- the bytes of a piece, where it is held
abbrev pub held_at : List Piece → SegId → ℕ → Option (List ℕ)
held_at pieces segment index = option_map (λ piece. piece.bytes) (find (is_piece segment index) pieces)

-- the bytes from an offset on, at most so many
abbrev pub range_of : ℕ → ℕ → List ℕ → List ℕ
range_of offset len bytes = take len (drop offset bytes)

-- a share is that range of what is held, and a piece is missing where it isn't held
abbrev pub ReadFrom : List Piece → SegId → ℕ → ℕ → ℕ → Fetched → Type 0
ReadFrom pieces segment index offset len (fetches.Share bytes) = option_map (range_of offset len) (held_at pieces segment index) ≡ Some bytes
ReadFrom pieces segment index offset len fetches.Missing = held_at pieces segment index ≡ None
ReadFrom pieces segment index offset len fetches.NoAnswer = Unit {0}
ReadFrom pieces segment index offset len fetches.NoMemory = Unit {0}

-- so it is where it is told what is held
abbrev pub Reads : Option (List Piece) → SegId → ℕ → ℕ → ℕ → Fetched → Type 0
Reads None segment index offset len fetched = Unit {0}
Reads (Some pieces) segment index offset len fetched = ReadFrom pieces segment index offset len fetched

-- a share has at most as many bytes as were asked for
abbrev pub IsWithin : ℕ → Fetched → Type 0
IsWithin len (fetches.Share bytes) = length bytes ≤ len
IsWithin len fetches.Missing = Unit {0}
IsWithin len fetches.NoAnswer = Unit {0}
IsWithin len fetches.NoMemory = Unit {0}

-- every other piece is as it was
abbrev pub KeepsOthers : SegId → ℕ → List Piece → List Piece → Type 0
KeepsOthers segment index old new =
    (piece : Piece) → is_piece segment index piece ≡ false → held_at new piece.segment piece.index ≡ held_at old piece.segment piece.index

-- a kept piece is held from now on, and whatever was answered, every other piece is as it was
abbrev pub WrittenTo : List Piece → SegId → ℕ → List ℕ → Stored → List Piece → Type 0
WrittenTo old segment index bytes stored new = (stored ≡ stores.Kept → held_at new segment index ≡ Some bytes) × KeepsOthers segment index old new

-- so it is where it is told what is held, and that goes on being told
abbrev pub Writes : Option (List Piece) → SegId → ℕ → List ℕ → Stored → Option (List Piece) → Type 0
Writes None segment index bytes stored new = new ≡ None
Writes (Some old) segment index bytes stored new = (pieces : List Piece) × (new ≡ Some pieces) × WrittenTo old segment index bytes stored pieces

-- what contracts see of pieces in memory
pub record Holding : Type 0 where
  pub held : List Piece
  -- the numbers of the calls that are to fail; the first call has number 1
  pub failing : List ℕ
  -- how many calls were made
  pub calls : ℕ
  pub faults : ℕ

-- the next call is one of those that are to fail
abbrev pub FailsNext : Holding → Type 0
FailsNext pieces = Contains pieces.failing (raised pieces.calls)

-- the pieces with these bytes in place of what is held of one
abbrev pub without_piece : SegId → ℕ → List Piece → List Piece
without_piece segment index pieces = filter (λ piece. not (is_piece segment index piece)) pieces

abbrev pub with_piece : SegId → ℕ → List ℕ → List Piece → List Piece
with_piece segment index bytes pieces =
    without_piece segment index pieces ++ record { segment = segment; index = index; bytes = bytes } ∷ []

-- the pieces that are held after a write: as they were, where it wasn't kept
abbrev pub held_after : SegId → ℕ → List ℕ → Stored → List Piece → List Piece
held_after segment index bytes stores.Kept pieces = with_piece segment index bytes pieces
held_after segment index bytes stores.NoAnswer pieces = pieces
held_after segment index bytes stores.NoMemory pieces = pieces
