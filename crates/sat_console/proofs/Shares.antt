-- The shares of rising lines, line by line.
use Rattle.std.proofs.Common.{◌≡◌, ℕ, zero, suc, ◌+◌, ◌<◌, ◌≤◌, Bool, true, false, List, [], ◌∷◌, ◌++◌, Option, Some, None, Result, Ok, Err, refl, sym, ap, subst, append_assoc, arith}
use Rattle.std.specs.Prelude.{All, option_map, nat_lt, nat_le, if◌then◌else◌}
use borrow.Author.Tests.{ltb-true, leb-true, le-leb, lt-leb}
use Rattle.std.proofs.lemmas.List.{append-nil}
use Rattle.std.proofs.lemmas.List.Elements.{All-nil, All-cons}
use Rattle.hex.specs.declared.FromHexError.{FromHexError}
use Rattle.sat_base.specs.declared.items.Share.{Share}
use Rattle.bw_decode.specs.Altered.{indexes_of}
use Rattle.bw_decode.specs.Near.{Rises}
use Rattle.sat_base.specs.Text.{cut_of, number_up_to}
use Rattle.sat_base.proofs.TextLemmas.{number_small}
use Rattle.sat_console.specs.Form.{space}
use Rattle.hex.specs.Hex.{decode_of}
use Rattle.sat_console.specs.Judge.{share_parts, share_in, share_line, rising_share, before, with_rest, shares_from}

-- ---- one line

parts_are : (x : Option ℕ) (y : Result (List ℕ) FromHexError) (share : Share) → share_parts x y ≡ Some share → x ≡ Some share.index
parts_are None y share e = absurd cc
parts_are (Some index) (Err d) share e = absurd cc
parts_are (Some index) (Ok []) share e = absurd cc
parts_are (Some index) (Ok (byte ∷ bytes)) share e =
    let same : Some (record { index = index; bytes = byte ∷ bytes }) ≡ Some share = e in
    ap (option_map (λ (s : Share). s.index)) same

in_below : (p : Option (List ℕ × List ℕ)) (share : Share) → share_in p ≡ Some share → share.index < 128
in_below None share e = absurd cc
in_below (Some p) share e =
    let most = number_small 127 p.0 share.index (parts_are (number_up_to 127 p.0) (decode_of p.1) share e) in
    omega (arith, most)

pub line_below : (line : List ℕ) (share : Share) → share_line line ≡ Some share → share.index < 128
unfolding share_line
line_below line share e = in_below (cut_of space line) share e

-- ---- the lines

unbefore : (share : Share) (r : Result (List Share) ℕ) (shares : List Share) → before share r ≡ Ok shares → (more : List Share) × (r ≡ Ok more) × (shares ≡ share ∷ more)
unbefore share (Ok more) shares e = (more, refl, cc)
unbefore share (Err number) shares e = absurd cc

kept : (b : Bool) (number : ℕ) (share : Share) (rest : Share → Result (List Share) ℕ) (shares : List Share) → with_rest (if b then Ok share else Err number) rest ≡ Ok shares
    → (b ≡ true) × (more : List Share) × (rest share ≡ Ok more) × (shares ≡ share ∷ more)
kept true number share rest shares e = let m = unbefore share (rest share) shares e in (refl, m.0, m.1, m.2)
kept false number share rest shares e = absurd cc

-- the first share of lines that are taken
pub record First (least : ℕ) (x : Option Share) (rest : Share → Result (List Share) ℕ) (shares : List Share) : Type 0 where
  pub share : Share
  pub more : List Share
  pub is : x ≡ Some share
  pub rises : least ≤ share.index
  pub behind : rest share ≡ Ok more
  pub all : shares ≡ share ∷ more

first_of : (least number : ℕ) (x : Option Share) (rest : Share → Result (List Share) ℕ) (shares : List Share) → with_rest (rising_share least number x) rest ≡ Ok shares → First least x rest shares
first_of least number None rest shares e = absurd cc
first_of least number (Some share) rest shares e =
    let m = kept (nat_le least share.index) number share rest shares e in
    record { share = share; more = m.1; is = refl; rises = leb-true least share.index m.0; behind = m.2; all = m.3 }

rises_more : (x : ℕ) (xs : List ℕ) → All (λ y. x + 1 ≤ y) xs → Rises xs → Rises (x ∷ xs)
rises_more x xs above rises i zero lt within = absurd (omega arith)
rises_more x xs above rises zero (suc j) lt within = omega (arith, above j 0 (omega arith))
rises_more x xs above rises (suc i) (suc j) lt within = rises i j (omega arith) (omega arith)

raise : (low high : ℕ) (xs : List ℕ) → low ≤ high → All (λ y. high ≤ y) xs → All (λ y. low ≤ y) xs
raise low high xs le all k d within = omega (arith, all k d within)

-- the indexes of shares that rise from a least one on
pub record Rising (least : ℕ) (indexes : List ℕ) : Type 0 where
  pub above : All (λ y. least ≤ y) indexes
  pub below : All (λ y. y < 128) indexes
  pub rises : Rises indexes

pub rising : (least number : ℕ) (lines : List (List ℕ)) (shares : List Share) → shares_from least number lines ≡ Ok shares → Rising least (indexes_of shares)
rising least number [] [] e = record { above = All-nil _; below = All-nil _; rises = λ i j lt within. absurd (omega arith) }
rising least number [] (share ∷ shares) e = absurd cc
rising least number (line ∷ lines) shares e =
    let f = first_of least number (share_line line) (λ share. shares_from (share.index + 1) (number + 1) lines) shares e in
    let tail = rising (f.share.index + 1) (number + 1) lines f.more f.behind in
    let whole : Rising least (f.share.index ∷ indexes_of f.more) = record {
      above = All-cons (λ y. least ≤ y) f.share.index (indexes_of f.more) f.rises (raise least (f.share.index + 1) (indexes_of f.more) (omega (arith, f.rises)) tail.above);
      below = All-cons (λ y. y < 128) f.share.index (indexes_of f.more) (line_below line f.share f.is) tail.below;
      rises = rises_more f.share.index (indexes_of f.more) tail.above tail.rises;
    } in
    subst (λ (s : List Share). Rising least (indexes_of s)) (sym f.all) whole

-- ---- reading them one by one

-- what stands before lines, and what they give
abbrev pub after : List Share → Result (List Share) ℕ → Result (List Share) ℕ
after shares (Ok more) = Ok (shares ++ more)
after shares (Err number) = Err number

after_one : (shares : List Share) (share : Share) (r : Result (List Share) ℕ) → after shares (before share r) ≡ after (shares ++ share ∷ []) r
after_one shares share (Ok more) = ap Ok (sym (append_assoc shares (share ∷ []) more))
after_one shares share (Err number) = refl

pub no_share : (so_far : List Share) (least number : ℕ) (line : List ℕ) (all lines : List (List ℕ)) → all ≡ line ∷ lines → share_line line ≡ None → after so_far (shares_from least number all) ≡ Err number
no_share so_far least number line all lines is none = rw (is, none) refl

pub low_share : (so_far : List Share) (least number : ℕ) (line : List ℕ) (all lines : List (List ℕ)) (share : Share) → all ≡ line ∷ lines → share_line line ≡ Some share → share.index < least
    → after so_far (shares_from least number all) ≡ Err number
low_share so_far least number line all lines share is some low = rw (is, some, lt-leb least share.index low) refl

pub next_share : (so_far : List Share) (least number : ℕ) (line : List ℕ) (all lines : List (List ℕ)) (share : Share) → all ≡ line ∷ lines → share_line line ≡ Some share → least ≤ share.index
    → after so_far (shares_from least number all) ≡ after (so_far ++ share ∷ []) (shares_from (share.index + 1) (number + 1) lines)
next_share so_far least number line all lines share is some rises =
    rw (is, some, le-leb least share.index rises) (after_one so_far share (shares_from (share.index + 1) (number + 1) lines))

-- where no line is left
pub all_shares : (so_far : List Share) (least number : ℕ) (lines : List (List ℕ)) → lines ≡ [] → after so_far (shares_from least number lines) ≡ Ok so_far
all_shares so_far least number lines none = rw none (ap Ok (append-nil so_far))
