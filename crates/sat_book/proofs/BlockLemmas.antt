-- The rows of all kinds, one behind the other, as those of one kind change.
use Rattle.std.proofs.Common.{◌≡◌, ℕ, Bool, true, false, cond, List, [], ◌∷◌, ◌++◌, Option, Some, None, refl, sym, ap, ◌∙◌}
use Rattle.std.specs.Prelude.{map, not, ◌==◌}
use Rattle.std.specs.List.{list_all}
use Rattle.std.proofs.lemmas.Bool.Decides.{nat_tests}
use Rattle.std.proofs.Common.{arith}
use Rattle.sat_base.specs.declared.rows.Row.{Row}
use Rattle.sat_base.specs.Rows.{Key, entry}
use Rattle.sat_book.specs.TableRows.{joined}
use Rattle.sat_book.proofs.FindLemmas.{ties, tied, at_key}
use Rattle.machine_step.specs.Bounds.{Each}
use Rattle.turnstile.proofs.Histories.{free_step}

abbrev pub Entries : Type 0
Entries = List (Key × List ℕ)

-- the entries of one kind
pub record Block : Type 0 where
  pub kind : ℕ
  pub entries : Entries
  pub own : Each (λ e. e.0.0 ≡ kind) entries

abbrev pub all_entries : List Block → Entries
all_entries [] = []
all_entries (block ∷ rest) = block.entries ++ all_entries rest

abbrev first_of : Option (List ℕ) → Option (List ℕ) → Option (List ℕ)
first_of None other = other
first_of (Some v) other = Some v

at_behind : (q : Key) (xs ys : Entries) → at_key q (xs ++ ys) ≡ first_of (at_key q xs) (at_key q ys)
at_behind q [] ys = refl
at_behind q (x ∷ xs) ys = go (ties q x.0) (at_behind q xs ys)
  where
    go : (b : Bool) → at_key q (xs ++ ys) ≡ first_of (at_key q xs) (at_key q ys) → cond b (Some x.1) (at_key q (xs ++ ys)) ≡ first_of (cond b (Some x.1) (at_key q xs)) (at_key q ys)
    go true behind = refl
    go false behind = behind

-- entries of another kind don't answer
at_other : (q : Key) (kind : ℕ) (es : Entries) → Each (λ e. e.0.0 ≡ kind) es → (kind == q.0) ≡ false → at_key q es ≡ None
at_other q kind [] own apart = refl
at_other q kind (e ∷ es) own apart = go (ties q e.0) refl (at_other q kind es own.1 apart)
  where
    go : (b : Bool) → ties q e.0 ≡ b → at_key q es ≡ None → cond b (Some e.1) (at_key q es) ≡ None
    go true tie behind =
        let same : q.0 ≡ e.0.0 = ap (λ (k : Key). k.0) (tied q e.0 tie) in
        let here : kind ≡ q.0 = sym own.0 ∙ sym same in
        let no : (kind == q.0) ≡ true = grind (arith, nat_tests, here) in
        let never : true ≡ false = sym no ∙ apart in
        cc
    go false tie behind = behind

-- the second list answers v at the key, and else as the first
abbrev pub Puts : Key → Option (List ℕ) → Entries → Entries → Type 0
Puts key v old new = (q : Key) → at_key q new ≡ cond (ties q key) v (at_key q old)

-- no block is of the kind
abbrev pub all_apart : ℕ → List Block → Bool
all_apart kind blocks = list_all (λ block. not (block.kind == kind)) blocks

none_among : (key q : Key) (blocks : List Block) → all_apart key.0 blocks ≡ true → q ≡ key → at_key q (all_entries blocks) ≡ None
none_among key q [] apart here = refl
none_among key q (block ∷ rest) apart here =
    let parts = free_step (block.kind == key.0) (list_all (λ block. not (block.kind == key.0)) rest) apart in
    let first : at_key q block.entries ≡ None = at_other q block.kind block.entries block.own (ap (λ (k : Key). block.kind == k.0) here ∙ parts.0) in
    at_behind q block.entries (all_entries rest)
    ∙ ap (λ (o : Option (List ℕ)). first_of o (at_key q (all_entries rest))) first
    ∙ none_among key q rest parts.1 here

puts_front : (key : Key) (v : Option (List ℕ)) (old new : Entries) (after : List Block) → all_apart key.0 after ≡ true → Puts key v old new
    → Puts key v (old ++ all_entries after) (new ++ all_entries after)
puts_front key v old new after apart puts q =
    at_behind q new (all_entries after)
    ∙ ap (λ (o : Option (List ℕ)). first_of o (at_key q (all_entries after))) (puts q)
    ∙ go (ties q key) refl v
    ∙ ap (λ (o : Option (List ℕ)). cond (ties q key) v o) (sym (at_behind q old (all_entries after)))
  where
    go : (b : Bool) → ties q key ≡ b → (w : Option (List ℕ)) → first_of (cond b w (at_key q old)) (at_key q (all_entries after)) ≡ cond b w (first_of (at_key q old) (at_key q (all_entries after)))
    go true tie None = none_among key q after apart (tied q key tie)
    go true tie (Some x) = refl
    go false tie w = refl

puts_behind : (key : Key) (v : Option (List ℕ)) (block : Block) (old new : Entries) → (block.kind == key.0) ≡ false → Puts key v old new
    → Puts key v (block.entries ++ old) (block.entries ++ new)
puts_behind key v block old new apart puts q =
    at_behind q block.entries new
    ∙ ap (first_of (at_key q block.entries)) (puts q)
    ∙ go (ties q key) refl
    ∙ ap (λ (o : Option (List ℕ)). cond (ties q key) v o) (sym (at_behind q block.entries old))
  where
    go : (b : Bool) → ties q key ≡ b → first_of (at_key q block.entries) (cond b v (at_key q old)) ≡ cond b v (first_of (at_key q block.entries) (at_key q old))
    go true tie =
        let first : at_key q block.entries ≡ None = at_other q block.kind block.entries block.own (ap (λ (k : Key). block.kind == k.0) (tied q key tie) ∙ apart) in
        ap (λ (o : Option (List ℕ)). first_of o v) first
    go false tie = refl

-- one block changes among the others
pub puts_among : (key : Key) (v : Option (List ℕ)) (before : List Block) (old new : Block) (after : List Block) → all_apart key.0 before ≡ true → all_apart key.0 after ≡ true
    → Puts key v old.entries new.entries → Puts key v (all_entries (before ++ old ∷ after)) (all_entries (before ++ new ∷ after))
puts_among key v [] old new after apart behind puts = puts_front key v old.entries new.entries after behind puts
puts_among key v (block ∷ before) old new after apart behind puts =
    let parts = free_step (block.kind == key.0) (list_all (λ block. not (block.kind == key.0)) before) apart in
    puts_behind key v block (all_entries (before ++ old ∷ after)) (all_entries (before ++ new ∷ after)) parts.0 (puts_among key v before old new after parts.1 behind puts)

-- ---- a record of which there is one at most

-- entries that all have one key give way to what comes there
pub puts_only : (key : Key) (v : Option (List ℕ)) (old new : Entries) → Each (λ e. e.0 ≡ key) old → (q : Key) → at_key q new ≡ cond (ties q key) v None
    → at_key q new ≡ cond (ties q key) v (at_key q old)
puts_only key v old new own q is = is ∙ go (ties q key) refl
  where
    none_else : (es : Entries) → Each (λ e. e.0 ≡ key) es → ties q key ≡ false → at_key q es ≡ None
    none_else [] each apart = refl
    none_else (e ∷ es) each apart = ap (λ (b : Bool). cond b (Some e.1) (at_key q es)) (ap (ties q) each.0 ∙ apart) ∙ none_else es each.1 apart

    go : (b : Bool) → ties q key ≡ b → cond b v None ≡ cond b v (at_key q old)
    go true tie = refl
    go false tie = sym (none_else old own tie)

pub joined_entries : (lists : List (List Row)) → map entry (joined lists) ≡ joined (map (map entry) lists)
joined_entries [] = refl
joined_entries (first ∷ rest) = map_behind first (joined rest) ∙ ap (λ (es : Entries). map entry first ++ es) (joined_entries rest)
  where
    map_behind : (xs ys : List Row) → map entry (xs ++ ys) ≡ map entry xs ++ map entry ys
    map_behind [] ys = refl
    map_behind (x ∷ xs) ys = ap (λ (es : Entries). entry x ∷ es) (map_behind xs ys)
