-- The rules throughout a history, and how segments grow in it.
use Rattle.std.proofs.Common.{◌≡◌, ℕ, ◌<◌, ◌≤◌, Bool, true, false, List, [], ◌∷◌, ◌++◌, Some, refl, sym, ap, subst, ◌∙◌, arith}
use Rattle.std.specs.Prelude.{if◌then◌else◌}
use Rattle.std.proofs.lemmas.Bool.Decides.{nat_tests}
use Rattle.segment_core.specs.Record.{SegmentRecord}
use Rattle.machine_step.specs.Tables.{Tables, segment_at}
use Rattle.machine_calls.specs.Replies.{is_lost}
use Rattle.machine_step.specs.Step.{after}
use Rattle.machine_step.specs.Bounds.{IsValid}
use Rattle.machine_step.specs.Closed.{StaysClosed}
use Rattle.machine_step.proofs.Steady.{grows_self, grows_trans}
use Rattle.machine_step.proofs.Paid.{closed_self}
use Rattle.machine_step.proofs.Validity.{Follows}
use Rattle.machine_step.proofs.Fits.{found_below}
use Rattle.machine_step.proofs.StepLemmas.{follows_step}
use Rattle.machine_history.specs.History.{Said, taken, replay, IsRight, IsLegal}

closed_then : (a b c : Tables) → a.marks.month.0 ≤ b.marks.month.0 → StaysClosed a b → StaysClosed b c → StaysClosed a c
closed_then a b c le p q = record {
  sums = λ node month lt. q.sums node month (omega (arith, lt, le)) ∙ p.sums node month lt;
  statements = λ place s at. q.statements place s (p.statements place s at);
}

follows_said : (t : Tables) (said : Said) → IsValid t → IsRight t said → Follows t (taken t said)
follows_said t said v right = go (is_lost said.reply)
  where
    go : (b : Bool) → Follows t (if b then t else after t said.call)
    go true = record { valid = v; grows = grows_self t.marks.segment t; closed = closed_self t }
    go false = follows_step t said.call v right.formed

pub follows_all : (h : List Said) (t : Tables) → IsValid t → IsLegal t h → Follows t (replay t h)
follows_all [] t v legal = record { valid = v; grows = grows_self t.marks.segment t; closed = closed_self t }
follows_all (said ∷ h) t v legal =
    let first = follows_said t said v legal.0 in
    let rest = follows_all h (taken t said) first.valid legal.1 in
    let later = first.grows.later in
    record {
      valid = rest.valid;
      grows = grows_trans t.marks.segment (taken t said).marks.segment t (taken t said) (replay (taken t said) h) later.segment first.grows rest.grows;
      closed = closed_then t (taken t said) (replay (taken t said) h) later.month first.closed rest.closed;
    }

pub replay-append : (h more : List Said) (t : Tables) → replay t (h ++ more) ≡ replay (replay t h) more
replay-append [] more t = refl
replay-append (said ∷ h) more t = replay-append h more (taken t said)

pub legal-append : (h more : List Said) (t : Tables) → IsLegal t (h ++ more) → IsLegal t h × IsLegal (replay t h) more
legal-append [] more t legal = (tt, legal)
legal-append (said ∷ h) more t legal = let rest = legal-append h more (taken t said) legal.1 in ((legal.0, rest.0), rest.1)

-- from valid tables, a segment that is found later with the same version is the same
pub same_later : (t : Tables) (h : List Said) → IsValid t → IsLegal t h → (id : ℕ) (a b : SegmentRecord) → segment_at t.segments id ≡ Some a → segment_at (replay t h).segments id ≡ Some b → b.version ≡ a.version → b ≡ a
same_later t h v legal id a b at later version =
    let grows = (follows_all h t v legal).grows in
    let low : id < t.marks.segment = let below = found_below t v id a at in grind (arith, nat_tests, below) in
    let has = grows.segments id b low later in
    let same : has.before ≡ a = let two : Some has.before ≡ Some a = sym has.at ∙ at in cc in
    has.next.same (version ∙ ap (λ (s : SegmentRecord). s.version) (sym same)) ∙ same

pub equal_versions : (t : Tables) (h more : List Said) → IsValid t → IsLegal t (h ++ more) → (id : ℕ) (a b : SegmentRecord)
    → segment_at (replay t h).segments id ≡ Some a → segment_at (replay t (h ++ more)).segments id ≡ Some b → b.version ≡ a.version → b ≡ a
equal_versions t h more v legal id a b at later version =
    let parts = legal-append h more t legal in
    let here = (follows_all h t v parts.0).valid in
    same_later (replay t h) more here parts.1 id a b at (ap (λ (x : Tables). segment_at x.segments id) (sym (replay-append h more t)) ∙ later) version

pub equal_law : (t : Tables) (h more : List Said) (id : ℕ) (a b : SegmentRecord) → IsValid t → IsLegal t (h ++ more)
    → segment_at (replay t h).segments id ≡ Some a → segment_at (replay t (h ++ more)).segments id ≡ Some b → b.version ≡ a.version → b ≡ a
equal_law t h more id a b v legal = equal_versions t h more v legal id a b

pub valid_law : (t : Tables) (h : List Said) → IsValid t → IsLegal t h → IsValid (replay t h)
valid_law t h v legal = (follows_all h t v legal).valid

pub closed_law : (t : Tables) (h more : List Said) → IsValid t → IsLegal t (h ++ more) → StaysClosed (replay t h) (replay t (h ++ more))
closed_law t h more v legal =
    let parts = legal-append h more t legal in
    let later = (follows_all more (replay t h) (follows_all h t v parts.0).valid parts.1).closed in
    subst (λ (x : Tables). StaysClosed (replay t h) x) (sym (replay-append h more t)) later
