use Rattle.std.proofs.Common.{rules, ◌≡◌, ◌+◌, length, map, sym, ap, ◌∙◌, subst, arith, Vec, Global, Option}
use Rattle.std.specs.Prelude.{IsSome}
use denote.Param.{param}
use denote.Param.Send.{IsSend, IsSync, sendable}
use mathlib.Core.List.{map-append}
use Rattle.std.proofs.Crossing.{crosses}
use Rattle.turnstile.proofs.desk.Desk.TheSendSync as desk_is
use Rattle.turnstile.proofs.pass.Pass.TheSendSync as pass_is
use Rattle.sat_term.proofs.Crossing.{book_send, keys_sync, posts_send, sheet_send}
use Rattle.sat_book.specs.declared.opening.Origin.{Origin}
use Rattle.sat_sessions.specs.Lanes.{post_view}
use Rattle.sat_sessions.specs.Sessions.{V}
use Rattle.sat_sessions.specs.declared.told.Session.{Session}
use Rattle.sat_term.proofs.Gathering.{done_none, done_more}
use Rattle.sat_term.proofs.Rows.{two_at_least, halved, no_items}
use Rattle.sat_term.proofs.lanes.+fn-work_lanes-join+arg2+work_lanes.Goals as goal

pub returns-in-None-clause-done : goal.returns-in-None-clause-done
returns-in-None-clause-done g t c =
    let s = c.requires.log in
    let view = post_view g.L.Lane.about g.T.Clock.coming g.W.Words.left g.W.Words.faults in
    let old : length c.args.posts.items ≡ 0 = (let a = c.args.posts.ok.0 in let b = c.in-None.ensures.cases.0 in omega arith) in
    let new : length c.pop.new.self.items ≡ 0 = (let a = c.pop.new.self.ok.0 in let b = c.in-None.ensures.cases.1 in omega arith) in
    done_none _ _ c.args.pass _ _ c.args.log (ap (map view) (no_items c.args.posts.items old)) (ap (map view) (no_items c.pop.new.self.items new)) s.0 s.1 s.2

pub split-mine-requires-clause-spare : goal.split-mine-requires-clause-spare
split-mine-requires-clause-spare g t c =
    let one : length c.pop.new.self.items + 1 ≡ length c.args.posts.items = (let a = c.args.posts.ok.0 in let b = c.pop.new.self.ok.0 in let d = c.in-Some.ensures.cases in omega arith) in
    two_at_least (length c.pop.new.self.items) _ _ one c.requires.spare

pub join-done-requires-send-F : goal.join-done-requires-send-F
join-done-requires-send-F g t c κs within =
    let k : IsSend (param 0 g.row.K) = search rules in
    let l : IsSend (param 1 g.row.L) = search rules in
    let m : IsSend (param 2 g.row.T) = search rules in
    let w : IsSend (param 3 g.row.W) = search rules in
    let a : IsSync (param 4 g.row.G) = search rules in
    let r : IsSync (param 5 g.row.R) = search rules in
    search (book_send, desk_is.the_sync, pass_is.the_send, keys_sync, posts_send, sheet_send, crosses, sendable) depth 20

pub join-done-requires-after_bounds : goal.join-done-requires-after_bounds
join-done-requires-after_bounds g t c κs within =
    let one : length c.pop.new.self.items + 1 ≡ length c.args.posts.items = (let a = c.args.posts.ok.0 in let b = c.pop.new.self.ok.0 in let d = c.in-Some.ensures.cases in omega arith) in
    let spare = halved (length c.pop.new.self.items) _ _ _ one c.requires.spare (ap (λ (k : V g.row.K.Denot). k.spare) c.split-mine.ensures.kept) in
    let blank = c.requires.log in (
      (
        search rules,
        (
          (λ a m. m),
          (
            (λ a m. m),
            (
              (λ a m. m),
              (
                (λ a m. m),
                (
                  (λ a m. m),
                  (
                    (λ a m. m),
                    (
                      (λ a m. m),
                      (
                        (
                          search rules,
                          search rules,
                          search rules,
                          search rules,
                          search rules,
                          search rules,
                          search rules,
                          ap (λ (k : V g.row.K.Denot). k.desk) c.split-mine.ensures.kept ∙ c.requires.desk,
                          subst (λ (b : Option (Origin g.row.K.Denot)). IsSome b) (sym (ap (λ (k : V g.row.K.Denot). k.base) c.split-mine.ensures.kept)) c.requires.base,
                          spare,
                          (let f = c.requires.few in omega arith),
                          (blank.0, blank.1, blank.2, (let f = blank.3 in omega arith), (let f = blank.4 in omega arith), (let f = blank.5 in omega arith)),
                        ),
                        search rules,
                      ),
                    ),
                  ),
                ),
              ),
            ),
          ),
        ),
      ),
      ((ap (λ (k : V g.row.K.Denot). k.desk) c.split-mine.ensures.given ∙ c.requires.desk, subst (λ (b : Option (Origin g.row.K.Denot)). IsSome b) (sym (ap (λ (k : V g.row.K.Denot). k.base) c.split-mine.ensures.given)) c.requires.base), search rules),
    )

pub returns-clause-done : goal.returns-clause-done
returns-clause-done g t c =
    let view = post_view g.L.Lane.about g.T.Clock.coming g.W.Words.left g.W.Words.faults in
    let s = c.split-mine.ensures in
    let d = c.join-done.ensures.first.1.1 in
    let ran = c.join-done.ensures.second in
    let one : length c.pop.new.self.items + 1 ≡ length c.args.posts.items = (let a = c.args.posts.ok.0 in let b = c.pop.new.self.ok.0 in let d = c.in-Some.ensures.cases in omega arith) in
    let wide = two_at_least (length c.pop.new.self.items) _ _ one c.requires.spare in
    done_more _ _ c.args.pass _ _ _ _ _ _ _ _ _ _ _ _ _ _ _ c.number-number.result s.kept s.given s.none c.number-number.ensures.number wide d ran c.join-pass.ensures
    c.push_reserved-2.ensures.items
    (ap (map view) c.in-Some.ensures.items ∙ map-append view c.pop.new.self.items _)
    (ap (map (λ (v : Vec Session Global). v.items)) c.push_reserved-3.ensures.items ∙ map-append (λ (v : Vec Session Global). v.items) _ _)
    c.push_reserved-4.ensures.items
    (ap (map view) c.push_reserved.ensures.items ∙ map-append view _ _)
