use Rattle.std.proofs.Common.{sym, ◌∙◌}
use Rattle.sat_sessions.proofs.LaneLemmas.{far_on, ran_full, ran_stopped, so_far_more}
use Rattle.sat_sessions.proofs.lanes.serve_lane.Goals as goal

pub returns-then-stops : goal.returns-then-stops
returns-then-stops g c =
    let s = c.session-after.ensures in
    let x = c.session-after.result.session in
    let far = so_far_more _ _ _ _ _ _ _ _ x _ _ _ _ _ _ _ _ c.loop-number.invariant c.in-Conn.ensures.0 c.in-Conn.ensures.1 c.back.ensures s.serves s.number c.reserve.ensures.items c.push_reserved.ensures.items in
    ran_stopped _ _ _ _ _ x _ _ _ _ c.session-after.result.stops far c.push_reserved.ensures.items s.stopped c.if-stops.true

pub returns-then-is_full : goal.returns-then-is_full
returns-then-is_full g c =
    let s = c.session-after.ensures in
    let x = c.session-after.result.session in
    let far = so_far_more _ _ _ _ _ _ _ _ x _ _ _ _ _ _ _ _ c.loop-number.invariant c.in-Conn.ensures.0 c.in-Conn.ensures.1 c.back.ensures s.serves s.number c.reserve.ensures.items c.push_reserved.ensures.items in
    ran_full _ _ _ _ _ x _ _ _ _ _ far c.push_reserved.ensures.items c.if-stops.false (sym c.is_full.ensures ∙ c.if-is_full.true)

pub loop-number-preserved : goal.loop-number-preserved
loop-number-preserved g c =
    let s = c.session-after.ensures in
    let x = c.session-after.result.session in
    let far = so_far_more _ _ _ _ _ _ _ _ x _ _ _ _ _ _ _ _ c.loop-number.invariant c.in-Conn.ensures.0 c.in-Conn.ensures.1 c.back.ensures s.serves s.number c.reserve.ensures.items c.push_reserved.ensures.items in
    far_on _ _ _ _ _ _ _ _ (sym c.is_full.ensures ∙ c.if-is_full.false) c.if-stops.false far
