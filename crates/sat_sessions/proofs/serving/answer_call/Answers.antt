use Rattle.sat_sessions.proofs.Answering.{answers_entered, answers_full}
use Rattle.sat_sessions.proofs.Legality.{sayable_entered}
use Rattle.sat_sessions.proofs.serving.answer_call.Goals as goal

pub speak-sent-requires : goal.speak-sent-requires
speak-sent-requires g c = sayable_entered c.args.pass c.args.call c.in-Done.answered.reply c.in-Done.answered.place c.in-Done.pass c.requires.formed.asked c.in-Done.ensures.done

pub returns-in-Done : goal.returns-in-Done
returns-in-Done g c =
    answers_entered _ c.args.pass c.args.call c.in-Done.answered.reply c.in-Done.answered.place c.in-Done.pass _ _ _ _ c.in-Done.ensures.done c.stops_at-stops.ensures c.speak-sent.ensures

pub returns-in-TermFull : goal.returns-in-TermFull
returns-in-TermFull g c = answers_full _ c.args.pass c.args.call c.in-TermFull.ticket c.in-TermFull.pass _ _ _ c.in-TermFull.ensures.full c.speak-sent-in-TermFull.ensures
