use Rattle.sat_sessions.proofs.Answering.{serves_heard}
use Rattle.sat_sessions.proofs.GoodAnswers.{good_session}
use Rattle.sat_sessions.proofs.serving.session.Goals as goal

pub returns-clause-serves : goal.returns-clause-serves
returns-clause-serves g c = serves_heard _ c.args.pass _ _ _ _ c.listen-heard.result _ _ _ c.listen-heard.ensures.hears c.listen-heard.ensures.took c.listen-heard.ensures.words_faults c.answer_to-replied.ensures

pub returns-clause-good : goal.returns-clause-good
returns-clause-good g c =
    let s = serves_heard _ c.args.pass _ _ _ _ c.listen-heard.result _ _ _ c.listen-heard.ensures.hears c.listen-heard.ensures.took c.listen-heard.ensures.words_faults c.answer_to-replied.ensures in
    good_session c.good_requests_are_answered.ensures _ c.args.pass.base _ _ _ _ _ _ s.lawful s.connects
