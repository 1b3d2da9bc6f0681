use Rattle.sat_sessions.proofs.GoodAnswers.{good_answered}
use Rattle.sat_sessions.proofs.laws.good_requests_are_answered.Goals as goal

pub returns : goal.returns
returns c = λ secret start count term told about after history end lawful connects good. good_answered c.heads_decide.ensures.one secret start count term told about after history end lawful connects good
