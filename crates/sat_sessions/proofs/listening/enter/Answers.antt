use Rattle.sat_sessions.proofs.listening.enter.Goals as goal

-- its bytes are below 256, whatever the moment and the words are
pub returns-then-draw-clause-bytes : goal.returns-then-draw-clause-bytes
returns-then-draw-clause-bytes g c = c.wish_has_bytes.ensures c.of-now.result c.of-words.result
