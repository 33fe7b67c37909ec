use Rattle.request_replies.proofs.writing.put_walk.Goals as goal

pub returns-in-None-clause-front : goal.returns-in-None-clause-front
returns-in-None-clause-front g c = rw c.in-None.is c.put_text.ensures.front
