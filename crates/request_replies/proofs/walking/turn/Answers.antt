use Rattle.shard_core.proofs.AbreastLemmas.{turn-halves, way-ready}
use Rattle.request_replies.proofs.walking.turn.Goals as goal

pub returns : goal.returns
returns g c =
    turn-halves c.args.here.now.run c.args.here.now.part c.args.lane.now c.decide.new.self c.go.new.self
    (way-ready c.args.here.now.run c.args.here.now.part c.args.lane.now c.requires.on_way)
    (record {
      data_is = c.decide.ensures.data;
      number = c.decide.ensures.number;
      start = c.decide.ensures.start;
      within = c.decide.ensures.within;
      goes = c.decide.ensures.goes;
      stands = c.decide.ensures.stands;
    })
    (record { data_is = c.go.ensures.data; within = c.go.ensures.within; stands = c.go.ensures.stands })
