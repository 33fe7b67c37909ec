-- Which ring it is, and the two rings of a client.
use Rattle.std.specs.declared.alloc.Global.{Global}
use denote.RawPtr.{Ptr}
use Rattle.rtrb.specs.Shared.{Names}
use Rattle.rtrb.specs.declared.producer.Producer.{Producer}
use Rattle.rtrb.specs.declared.consumer.Consumer.{Consumer}

-- which ring it is
pub record Ring : Type 0 where
  pub words : Ptr
  pub slots : Ptr
  pub names : Names
  pub heap : Global

-- the two rings of a client: its asks go one way and the answers come the other
pub record Line : Type 0 where
  pub asks : Ring
  pub answers : Ring

module _ {T P : Type 0} where
  -- the ring that a producer pushes to
  abbrev pub producer_ring : Producer T Global P → Ring
  producer_ring p = record { words = p.end.words; slots = p.end.slots; names = p.end.names; heap = p.end.heap }

  -- the ring that a consumer pops of
  abbrev pub consumer_ring : Consumer T Global P → Ring
  consumer_ring c = record { words = c.end.words; slots = c.end.slots; names = c.end.names; heap = c.end.heap }
