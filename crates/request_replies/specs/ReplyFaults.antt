-- Why not all replies were written.
use Rattle.std.specs.Prelude.{ℕ}
use Rattle.walk_io.specs.Causes.{Rose}
use Rattle.request_replies.specs.declared.replying.ReplyFault.{ReplyFault}
use Rattle.request_replies.specs.declared.replying.ReplyFault.TheVariants as is

-- a write failed, or there was no memory
abbrev pub IsReplyFault : ℕ → ℕ → ReplyFault → Type 0
IsReplyFault before now is.Failed = Rose before now
IsReplyFault before now is.Memory = Unit {0}
