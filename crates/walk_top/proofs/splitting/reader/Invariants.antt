-- The command has the options that were passed.
use Rattle.std.proofs.Common.{◌≡◌, map, take}
use Rattle.clap.specs.Words.{app_of}
use Rattle.walk_top.specs.WordReader.{reader_app}
use Rattle.walk_top.proofs.splitting.reader.Given as goal

abbrev pub invariant-loop-name : goal.invariant-loop-name
invariant-loop-name l = app_of l.command ≡ reader_app (map (λ n. n.now) (take l.name-index l.options))
