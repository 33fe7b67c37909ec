use Rattle.std.proofs.Common.{ℕ, List, sym, subst}
use Rattle.path_writer.specs.Named.{AreNamed}
use Rattle.walk_top.proofs.walking.walk_and_write.Goals as goal

pub write_walks-requires : goal.write_walks-requires
write_walks-requires g c =
    let named = c.requires.named in
    record {
      named = subst (λ (walks : List (List ℕ)). AreNamed c.args.ready.names walks) (sym (c.in-Ok.ensures.walks named.0 named.1 named.2)) named.3;
    }
