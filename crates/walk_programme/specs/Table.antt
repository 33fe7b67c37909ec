-- The keys of a programme and what they hold.
use Rattle.std.specs.Prelude.{ℕ, Bool, true, false, ◌||◌, if◌then◌else◌, List, codes, Option, Some, None, Result, Ok}
use Rattle.std.specs.Option.{ok_or}
use Rattle.std.specs.Ordering.{nat_cmp, is_lt}
use Rattle.std.specs.Cmp.Lexicographic.{slice_cmp}
use Rattle.std.specs.Str.{bytes_eq}
use Rattle.toml.specs.Data.{Data, Members, no_members, member, get_member, as_bool}
use Rattle.walk_model.specs.Ratio.{never}
use Rattle.walk_model.specs.declared.faults.Key.{Key}
use Rattle.walk_model.specs.declared.faults.Key.TheVariants.{Length, Walkers, From, Weighted, Undirected, Retries, Stop, Restart, Scheme, P, Q}
use Rattle.walk_model.specs.declared.faults.PlanFault.{PlanFault}
use Rattle.walk_model.specs.declared.faults.PlanFault.TheVariants.{BadValue}
use Rattle.walk_programme.specs.declared.values.Values.{Values}
use Rattle.walk_programme.specs.Faults.{and_then}
use Rattle.walk_programme.specs.Judges.{whole, walkers, chance, factor, scheme, told}

-- a key that a programme may have
abbrev pub is_known : List ℕ → Bool
is_known k =
    bytes_eq k (codes "length") || bytes_eq k (codes "walkers") || bytes_eq k (codes "from")
    || bytes_eq k (codes "weighted") || bytes_eq k (codes "undirected") || bytes_eq k (codes "retries")
    || bytes_eq k (codes "stop") || bytes_eq k (codes "restart") || bytes_eq k (codes "scheme")
    || bytes_eq k (codes "p") || bytes_eq k (codes "q")

-- the lesser of a key and another one, where there is another one
abbrev pub lesser : List ℕ → Option (List ℕ) → Option (List ℕ)
lesser k None = Some k
lesser k (Some l) = if is_lt (slice_cmp nat_cmp l k) then Some l else Some k

-- the least key by its bytes that a programme may not have
unfoldable pub least_unknown : Members → Option (List ℕ)
least_unknown no_members = None
least_unknown (member k d ms) = if is_known k then least_unknown ms else lesser k (least_unknown ms)

-- what a key holds by a judge of its values, with what stands for it where it is missing
unfoldable pub judged : {X : Type 0} → Key → X → (Data → Option X) → Option Data → Result X PlanFault
judged key missing judge None = Ok missing
judged key missing judge (Some d) = ok_or (judge d) (BadValue key)

-- what the keys hold, each with its stand-in and its judge, or the first that holds a bad value;
-- the stand-in of `length` is never met, since a table without it is refused before
unfoldable pub values_of : Members → Result Values PlanFault
values_of t =
    and_then (judged Length 0 (whole 1048576) (get_member (codes "length") t)) (λ length.
    and_then (judged Walkers None walkers (get_member (codes "walkers") t)) (λ walkers.
    and_then (judged From None (told (whole 4294967295)) (get_member (codes "from") t)) (λ from.
    and_then (judged Weighted true as_bool (get_member (codes "weighted") t)) (λ weighted.
    and_then (judged Undirected false as_bool (get_member (codes "undirected") t)) (λ undirected.
    and_then (judged Retries 32 (whole 1000) (get_member (codes "retries") t)) (λ retries.
    and_then (judged Stop never chance (get_member (codes "stop") t)) (λ stop.
    and_then (judged Restart never chance (get_member (codes "restart") t)) (λ restart.
    and_then (judged Scheme None (told scheme) (get_member (codes "scheme") t)) (λ scheme.
    and_then (judged P None (told factor) (get_member (codes "p") t)) (λ p.
    and_then (judged Q None (told factor) (get_member (codes "q") t)) (λ q.
    Ok (record {
      length = length;
      walkers = walkers;
      from = from;
      weighted = weighted;
      undirected = undirected;
      retries = retries;
      stop = stop;
      restart = restart;
      scheme = scheme;
      p = p;
      q = q;
    }))))))))))))
