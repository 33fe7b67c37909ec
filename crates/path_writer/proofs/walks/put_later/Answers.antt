use Rattle.std.proofs.Common.{◌≡◌, ◌≤◌, ℕ, List, ◌++◌, ◌+◌, length, take, drop, map, refl, ◌∙◌, sym, ap, arith}
use Rattle.std.proofs.lemmas.List.{append-nil, length-take-le, length-drop}
use Rattle.std.specs.List.{concat}
use Rattle.std.specs.Prelude.{slice_index}
use Rattle.path_writer.specs.Named.{spaced, later}
use Rattle.path_writer.proofs.WaitingLemmas.{but-all, but-after, front-waiting, front-longer}
use Rattle.path_writer.proofs.TextLemmas.{later-more, later-cut}
use Rattle.path_writer.proofs.walks.put_later.Goals as goal

pub putting-init : goal.putting-init
putting-init g c = record {
  so_far = but-all _ _ _ c.args.block.now refl (append-nil c.args.block.now);
  within = omega arith;
  later = omega arith;
}

-- what is looked up are the ids of the ranks that come next
looked : (f : ℕ → ℕ) (ids xs : List ℕ) (done count n : ℕ) → n ≡ count → done + count ≤ length xs
    → take (length (take n (drop done xs))) ids ≡ map f (take n (drop done xs)) → take count ids ≡ map f (take count (drop done xs))
looked f ids xs done count n e within is =
    let rest : n ≤ length (drop done xs) = rw (length-drop done xs) (omega arith) in
    let long : length (take n (drop done xs)) ≡ count = length-take-le n (drop done xs) rest ∙ e in
    ap (λ k. take k ids) (sym long) ∙ is ∙ ap (λ k. map f (take k (drop done xs))) e

pub putting-preserved : goal.putting-preserved
putting-preserved g c =
    let within : c.putting.done + c.min-count.result ≤ length c.args.ranks.now = let e = c.min-count.ensures in let i = c.putting.invariant.within in omega arith in
    let ids = take c.min-count.result c.look_up.new.ids in
    let read : ids ≡ map (slice_index c.args.names.now) (take c.min-count.result (drop c.putting.done c.args.ranks.now)) =
    looked (slice_index c.args.names.now) c.look_up.new.ids c.args.ranks.now c.putting.done c.min-count.result _ (omega arith) within c.look_up.ensures in
    record {
      so_far = but-after _ _ _ (c.args.block.now ++ later c.args.names.now (take c.putting.done c.args.ranks.now)) c.putting.block (concat (map spaced ids)) _ c.put_ids.new.block
          (later-more c.args.names.now c.args.ranks.now ids c.args.block.now c.putting.done c.min-count.result _ refl read)
          c.putting.invariant.so_far c.in-Ok.ensures.whole;
      within = within;
      later = let e = c.put_ids.ensures.later in omega arith;
    }

pub returns-in-Err-clause-front : goal.returns-in-Err-clause-front
returns-in-Err-clause-front g c =
    let within : c.putting.done + c.min-count.result ≤ length c.args.ranks.now = let e = c.min-count.ensures in let i = c.putting.invariant.within in omega arith in
    let ids = take c.min-count.result c.look_up.new.ids in
    let next = c.putting.done + c.min-count.result in
    let read : ids ≡ map (slice_index c.args.names.now) (take c.min-count.result (drop c.putting.done c.args.ranks.now)) =
    looked (slice_index c.args.names.now) c.look_up.new.ids c.args.ranks.now c.putting.done c.min-count.result _ (omega arith) within c.look_up.ensures in
    front-longer _ _ (c.args.block.now ++ later c.args.names.now (take next c.args.ranks.now)) (later c.args.names.now (drop next c.args.ranks.now)) _
    (later-cut c.args.names.now c.args.ranks.now c.args.block.now next)
    (front-waiting _ _ _ (c.args.block.now ++ later c.args.names.now (take c.putting.done c.args.ranks.now)) c.putting.block (concat (map spaced ids)) _
    (later-more c.args.names.now c.args.ranks.now ids c.args.block.now c.putting.done c.min-count.result next refl read)
    c.putting.invariant.so_far c.in-Err.ensures.front)
