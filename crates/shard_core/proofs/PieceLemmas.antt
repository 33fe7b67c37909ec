-- Prints in pieces, found by their index.
use Rattle.std.proofs.Common.{◌≡◌, ℕ, ◌+◌, ◌<◌, List, [], ◌∷◌, ◌++◌, length, get_or, take, drop, Some, Vec, Global, sym, ap, ◌∙◌, arith}
use Rattle.std.specs.List.{slice_get}
use Rattle.std.proofs.lemmas.List.{length-append, take_more, take-append-drop}
use Rattle.std.proofs.lemmas.List.Concat.{flat_map-append, get_or-flat_map}
use Rattle.std.proofs.lemmas.Option.{slice_get_read}
use Rattle.walk_model.specs.declared.results.Print.{Print}
use Rattle.shard_core.specs.Pieces.{all_of}

-- the prints of a piece stand behind those of the pieces before it
pub found : (pieces : List (Vec Print Global)) (i left index : ℕ) (piece : Vec Print Global) (x : Print)
    → i < length pieces → piece ≡ get_or pieces i piece → left < length piece.items → x ≡ get_or piece.items left x
    → length (all_of (take i pieces)) + left ≡ index → slice_get (all_of pieces) index ≡ Some x
found pieces i left index piece x low is inside value here =
    let items : Vec Print Global → List Print = λ p. p.items in
    let cut : all_of pieces ≡ (all_of (take i pieces) ++ (piece.items ++ [])) ++ all_of (drop (i + 1) pieces) =
    ap all_of (sym (take-append-drop (i + 1) pieces))
    ∙ flat_map-append items (take (i + 1) pieces) (drop (i + 1) pieces)
    ∙ ap (λ front. front ++ all_of (drop (i + 1) pieces))
    (ap all_of (take_more pieces i piece low) ∙ flat_map-append items (take i pieces) (get_or pieces i piece ∷ []) ∙ ap (λ (p : Vec Print Global). all_of (take i pieces) ++ (p.items ++ [])) (sym is)) in
    let room : index < length (all_of pieces) =
    rw cut (omega (
      arith,
      inside,
      here,
      length-append (all_of (take i pieces) ++ (piece.items ++ [])) (all_of (drop (i + 1) pieces)),
      length-append (all_of (take i pieces)) (piece.items ++ []),
      length-append piece.items [],
    )) in
    let at : get_or (all_of pieces) (length (all_of (take i pieces)) + left) x ≡ get_or (get_or pieces i piece).items left x =
    get_or-flat_map items pieces i left piece x low (rw (sym is) inside) in
    slice_get_read (all_of pieces) (length (all_of pieces)) index x (omega arith) room
    (value ∙ ap (λ (p : Vec Print Global). get_or p.items left x) is ∙ sym at ∙ ap (λ n. get_or (all_of pieces) n x) here)
