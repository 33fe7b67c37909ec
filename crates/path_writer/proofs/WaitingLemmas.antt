-- What sinks gain while the end of a text waits.
use Rattle.std.proofs.Common.{◌≡◌, ℕ, List, [], ◌++◌, Option, ap, sym, ◌∙◌, append_assoc}
use Rattle.std.proofs.lemmas.List.{append-nil}
use Rattle.std.specs.Prelude.{Result, Ok, Err, OnOk, OnErr}
use Rattle.std.specs.Io.KnownBytes.{append_known}
use Rattle.path_writer.specs.Gains.{GainsFront, GainsBut}
use Rattle.path_writer.proofs.GainLemmas.{append_known-none, append_known-twice}

-- nothing is gained, and all waits
pub but-all : (old new : Option (List ℕ)) (text waiting : List ℕ) → new ≡ old → text ≡ waiting → GainsBut old new text waiting
but-all old new text waiting same is = record { front = []; is = is; gained = same ∙ sym (append_known-none old) }

-- all is gained, and nothing waits
pub but-nothing : (old new : Option (List ℕ)) (text waiting : List ℕ) → new ≡ append_known old text → waiting ≡ [] → GainsBut old new text waiting
but-nothing old new text waiting gained none =
    record { front = text; is = sym (append-nil text) ∙ ap (λ l. text ++ l) (sym none); gained = gained }

-- a piece more waits
pub but-more : (old new : Option (List ℕ)) (text waiting piece more : List ℕ) → GainsBut old new text waiting → more ≡ waiting ++ piece
    → GainsBut old new (text ++ piece) more
but-more old new text waiting piece more but is = record {
  front = but.front;
  is = ap (λ l. l ++ piece) but.is ∙ append_assoc but.front waiting piece ∙ ap (λ l. but.front ++ l) (sym is);
  gained = but.gained;
}

-- a piece more after a text
pub but-after : (old mid new : Option (List ℕ)) (done waiting piece whole rest : List ℕ) → whole ≡ done ++ piece → GainsBut old mid done waiting
    → GainsBut mid new (waiting ++ piece) rest → GainsBut old new whole rest
but-after old mid new done waiting piece whole rest is first next = record {
  front = first.front ++ next.front;
  is = is ∙ ap (λ l. l ++ piece) first.is ∙ append_assoc first.front waiting piece ∙ ap (λ l. first.front ++ l) next.is
      ∙ sym (append_assoc first.front next.front rest);
  gained = next.gained ∙ ap (λ o. append_known o next.front) first.gained ∙ append_known-twice old first.front next.front;
}

-- the front of a text is in front of a longer one
pub front-longer : (old new : Option (List ℕ)) (text more whole : List ℕ) → whole ≡ text ++ more → GainsFront old new text → GainsFront old new whole
front-longer old new text more whole is front = record {
  front = front.front;
  rest = front.rest ++ more;
  is = is ∙ ap (λ l. l ++ more) front.is ∙ append_assoc front.front front.rest more;
  gained = front.gained;
}

-- the front of what waits and a piece more
pub front-waiting : (old mid new : Option (List ℕ)) (done waiting piece whole : List ℕ) → whole ≡ done ++ piece → GainsBut old mid done waiting
    → GainsFront mid new (waiting ++ piece) → GainsFront old new whole
front-waiting old mid new done waiting piece whole is first next = record {
  front = first.front ++ next.front;
  rest = next.rest;
  is = is ∙ ap (λ l. l ++ piece) first.is ∙ append_assoc first.front waiting piece ∙ ap (λ l. first.front ++ l) next.is
      ∙ sym (append_assoc first.front next.front next.rest);
  gained = next.gained ∙ ap (λ o. append_known o next.front) first.gained ∙ append_known-twice old first.front next.front;
}

-- what waited is gained at the end
pub gained-waiting : (old mid new : Option (List ℕ)) (done waiting : List ℕ) → GainsBut old mid done waiting → new ≡ append_known mid waiting
    → new ≡ append_known old done
gained-waiting old mid new done waiting but next =
    next ∙ ap (λ o. append_known o waiting) but.gained ∙ append_known-twice old but.front waiting ∙ ap (append_known old) (sym but.is)

-- what follows from a fact on what is well
pub ok-so : {A E P Q : Type 0} (r : Result A E) → (P → Q) → OnOk r P → OnOk r Q
ok-so (Ok x) so p = so p
ok-so (Err e) so p = tt

-- and from one on what isn't
pub err-so : {A E P Q : Type 0} (r : Result A E) → (P → Q) → OnErr r P → OnErr r Q
err-so (Ok x) so p = tt
err-so (Err e) so p = so p
