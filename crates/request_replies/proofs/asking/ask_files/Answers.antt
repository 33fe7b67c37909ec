use Rattle.std.proofs.Common.{◌≡◌, ◌≢◌, ◌⊎◌, ◌<◌, ◌≤◌, ◌+◌, ◌++◌, ◌∷◌, [], ℕ, List, Option, Vec, length, map, get_or, set, refl, ap, sym, subst, ◌∙◌, inl, inr, arith, length-append}
use Rattle.std.specs.declared.alloc.Global.{Global}
use Rattle.std.proofs.lemmas.List.{get_or_default, get_or-set_same, get_or-set_other, length-set}
use Rattle.std.proofs.lemmas.Bool.{cases_eq}
use Rattle.std.proofs.Math.Seq.{map-set_same}
use Rattle.request_reader.specs.declared.requests.Request.{Request}
use Rattle.walk_desk.specs.declared.asks.WalkAnswer.{WalkAnswer}
use Rattle.walk_desk.specs.Opening.{lines_of, capacity_of}
use Rattle.walk_desk.specs.Seats.{Seat, new_seat, new_seats, places_from}
use Rattle.walk_desk.specs.Answers.{answers_from}
use Rattle.walk_desk.proofs.PlaceLaws.{seats-length, seats-places}
use Rattle.request_replies.specs.declared.engine.PartEngine.{PartEngine}
use Rattle.request_replies.specs.Answered.{good_ones, request_in}
use Rattle.request_replies.specs.PartWalks.{part_walk}
use Rattle.request_replies.proofs.SessionLaws.{answers-all, seats-fresh, push-at, push-below, zip-at, zip-length}
use Rattle.request_replies.proofs.asking.ask_files.Goals as goal

pub files-init : goal.files-init
files-init g c =
    let n = length c.args.files.now in
    let count : length g.L.DeskName.lines ≡ n = ap length c.requires.rings ∙ c.requires.count in
    let seats : c.in_ok-desk.clients.items ≡ new_seats (capacity_of c.args.rings) 0 n = c.in_ok-desk.ensures.clients ∙ ap (new_seats (capacity_of c.args.rings) 0) count in
    record {
      count = ap length seats ∙ seats-length (capacity_of c.args.rings) 0 n;
      taken = ap length c.new-taken.ensures.items;
      places = ap (map (λ (s : Seat). s.place)) seats ∙ seats-places (capacity_of c.args.rings) 0 n;
      done = λ j s f t low. absurd (omega arith);
      fresh = λ j s high low. subst (λ (l : List Seat). ((get_or l j s).asks ≡ []) × ((get_or l j s).answers ≡ [])) (sym seats) (seats-fresh (capacity_of c.args.rings) 0 n j s low);
    }

pub files-preserved : goal.files-preserved
files-preserved g c =
    let n = length c.args.files.now in
    let k = c.files.k in
    let xs : List Seat = c.files.clients.items in
    let old : Seat = c.index_mut.result.now in
    let new : Seat = c.ask_all.new.client in
    let inv = c.files.invariant in
    let low : k < n = omega arith in
    let there : k < length xs = (let count = inv.count in omega (arith, count, low)) in
    let at : old ≡ get_or xs k old = c.index_mut.ensures.value in
    let ts : List (Vec WalkAnswer Global) = c.files.taken.items in
    let answers : Vec WalkAnswer Global = c.in_ok-answers.answers in
    let more : c.push.new.self.items ≡ ts ++ answers ∷ [] = c.in_ok-push.ensures.items in
    let file : (f : Vec (Option Request) Global) → c.as_slice.result.now ≡ (get_or c.args.files.now k f).items =
    λ f. c.as_slice.ensures.value ∙ ap (λ (v : Vec (Option Request) Global). v.items) (c.index-files-k.is ∙ get_or_default c.args.files.now k c.index-files-k.result f low) in
    record {
      count = length-set xs k new ∙ inv.count;
      taken = ap length more ∙ length-append ts (answers ∷ []) ∙ ap (λ m. m + 1) inv.taken;
      places = map-set_same (λ (s : Seat). s.place) xs k new old (c.in_ok-answers.ensures.place ∙ ap (λ (s : Seat). s.place) at) ∙ inv.places;
      done = λ j s f t less. elim (cases_eq j k) [
        | inl same ↦ rw (same, get_or-set_same xs k new s there)
            (c.in_ok-answers.ensures.asks ∙ ap good_ones (file f), c.in_ok-answers.ensures.answers ∙ ap (λ (v : Vec WalkAnswer Global). v.items) (sym (push-at ts c.push.new.self.items answers t k more inv.taken)))
        | inr other ↦
            (let below : j < k = omega (arith, less, other) in
            let held : j < length ts = (let count = inv.taken in omega (arith, below, count)) in
            let was = inv.done j s f t below in
            rw (get_or-set_other xs k j new s other)
            (was.0, was.1 ∙ ap (λ (v : Vec WalkAnswer Global). v.items) (sym (push-below ts c.push.new.self.items answers t j more held))))
      ];
      fresh = λ j s high few.
          (let other : j ≢ k = λ same. omega (arith, high, same) in
          let was = inv.fresh j s (omega (arith, high)) few in
          rw (get_or-set_other xs k j new s other) was);
    }

pub returns : goal.returns
returns g c =
    let files = c.args.files.now in
    let inv = c.files.invariant in
    let end : c.files.k ≡ length files = omega arith in
    let zip = c.in_ok-left.ensures in
    record {
      taken_count = inv.taken ∙ end;
      left_count = zip-length _ c.files.clients.items c.in_ok-left.left.items zip ∙ inv.count;
      each = λ k f t l low.
          (let d : Seat = new_seat 0 0 in
          let s : Seat = get_or c.files.clients.items k d in
          let there : k < length c.files.clients.items = (let count = inv.count in omega (arith, count, low)) in
          let done = inv.done k d f t (omega (arith, end, low)) in
          let one = zip-at _ c.files.clients.items c.in_ok-left.left.items k d l zip there in
          answers-all (part_walk c.args.engine.names.now c.args.engine.here) (get_or files k f).items s.asks (get_or c.files.taken.items k t).items s.answers (get_or c.in_ok-left.left.items k l).items
          done.0 done.1
          (subst (λ (e : PartEngine). s.answers ++ (get_or c.in_ok-left.left.items k l).items ≡ answers_from (λ a. part_walk e.names.now e.here (request_in a)) 0 s.asks) c.in_ok-desk.ensures.desk.0 one));
    }
