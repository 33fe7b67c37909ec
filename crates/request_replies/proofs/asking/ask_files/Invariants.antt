use Rattle.std.proofs.Common.{◌≡◌, ◌<◌, ◌≤◌, ℕ, [], length, map, get_or, Vec}
use Rattle.std.specs.Prelude.{Option}
use Rattle.std.specs.declared.alloc.Global.{Global}
use Rattle.request_reader.specs.declared.requests.Request.{Request}
use Rattle.walk_desk.specs.declared.asks.WalkAnswer.{WalkAnswer}
use Rattle.walk_desk.specs.Seats.{Seat, places_from}
use Rattle.request_replies.specs.Answered.{good_ones, request_in}
use Rattle.request_replies.proofs.asking.ask_files.Given as goal

abbrev pub invariant-files : goal.invariant-files
invariant-files g l = record {
  count : length l.clients.items ≡ length l.files;
  taken : length l.taken.items ≡ l.k;
  places : map (λ (s : Seat). s.place) l.clients.items ≡ places_from 0 (length l.files);
  done : (j : ℕ) (s : Seat) (f : Vec (Option Request) Global) (t : Vec WalkAnswer Global) → j < l.k
      → (map request_in (get_or l.clients.items j s).asks ≡ good_ones (get_or l.files j f).items)
      × ((get_or l.clients.items j s).answers ≡ (get_or l.taken.items j t).items);
  fresh : (j : ℕ) (s : Seat) → l.k ≤ j → j < length l.files
      → ((get_or l.clients.items j s).asks ≡ []) × ((get_or l.clients.items j s).answers ≡ []);
}
