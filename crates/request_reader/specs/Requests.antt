-- The requests of a text.
use Rattle.std.specs.Prelude.{ℕ, nat_le, if◌then◌else◌, List, [], ◌∷◌, length, Option, Some, None, Result, Ok, Err}
use Rattle.std.specs.List.{flat_map}
use Rattle.walk_model.specs.declared.faults.Why.{Why}
use Rattle.walk_model.specs.Digits.{number_of}
use Rattle.edge_reader.specs.Lines.{lines_of, without_return, fields}
use Rattle.request_reader.specs.declared.requests.Request.{Request}

-- the greatest stream, start and length
abbrev pub most_stream : ℕ
most_stream = 18446744073709551615

abbrev pub most_start : ℕ
most_start = 4294967295

abbrev pub most_steps : ℕ
most_steps = 65536

-- the number that was read, if there is one
abbrev pub if_number : Result ℕ Why → Option ℕ
if_number (Ok n) = Some n
if_number (Err why) = None

-- the number of a field, which has at most twenty digits and a greatest value
unfoldable pub field_number : ℕ → List ℕ → Option ℕ
field_number most field = if nat_le (length field) 20 then if_number (number_of most field) else None

-- a request by its numbers, where all three are there
abbrev pub request_by : Option ℕ → Option ℕ → Option ℕ → Option Request
request_by (Some stream) (Some start) (Some steps) = Some (record { stream = stream; start = start; length = steps })
request_by _ _ _ = None

-- the request of a line with these fields, or none where it is bad: stream, start and length
abbrev pub request_of_fields : List (List ℕ) → Option Request
request_of_fields (stream ∷ start ∷ steps ∷ []) =
    request_by (field_number most_stream stream) (field_number most_start start) (field_number most_steps steps)
request_of_fields _ = None

-- a line without fields is skipped; any other has one request, good or bad
abbrev pub requests_of_fields : List (List ℕ) → List (Option Request)
requests_of_fields [] = []
requests_of_fields (f ∷ fs) = request_of_fields (f ∷ fs) ∷ []

-- the requests of a line
abbrev pub line_requests : List ℕ → List (Option Request)
line_requests line = requests_of_fields (fields (without_return line))

-- the requests of a text, in the order of its lines
unfoldable pub requests_of : List ℕ → List (Option Request)
requests_of text = flat_map line_requests (lines_of text)
