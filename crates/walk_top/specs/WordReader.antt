-- The command that `clap` is given, and what is read of its matches.
use Rattle.std.specs.Prelude.{◌≡◌, true, List, [], ◌∷◌, map, Option, Some, None, codes, option_map, unwrap_or}
use Rattle.clap.specs.Walk.{Rule}
use Rattle.clap.specs.Simple.{App, new_app, new_rule}
use Rattle.clap.specs.Matches.{first_value, found_of, matched_of, raw_values}
use Rattle.clap.specs.declared.parser.matches.ArgMatches.{ArgMatches}
use Rattle.clap.specs.declared.builder.action.ArgAction.TheVariants.{Set, Append}
use Rattle.walk_top.specs.WordRules.{Said, Text, knows, said, value_of}

-- the id of the argument for places; no option has this name
abbrev pub place_id : Text
place_id = codes "PLACES"

-- an argument for places, one in each use, and one for an option
abbrev pub new_place : Rule
new_place = record (new_rule place_id) { action = Some Append }

abbrev pub new_option : Text → Rule
new_option name = record (new_rule name) { long = Some name; action = Some Set }

-- the command without arguments, and with those for places and for options of these names
abbrev pub bare : App
bare = record (new_app (codes "words")) {
  top = record (new_app (codes "words")).top {
    no_binary_name = true;
    disable_help_flag = true;
    disable_version_flag = true;
  };
}

abbrev pub reader_app : List Text → App
reader_app names = record bare { top = record bare.top { rules = new_place ∷ map new_option names } }

-- the places in the matches, and the value of an option
abbrev pub places_in : ArgMatches → List Text
places_in m = unwrap_or (option_map raw_values (matched_of (found_of m) place_id)) []

abbrev pub value_in_matches : Text → ArgMatches → Option Text
value_in_matches name m = first_value (found_of m) name

-- the matches hold what the words say; without matches, the words say nothing
abbrev pub Reads : List Text → List Text → Option ArgMatches → Type 0
Reads names words None = said names words ≡ None
Reads names words (Some m) = (s : Said) × (said names words ≡ Some s) × (places_in m ≡ s.places)
    × ((name : Text) → knows names name ≡ true → value_in_matches name m ≡ value_of name s)
