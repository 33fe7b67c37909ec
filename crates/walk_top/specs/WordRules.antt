-- What words say: places in order, and options by name.
use Rattle.std.specs.Prelude.{ℕ, Bool, ◌==◌, not, if◌then◌else◌, List, [], ◌∷◌, filter, find, Option, Some, None, option_map}
use Rattle.std.specs.List.{list_any, before_first, after_first}
use Rattle.std.specs.Str.{bytes_eq}

abbrev pub Text : Type 0
Text = List ℕ

-- what a word is, where no `--` came before it; `Other` is a word such as `-x`
pub data Word : Type 0 where
  Dashes : Word
  Place : Word
  Named : (name : Text) (value : Option Text) → Word
  Other : Word

-- what follows an `=` (61), if there is one
abbrev pub value_in : Text → Option Text
value_in text = if list_any (λ b. b == 61) text then Some (after_first (λ b. b == 61) text) else None

-- after two dashes: nothing, or a name, with the value that follows an `=`
abbrev pub after_dashes : Text → Word
after_dashes [] = Dashes
after_dashes (b ∷ bs) = Named (before_first (λ x. x == 61) (b ∷ bs)) (value_in (b ∷ bs))

-- a word that begins with a dash (45) is no place, but for the dash alone
abbrev pub kind_of_word : Text → Word
kind_of_word [] = Place
kind_of_word (a ∷ []) = Place
kind_of_word (a ∷ b ∷ rest) = if a == 45 then (if b == 45 then after_dashes rest else Other) else Place

-- the places in order, and the options with their values
pub record Said : Type 0 where
  pub places : List Text
  pub options : List (Text × Text)

-- the value of an option, if it is given
abbrev pub value_of : Text → Said → Option Text
value_of name s = option_map (λ o. o.1) (find (λ o. bytes_eq o.0 name) s.options)

-- one more place, before all others
abbrev pub and_place : Text → Option Said → Option Said
and_place word None = None
and_place word (Some s) = Some (record s { places = word ∷ s.places })

-- one more option
abbrev pub and_option : Text → Text → Option Said → Option Said
and_option name value None = None
and_option name value (Some s) = Some (record s { options = (name, value) ∷ s.options })

-- whether these names have this one, and what is left of them without it
abbrev pub knows : List Text → Text → Bool
knows names name = list_any (λ n. bytes_eq n name) names

abbrev pub without : Text → List Text → List Text
without name names = filter (λ n. not (bytes_eq n name)) names

-- what the words after a word say: by the options that may still be given, and the one that waits for
-- its value
abbrev pub After : Type 0
After = List Text → Option Text → Option Said

-- a word, and the words after it, of which `after` says what they say: after `--` each is a place
abbrev pub by_word : List Text → Text → List Text → After → Word → Option Said
by_word names word rest after Dashes = Some (record { places = rest; options = [] })
by_word names word rest after Place = and_place word (after names None)
by_word names word rest after (Named name (Some value)) =
    if knows names name then and_option name value (after (without name names) None) else None
by_word names word rest after (Named name None) = if knows names name then after names (Some name) else None
by_word names word rest after Other = None

-- a word in the place of an option's value, which isn't an option itself
abbrev pub by_value : List Text → Text → Text → After → Word → Option Said
by_value names name word after Place = and_option name word (after (without name names) None)
by_value names name word after _ = None

-- what words say, by the options that may still be given, and the one that waits for its value
unfoldable pub said_by : List Text → Option Text → List Text → Option Said
said_by names None [] = Some (record { places = []; options = [] })
said_by names (Some name) [] = None
said_by names None (word ∷ rest) = by_word names word rest (λ ns waiting. said_by ns waiting rest) (kind_of_word word)
said_by names (Some name) (word ∷ rest) = by_value names name word (λ ns waiting. said_by ns waiting rest) (kind_of_word word)

-- what words say, where options have these names, if they can be read
abbrev pub said : List Text → List Text → Option Said
said names words = said_by names None words
