-- The words of `query` and `schema`: options, which may stand anywhere, and names. An option's value is the next word, or stands in the
-- same one after `=`; after the word `--` all are names.
use Rattle.std.specs.Prelude.{◌≡◌, ◌||◌, ◌==◌, ◌++◌, Bool, ℕ, List, [], ◌∷◌, Option, None, Some, bytes_eq, codes, false, if◌then◌else◌, map}
use Rattle.std.specs.List.{after_first, before_first}
use Rattle.questions.specs.declared.options.Parted.{Parted}
use Rattle.questions.specs.declared.options.Said.{Said}
use Rattle.questions.specs.declared.options.Said.TheVariants as told

abbrev Text : Type 0
Text = List ℕ

-- the word is one of these
abbrev pub is_one_of : Text → List Text → Bool
is_one_of word [] = false
is_one_of word (known ∷ more) = bytes_eq word known || is_one_of word more

-- the word is an option that takes a value
abbrev pub takes_value : Text → Bool
takes_value word = is_one_of word (codes "--columns" ∷ codes "--delimiter" ∷ codes "--number" ∷ codes "--null" ∷ codes "--workers" ∷ codes "--rows" ∷ codes "--format" ∷ codes "--order" ∷ codes "--limit" ∷ [])

-- the word is an option that takes none
abbrev pub is_flag : Text → Bool
is_flag word = is_one_of word (codes "--help" ∷ codes "-h" ∷ codes "--trim" ∷ codes "--lenient-quotes" ∷ codes "--progress" ∷ [])

-- what a word says, or two of them: a name, an option, or one with its value
pub data Item : Type 0 where
  named : Text → Item
  flagged : Text → Item
  valued : Text → Text → Item

abbrev pub is_equals : ℕ → Bool
is_equals b = b == 61

-- what one word says
abbrev pub item : Text → Item
item word =
    if is_flag word then flagged word else (
    if takes_value (before_first is_equals word) then valued (before_first is_equals word) (after_first is_equals word) else named word)

-- and all of them
unfoldable pub items : List Text → List Item
items [] = []
items (word ∷ []) = if bytes_eq word (codes "--") then [] else item word ∷ []
items (word ∷ next ∷ rest) =
    if bytes_eq word (codes "--") then map named (next ∷ rest) else (
    if takes_value word then valued word next ∷ items rest else item word ∷ items (next ∷ rest))

-- the names among them
abbrev pub names_in : List Item → List Text
names_in [] = []
names_in (named text ∷ more) = text ∷ names_in more
names_in (other ∷ more) = names_in more

-- whether an option is among them
abbrev pub has_flag : Text → List Item → Bool
has_flag word [] = false
has_flag word (flagged text ∷ more) = bytes_eq text word || has_flag word more
has_flag word (other ∷ more) = has_flag word more

-- the value that one is given
abbrev pub value_in : Text → List Item → Option Text
value_in word [] = None
value_in word (valued option text ∷ more) = if bytes_eq option word then Some text else value_in word more
value_in word (other ∷ more) = value_in word more

-- what was kept of the words says that
abbrev pub seen : Said → Item
seen (told.Name text) = named text.now
seen (told.Flag text) = flagged text.now
seen (told.Value option text) = valued option.now text.now

abbrev pub items_of : Parted → List Item
items_of parted = map seen parted.said.items

-- the words ask for help
abbrev pub asks_for_help : List Text → Bool
asks_for_help words = has_flag (codes "--help") (items words) || has_flag (codes "-h") (items words)

-- from one to the other a word was taken that is not `--`, with the next one where that is its value, and rest is left of those after it
pub record TakesWord (old new : List Item) (word : Text) (later rest : List Text) : Type 0 where
  pub it : Item
  pub new_is : new ≡ old ++ it ∷ []
  pub says : bytes_eq word (codes "--") ≡ false → items (word ∷ later) ≡ it ∷ items rest
