-- What a question is asked with: the value of each option, as its words give it.
use Rattle.std.specs.Prelude.{◌≡◌, ◌==◌, ◌||◌, ◌∷◌, ℕ, List, [], Option, None, Some, IfSome, bytes_eq, codes, false, if◌then◌else◌, map, option_map}
use Rattle.std.specs.Option.{option_map_or}
use Rattle.cells.specs.Integers.{whole_number_of}
use Rattle.forms.specs.Forms.{form_of}
use Rattle.prepare.specs.Listed.{listed_in, naming_of}
use Rattle.prepare.specs.Words.{name_of}
use Rattle.questions.specs.Options.{Item, has_flag, names_in, value_in}
use Rattle.questions.specs.declared.question.Question.{Question}
use Rattle.questions.specs.declared.question.Wanted.{Wanted}
use Rattle.script.specs.Hows.{default_settings}

-- the byte between two fields where no word names it
abbrev pub comma : ℕ
comma = 44

abbrev one_byte : List ℕ → Option ℕ
one_byte (b ∷ []) = if b == 34 || (b == 10 || b == 13) then None else Some b
one_byte other = None

-- the byte that a word names between two fields: the word tab, or one character that is no quote and no end of a line
abbrev pub delimiter_of : List ℕ → Option ℕ
delimiter_of word = if bytes_eq word (codes "tab") then Some 9 else one_byte word

-- this is chosen of the files
pub record IsWanted (given : List Item) (wanted : Wanted) : Type 0 where
  pub columns : option_map (λ columns. map naming_of columns.items) wanted.columns ≡ option_map listed_in (value_in (codes "--columns") given)
  pub delimiter : option_map_or delimiter_of (value_in (codes "--delimiter") given) (Some comma) ≡ Some wanted.delimiter
  pub number : option_map name_of (value_in (codes "--number") given) ≡ option_map Some wanted.number
  pub null : wanted.null ≡ value_in (codes "--null") given
  pub trims : wanted.trims ≡ has_flag (codes "--trim") given
  pub lenient : wanted.lenient ≡ has_flag (codes "--lenient-quotes") given

-- and this is asked of them: the query is the first of the names, and the files are the others; the answer has no heading
pub record IsQuestion (given : List Item) (question : Question) : Type 0 where
  pub names : question.query.now ∷ question.names.items ≡ names_in given
  pub bare : question.manner.heads ≡ false
  pub form : IfSome (value_in (codes "--format") given) (λ word. form_of word ≡ Some question.manner.form)
  pub limit : option_map whole_number_of (value_in (codes "--limit") given) ≡ option_map Some question.manner.arrangement.limit
  pub rows : option_map_or whole_number_of (value_in (codes "--rows") given) (Some default_settings.rows) ≡ Some question.how.rows
