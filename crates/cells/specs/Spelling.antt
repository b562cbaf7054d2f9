-- The tokens that a text spells (ISO/IEC 9075-2:1999, 5.1 to 5.3).
use Rattle.std.specs.Prelude.{◌≡◌, ℕ, ◌≤◌, Bool, true, false, ◌||◌, ◌==◌, List, [], ◌∷◌, ◌++◌, map, length, Some, if◌then◌else◌, codes, slice_index}
use Rattle.std.specs.List.{list_all}
use Rattle.std.specs.Char.{is_ascii_digit, is_ascii_alphabetic, to_ascii_uppercase}
use Rattle.cells.specs.declared.token.Token.{Token}
use Rattle.cells.specs.declared.token.Token.TheVariants.{Word, Number, Quoted, Mark}
use Rattle.cells.specs.declared.token.Mark.{Mark as Sign}
use Rattle.cells.specs.declared.token.Mark.TheVariants.{LeftParen, RightParen, Comma, Asterisk, Equals, NotEquals, LessThanOrEquals, GreaterThanOrEquals, LessThan, GreaterThan}
use Rattle.cells.specs.Integers.{integer_of}
use Rattle.cells.specs.Limits.{text_limit}

-- space, tab, line feed and carriage return
abbrev pub is_blank : ℕ → Bool
is_blank b = b == 32 || b == 9 || b == 10 || b == 13

abbrev pub is_letter : ℕ → Bool
is_letter b = is_ascii_alphabetic b || b == 95

abbrev pub is_in_word : ℕ → Bool
is_in_word b = is_ascii_alphabetic b || b == 95 || is_ascii_digit b

-- a letter or `_`, and then letters, `_` and digits
abbrev pub IsWord : List ℕ → Type 0
IsWord [] = ⊥
IsWord (b ∷ bs) = (is_letter b ≡ true) × (list_all is_in_word bs ≡ true)

-- each `'` twice
abbrev pub doubled : List ℕ → List ℕ
doubled [] = []
doubled (b ∷ bs) = if b == 39 then 39 ∷ 39 ∷ doubled bs else b ∷ doubled bs

abbrev pub sign : Sign → List ℕ
sign LeftParen = codes "("
sign RightParen = codes ")"
sign Comma = codes ","
sign Asterisk = codes "*"
sign Equals = codes "="
sign NotEquals = codes "<>"
sign LessThanOrEquals = codes "<="
sign GreaterThanOrEquals = codes ">="
sign LessThan = codes "<"
sign GreaterThan = codes ">"

-- the bytes are a form of the token
abbrev pub IsForm : Token → List ℕ → Type 0
IsForm (Word name) form = IsWord form × (name ≡ map to_ascii_uppercase form)
IsForm (Number n) form = integer_of form ≡ Some n
IsForm (Quoted text) form = (length text ≤ text_limit) × (form ≡ 39 ∷ (doubled text ++ 39 ∷ []))
IsForm (Mark m) form = form ≡ sign m

-- a byte that may not directly follow the token: the token would be longer, or what follows a number would touch it
abbrev pub is_joined : Token → ℕ → Bool
is_joined (Word name) b = is_in_word b
is_joined (Number n) b = is_in_word b
is_joined (Quoted text) b = b == 39
is_joined (Mark LessThan) b = b == 61 || b == 62
is_joined (Mark GreaterThan) b = b == 61
is_joined (Mark m) b = false

-- nothing joined to the token follows; past the end stands a 0
abbrev pub IsApart : Token → List ℕ → Type 0
IsApart t rest = is_joined t (slice_index rest 0) ≡ false

-- the text begins with the token, and the rest follows
abbrev pub Begins : List ℕ → Token → List ℕ → Type 0
Begins text t rest = (form : List ℕ) × IsForm t form × IsApart t rest × (text ≡ form ++ rest)

-- the bytes at the front that pass, and what follows them
abbrev pub run : (ℕ → Bool) → List ℕ → List ℕ
run p [] = []
run p (b ∷ bs) = if p b then b ∷ run p bs else []

abbrev pub past : (ℕ → Bool) → List ℕ → List ℕ
past p [] = []
past p (b ∷ bs) = if p b then past p bs else b ∷ bs

-- the text without the blanks at its front
abbrev pub without_blanks : List ℕ → List ℕ
without_blanks text = past is_blank text

-- a text that begins with no blank spells the tokens
abbrev pub SpellsRest : List ℕ → List Token → Type 0
SpellsRest text [] = text ≡ []
SpellsRest text (t ∷ ts) = (rest : List ℕ) × Begins text t rest × SpellsRest (without_blanks rest) ts

-- the text spells the tokens, with blanks before, between and after them
abbrev pub Spells : List ℕ → List Token → Type 0
Spells text ts = SpellsRest (without_blanks text) ts
