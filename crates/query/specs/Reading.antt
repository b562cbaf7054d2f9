-- What a reader answers: the only phrase with which the tokens begin, or that there is none.
use Rattle.query.specs.Grammar.{AND, OR, SpellsMark}
use Rattle.std.specs.Prelude.{Bool, ◌≡◌, ◌≢◌, ◌⊎◌, List, ◌∷◌, Result, Ok, Err}
use Rattle.cells.specs.declared.token.Token.{Token}
use Rattle.cells.specs.declared.token.Mark.{Mark as Sign}
use Rattle.cells.specs.declared.token.Token.TheVariants.{Mark}
use Rattle.cells.specs.declared.token.Mark.TheVariants.{LeftParen}
use Rattle.cells.specs.declared.refused.Refused.{Refused}
use Rattle.cells.specs.declared.refused.Refused.TheVariants.{OutOfMemory, QuerySyntax}

-- the token of a sign
abbrev pub sign : Sign → Token
sign m = Mark m

-- the tokens do not begin with the token
abbrev pub BeginsNot : Token → List Token → Type 0
BeginsNot t ts = (rest : List Token) → ts ≢ t ∷ rest

-- the tokens do not begin with the word and "("
abbrev pub BeginsNotCall : Token → List Token → Type 0
BeginsNotCall t ts = (rest : List Token) → ts ≢ t ∷ Mark LeftParen ∷ rest

-- anything may follow
abbrev pub Any : List Token → Type 0
Any rest = Unit {0}

-- what may follow a list: no separator, and what may follow an element
pub record Ends (sep : Token) (Apart : List Token → Type 0) (rest : List Token) : Type 0 where
  pub no_more : BeginsNot sep rest
  pub apart : Apart rest

-- what may follow an AND chain, and an OR chain
abbrev pub AfterAnd : List Token → Type 0
AfterAnd = Ends AND Any

abbrev pub AfterOr : List Token → Type 0
AfterOr = Ends OR AfterAnd

-- the tokens begin with the phrase, and what follows does not make it longer
pub record Starts {X : Type 0} (Spells : List Token → X → List Token → Type 0) (Apart : List Token → Type 0) (ts : List Token) (x : X) (rest : List Token) : Type 0 where
  pub spells : Spells ts x rest
  pub apart : Apart rest

-- this phrase and what follows it, and no others
pub record Found {X : Type 0} (S : X → List Token → Type 0) (x : X) (rest : List Token) : Type 0 where
  pub is : S x rest
  pub only : (y : X) (r : List Token) → S y r → (y ≡ x) × (r ≡ rest)

-- no phrase
pub record Nothing {X : Type 0} (S : X → List Token → Type 0) : Type 0 where
  pub none : (y : X) (r : List Token) → S y r → ⊥

-- what a reader answers: the phrase that is found, by its view, or bad syntax where there is none, unless memory is wanting
abbrev pub ReadsPhrase : {X Y : Type 0} → (Y → X × List Token) → (X → List Token → Type 0) → Result Y Refused → Type 0
ReadsPhrase view S (Ok y) = Found S (view y).0 (view y).1
ReadsPhrase view S (Err e) = (e ≡ OutOfMemory) ⊎ ((e ≡ QuerySyntax) × Nothing S)

-- whether the tokens begin with the mark, and what follows it or else the tokens themselves
pub record Marked (mark : Token) (us : List Token) (stands : Bool) (vs : List Token) : Type 0 where
  pub spells : SpellsMark mark us stands vs
  pub only : (s : Bool) (r : List Token) → SpellsMark mark us s r → BeginsNot mark r → (s ≡ stands) × (r ≡ vs)
