-- Words that are parted one after another.
use Rattle.std.proofs.Common.{◌≡◌, ◌∷◌, ◌++◌, ◌∙◌, ℕ, List, [], ap, append-nil, append_assoc, arith, false, length, map, refl, sym, true}
use Rattle.std.specs.Prelude.{String, bytes_eq, codes, string_bytes}
use Rattle.std.specs.declared.alloc.Global.{Global}
use Rattle.questions.specs.Options.{Item, TakesWord, item, items, named, takes_value, valued}

abbrev Text : Type 0
Text = List ℕ

-- what a word and those after it say
module _ (word : Text) where
  pub items_value : (next : Text) (rest : List Text) → takes_value word ≡ true → bytes_eq word (codes "--") ≡ false → items (word ∷ next ∷ rest) ≡ valued word next ∷ items rest
  unfolding items
  items_value next rest value other = rw (other, value) refl

  pub items_one : (later : List Text) → takes_value word ≡ false → bytes_eq word (codes "--") ≡ false → items (word ∷ later) ≡ item word ∷ items later
  unfolding items
  items_one [] none other = rw other refl
  items_one (next ∷ rest) none other = rw (other, none) refl

  items_named : (later : List Text) → bytes_eq word (codes "--") ≡ true → items (word ∷ later) ≡ map named later
  unfolding items
  items_named [] dashes = rw dashes refl
  items_named (next ∷ rest) dashes = rw dashes refl

  -- of all words, this is what those said that were taken, and what is left says
  module _ (words left later : List Text) (old new : List Item) (so_far : items words ≡ old ++ items left) (first : left ≡ word ∷ later) where
    pub all_named : bytes_eq word (codes "--") ≡ true → new ≡ old ++ map named later → new ≡ items words
    all_named dashes is = is ∙ ap (λ more. old ++ more) (sym (ap items first ∙ items_named later dashes)) ∙ sym so_far

    pub more_said : (rest : List Text) → bytes_eq word (codes "--") ≡ false → TakesWord old new word later rest → items words ≡ new ++ items rest
    more_said rest other took = so_far ∙ ap (λ more. old ++ more) (ap items first ∙ took.says other) ∙ sym (append_assoc old (took.it ∷ []) (items rest)) ∙ ap (λ said. said ++ items rest) (sym took.new_is)

-- where none is left, all was said
pub none_left : (words : List Text) (left : List (String Global)) (said : List Item) → items words ≡ said ++ items (map string_bytes left) → length left ≡ 0 → said ≡ items words
unfolding items
none_left words [] said so_far none = sym (append-nil said) ∙ sym so_far
none_left words (word ∷ left) said so_far none = absurd (omega arith)
