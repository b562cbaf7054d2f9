-- Columns that fields name, one after another.
use Rattle.std.proofs.Common.{refl, ap, sym, subst, ◌∙◌, ◌≡◌, ◌<◌, ◌+◌, arith, ℕ, Bool, true, false, ◌&&◌, ◌||◌, List, [], ◌∷◌, ◌++◌, length, map, take, get_or}
use Rattle.std.proofs.lemmas.List.{length-map, map-append, take_more, take-map}
use Rattle.std.proofs.lemmas.List.Folds.{list_all-append}
use Rattle.std.proofs.lemmas.Map.Keys.{IsDistinct-push}
use Rattle.std.proofs.lemmas.Str.{IsUtf8-from_is_utf8, is_utf8-from_IsUtf8}
use Rattle.std.specs.Borrow.{Bor}
use Rattle.std.specs.Cmp.Lexicographic.{nat_list_eq_equiv}
use Rattle.std.specs.List.{IsDistinct, list_all, list_any}
use Rattle.std.specs.Prelude.{IsUtf8, bytes_eq}
use Rattle.std.specs.Str.{is_utf8}
use Rattle.records.specs.Records.{Fields}
use Rattle.prepare.specs.Listed as spec
use Rattle.prepare.specs.Listed.{IsAgain, IsNoText, Naming, naming_of, words_in}
use Rattle.prepare.specs.declared.choice.Chosen.{Chosen}
use Rattle.prepare.proofs.KeysLemmas.{unlike_earlier}

pub is_text : (bytes text : List ℕ) → text ≡ bytes → IsUtf8 bytes → is_utf8 bytes ≡ true
is_text bytes text same is = is_utf8-from_IsUtf8 bytes is

pub no_text : (bytes : List ℕ) → (IsUtf8 bytes → ⊥) → is_utf8 bytes ≡ false
no_text bytes none = go (is_utf8 bytes) refl where
  go : (b : Bool) → is_utf8 bytes ≡ b → b ≡ false
  go true e = absurd (none (IsUtf8-from_is_utf8 bytes e))
  go false e = refl

-- the first fields name these columns
pub record ReachedColumns (f : List ℕ → Naming) (names : Fields) (at : ℕ) (columns : List Chosen) : Type 0 where
  pub named : map naming_of columns ≡ take at (map f names)
  pub texts : list_all spec.is_text (take at (map f names)) ≡ true

pub columns_none : (f : List ℕ → Naming) (names : Fields) (columns : List Chosen) → columns ≡ [] → ReachedColumns f names 0 columns
columns_none f names columns none = record { named = ap (map naming_of) none; texts = refl }

one_text : (before here : Bool) → before ≡ true → (before && (here && true)) ≡ here
one_text true true e = refl
one_text true false e = refl
one_text false here e = cc

module _ (f : List ℕ → Naming) (bs : List (Bor (List ℕ))) (at : ℕ) (d : Bor (List ℕ)) (within : at < length bs) where
  next : take (at + 1) (map f (map (λ b. b.now) bs)) ≡ take at (map f (map (λ b. b.now) bs)) ++ f (get_or bs at d).now ∷ []
  next =
      take-map f (at + 1) (map (λ b. b.now) bs)
      ∙ ap (map f) (take-map (λ b. b.now) (at + 1) bs
      ∙ ap (map (λ b. b.now)) (take_more bs at d within)
      ∙ map-append (λ b. b.now) (take at bs) (get_or bs at d ∷ []))
      ∙ map-append f (map (λ b. b.now) (take at bs)) ((get_or bs at d).now ∷ [])
      ∙ ap (λ front. front ++ f (get_or bs at d).now ∷ []) (sym (take-map f at (map (λ b. b.now) bs) ∙ ap (map f) (take-map (λ b. b.now) at bs)))

  module _ (columns : List Chosen) (reached : ReachedColumns f (map (λ b. b.now) bs) at columns) where
    texts_next : list_all spec.is_text (take (at + 1) (map f (map (λ b. b.now) bs))) ≡ is_utf8 (f (get_or bs at d).now).name
    texts_next =
        ap (list_all spec.is_text) next
        ∙ list_all-append spec.is_text (take at (map f (map (λ b. b.now) bs))) (f (get_or bs at d).now ∷ [])
        ∙ one_text (list_all spec.is_text (take at (map f (map (λ b. b.now) bs)))) (is_utf8 (f (get_or bs at d).now).name) reached.texts

    -- the next field names a column
    pub columns_more : (column : Chosen) → (naming_of column ≡ f (get_or bs at d).now) × (is_utf8 (f (get_or bs at d).now).name ≡ true) → ReachedColumns f (map (λ b. b.now) bs) (at + 1) (columns ++ column ∷ [])
    columns_more column made = record {
      named = map-append naming_of columns (column ∷ [])
          ∙ ap (λ front. front ++ naming_of column ∷ []) reached.named
          ∙ ap (λ naming. take at (map f (map (λ b. b.now) bs)) ++ naming ∷ []) made.0
          ∙ sym next;
      texts = texts_next ∙ made.1;
    }

    -- its name is no text
    pub columns_fault : is_utf8 (f (get_or bs at d).now).name ≡ false → IsNoText (map f (map (λ b. b.now) bs)) at
    columns_fault other = record {
      within = omega (arith, within, length-map (map (λ (b : Bor (List ℕ)). b.now) bs) f, length-map bs (λ (b : Bor (List ℕ)). b.now));
      before = reached.texts;
      later = texts_next ∙ other;
    }

-- ---- words that differ

any_word : (word : List ℕ) (cs : List Chosen) → list_any (λ c. bytes_eq word c.word) cs ≡ list_any (bytes_eq word) (words_in cs)
any_word word [] = refl
any_word word (c ∷ cs) = ap (λ b. bytes_eq word c.word || b) (any_word word cs)

module _ (cs : List Chosen) (at : ℕ) (c : Chosen) (within : at < length cs) (is : c ≡ get_or cs at c) (distinct : IsDistinct bytes_eq (words_in (take at cs))) where
  longer : words_in (take (at + 1) cs) ≡ words_in (take at cs) ++ c.word ∷ []
  longer = ap words_in (take_more cs at c within) ∙ map-append (λ d. d.word) (take at cs) (get_or cs at c ∷ []) ∙ ap (λ d. words_in (take at cs) ++ d.word ∷ []) (sym is)

  pub words_more : list_any (λ d. bytes_eq c.word d.word) (take at cs) ≡ false → IsDistinct bytes_eq (words_in (take (at + 1) cs))
  words_more new = subst (IsDistinct bytes_eq) (sym longer)
      (IsDistinct-push nat_list_eq_equiv (words_in (take at cs)) c.word distinct (sym (any_word c.word (take at cs)) ∙ new))

  pub word_again : list_any (λ d. bytes_eq c.word d.word) (take at cs) ≡ true → IsAgain cs at
  word_again again = record {
    within = within;
    before = distinct;
    again = λ still.
        let unlike = unlike_earlier bytes_eq nat_list_eq_equiv (words_in (take at cs)) c.word [] (subst (IsDistinct bytes_eq) longer still) in
        let both : true ≡ false = sym again ∙ any_word c.word (take at cs) ∙ unlike in
        cc;
  }
