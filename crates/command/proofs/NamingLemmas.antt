-- A script in pieces, and what stays of it where no part has a name.
use Rattle.std.proofs.Common.{◌≡◌, ◌≤◌, ◌<◌, ℕ, ◌+◌, ◌-◌, ◌==◌, Bool, true, false, cond, not, Option, Some, None, List, [], ◌∷◌, ◌++◌, length, map, option_map, take, drop, get_or, refl, sym, ap, ◌∙◌, append_assoc, arith}
use Rattle.std.proofs.Common.{append-nil, inl, inr}
use Rattle.std.proofs.lemmas.Bool.{cases_Bool}
use Rattle.std.proofs.lemmas.Bool.Decides.{nat_tests}
use Rattle.std.proofs.lemmas.List.Folds.{list_any-append}
use Rattle.std.proofs.lemmas.List.{length-take-le, map-append, take-append-drop, take_more, take_rest}
use Rattle.std.proofs.lemmas.List.Splits.{join_with_byte-slice_split, length-slice_split, slice_split_first}
use Rattle.std.proofs.lemmas.Slice.Eq.{bytes_eq-Decides}
use Rattle.std.proofs.Math.Seq.{take-length}
use Rattle.std.specs.Fmt.{decimal}
use Rattle.std.specs.List.{join_with_byte, list_all, list_any, onto_first, position, position_or_len, before_first, after_first, prefix_len, slice_split}
use Rattle.std.specs.Option.{option_map_or}
use Rattle.std.specs.Prelude.{bytes_eq, codes, is_none, nat_lt, slice_index}
use Rattle.std.specs.Str.Lines.{strip_carriage_return}
use Rattle.command.specs.declared.naming.Parts.{Parts}
use Rattle.command.specs.Naming.{AreDifferent, AreNamed, TakesPart, has_name, is_name, part_named, resolved, resolved_line, resolved_listing, resolved_word}

abbrev Text : Type 0
Text = List ℕ

-- ---- pieces

-- a place that is found is below the length
first_place : (a n at : ℕ) → cond (nat_lt a n) (Some a) None ≡ Some at → (a < n) × (a ≡ at)
first_place a n at e = grind (arith, nat_tests)

-- a place that is not found is at the length or above
no_place : (a n : ℕ) → cond (nat_lt a n) (Some a) None ≡ None → n ≤ a
no_place a n e = grind (arith, nat_tests)

-- the piece before the first such byte, and the others
pub cut_first : (c : ℕ) (text : Text) (at : ℕ) → position (λ b. b == c) text ≡ Some at → slice_split (λ b. b == c) text ≡ take at text ∷ slice_split (λ b. b == c) (take (length text - (at + 1)) (drop (at + 1) text))
cut_first c text at e =
    let p = first_place (position_or_len (λ b. b == c) text) (length text) at e in
    let within : position_or_len (λ b. b == c) text < length text = p.0 in
    rw take_rest (rw p.1 at (slice_split_first (λ b. b == c) text 0 within))

no_cut : (b : Bool) (x : ℕ) (xs : Text) (n : ℕ) (pieces : List Text) → length (x ∷ xs) ≤ cond (not b) (1 + n) 0 → (length xs ≤ n → pieces ≡ xs ∷ []) →
    cond b ([] ∷ pieces) (onto_first x pieces) ≡ (x ∷ xs) ∷ []
no_cut true x xs n pieces h ih = absurd (omega arith)
no_cut false x xs n pieces h ih = rw (ih (omega arith)) refl

one_piece : (c : ℕ) (text : Text) → length text ≤ position_or_len (λ b. b == c) text → slice_split (λ b. b == c) text ≡ text ∷ []
one_piece c [] h = refl
one_piece c (x ∷ xs) h = no_cut (x == c) x xs (position_or_len (λ b. b == c) xs) _ h (one_piece c xs)

-- a text without such a byte is one piece
pub cut_none : (c : ℕ) (text : Text) → position (λ b. b == c) text ≡ None → slice_split (λ b. b == c) text ≡ text ∷ []
cut_none c text e = one_piece c text (no_place _ _ e)

-- ---- `NAME=FILE`

pub not_below : (a n : ℕ) → a ≡ n → cond (nat_lt a n) (Some a) None ≡ None
not_below a n e = grind (arith, nat_tests)

pub below : (a n : ℕ) → a < n → cond (nat_lt a n) (Some a) None ≡ Some a
below a n h = grind (arith, nat_tests)

pub no_part : (word : Text) → position_or_len (λ b. b == 61) word ≡ length word → part_named word ≡ None
no_part word e = rw (not_below _ _ e) refl

module _ (word name file : Text) (before : name ≡ before_first (λ b. b == 61) word) (behind : file ≡ after_first (λ b. b == 61) word)
    (within : position_or_len (λ b. b == 61) word < length word) where
  named : (b : Bool) → is_name name ≡ b → part_named word ≡ cond b (Some (name, file)) None
  named b is = rw (below _ _ within, sym before, sym behind, is) refl

  pub a_part : is_name name ≡ true → part_named word ≡ Some (name, file)
  a_part is = named true is

  pub no_name : is_name name ≡ false → part_named word ≡ None
  no_name is = named false is

-- ---- pieces again

-- a piece that others follow
joined_first : (c : ℕ) (f : Text → Text) (piece : Text) (pieces : List Text) → 0 < length pieces → join_with_byte c (map f (piece ∷ pieces)) ≡ f piece ++ (c ∷ join_with_byte c (map f pieces))
joined_first c f piece [] some = absurd (omega arith)
joined_first c f piece (next ∷ pieces) some = refl

module _ (c : ℕ) (f : Text → Text) (all text more left : Text) (so_far : text ++ join_with_byte c (map f (slice_split (λ b. b == c) left)) ≡ all) where
  -- one piece more was written, and the byte after it
  pub pieces_more : (piece later : Text) → slice_split (λ b. b == c) left ≡ piece ∷ slice_split (λ b. b == c) later → more ≡ (text ++ f piece) ++ c ∷ []
      → more ++ join_with_byte c (map f (slice_split (λ b. b == c) later)) ≡ all
  pieces_more piece later parted is =
      let some : 0 < length (slice_split (λ b. b == c) later) = omega (arith, length-slice_split (λ b. b == c) later) in
      let rest : Text = join_with_byte c (map f (slice_split (λ b. b == c) later)) in
      ap (λ front. front ++ rest) is
      ∙ append_assoc (text ++ f piece) (c ∷ []) rest
      ∙ append_assoc text (f piece) (c ∷ rest)
      ∙ ap (λ tail. text ++ tail) (sym (ap (λ pieces. join_with_byte c (map f pieces)) parted ∙ joined_first c f piece (slice_split (λ b. b == c) later) some))
      ∙ so_far

-- ---- where no part has a name

module _ (names : List (Option Text)) (unnamed : list_all is_none names ≡ true) where
  none_passes : (word : Text) (some : List (Option Text)) → list_all is_none some ≡ true → prefix_len (λ n. not (has_name word n)) some ≡ length some
  none_passes word [] none = refl
  none_passes word (None ∷ some) none = omega (arith, none_passes word some none)
  none_passes word (Some name ∷ some) none = absurd cc

  word_stays : (word : Text) → resolved_word names word ≡ word
  word_stays word = ap (λ (place : Option ℕ). option_map_or decimal (option_map (λ p. p + 1) place) word) (not_below _ _ (none_passes word names unnamed))

  all_stay : (f : Text → Text) → ((piece : Text) → f piece ≡ piece) → (pieces : List Text) → map f pieces ≡ pieces
  all_stay f stays [] = refl
  all_stay f stays (piece ∷ pieces) = ap (λ p. p ∷ map f pieces) (stays piece) ∙ ap (λ ps. piece ∷ ps) (all_stay f stays pieces)

  joined_stays : (c : ℕ) (f : Text → Text) → ((piece : Text) → f piece ≡ piece) → (text : Text) → join_with_byte c (map f (slice_split (λ b. b == c) text)) ≡ text
  joined_stays c f stays text = ap (join_with_byte c) (all_stay f stays (slice_split (λ b. b == c) text)) ∙ join_with_byte-slice_split c text

  stripped : (b : Bool) (text : Text) (n : ℕ) → n ≤ length text → cond b (take n text) text ++ drop (length (cond b (take n text) text)) text ≡ text
  stripped true text n within = ap (λ k. take n text ++ drop k text) (length-take-le n text within) ∙ take-append-drop n text
  stripped false text n within = ap (λ t. t ++ drop (length text) text) (sym (take-length text)) ∙ take-append-drop (length text) text

  listing_stays : (listing : Text) → resolved_listing names listing ≡ listing
  listing_stays listing =
      ap (λ words. words ++ drop (length (strip_carriage_return listing)) listing) (joined_stays 32 (resolved_word names) word_stays (strip_carriage_return listing))
      ∙ stripped (slice_index listing (length listing - 1) == 13) listing (length listing - 1) (omega arith)

  begun : (line : Text) (b : Bool) → bytes_eq (take 5 line) (codes "load ") ≡ b → option_map_or (λ listing. codes "load " ++ resolved_listing names listing) (cond b (Some (drop 5 line)) None) line ≡ line
  begun line true e = ap (λ listing. codes "load " ++ listing) (listing_stays (drop 5 line)) ∙ ap (λ front. front ++ drop 5 line) (sym ((bytes_eq-Decides (take 5 line) (codes "load ")).0 e)) ∙ take-append-drop 5 line
  begun line false e = refl

  line_stays : (line : Text) → resolved_line names line ≡ line
  line_stays line = begun line (bytes_eq (take 5 line) (codes "load ")) refl

  -- the script stays
  pub script_stays : (script : Text) → resolved names script ≡ script
  script_stays script = joined_stays 10 (resolved_line names) line_stays script

-- ---- parts that words name

-- ---- names that differ

none_different : {A : Type 0} (files : List A) → AreDifferent (map (λ file. None) files)
none_different [] = tt
none_different (file ∷ files) = none_different files

pub none_named : (files : List Text) (names : List (Option Text)) → names ≡ map (λ file. None) files → AreNamed files [] files names
none_named files names is = record {
  pairs = [];
  each = refl;
  files_are = sym (append-nil files);
  names_are = is ∙ sym (append-nil (map (λ file. None) files));
  different = rw is (none_different files);
}

other_name : (m n : Text) → bytes_eq m n ≡ false → bytes_eq n m ≡ false
other_name m n differ = elim (cases_Bool (bytes_eq n m)) [
  | inl same ↦ let is : n ≡ m = (bytes_eq-Decides n m).0 same in absurd (let bad : bytes_eq m m ≡ false = rw is at differ in let good : bytes_eq m m ≡ true = rw is at same in cc)
  | inr other ↦ other
]

-- one more name, which none has
different_more : (names : List (Option Text)) (name : Text) → AreDifferent names → list_any (has_name name) names ≡ false → AreDifferent (names ++ Some name ∷ [])
different_more [] name all none = (refl, tt)
different_more (None ∷ names) name all none = different_more names name all none
different_more (Some m ∷ names) name all none = elim (cases_Bool (bytes_eq m name)) [
  | inl same ↦ absurd (let bad : true ≡ false = rw same at none in cc)
  | inr other ↦
      let rest : list_any (has_name name) names ≡ false = rw other at none in
      (list_any-append (has_name m) names (Some name ∷ []) ∙ rw (all.0, other_name m name other) refl, different_more names name all.1 rest)
]

-- one more word names a part
pub named_more : (unnamed words : List Text) (i : ℕ) (item word : Text) (old new : Parts) → AreNamed unnamed (take i words) old.files.items old.names.items → i < length words → item ≡ get_or words i item → word ≡ item
    → TakesPart old new word → AreNamed unnamed (take (i + 1) words) new.files.items new.names.items
named_more unnamed words i item word old new so_far within here same took = record {
  pairs = so_far.pairs ++ took.pair ∷ [];
  each = ap (map part_named) (take_more words i item within ∙ ap (λ w. take i words ++ w ∷ []) (sym here ∙ sym same)) ∙ map-append part_named (take i words) (word ∷ [])
      ∙ ap (λ front. front ++ part_named word ∷ []) so_far.each ∙ ap (λ last. map Some so_far.pairs ++ last ∷ []) took.is ∙ sym (map-append Some so_far.pairs (took.pair ∷ []));
  files_are = took.files ∙ ap (λ files. files ++ took.pair.1 ∷ []) so_far.files_are ∙ append_assoc unnamed (map (λ p. p.1) so_far.pairs) (took.pair.1 ∷ [])
      ∙ ap (λ files. unnamed ++ files) (sym (map-append (λ p. p.1) so_far.pairs (took.pair ∷ [])));
  names_are = took.names ∙ ap (λ names. names ++ Some took.pair.0 ∷ []) so_far.names_are ∙ append_assoc (map (λ file. None) unnamed) (map (λ p. Some p.0) so_far.pairs) (Some took.pair.0 ∷ [])
      ∙ ap (λ names. map (λ file. None) unnamed ++ names) (sym (map-append (λ p. Some p.0) so_far.pairs (took.pair ∷ [])));
  different = rw took.names (different_more old.names.items took.pair.0 so_far.different took.fresh);
}
