-- Files read one after another.
use Rattle.std.proofs.Common.{ℕ, ◌+◌, ◌≡◌, List, [], ◌∷◌, ◌++◌, ◌<◌, Option, ap, append_assoc, drop, length, refl, slice_index_or, sym, ◌∙◌, take}
use Rattle.std.proofs.lemmas.List.{take-append-drop, take_more}
use Rattle.std.specs.List.{AllByRecursion}
use Rattle.olap.specs.Folders.{AreTold, IsFirstUnread, Tells}

-- one file more
pub told_more : (file : List ℕ → Option (List ℕ)) (names read : List (List ℕ)) (name bytes : List ℕ) → AreTold file names read → Tells (file name) bytes →
    AreTold file (names ++ (name ∷ [])) (read ++ (bytes ∷ []))
told_more file [] [] name bytes before one = (one, tt)
told_more file [] (b ∷ read) name bytes before one = absurd before
told_more file (n ∷ names) [] name bytes before one = absurd before
told_more file (n ∷ names) (b ∷ read) name bytes before one = (before.0, told_more file names read name bytes before.1 one)

-- the next file
pub told_next : (file : List ℕ → Option (List ℕ)) (names : List (List ℕ)) (i : ℕ) (item name : List ℕ) (read new : List (List ℕ)) (bytes : List ℕ) →
    AreTold file (take i names) read → i < length names → item ≡ slice_index_or names i item → name ≡ item → new ≡ read ++ (bytes ∷ []) → Tells (file name) bytes →
    AreTold file (take (i + 1) names) new
told_next file names i item name read new bytes before within here same grown one =
    let longer : take (i + 1) names ≡ take i names ++ (name ∷ []) = take_more names i item within ∙ ap (λ n. take i names ++ (n ∷ [])) (sym here ∙ sym same) in
    rw (longer, grown) (told_more file (take i names) read name bytes before one)

all_with : (P : List ℕ → Type 0) (names : List (List ℕ)) (name : List ℕ) → AllByRecursion P names → P name → AllByRecursion P (names ++ (name ∷ []))
all_with P [] name all one = (one, tt)
all_with P (n ∷ names) name all one = (all.0, all_with P names name all.1 one)

module _ (P Q : List ℕ → Type 0) (names : List (List ℕ)) (i : ℕ) (item name : List ℕ) (read : AllByRecursion P (take i names))
    (within : i < length names) (here : item ≡ slice_index_or names i item) (same : name ≡ item) where
  one_longer : take (i + 1) names ≡ take i names ++ (name ∷ [])
  one_longer = take_more names i item within ∙ ap (λ n. take i names ++ (n ∷ [])) (sym here ∙ sym same)

  -- what held of those before holds of the next, too
  pub read_next : P name → AllByRecursion P (take (i + 1) names)
  read_next one = rw one_longer (all_with P (take i names) name read one)

  -- the next is the first for which it does not hold
  pub first_unread : Q name → IsFirstUnread P Q names name
  first_unread refused = record {
    before = take i names;
    later = drop (i + 1) names;
    parted = sym (take-append-drop (i + 1) names) ∙ ap (λ t. t ++ drop (i + 1) names) one_longer ∙ append_assoc (take i names) (name ∷ []) (drop (i + 1) names);
    read = read;
    refused = refused;
  }

-- the first of all
pub first_unread_alone : (P Q : List ℕ → Type 0) (names : List (List ℕ)) (name : List ℕ) → Q name → IsFirstUnread P Q (name ∷ names) name
first_unread_alone P Q names name refused = record { before = []; later = names; parted = refl; read = tt; refused = refused }

-- one more before it was read
pub first_unread_behind : (P Q : List ℕ → Type 0) (names : List (List ℕ)) (first name : List ℕ) → P first → IsFirstUnread P Q names name → IsFirstUnread P Q (first ∷ names) name
first_unread_behind P Q names first name one f =
    record { before = first ∷ f.before; later = f.later; parted = ap (λ ns. first ∷ ns) f.parted; read = (one, f.read); refused = f.refused }
