-- The numbers of a listing, and the parts that they number.
use Rattle.std.proofs.Common.{◌≡◌, ◌≢◌, ◌≤◌, ◌<◌, ℕ, zero, suc, ◌+◌, ◌==◌, Bool, true, false, cond, Option, Some, None, List, [], ◌∷◌, ◌++◌, Bor, length, map, option_map, get_or, refl, sym, ap, ◌∙◌, arith}
use Rattle.std.proofs.lemmas.Bool.Decides.{nat_tests}
use Rattle.std.proofs.lemmas.Grind.{common_steps}
use Rattle.std.specs.Prelude.{is_some, nat_lt, option_and_then, slice_get}
use Rattle.std.specs.Char.{is_ascii_digit}
use Rattle.std.specs.List.{list_all}
use Rattle.std.specs.Option.{option_map_or}
use Rattle.std.specs.Str.Parse.{digits_value}
use Rattle.cells.specs.Integers.{natural_of, unsigned, whole_number_of}
use Rattle.cells.specs.Limits.{whole_limit}
use Rattle.script.specs.Listings.{all_there, are_numbers, between_spaces, is_number, part_numbered, part_spelt}
use Rattle.loader.specs.Parts.{Part}

-- no byte is this one
abbrev Lacks : ℕ → List ℕ → Type 0
Lacks c xs = (i : ℕ) → i < length xs → get_or xs i 0 ≢ c

head_differs : (c x : ℕ) (xs : List ℕ) → Lacks c (x ∷ xs) → (x == c) ≡ false
head_differs c x xs lacks = let other : x ≢ c = lacks 0 (grind (arith, common_steps)) in grind (arith, nat_tests)

rest_lacks : (c x : ℕ) (xs : List ℕ) → Lacks c (x ∷ xs) → Lacks c xs
rest_lacks c x xs lacks i lt = let other = lacks (i + 1) (grind (arith, common_steps)) in grind (arith, common_steps)

-- a text without a space is one part
pub sole_between : (text : List ℕ) → Lacks 32 text → between_spaces text ≡ text ∷ []
sole_between [] lacks = refl
sole_between (b ∷ text) lacks = rw (head_differs 32 b text lacks, sole_between text (rest_lacks 32 b text lacks)) refl

-- what stands before the first space is the first part
pub first_between : (text front behind : List ℕ) → text ≡ front ++ 32 ∷ behind → Lacks 32 front → between_spaces text ≡ front ∷ between_spaces behind
first_between text front behind is lacks = ap between_spaces is ∙ parted front lacks where
  parted : (front : List ℕ) → Lacks 32 front → between_spaces (front ++ 32 ∷ behind) ≡ front ∷ between_spaces behind
  parted [] lacks = refl
  parted (b ∷ front) lacks = rw (head_differs 32 b front lacks, parted front (rest_lacks 32 b front lacks)) refl

-- ---- numbers
number_step : (text : List ℕ) (b : Bool) → list_all is_ascii_digit text ≡ b → b ≡ is_some (cond b (Some (digits_value 10 text)) None)
number_step text true e = refl
number_step text false e = refl

pub number_of_digits : (text : List ℕ) → text ≢ [] → list_all is_ascii_digit text ≡ is_number text
number_of_digits [] some = absurd (some refl)
number_of_digits (d ∷ text) some = number_step (d ∷ text) (list_all is_ascii_digit (d ∷ text)) refl

pub empty_is_none : (text : List ℕ) → text ≡ [] → is_number text ≡ false
empty_is_none text none = rw none refl

-- what stands in a place of a list, seen so
got : {A B : Type 0} (f : A → B) (xs : List A) (n : ℕ) (x : A) → n < length xs → x ≡ get_or xs n x → slice_get (map f xs) n ≡ Some (f x)
got f [] n x inside is = absurd (omega arith)
got f (y ∷ xs) zero x inside is = ap (λ z. Some (f z)) (sym is)
got f (y ∷ xs) (suc n) x inside is = got f xs n x (omega arith) is

unsigned_is : (o : Option ℕ) (n : ℕ) → option_and_then unsigned o ≡ Some n → o ≡ Some n
unsigned_is None n e = absurd (cc)
unsigned_is (Some m) n e = below (nat_lt m whole_limit) e where
  below : (b : Bool) → cond b (Some m) None ≡ Some n → Some m ≡ Some n
  below true e = e
  below false e = absurd (cc)

-- the part of a number of 64 bits is the one in the place before it
pub spelt_is : {V : Type 0} (items : V → List ℕ) (vs : List V) (text : List ℕ) (n place : ℕ) (v : V) → whole_number_of text ≡ Some n → n ≡ place + 1 →
    place < length vs → v ≡ get_or vs place v → Some (n, items v) ≡ part_spelt (map items vs) text
spelt_is items vs text n place v number before inside there =
    let is : natural_of text ≡ Some n = unsigned_is (natural_of text) n number in
    let next : n ≡ suc place = omega arith in
    sym (ap (option_and_then (part_numbered (map items vs))) is ∙ ap (part_numbered (map items vs)) next
    ∙ ap (option_map (λ bytes. (suc place, bytes))) (got items vs place v inside there)
    ∙ ap (λ k. Some (k, items v)) (sym next))

-- ---- what is left of a text that is read number by number
abbrev Left : Type 0
Left = Option (Bor (List ℕ))

abbrev pub parts_left : Left → List (List ℕ)
parts_left left = option_map_or (λ t. between_spaces t.now) left []

-- how much is left: a text counts one more than its bytes
abbrev pub left_len : Left → ℕ
left_len left = option_map_or (λ t. length t.now + 1) left 0

-- what is left decides whether all are numbers
pub record IsAllLeft (text : List ℕ) (left : Left) : Type 0 where
  pub same : are_numbers text ≡ list_all is_number (parts_left left)

-- ---- the parts that are numbered
abbrev pub all_spelt : List (List ℕ) → List (List ℕ) → Option (List Part)
all_spelt parts texts = all_there (map (part_spelt parts) texts)

-- these parts were found, and what is left numbers the others
pub record IsFound (parts : List (List ℕ)) (text : List ℕ) (found : List Part) (left : Left) : Type 0 where
  pub whole : all_spelt parts (between_spaces text) ≡ option_map (λ more. found ++ more) (all_spelt parts (parts_left left))
  pub few : length found + left_len left ≤ length text + 1
