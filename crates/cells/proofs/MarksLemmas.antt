-- The sign at the front of a text.
use Rattle.std.proofs.Common.{◌≡◌, ℕ, ◌<◌, Bool, true, false, ◌==◌, ◌&&◌, ◌⊎◌, List, [], ◌∷◌, ◌++◌, length, drop, Option, Some, None, inl, inr, IsUtf8, refl, sym, ap, ◌∙◌, subst, arith, lit<, nat_lt, slice_index}
use Rattle.std.specs.List.{list_all}
use Rattle.std.specs.Str.{IsCharBoundary}
use Rattle.std.proofs.lemmas.Bool.{and_parts, eqb-true, or_from, or_parts}
use Rattle.std.proofs.lemmas.Bool.Decides.{nat_tests}
use Rattle.std.proofs.lemmas.Option.{none-some, some_pair_parts}
use Rattle.std.proofs.lemmas.Str.{IsCharBoundary-after_ascii}
use Rattle.cells.specs.declared.token.Token.{Token}
use Rattle.cells.specs.declared.token.Token.TheVariants.{Mark}
use Rattle.cells.specs.declared.token.Mark.{Mark as Sign}
use Rattle.cells.specs.declared.token.Mark.TheVariants.{LeftParen, RightParen, Comma, Asterisk, Equals, NotEquals, LessThanOrEquals, GreaterThanOrEquals, LessThan, GreaterThan}
use Rattle.cells.specs.Spelling.{Begins, is_joined, sign}
use Rattle.cells.specs.Scanning.{mark_at, mark_before, mark_of}
use Rattle.cells.proofs.BeginsLemmas.{begins_found}
use Rattle.cells.proofs.ChoicesLemmas.{by_branch}

-- the sign m has n bytes: a alone, and b may follow it, or a and b, and any byte may follow them
record IsMark (a b : ℕ) (m : Sign) (n : ℕ) : Type 0 where
  bytes : ((n ≡ 1) × (sign m ≡ a ∷ []) × (is_joined (Mark m) b ≡ false)) ⊎ ((n ≡ 2) × (sign m ≡ a ∷ b ∷ []) × ((c : ℕ) → is_joined (Mark m) c ≡ false))

one_byte : (a b k : ℕ) (s m : Sign) (n : ℕ) → sign s ≡ k ∷ [] → is_joined (Mark s) b ≡ false → (a == k) ≡ true → ◌≡◌ {A = Option (Sign × ℕ)} (Some (s, 1)) (Some (m, n)) → IsMark a b m n
one_byte a b k s m n form apart is_k e =
    let parts = some_pair_parts s m 1 n e in
    subst (λ v. IsMark a b v n) parts.0 (record { bytes = inl (sym parts.1, form ∙ ap (λ v. v ∷ []) (sym (eqb-true a k is_k)), apart) })

two_bytes : (a b k j : ℕ) (s m : Sign) (n : ℕ) → sign s ≡ k ∷ j ∷ [] → ((c : ℕ) → is_joined (Mark s) c ≡ false) → (a == k) ≡ true → (b == j) ≡ true → ◌≡◌ {A = Option (Sign × ℕ)} (Some (s, 2)) (Some (m, n)) → IsMark a b m n
two_bytes a b k j s m n form apart is_k is_j e =
    let parts = some_pair_parts s m 2 n e in
    let bytes = form ∙ ap (λ v. v ∷ j ∷ []) (sym (eqb-true a k is_k)) ∙ ap (λ v. a ∷ v ∷ []) (sym (eqb-true b j is_j)) in
    subst (λ v. IsMark a b v n) parts.0 (record { bytes = inr (sym parts.1, bytes, apart) })

-- the signs that begin with `<`
less_than_is : (a b : ℕ) (m : Sign) (n : ℕ) → (a == 60) ≡ true → mark_of 60 b ≡ Some (m, n) → IsMark a b m n
less_than_is a b m n less e =
    by_branch (b == 62) _ _ _ e (two_bytes a b 60 62 NotEquals m n refl (λ _. refl) less) (λ no_greater e.
    by_branch (b == 61) _ _ _ e (two_bytes a b 60 61 LessThanOrEquals m n refl (λ _. refl) less) (λ no_equals.
    one_byte a b 60 LessThan m n refl (or_from (b == 61) (b == 62) no_equals no_greater) less))

-- the signs that begin with `>`
greater_than_is : (a b : ℕ) (m : Sign) (n : ℕ) → (a == 62) ≡ true → mark_of 62 b ≡ Some (m, n) → IsMark a b m n
greater_than_is a b m n greater e =
    by_branch (b == 61) _ _ _ e (two_bytes a b 62 61 GreaterThanOrEquals m n refl (λ _. refl) greater) (λ no_equals.
    one_byte a b 62 GreaterThan m n refl no_equals greater)

-- a sign that is found has those bytes
mark_is : (a b : ℕ) (m : Sign) (n : ℕ) → mark_of a b ≡ Some (m, n) → IsMark a b m n
mark_is a b m n e =
    by_branch (a == 40) _ _ _ e (one_byte a b 40 LeftParen m n refl refl) (λ _ e.
    by_branch (a == 41) _ _ _ e (one_byte a b 41 RightParen m n refl refl) (λ _ e.
    by_branch (a == 44) _ _ _ e (one_byte a b 44 Comma m n refl refl) (λ _ e.
    by_branch (a == 42) _ _ _ e (one_byte a b 42 Asterisk m n refl refl) (λ _ e.
    by_branch (a == 61) _ _ _ e (one_byte a b 61 Equals m n refl refl) (λ _ e.
    by_branch (a == 60) _ _ _ e (less_than_is a b m n) (λ _ e.
    by_branch (a == 62) _ _ _ e (greater_than_is a b m n) (λ _ nothing. absurd (none-some _ nothing))))))))

-- neither the 0 past the end nor a part of a longer character
abbrev is_sign_byte : ℕ → Bool
is_sign_byte b = nat_lt 0 b && nat_lt b 128

sign_bytes : (m : Sign) → list_all is_sign_byte (sign m) ≡ true
sign_bytes LeftParen = refl
sign_bytes other = refl

pub sign_nonempty : (m : Sign) → 0 < length (sign m)
sign_nonempty LeftParen = lit< tt
sign_nonempty other = lit< tt

small : (b : ℕ) → is_sign_byte b ≡ true → b < 128
small b h = grind (arith, nat_tests)

only_small : (a : ℕ) (m : Sign) → sign m ≡ a ∷ [] → a < 128
only_small a m e = small a (and_parts (is_sign_byte a) true (sym (ap (list_all is_sign_byte) e) ∙ sign_bytes m)).0

second_byte : (a b : ℕ) (m : Sign) → sign m ≡ a ∷ b ∷ [] → is_sign_byte b ≡ true
second_byte a b m e =
    let both = and_parts (is_sign_byte a) (is_sign_byte b && true) (sym (ap (list_all is_sign_byte) e) ∙ sign_bytes m) in
    (and_parts (is_sign_byte b) true both.1).0

-- a sign of two bytes does not reach past the end
no_second : (a : ℕ) (m : Sign) → sign m ≡ a ∷ 0 ∷ [] → ⊥
no_second a m e = let past_end : false ≡ true = second_byte a 0 m e in cc

-- a sign ends between two characters
pub mark_boundary : (text : List ℕ) (m : Sign) (n : ℕ) → IsUtf8 text → mark_of (slice_index text 0) (slice_index text 1) ≡ Some (m, n) → IsCharBoundary text n
mark_boundary [] m n utf8 e = absurd (none-some _ e)
mark_boundary (a ∷ []) m n utf8 e = elim (mark_is a 0 m n e).bytes [
  | inl one ↦ rw one.0 (IsCharBoundary-after_ascii (a ∷ []) 0 utf8 (omega arith) (only_small a m one.1))
  | inr two ↦ absurd (no_second a m two.1)
]
mark_boundary (a ∷ b ∷ bs) m n utf8 e = elim (mark_is a b m n e).bytes [
  | inl one ↦ rw one.0 (IsCharBoundary-after_ascii (a ∷ b ∷ bs) 0 utf8 (omega arith) (only_small a m one.1))
  | inr two ↦ rw two.0 (IsCharBoundary-after_ascii (a ∷ b ∷ bs) 1 utf8 (omega arith) (small b (second_byte a b m two.1)))
]

-- the bytes of a sign that is found stand at the front
sign_begins : (text : List ℕ) (m : Sign) (n : ℕ) → mark_of (slice_index text 0) (slice_index text 1) ≡ Some (m, n) → Begins text (Mark m) (drop n text)
sign_begins [] m n e = absurd (none-some _ e)
sign_begins (a ∷ []) m n e = elim (mark_is a 0 m n e).bytes [
  | inl one ↦ rw one.0 (sign m, refl, one.2, ap (λ l. l ++ []) (sym one.1))
  | inr two ↦ absurd (no_second a m two.1)
]
sign_begins (a ∷ b ∷ bs) m n e = elim (mark_is a b m n e).bytes [
  | inl one ↦ rw one.0 (sign m, refl, one.2, ap (λ l. l ++ b ∷ bs) (sym one.1))
  | inr two ↦ rw two.0 (sign m, refl, two.2 _, ap (λ l. l ++ bs) (sym two.1))
]

-- the sign and its length, o: the token that is made of them stands at the front
mark_here : (text rest : List ℕ) (t : Token) (o : Option (Sign × ℕ)) → mark_of (slice_index text 0) (slice_index text 1) ≡ o → mark_before text o ≡ Some (t, rest) → Begins text t rest
mark_here text rest t None is e = absurd (none-some _ e)
mark_here text rest t (Some x) is e = begins_found text (Mark x.0) t (drop x.1 text) rest e (sign_begins text x.0 x.1 is)

-- a sign that is read stands at the front
pub mark_begins : (text : List ℕ) (t : Token) (rest : List ℕ) → mark_at text ≡ Some (t, rest) → Begins text t rest
unfolding mark_at
mark_begins text t rest e = mark_here text rest t (mark_of (slice_index text 0) (slice_index text 1)) refl e

-- a sign that stands at the front, with nothing that makes it longer, is read
pub mark_read : (m : Sign) (rest : List ℕ) → is_joined (Mark m) (slice_index rest 0) ≡ false → mark_at (sign m ++ rest) ≡ Some (Mark m, rest)
unfolding mark_at
mark_read LessThan rest apart = let neither = or_parts (slice_index rest 0 == 61) (slice_index rest 0 == 62) apart in rw (neither.0, neither.1) refl
mark_read GreaterThan rest apart = rw apart refl
mark_read other rest apart = refl
