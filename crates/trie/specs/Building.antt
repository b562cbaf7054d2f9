-- What the functions that make a map of a list at once answer.
use Rattle.std.specs.Prelude.{◌≡◌, ℕ, ◌+◌, ◌<◌, ◌≤◌, ◌^◌, ◌++◌, ◌&&◌, ◌==◌, Bool, List, [], length, map, get_or, Option, None, bit_or}
use Rattle.std.specs.List.{All, AllByRecursion, filter, fold}
use Rattle.std.specs.List.Sorted.{IsNonDecreasingBy}
use Rattle.std.specs.Ordering.{is_eq}
use Rattle.std.specs.declared.alloc.Global.{Global}
use Rattle.std.specs.declared.cmp.Ordering.{Ordering}
use Rattle.std.specs.declared.sync.Arc.{Arc}
use Rattle.trie.specs.Digits.{digit, digit_count, digit_order, digits, first_number, slot_count}
use Rattle.trie.specs.Entries.{with_pairs}
use Rattle.trie.specs.Holding.{Holds}
use Rattle.trie.specs.Nodes.{Node}
use Rattle.trie.specs.Tree.{StartsWith}
use Rattle.trie.specs.declared.build.Hashed.{Hashed}

module _ {P : Type 0} where
  -- each hash has 64 bits
  abbrev pub AreSmall : List (Hashed P) → Type 0
  AreSmall list = All (λ one. one.hash < 2 ^ 64) list

  -- those whose hash has this digit at this depth
  abbrev pub with_digit : ℕ → ℕ → List (Hashed P) → List (Hashed P)
  with_digit depth d list = filter (λ one. digit one.hash depth == d) list

  -- a bit for each digit that hashes have at this depth
  abbrev pub digits_of : ℕ → List (Hashed P) → ℕ
  digits_of depth list = fold (λ bits one. bit_or bits (2 ^ digit one.hash depth)) 0 list

  -- however many digits are compared, they do not fall
  abbrev pub Rise : List (Hashed P) → Type 0
  Rise list = (depth : ℕ) → depth ≤ digit_count → IsNonDecreasingBy (λ one. first_number one.hash depth) list

  -- the list begins with those that have one digit at this depth, and the rest have greater ones
  pub record IsRun (depth : ℕ) (list : List (Hashed P)) (d : ℕ) (run rest : List (Hashed P)) : Type 0 where
    pub low : d < slot_count
    pub joined : list ≡ run ++ rest
    pub some : 0 < length run
    pub alike : All (λ one. digit one.hash depth ≡ d) run
    pub above : All (λ one. d < digit one.hash depth) rest

-- the pairs themselves
abbrev pub hashed_pairs : {K V : Type 0} → List (Hashed (K × V)) → List (K × V)
hashed_pairs list = map (λ one. one.pair) list

-- a pair's owner beside the hash of its key
abbrev pub OwnedPair : Type 0 → Type 0 → Type 0
OwnedPair K V = Hashed (Arc (K × V) Global)

module _ {K V : Type 0} where
  -- the pair itself, whoever owns it
  abbrev pub pair_in : OwnedPair K V → K × V
  pair_in one = one.pair.value

  abbrev pub pairs_in : List (OwnedPair K V) → List (K × V)
  pairs_in list = map pair_in list

  -- the same with its hash
  abbrev pub bare : OwnedPair K V → Hashed (K × V)
  bare one = record { hash = one.hash; pair = pair_in one }

  -- both have one hash, and keys that compare as equal
  abbrev pub is_like : (K → K → Ordering) → OwnedPair K V → OwnedPair K V → Bool
  is_like cmp one other = (one.hash == other.hash) && is_eq (cmp (pair_in one).0 (pair_in other).0)

module _ {K V : Type 0} (hash : K → ℕ) where
  -- each hash is that of its key
  abbrev pub HaveTheirHashes : List (Hashed (K × V)) → Type 0
  HaveTheirHashes list = All (λ one. one.hash ≡ hash one.pair.0) list

  -- the same, whoever owns the pairs
  abbrev pub AreHashed : List (OwnedPair K V) → Type 0
  AreHashed list = AllByRecursion (λ one. one.hash ≡ hash (pair_in one).0) list

  -- the hashes of these pairs' keys begin with the prefix
  abbrev pub AreBelow : List ℕ → List (K × V) → Type 0
  AreBelow prefix pairs = AllByRecursion (λ p. StartsWith prefix (digits (hash p.0))) pairs

  -- pairs of one prefix of so many digits, which can be counted, in the order of their digits
  pub record HaveOnePrefix (depth : ℕ) (list : List (OwnedPair K V)) : Type 0 where
    pub prefix : List ℕ
    pub deep : length prefix ≡ depth
    pub low : depth ≤ digit_count
    pub below : AreBelow prefix (pairs_in list)
    pub hashed : AreHashed list
    pub rise : Rise list
    pub fits : length list < 2 ^ 64

  -- the slot has these pairs, each laid over those before it, whatever prefix of so many digits they have
  pub record IsMadeOf (cmp : K → K → Ordering) (depth : ℕ) (pairs : List (K × V)) (slot : Option (Node K V)) : Type 0 where
    pub at : (prefix : List ℕ) → length prefix ≡ depth → AreBelow prefix pairs →
        Holds hash cmp prefix (with_pairs (digit_order hash cmp) pairs []) slot

  -- each slot has the pairs with its digit
  abbrev pub AreMadeOf : (K → K → Ordering) → ℕ → List (OwnedPair K V) → List (Option (Node K V)) → Type 0
  AreMadeOf cmp depth list slots =
      (k : ℕ) → k < slot_count → IsMadeOf cmp (depth + 1) (pairs_in (with_digit depth k list)) (get_or slots k None)

  -- the slots of a branch have the front of a list: those that are left have digits of which none is in it, nor in the bitmap
  pub record IsBegun (cmp : K → K → Ordering) (depth : ℕ) (list left : List (OwnedPair K V)) (bitmap : ℕ) (slots : List (Option (Node K V))) : Type 0 where
    pub front : List (OwnedPair K V)
    pub joined : list ≡ front ++ left
    pub made : AreMadeOf cmp depth front slots
    pub before : All (λ one. bitmap < 2 ^ digit one.hash depth) left
    pub none : All (λ one. with_digit depth (digit one.hash depth) front ≡ []) left
