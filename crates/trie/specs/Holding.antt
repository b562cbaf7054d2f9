-- What the functions on nodes answer.
use Rattle.std.specs.Prelude.{◌≡◌, ℕ, ◌+◌, ◌<◌, ◌≤◌, ◌^◌, List, [], ◌∷◌, length, map, set, Option, Some, None, Result, Ok, Err, Vec, if◌then◌else◌, ◌==◌}
use Rattle.std.specs.List.{AllWithin, flat_map, HoldsAt}
use Rattle.std.specs.declared.alloc.Global.{Global}
use Rattle.std.specs.declared.cmp.Ordering.{Ordering}
use Rattle.std.specs.declared.cmp.Ordering.TheVariants.{Less, Equal, Greater}
use Rattle.std.specs.declared.sync.Arc.{Arc}
use Rattle.std.specs.Borrow.{Bor}
use Rattle.trie.specs.Digits.{digit, digit_count, digit_order, first_digits, slot_count}
use Rattle.trie.specs.Entries.{with_pair, without_key}
use Rattle.trie.specs.Dense.{IsDense, slots_in}
use Rattle.trie.specs.Nodes as nodes
use Rattle.trie.specs.Nodes.{Child, Children, Node, node_of, One, Owned, owned, Reach, Removed, Several, Unmade, View}
use Rattle.trie.specs.Tree.{AreChildren, entries_in, IsNode, IsSlot}
use Rattle.trie.specs.declared.digits.HashPrefix.{HashPrefix}
use Rattle.trie.specs.declared.node.Inner.{out-Inner}
use Rattle.trie.specs.declared.node.Inner.TheOpen.{Inner-F, Branch, Bucket}
use Rattle.trie.specs.declared.node.Owner.{Owner}
use Rattle.trie.specs.declared.node.View.TheVariants as view
use Rattle.trie.specs.declared.node.Unmade.TheVariants as unmade
use Rattle.trie.specs.declared.put.Reach.TheVariants.{Here, Below}
use Rattle.trie.specs.declared.remove.Removed.TheVariants.{Missing, Left}

-- the pairs, whoever owns them
abbrev pub pairs_of : {X : Type 0} → List (Arc X Global) → List X
pairs_of pairs = map (λ p. p.value) pairs

-- where a key stands among elements that rise, by how it compares with each: at one that equals it, or else between those below
-- it and those above it
abbrev pub IsPlace : {X : Type 0} → (X → Ordering) → List X → Result ℕ ℕ → Type 0
IsPlace order xs (Ok place) =
    (place < length xs) × AllWithin (λ x. order x ≡ Greater) xs 0 place × HoldsAt (λ x. order x ≡ Equal) xs place
IsPlace order xs (Err place) =
    (place ≤ length xs) × AllWithin (λ x. order x ≡ Greater) xs 0 place × AllWithin (λ x. order x ≡ Less) xs place (length xs)

-- the new entries are the old ones with the pair
abbrev pub IsWith : {K V : Type 0} → (K → K → Ordering) → K × V → List (K × V) → List (K × V) → Type 0
IsWith order pair old new = new ≡ with_pair order pair.0 pair.1 old

-- the key is not there, or this is what is left without it
abbrev pub IsWithout : {K V : Type 0} → (K → K → Ordering) → K → List (K × V) → Option (Vec (Arc (K × V) Global) Global) → Type 0
IsWithout order key held None = without_key order key held ≡ held
IsWithout order key held (Some left) = (pairs_of left.items ≡ without_key order key held) × (length (pairs_of left.items) + 1 ≡ length held)

-- the digits of a prefix
abbrev pub prefix_of : HashPrefix → List ℕ
prefix_of at = first_digits at.hash at.depth

-- the entries in a slot, whoever owns its node
abbrev pub held_in : {K V : Type 0} → Option (Child K V) → List (K × V)
held_in slot = entries_in (node_of slot)

-- a pair that is found, whoever owns it
abbrev pub found_in : {X : Type 0} → Option (Bor (Arc X Global)) → Option X
found_in None = None
found_in (Some pair) = Some pair.now.value

-- the node in a slot that is looked at, and the entries in it
abbrev pub seen_in : {P I : Type 0} → Option (Bor (Owner P I)) → Option (Owned P I)
seen_in None = None
seen_in (Some node) = Some (owned node.now)

abbrev pub held_at : {K V : Type 0} → Option (Bor (Child K V)) → List (K × V)
held_at slot = entries_in (seen_in slot)

-- what a view of a slot shows
abbrev pub shown : {K V : Type 0} → View K V → Option (Node K V)
shown view.Empty = None
shown (view.Leaf pair) = Some (One pair.now.value)
shown (view.Bucket pairs) = Some (nodes.Bucket pairs.now)
shown (view.Branch len bitmap children beside) = Some (nodes.Branch len bitmap children.now beside.now)

-- the node that is to be made
abbrev pub made_of : {K V : Type 0} → Unmade K V → Node K V
made_of (unmade.Leaf pair) = One pair.value
made_of (unmade.Inner inner) = Several inner

-- the entries in the slots with this one in the slot after the prefix
abbrev pub held_with : {K V : Type 0} → HashPrefix → List (Option (Node K V)) → Option (Child K V) → List (K × V)
held_with at slots slot = flat_map entries_in (set slots (digit at.hash at.depth) (node_of slot))

-- the children stand for these slots
pub record IsWritten {K V : Type 0} (slots : List (Option (Node K V))) (children : Children K V) : Type 0 where
  pub dense : IsDense children.bitmap (length children.children.items)
  pub slots_are : slots_in children.bitmap children.children.items ≡ slots

-- what references lend
abbrev pub lent : {K V : Type 0} → List (Bor K × Bor V) → List (K × V)
lent pairs = map (λ p. (p.0.now, p.1.now)) pairs

-- how many entries a node says it has
abbrev pub layer_len : {K V X : Type 0} → Inner-F K V (List (K × V)) X → ℕ
layer_len (Bucket pairs) = length pairs.items
layer_len (Branch len bitmap children told) = len

abbrev pub node_len : {K V : Type 0} → Node K V → ℕ
node_len (One pair) = 1
node_len {K} {V} (Several inner) = layer_len (out-Inner K V (List (K × V)) inner)

-- the same of a slot
abbrev pub len_in : {K V : Type 0} → Option (Node K V) → ℕ
len_in None = 0
len_in (Some node) = node_len node

-- the first child
abbrev pub first_node : {X : Type 0} → List X → Option X
first_node [] = None
first_node (node ∷ children) = Some node

-- that node, where there is one entry
abbrev pub sole_node : {X : Type 0} → ℕ → List X → Option X
sole_node len children = if len == 1 then first_node children else None

-- no key was found, and no node made
abbrev pub Misses : {K V E : Type 0} → ℕ → ℕ → Result (Removed K V) E → Type 0
Misses old new (Ok Missing) = new ≡ old
Misses old new (Ok (Left slot)) = ⊥
Misses old new (Err e) = new ≡ old

module _ {K V : Type 0} (hash : K → ℕ) (cmp : K → K → Ordering) where
  -- these are the slots of a branch of the prefix
  pub record AreSlots (prefix : List ℕ) (slots : List (Option (Node K V))) : Type 0 where
    pub short : length prefix < digit_count
    pub wide : length slots ≡ slot_count
    pub children : AreChildren (IsNode hash cmp) prefix 0 slots

  -- these children with this one in the slot after the prefix have entries, which can be counted
  pub record CanHold (at : HashPrefix) (bitmap : ℕ) (children : List (Child K V)) (slot : Option (Child K V)) : Type 0 where
    pub slots : AreSlots (prefix_of at) (slots_in bitmap children)
    pub dense : IsDense bitmap (length children)
    pub placed : IsSlot hash cmp (node_of slot) (first_digits at.hash (at.depth + 1))
    pub some : 0 < length (held_with at (slots_in bitmap children) slot)
    pub fits : length (held_with at (slots_in bitmap children) slot) < 2 ^ 64

  -- the slot is of the prefix, and these are its entries
  pub record Holds (prefix : List ℕ) (held : List (K × V)) (slot : Option (Node K V)) : Type 0 where
    pub placed : IsSlot hash cmp slot prefix
    pub entries_are : entries_in slot ≡ held

  -- the slot is canonical below the prefix
  abbrev pub IsSlotAt : HashPrefix → Option (Node K V) → Type 0
  IsSlotAt at slot = IsSlot hash cmp slot (prefix_of at)

  -- a trie's root is canonical, and its entries can be counted
  pub record IsTrie (root : Option (Node K V)) : Type 0 where
    pub placed : IsSlot hash cmp root []
    pub fits : length (entries_in root) < 2 ^ 64

  -- the node has what the slot had, and the pair
  abbrev pub HasPair : HashPrefix → K × V → Option (Node K V) → Node K V → Type 0
  HasPair at pair slot node = Holds (prefix_of at) (with_pair (digit_order hash cmp) pair.0 pair.1 (entries_in slot)) (Some node)

  -- a put ends with what makes a node that has the pair too, or the slots have what the slot had
  abbrev pub IsReached : HashPrefix → K × V → Option (Node K V) → Reach K V → Type 0
  IsReached at pair slot (Here node) = HasPair at pair slot (made_of node)
  IsReached at pair slot (Below bitmap children) =
      AreSlots (prefix_of at) (slots_in bitmap children.items)
      × (flat_map entries_in (slots_in bitmap children.items) ≡ entries_in slot)
      × IsDense bitmap (length children.items)

  -- these entries are left
  abbrev pub IsLeft : HashPrefix → List (K × V) → Removed K V → Type 0
  IsLeft at held Missing = ⊥
  IsLeft at held (Left slot) = Holds (prefix_of at) held (node_of slot)

  -- the key is not there, or this is what is left without it
  abbrev pub IsRemoved : HashPrefix → K → List (K × V) → Removed K V → Type 0
  IsRemoved at key held Missing = without_key (digit_order hash cmp) key held ≡ held
  IsRemoved at key held (Left slot) = Holds (prefix_of at) (without_key (digit_order hash cmp) key held) (node_of slot)
