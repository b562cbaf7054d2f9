-- Entries that are lent one after another.
use Rattle.std.proofs.Common.{◌≡◌, ℕ, zero, suc, ◌+◌, ◌<◌, List, [], ◌∷◌, ◌++◌, length, map, take, drop, get_or, refl, ap, sym, ◌∙◌, append_assoc, arith}
use Rattle.std.proofs.lemmas.Grind.{flat_map-append}
use Rattle.std.specs.List.{flat_map}
use Rattle.std.specs.declared.alloc.Global.{Global}
use Rattle.std.specs.declared.sync.Arc.{Arc}
use Rattle.trie.specs.Holding.{pairs_of}
use Rattle.trie.specs.Walks.{MayTakeAll, TakesAll}
use Rattle.trie.proofs.ListsLemmas.{grown, grown_by}

-- a list is what stands before a place, the item there, and the rest
parts_at : {X Y : Type 0} (g : Y → X) (items : List Y) (i : ℕ) (item : Y) → i < length items → item ≡ get_or items i item →
    map g items ≡ take i (map g items) ++ g item ∷ drop (suc i) (map g items)
parts_at g [] i item lt is = absurd (omega (arith, lt))
parts_at g (x ∷ items) zero item lt is = ap (λ y. g y ∷ map g items) (sym is)
parts_at g (x ∷ items) (suc i) item lt is = ap (λ l. g x ∷ l) (parts_at g items i item (omega (arith, lt)) is)

split_at : {X Y Z : Type 0} (g : Y → X) (f : X → List Z) (items : List Y) (i : ℕ) (item : Y) → i < length items → item ≡ get_or items i item →
    flat_map f (map g items) ≡ flat_map f (take i (map g items)) ++ (f (g item) ++ flat_map f (drop (suc i) (map g items)))
split_at g f items i item lt is = ap (flat_map f) (parts_at g items i item lt is)
    ∙ flat_map-append f (take i (map g items)) (g item ∷ drop (suc i) (map g items))

module _ {S K V : Type 0} (Takes : S → K → V → S → Type 0) where
  -- one list after another
  pub takes_both : (es fs : List (K × V)) (old mid new : S) → TakesAll Takes old es mid → TakesAll Takes mid fs new →
      TakesAll Takes old (es ++ fs) new
  takes_both [] fs old mid new first rest = rw first at rest
  takes_both (e ∷ es) fs old mid new first rest =
      (first.0, first.1, takes_both es fs first.0 mid new first.2 rest)

  -- one entry
  pub takes_one : (e : K × V) (old new : S) → Takes old e.0 e.1 new → TakesAll Takes old (e ∷ []) new
  takes_one e old new took = (new, took, refl)

  -- the entries of one child more
  pub takes_more : {X Y : Type 0} (g : Y → X) (f : X → List (K × V)) (items : List Y) (i : ℕ) (item : Y) → i < length items →
      item ≡ get_or items i item → (old mid new : S) → TakesAll Takes old (flat_map f (take i (map g items))) mid →
      TakesAll Takes mid (f (g item)) new → TakesAll Takes old (flat_map f (take (i + 1) (map g items))) new
  takes_more g f items i item lt is old mid new done here =
      rw (← grown_by g f [] items (flat_map f (take i (map g items))) i item lt is refl)
      (takes_both (flat_map f (take i (map g items))) (f (g item)) old mid new done here)

  -- one pair more
  pub takes_next : (pairs : List (Arc (K × V) Global)) (i : ℕ) (pair : Arc (K × V) Global) → i < length pairs →
      pair ≡ get_or pairs i pair → (old mid new : S) → TakesAll Takes old (take i (pairs_of pairs)) mid →
      Takes mid pair.value.0 pair.value.1 new → TakesAll Takes old (take (i + 1) (pairs_of pairs)) new
  takes_next pairs i pair lt is old mid new done here =
      rw (← grown (λ p. p.value) [] pairs (take i (pairs_of pairs)) i pair lt is refl)
      (takes_both (take i (pairs_of pairs)) (pair.value ∷ []) old mid new done (takes_one pair.value mid new here))

-- what is asked of a pair is asked of its key and value
pub asked_of : {K V : Type 0} (Asks : K → V → Type 0) (pair one two : K × V) → one ≡ pair → two ≡ pair → Asks pair.0 pair.1 → Asks one.0 two.1
asked_of Asks pair one two is also asked = rw (is, also) asked

module _ {S K V : Type 0} (Asks : S → K → V → Type 0) (Takes : S → K → V → S → Type 0) where
  -- what stands in the middle may be lent, once what stands before it was taken
  pub may_between : (all before es after : List (K × V)) (old mid : S) → all ≡ before ++ (es ++ after) → MayTakeAll Asks Takes old all →
      TakesAll Takes old before mid → MayTakeAll Asks Takes mid es
  may_between all before es after old mid is may done = record {
    asked = λ first rest e then parts took. may.asked (before ++ first) (rest ++ after) e then
        (is ∙ ap (λ l. before ++ (l ++ after)) parts ∙ ap (λ l. before ++ l) (append_assoc first (e ∷ rest) after)
        ∙ sym (append_assoc before first (e ∷ rest ++ after)))
        (takes_both Takes before first old mid then done took);
  }

  -- the one entry may be lent
  pub may_one : (all : List (K × V)) (e : K × V) (old : S) → all ≡ e ∷ [] → MayTakeAll Asks Takes old all → Asks old e.0 e.1
  may_one all e old is may = may.asked [] [] e old is refl

  -- the entries of a child may be lent, once those of the children before it were taken
  pub may_child : {X Y : Type 0} (g : Y → X) (f : X → List (K × V)) (items : List Y) (i : ℕ) (item : Y) → i < length items →
      item ≡ get_or items i item → (old mid : S) → MayTakeAll Asks Takes old (flat_map f (map g items)) →
      TakesAll Takes old (flat_map f (take i (map g items))) mid → MayTakeAll Asks Takes mid (f (g item))
  may_child g f items i item lt is old mid may done =
      may_between (flat_map f (map g items)) (flat_map f (take i (map g items))) (f (g item)) (flat_map f (drop (suc i) (map g items))) old mid
      (split_at g f items i item lt is) may done

  -- a pair may be lent, once those before it were taken
  pub may_next : (pairs : List (Arc (K × V) Global)) (i : ℕ) (pair : Arc (K × V) Global) → i < length pairs →
      pair ≡ get_or pairs i pair → (old mid : S) → MayTakeAll Asks Takes old (pairs_of pairs) →
      TakesAll Takes old (take i (pairs_of pairs)) mid → Asks mid pair.value.0 pair.value.1
  may_next pairs i pair lt is old mid may done =
      may.asked (take i (pairs_of pairs)) (drop (suc i) (pairs_of pairs)) pair.value mid (parts_at (λ p. p.value) pairs i pair lt is) done
