-- Entries in which no key comes twice, and those of their finite map: the same entries, in another order. So their keys
-- have one shape.
use Rattle.std.proofs.Common.{◌≡◌, ℕ, ◌+◌, ◌≤◌, suc, Bool, true, false, cond, Option, Some, None, List, [], ◌∷◌, length, refl, sym, ◌∙◌, arith}
use Rattle.std.specs.Prelude.{is_some}
use Rattle.std.specs.Cmp.{IsTotalOrder}
use Rattle.std.specs.FinMap.{contains_key, empty, entries, entries-insert, find, from_entries, get, get-entries, insert, keys, len, len-empty, len-entries, len-insert, put}
use Rattle.std.specs.FinMap.Entries.{by_order}
use Rattle.std.specs.List.Sorted.{IsPermutation}
use Rattle.std.specs.Map.{keys_of}
use Rattle.std.specs.Ordering.{is_eq}
use Rattle.std.specs.declared.cmp.Ordering.{Ordering}
use Rattle.std.specs.declared.cmp.Ordering.TheVariants.{Less, Equal, Greater}
use Rattle.std.proofs.lemmas.List.{nil_from_length}
use Rattle.std.proofs.lemmas.List.Sorted.{IsPermutation-append_comm, IsPermutation-append_left, IsPermutation-cons, IsPermutation-map, IsPermutation-refl, IsPermutation-trans, sum_by-IsPermutation}
use Rattle.trie.specs.Digits.{digit_order}
use Rattle.trie.specs.Entries.{IsRising}
use Rattle.trie.specs.Maps.{map_of}
use Rattle.trie.specs.Shapes.{shape_of}
use Rattle.trie.proofs.MapsLemmas.{HaveHashes, len_map}
use Rattle.trie.proofs.ShapesLemmas.{same_shape}

missing : {A : Type 0} (x : Option A) → is_some x ≡ false → x ≡ None
missing None is = refl
missing (Some a) is = absurd (cc)

-- a map that has a key keeps its length, one that has not gets longer
at_most : (has : Bool) (m n : ℕ) → m ≤ n → cond has m (m + 1) ≤ suc n
at_most true m n most = omega arith
at_most false m n most = omega arith

is_new : (has : Bool) (m n : ℕ) → m ≤ n → cond has m (m + 1) ≡ suc n → has ≡ false
is_new true m n most is = absurd (omega arith)
is_new false m n most is = refl

one_less : (has : Bool) (m n : ℕ) → m ≤ n → cond has m (m + 1) ≡ suc n → m ≡ n
one_less true m n most is = absurd (omega arith)
one_less false m n most is = omega arith

nothing_held : {K : Type 0} (V : Type 0) (R : K → K → Ordering) → entries (empty {X = V} {R = R}) ≡ []
nothing_held V R = nil_from_length (entries (empty {X = V} {R = R})) (sym (len-entries (empty {X = V} {R = R})) ∙ len-empty R V)

module _ {K V : Type 0} (R : K → K → Ordering) where
  -- an entry moves to its place, where its key is new
  placed_cons : (r : Ordering) (k : K) (v : V) (e : K × V) (new es : List (K × V)) → cond (is_eq r) (Some e.1) (find R k es) ≡ None →
      (find R k es ≡ None → IsPermutation ((k, v) ∷ es) new) →
      IsPermutation ((k, v) ∷ e ∷ es) (by_order r ((k, v) ∷ e ∷ es) ((e.0, v) ∷ es) (e ∷ new))
  placed_cons Less k v e new es none ih = IsPermutation-refl ((k, v) ∷ e ∷ es)
  placed_cons Equal k v e new es none ih = absurd (cc)
  placed_cons Greater k v e new es none ih =
      IsPermutation-trans ((k, v) ∷ e ∷ es) (e ∷ (k, v) ∷ es) (e ∷ new)
      (IsPermutation-append_left es ((k, v) ∷ e ∷ []) (e ∷ (k, v) ∷ []) (IsPermutation-append_comm ((k, v) ∷ []) (e ∷ [])))
      (IsPermutation-cons e ((k, v) ∷ es) new (ih none))

  placed : (es : List (K × V)) (k : K) (v : V) → find R k es ≡ None → IsPermutation ((k, v) ∷ es) (put R k v es)
  placed [] k v none = IsPermutation-refl ((k, v) ∷ [])
  placed (e ∷ es) k v none = placed_cons (R k e.0) k v e (put R k v es) es none (placed es k v)

module _ {K V : Type 0} {R : K → K → Ordering} (o : IsTotalOrder R) where
  -- no key comes twice in the entries
  abbrev pub IsOnce : List (K × V) → Type 0
  IsOnce es = len (from_entries {R = R} es) ≡ length es

  len_at_most : (es : List (K × V)) → len (from_entries {R = R} es) ≤ length es
  len_at_most [] = rw (len-empty R V) (omega arith)
  len_at_most (e ∷ es) = rw (len-insert o (from_entries es) e.0 e.1) (at_most (contains_key (from_entries {R = R} es) e.0) _ _ (len_at_most es))

  longer : (e : K × V) (es : List (K × V)) → IsOnce (e ∷ es) →
      cond (contains_key (from_entries {R = R} es) e.0) (len (from_entries {R = R} es)) (len (from_entries {R = R} es) + 1) ≡ suc (length es)
  longer e es once = sym (len-insert o (from_entries {R = R} es) e.0 e.1) ∙ once

  first_is_new : (e : K × V) (es : List (K × V)) → IsOnce (e ∷ es) → get (from_entries {R = R} es) e.0 ≡ None
  first_is_new e es once =
      missing (get (from_entries {R = R} es) e.0) (is_new (contains_key (from_entries {R = R} es) e.0) _ _ (len_at_most es) (longer e es once))

  rest_once : (e : K × V) (es : List (K × V)) → IsOnce (e ∷ es) → IsOnce es
  rest_once e es once = one_less (contains_key (from_entries {R = R} es) e.0) _ _ (len_at_most es) (longer e es once)

  -- the map has the entries, in the order of their keys
  pub entries_move : (es : List (K × V)) → IsOnce es → IsPermutation es (entries (from_entries {R = R} es))
  entries_move [] once = rw (nothing_held V R) (IsPermutation-refl [])
  entries_move (e ∷ es) once =
      let m = from_entries {R = R} es in
      IsPermutation-trans (e ∷ es) (e ∷ entries m) (entries (insert m e.0 e.1))
      (IsPermutation-cons e es (entries m) (entries_move es (rest_once e es once)))
      (rw (entries-insert o m e.0 e.1) (placed R (entries m) e.0 e.1 (sym (get-entries m e.0) ∙ first_is_new e es once)))

  -- keys of which none comes twice have the shape of those of their map
  pub shape_keys : (hash : K → ℕ) (es : List (K × V)) → IsOnce es → shape_of hash (keys (from_entries {R = R} es)) ≡ shape_of hash (keys_of es)
  shape_keys hash es once =
      same_shape hash _ _ (λ prefix. sum_by-IsPermutation _ (keys_of es) (keys (from_entries {R = R} es))
      (IsPermutation-map (λ (e : K × V). e.0) es (entries (from_entries {R = R} es)) (entries_move es once)))

module _ {K : Type 0} (hash : K → ℕ) (cmp : K → K → Ordering) (h : HaveHashes hash cmp) where
  -- the shape of the keys of rising entries
  pub shape_map : {V : Type 0} (es : List (K × V)) → IsRising (digit_order hash cmp) (keys_of es) → shape_of hash (keys (map_of cmp es)) ≡ shape_of hash (keys_of es)
  shape_map es rising = shape_keys h.total hash es (len_map hash cmp h es rising)
