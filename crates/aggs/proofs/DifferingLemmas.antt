-- The entries of a trie of cells as a set of cells, and the steps of that set.
use Rattle.std.specs.List.{fold, list_any}
use Rattle.std.proofs.lemmas.List.{append_assoc, append-nil, map-append}
use Rattle.std.proofs.Common.{Bor, ◌≡◌, ◌≢◌, ◌||◌, ◌+◌, ℕ, Bool, true, false, cond, Option, Some, None, List, [], ◌∷◌, ◌++◌, refl, sym, ap, ap₂, ◌∙◌, is_some, option_copied, Ordering}
use Rattle.std.specs.FinMap as map
use Rattle.std.specs.FinMap.Entries.{is_some-find}
use Rattle.std.specs.FinSet.{contains, contains-empty, contains-from_list, contains-insert, contains-union, empty, from_list, insert, len, len-empty, len-insert, same_set, union}
use Rattle.std.specs.Map.{keys_of}
use Rattle.aggs.specs.Counts.{present_append}
use Rattle.aggs.specs.Differing.{Cells, contains_different, different, nothing_second, union_turns}
use Rattle.aggs.specs.Values.{is_null, present}
use Rattle.cells.specs.CellOrder.{cell_cmp, cell_cmp-total, cell_eq, cell_eq-equiv}
use Rattle.cells.specs.SameKeys.{exact_cells, same_cells}
use Rattle.cells.specs.declared.cell.Cell.{Cell}
use Rattle.cells.specs.declared.cell.Cell.TheVariants.{Null, Int, Text}
use Rattle.trie.specs.Entries.{value_at}
use Rattle.trie.specs.Maps.{HaveSameKeys, map_of}
use Rattle.trie.specs.Merging.{IsMerged, blended}

abbrev Entries : Type 0
Entries = List (Cell × Unit {0})

-- the set that entries hold
abbrev pub held : Entries → Cells
held es = from_list (keys_of es)

same : (s t : Cells) → ((q : Cell) → contains s q ≡ contains t q) → s ≡ t
same s t alike = same_set cell_cmp-total exact_cells s t alike

contains_keys : (es : Entries) (q : Cell) → contains (held es) q ≡ is_some (map.get (map_of cell_cmp es) q)
contains_keys es q = contains-from_list cell_cmp-total (keys_of es) q ∙ sym (is_some-find cell_cmp q es)
    ∙ sym (ap is_some (map.get-from_entries cell_cmp-total es q))

pub contains_held : (es : Entries) (s : Cells) (q : Cell) (found : Option (Unit {0})) → held es ≡ s →
    map.get (map_of cell_cmp es) q ≡ found → contains s q ≡ is_some found
contains_held es s q found is e = ap (λ (t : Cells). contains t q) (sym is) ∙ contains_keys es q ∙ ap is_some e

pub keys_are : (es : Entries) (s : Cells) → held es ≡ s → (xs : List Cell) → s ≡ different xs → HaveSameKeys cell_cmp (keys_of es) (present xs)
keys_are es s is xs holds = record {
  alike = λ key. sym (contains-from_list cell_cmp-total (keys_of es) key) ∙ ap (λ (t : Cells). contains t key) (is ∙ holds) ∙ contains_different xs key;
}

number_keys : (es : Entries) → len (held es) ≡ map.len (map_of cell_cmp es)
number_keys [] = len-empty cell_cmp ∙ sym (map.len-empty cell_cmp (Unit {0}))
number_keys (e ∷ es) =
    len-insert cell_cmp-total (held es) e.0
    ∙ ap₂ (λ (b : Bool) (n : ℕ). cond b n (n + 1)) (contains_keys es e.0) (number_keys es)
    ∙ sym (map.len-insert cell_cmp-total (map_of cell_cmp es) e.0 e.1)

pub number_held : (es : Entries) (s : Cells) (n : ℕ) → held es ≡ s → map.len (map_of cell_cmp es) ≡ n → len s ≡ n
number_held es s n is many = ap (λ (t : Cells). len t) (sym is) ∙ number_keys es ∙ many

some_or : (b : Bool) (x : Option (Unit {0})) → is_some (cond b (Some tt) x) ≡ (b || is_some x)
some_or true x = refl
some_or false x = refl

pub one_more_held : (es new : Entries) (s : Cells) (c : Cell) → held es ≡ s →
    map_of cell_cmp new ≡ map.insert (map_of cell_cmp es) c tt → held new ≡ insert s c
one_more_held es new s c is e = same (held new) (insert s c) (λ q.
    contains_keys new q
    ∙ ap (λ m. is_some (map.get m q)) e
    ∙ ap is_some (map.get-insert cell_cmp-total (map_of cell_cmp es) c tt q)
    ∙ some_or (cell_eq q c) (map.get (map_of cell_cmp es) q)
    ∙ ap (λ b. cell_eq q c || b) (sym (contains_held es s q (map.get (map_of cell_cmp es) q) is refl))
    ∙ sym (contains-insert cell_cmp-total s c q))

-- ---- the cells of a list, as keys one after another

pub null_behind : (keys : List Cell) (c : Cell) → is_null c ≡ true → keys ≡ keys ++ present (c ∷ [])
null_behind keys Null e = sym (append-nil keys)
null_behind keys (Int n) e = absurd (cc)
null_behind keys (Text t) e = absurd (cc)

pub one_behind : (pairs : Entries) (c : Cell) → is_null c ≡ false → keys_of (pairs ++ (c, tt) ∷ []) ≡ keys_of pairs ++ present (c ∷ [])
one_behind pairs Null e = absurd (cc)
one_behind pairs (Int n) e = map-append (λ (p : Cell × Unit {0}). p.0) pairs ((Int n, tt) ∷ [])
one_behind pairs (Text t) e = map-append (λ (p : Cell × Unit {0}). p.0) pairs ((Text t, tt) ∷ [])

pub key_more : (keys more rest cells : List Cell) (c : Cell) → keys ++ present (c ∷ rest) ≡ present cells → more ≡ keys ++ present (c ∷ []) → more ++ present rest ≡ present cells
key_more keys more rest cells c so e =
    ap (λ l. l ++ present rest) e ∙ append_assoc keys (present (c ∷ [])) (present rest) ∙ ap (λ l. keys ++ l) (sym (present_append (c ∷ []) rest)) ∙ so

has_swapped : (a b c : Bool) → (a || (b || c)) ≡ ((b || a) || c)
has_swapped true true c = refl
has_swapped true false c = refl
has_swapped false true c = refl
has_swapped false false c = refl

all_put : (pairs : Entries) (m : map.FinMap cell_cmp (Unit {0})) (q : Cell) →
    is_some (map.get (fold (λ (m : map.FinMap cell_cmp (Unit {0})) (p : Cell × Unit {0}). map.insert m p.0 p.1) m pairs) q) ≡ (list_any (cell_eq q) (keys_of pairs) || is_some (map.get m q))
all_put [] m q = refl
all_put (p ∷ pairs) m q =
    all_put pairs (map.insert m p.0 p.1) q
    ∙ ap (λ b. list_any (cell_eq q) (keys_of pairs) || b) (ap is_some (map.get-insert cell_cmp-total m p.0 p.1 q) ∙ some_or (cell_eq q p.0) (map.get m q))
    ∙ has_swapped (list_any (cell_eq q) (keys_of pairs)) (cell_eq q p.0) (is_some (map.get m q))

pub all_held : (pairs new : Entries) (xs : List Cell) → keys_of pairs ≡ xs →
    map_of cell_cmp new ≡ fold (λ (m : map.FinMap cell_cmp (Unit {0})) (p : Cell × Unit {0}). map.insert m p.0 p.1) (map_of cell_cmp []) pairs → held new ≡ from_list xs
all_held pairs new xs are e = same (held new) (from_list xs) (λ q.
    contains_keys new q
    ∙ ap (λ m. is_some (map.get m q)) e
    ∙ all_put pairs (map_of cell_cmp []) q
    ∙ ap (λ b. list_any (cell_eq q) (keys_of pairs) || b) (sym (contains_keys [] q) ∙ contains-empty cell_cmp q)
    ∙ or_false (list_any (cell_eq q) (keys_of pairs))
    ∙ ap (list_any (cell_eq q)) are
    ∙ sym (contains-from_list cell_cmp-total xs q))
  where
    or_false : (b : Bool) → (b || false) ≡ b
    or_false true = refl
    or_false false = refl

either : (x y : Option (Unit {0})) → is_some (blended (λ a b. b) x y) ≡ (is_some x || is_some y)
either None y = refl
either (Some x) None = refl
either (Some x) (Some y) = refl

pub both_held : (order : Cell → Cell → Ordering) → ((es : Entries) (q : Cell) → map.get (map_of cell_cmp es) q ≡ value_at order es q) →
    (es fs ms : Entries) (s t : Cells) → held es ≡ s → held fs ≡ t → IsMerged order (λ a b. b) es fs ms → held ms ≡ union s t
both_held order value es fs ms s t first second merged = same (held ms) (union s t) (λ q.
    contains_held ms (held ms) q (value_at order ms q) refl (value ms q)
    ∙ ap is_some (merged.values q)
    ∙ either (value_at order es q) (value_at order fs q)
    ∙ ap₂ (λ (a b : Bool). a || b) (sym (contains_held es s q (value_at order es q) first (value es q))) (sym (contains_held fs t q (value_at order fs q) second (value fs q)))
    ∙ sym (contains-union cell_cmp-total s t q))

-- a cell more, as the set of that cell alone put to the others
one_more : (s : Cells) (c : Cell) → insert s c ≡ union s (insert empty c)
one_more s c = same _ _ (λ q.
    contains-insert cell_cmp-total s c q
    ∙ ap (λ b. b || contains s q) (in_one q)
    ∙ sym (contains-union cell_cmp-total (insert empty c) s q))
    ∙ union_turns (insert empty c) s
  where
    or_false : (b : Bool) → b ≡ (b || false)
    or_false true = refl
    or_false false = refl

    in_one : (q : Cell) → cell_eq q c ≡ contains (insert (empty {R = cell_cmp}) c) q
    in_one q = or_false (cell_eq q c) ∙ ap (λ b. cell_eq q c || b) (sym (contains-empty cell_cmp q)) ∙ sym (contains-insert cell_cmp-total empty c q)

pub null_stepped : (s : Cells) (c : Cell) → is_null c ≡ true → s ≡ union s (different (c ∷ []))
null_stepped s Null e = sym (nothing_second s)
null_stepped s (Int n) e = absurd (cc)
null_stepped s (Text t) e = absurd (cc)

pub new_stepped : (s : Cells) (c : Cell) → is_null c ≡ false → insert s c ≡ union s (different (c ∷ []))
new_stepped s Null e = absurd (cc)
new_stepped s (Int n) e = one_more s (Int n)
new_stepped s (Text t) e = one_more s (Text t)

already : (b a : Bool) → (b ≡ true → a ≡ true) → a ≡ (b || a)
already true a there = there refl
already false a there = refl

pub old_stepped : (s : Cells) (c : Cell) → is_null c ≡ false → contains s c ≡ true → s ≡ union s (different (c ∷ []))
old_stepped s c e there = same s (insert s c) (λ q.
    already (cell_eq q c) (contains s q) (λ same. ap (contains s) (same_cells q c same) ∙ there)
    ∙ sym (contains-insert cell_cmp-total s c q))
    ∙ new_stepped s c e

-- a cell that is not there changes the set
pub new_needed : (s : Cells) (c : Cell) → is_null c ≡ false → contains s c ≡ false → union s (different (c ∷ [])) ≢ s
new_needed s c e missing same =
    let there : contains (insert s c) c ≡ (cell_eq c c || contains s c) = contains-insert cell_cmp-total s c c in
    let first : (cell_eq c c || contains s c) ≡ true = ap (λ b. b || contains s c) (cell_eq-equiv.refl c) in
    let alike : contains (insert s c) c ≡ contains s c = ap (λ (t : Cells). contains t c) (new_stepped s c e ∙ same) in
    cc (there, first, alike, missing)

one_long : (c : Cell) → len (insert (empty {R = cell_cmp}) c) ≡ 1
one_long c = len-insert cell_cmp-total empty c
    ∙ ap₂ (λ (b : Bool) (n : ℕ). cond b n (n + 1)) (contains-empty cell_cmp c) (len-empty cell_cmp)

pub new_is_one : (c : Cell) → is_null c ≡ false → len (different (c ∷ [])) ≡ 1
new_is_one Null e = absurd (cc)
new_is_one (Int n) e = one_long (Int n)
new_is_one (Text t) e = one_long (Text t)

-- what is lent is there where what it lends is
pub copied_alike : (r : Option (Bor (Unit {0}))) → is_some r ≡ is_some (option_copied r)
copied_alike None = refl
copied_alike (Some x) = refl
