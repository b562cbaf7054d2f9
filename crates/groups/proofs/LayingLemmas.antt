-- Groups laid over tries.
use Rattle.std.specs.Prelude.{◌≡◌, ◌==◌, ℕ, ◌+◌, ◌<◌, ◌≤◌, Bool, true, false, not, ◌&&◌, List, [], ◌∷◌, ◌++◌, length, take, drop, Option, Some, None, IfSome, cond, if◌then◌else◌, refl}
use Rattle.std.specs.FinMap as map
use Rattle.std.specs.Prelude.{is_some}
use Rattle.std.specs.FinMap.{IsAntisymmetric}
use Rattle.std.specs.Ordering.{is_eq, is_lt}
use Rattle.std.specs.declared.cmp.Ordering.{Ordering}
use Rattle.std.proofs.Common.{eqb-true, get_or, ap, sym, ◌∙◌, subst, arith}
use Rattle.std.proofs.lemmas.List.{length-take}
use Rattle.std.proofs.lemmas.List.Sorted.{length_permutation}
use Rattle.aggs.specs.declared.acc.Acc.{Acc}
use Rattle.cells.specs.SameKeys.{exact_tuples, same_tuples}
use Rattle.cells.specs.TupleOrder.{tuple_cmp, tuple_cmp-total, tuple_eq}
use Rattle.cells.specs.Values.{RowValue}
use Rattle.cells.specs.declared.cell.Cell.{Cell}
use Rattle.groups.specs.Accumulators.{AllFit, accs_of, both, group, group_or, is_start, no_rows}
use Rattle.groups.specs.Bags.{AreParts, Covers, Group, IsCounted, joined}
use Rattle.groups.specs.Groups.{members, tuple_of}
use Rattle.groups.specs.Laws.{kept_short}
use Rattle.groups.specs.Laying.{AreLaidOnce, CanMeet, IsLaid, Lays, found, given, met_from}
use Rattle.groups.specs.Partials.{StandsAt}
use Rattle.groups.specs.declared.aggregation.Aggregation.{Aggregation}
use Rattle.groups.proofs.BagLemmas.{all_fit, cut_at, cut_short, met_covers, met_joined}
use Rattle.groups.proofs.TuplesLemmas.{cut_list, take_next}
use Rattle.trie.specs.Digits.{digit_order}
use Rattle.trie.specs.Entries.{with_pair, with_pairs}
use Rattle.trie.specs.Maps.{map_of}

-- with a pair more a list is longer by one at most
module _ {K V : Type 0} (order : K → K → Ordering) (key : K) (value : V) where
  pub pair_longer : (es : List (K × V)) → length (with_pair order key value es) ≤ length es + 1
  pair_longer [] = omega arith
  pair_longer (e ∷ es) = cases (is_lt (order key e.0)) (is_eq (order key e.0)) (pair_longer es)
    where
      cases : (b c : Bool) → length (with_pair order key value es) ≤ length es + 1 →
          length (if b then (key, value) ∷ e ∷ es else if c then (key, value) ∷ es else e ∷ with_pair order key value es) ≤ length (e ∷ es) + 1
      cases true c rest = omega arith
      cases false true rest = omega arith
      cases false false rest = omega (arith, rest)

-- what a trie's law says: its entries are a finite map
pub record AreMaps (H : Type 0) (hash : List Cell → ℕ) : Type 0 where
  pub value : (es : List (Group H)) (t : List Cell) → map.get (map_of tuple_cmp es) t ≡ found hash es t
  pub put : (es : List (Group H)) (t : List Cell) (accs : List (Acc H)) → IsAntisymmetric tuple_cmp →
      map_of tuple_cmp (with_pair (digit_order hash tuple_cmp) t accs es) ≡ map.insert (map_of tuple_cmp es) t accs

module _ {H : Type 0} where
  pub both_none : (o : Option (List (Acc H))) → both o None ≡ o
  both_none None = refl
  both_none (Some a) = refl

  module _ (hash : List Cell → ℕ) (maps : AreMaps H hash) where
    -- a value laid at a tuple
    value_laid : (es : List (Group H)) (t : List Cell) (sum : List (Acc H)) (q : List Cell) →
        found hash (with_pair (digit_order hash tuple_cmp) t sum es) q ≡ cond (tuple_eq q t) (Some sum) (found hash es q)
    value_laid es t sum q =
        sym (maps.value (with_pair (digit_order hash tuple_cmp) t sum es) q)
        ∙ ap (λ m. map.get m q) (maps.put es t sum exact_tuples)
        ∙ map.get-insert tuple_cmp-total (map_of tuple_cmp es) t sum q
        ∙ ap (cond (tuple_eq q t) (Some sum)) (maps.value es q)

    pub laid : (es new : List (Group H)) (t : List Cell) (accs sum : List (Acc H)) → Some sum ≡ both (found hash es t) (Some accs) →
        new ≡ with_pair (digit_order hash tuple_cmp) t sum es → Lays hash t accs es new
    laid es new t accs sum e is = record {
      gives = λ q. ap (λ l. found hash l q) is ∙ value_laid es t sum q ∙ cases q (tuple_eq q t) refl;
      longer = rw is (pair_longer (digit_order hash tuple_cmp) t sum es);
    }
      where
        cases : (q : List Cell) (b : Bool) → tuple_eq q t ≡ b →
            cond b (Some sum) (found hash es q) ≡ both (found hash es q) (cond b (Some accs) None)
        cases q true p = let same : q ≡ t = same_tuples q t p in rw same e
        cases q false p = sym (both_none (found hash es q))

  module _ (hash : List Cell → ℕ) where
    -- the start of the empty set, and of a set that is not
    pub started_empty : (aggregations : List Aggregation) (columns : List ℕ) (tuple : List Cell) (accs : List (Acc H)) (old new : List (Group H)) → columns ≡ [] →
        tuple ≡ [] → accs ≡ accs_of aggregations [] → old ≡ [] → Lays hash tuple accs old new → IsLaid hash aggregations columns [] new
    started_empty aggregations columns tuple accs old new none empty are nothing lays = record {
      gives = λ q. lays.gives q ∙ rw (none, empty, are, nothing) (by_tuple q);
      short = omega (arith, lays.longer, ap length nothing);
    }
      where
        by_tuple : (q : List Cell) → both None (given ([], accs_of {H = H} aggregations []) q) ≡ group aggregations [] [] q
        by_tuple [] = refl
        by_tuple (x ∷ q) = refl

    pub started_other : (aggregations : List Aggregation) (columns : List ℕ) (new : List (Group H)) → (columns ≡ [] → ⊥) →
        new ≡ [] → IsLaid hash aggregations columns [] new
    started_other aggregations [] new some none = absurd (some refl)
    started_other aggregations (c ∷ columns) new some none = record {
      gives = λ q. ap (λ l. found hash l q) none;
      short = rw none (omega arith);
    }

  met_push : (start : Option (List (Acc H))) (groups : List (Group H)) (g : Group H) (t : List Cell) →
      met_from start (groups ++ g ∷ []) t ≡ both (met_from start groups t) (given g t)
  met_push start [] g t = refl
  met_push start (h ∷ groups) g t = met_push (both start (given h t)) groups g t

  module _ (hash : List Cell → ℕ) (aggregations : List Aggregation) (columns : List ℕ) (groups : List (Group H)) (i : ℕ)
      (g : Group H) (h : i < length groups) (is : g ≡ get_or groups i g) where
    pub laid_copy : (old new : List (Group H)) (t : List Cell) (a : List (Acc H)) → IsLaid hash aggregations columns (take i groups) old → t ≡ g.0 → a ≡ g.1 → Lays hash t a old new →
        IsLaid hash aggregations columns (take (i + 1) groups) new
    laid_copy old new t a now p q copied =
        let lays : Lays hash g.0 g.1 old new = subst (λ u. Lays hash u g.1 old new) p (subst (λ b. Lays hash t b old new) q copied) in
        record {
          gives = λ t. lays.gives t ∙ ap (λ o. both o (given g t)) (now.gives t)
              ∙ sym (met_push (group aggregations columns [] t) (take i groups) g t) ∙ ap (λ l. met_from (group aggregations columns [] t) l t) (sym (take_next groups i g g h is));
          short = omega (arith, now.short, lays.longer, length-take i groups, length-take (i + 1) groups);
        }

    pub fits_copy : (old : List (Group H)) (t : List Cell) (a : List (Acc H)) → IsLaid hash aggregations columns (take i groups) old → CanMeet aggregations columns groups →
        t ≡ g.0 → a ≡ g.1 → IfSome (found hash old t) (λ o. AllFit o a)
    fits_copy old t a now can p q = rw (p, q) (subst (λ o. IfSome o (λ o. AllFit o g.1)) (sym (now.gives g.0)) (can.fit (take i groups) (drop (i + 1) groups) g (cut_list groups i g g h is)))

  module _ (aggregations : List Aggregation) (columns : List ℕ) where
    fits_group : (start : Bool) (rows : List RowValue) (accs : List (Acc H)) → AllFit (accs_of aggregations rows) accs →
        IfSome (group_or aggregations start rows) (λ o. AllFit o accs)
    fits_group start rows accs fit = one (no_rows rows && not start)
      where
        one : (b : Bool) → IfSome (cond b None (Some (accs_of aggregations rows))) (λ o. AllFit o accs)
        one true = tt
        one false = fit

    pub can_meet : (groups : List (Group H)) → IsCounted aggregations columns groups → CanMeet aggregations columns groups
    can_meet groups counted = let covers = counted.covers in record {
      fit = λ before after g e.
          let cut = cut_at aggregations columns before g after covers.parts (subst (λ gs. AreParts aggregations columns gs covers.parts) e covers.each) in
          let ms = members columns g.0 (joined cut.firsts) in
          let test : RowValue → Bool = λ r. tuple_eq (tuple_of columns r) g.0 in
          subst (λ o. IfSome o (λ old. AllFit old g.1)) (sym (met_joined aggregations columns before cut.firsts [] g.0 cut.are))
          (fits_group (is_start columns g.0) ms g.1 (subst (AllFit (accs_of aggregations ms)) (sym (cut.is).accs)
          (all_fit H aggregations ms cut.part
          (omega (arith, kept_short test (joined cut.firsts), cut_short aggregations columns before g after covers.parts cut, counted.few, length_permutation counted.rows (joined covers.parts) covers.all)))));
    }

    pub stands : (hash : List Cell → ℕ) (rows : List RowValue) (groups entries : List (Group H)) → Covers aggregations columns rows groups →
        IsLaid hash aggregations columns groups entries → StandsAt hash aggregations columns rows entries
    stands hash rows groups entries covers laid = record { gives = λ t. laid.gives t ∙ met_covers aggregations columns rows groups t covers }

  pub fits_none : (hash : List Cell → ℕ) (es : List (Group H)) (t : List Cell) (a : List (Acc H)) → es ≡ [] → IfSome (found hash es t) (λ o. AllFit o a)
  fits_none hash es t a e = rw e tt

pub not_nil : (xs : List ℕ) → false ≡ (length xs == 0) → xs ≡ [] → ⊥
not_nil [] e f = cc
not_nil (x ∷ xs) e f = cc

pub is_nil : (xs : List ℕ) → true ≡ (length xs == 0) → xs ≡ []
is_nil [] e = refl
is_nil (x ∷ xs) e = absurd (omega (arith, eqb-true (length (x ∷ xs)) 0 (sym e)))

-- ---- groups of which no two have one tuple
module _ {H : Type 0} (hash : List Cell → ℕ) (maps : AreMaps H hash) where
  abbrev Table : Type 0
  Table = map.FinMap tuple_cmp (List (Acc H))

  abbrev inserted : List (Group H) → Table → Table
  inserted [] m = m
  inserted (g ∷ groups) m = inserted groups (map.insert m g.0 g.1)

  inserted_pairs : (groups es : List (Group H)) → map_of tuple_cmp (with_pairs (digit_order hash tuple_cmp) groups es) ≡ inserted groups (map_of tuple_cmp es)
  inserted_pairs [] es = refl
  inserted_pairs (g ∷ groups) es = inserted_pairs groups (with_pair (digit_order hash tuple_cmp) g.0 g.1 es) ∙ ap (inserted groups) (maps.put es g.0 g.1 exact_tuples)

  one_longer : (m : Table) (g : Group H) → map.len (map.insert m g.0 g.1) ≤ map.len m + 1
  one_longer m g = cases (map.contains_key m g.0) (map.len-insert tuple_cmp-total m g.0 g.1)
    where
      cases : (b : Bool) → map.len (map.insert m g.0 g.1) ≡ cond b (map.len m) (map.len m + 1) → map.len (map.insert m g.0 g.1) ≤ map.len m + 1
      cases true e = omega (arith, e)
      cases false e = omega (arith, e)

  no_more : (groups : List (Group H)) (m : Table) → map.len (inserted groups m) ≤ map.len m + length groups
  no_more [] m = omega arith
  no_more (g ∷ groups) m = omega (arith, no_more groups (map.insert m g.0 g.1), one_longer m g)

  is_new : (m : Table) (g : Group H) → map.len m < map.len (map.insert m g.0 g.1) → map.get m g.0 ≡ None
  is_new m g h = cases (map.get m g.0) refl
    where
      cases : (o : Option (List (Acc H))) → map.get m g.0 ≡ o → o ≡ None
      cases None e = refl
      cases (Some a) e = absurd (omega (arith, h, map.len-insert tuple_cmp-total m g.0 g.1 ∙ ap (λ b. cond b (map.len m) (map.len m + 1)) (ap is_some e)))

  gives_each : (groups : List (Group H)) (m : Table) → map.len m + length groups ≤ map.len (inserted groups m) → (t : List Cell) →
      map.get (inserted groups m) t ≡ met_from (map.get m t) groups t
  gives_each [] m h t = refl
  gives_each (g ∷ groups) m h t =
      let next : Table = map.insert m g.0 g.1 in
      let new : map.get m g.0 ≡ None = is_new m g (omega (arith, h, no_more groups next, one_longer m g)) in
      gives_each groups next (omega (arith, h, one_longer m g)) t ∙
      ap (λ o. met_from o groups t) (map.get-insert tuple_cmp-total m g.0 g.1 t ∙ cases new (tuple_eq t g.0) refl)
    where
      cases : map.get m g.0 ≡ None → (b : Bool) → tuple_eq t g.0 ≡ b → cond b (Some g.1) (map.get m t) ≡ both (map.get m t) (cond b (Some g.1) None)
      cases new true p = let same : t ≡ g.0 = same_tuples t g.0 p in rw (same, new) refl
      cases new false p = sym (both_none (map.get m t))

  pub laid_once : (groups es : List (Group H)) → map_of {V = List (Acc H)} tuple_cmp [] ≡ map.empty → es ≡ with_pairs (digit_order hash tuple_cmp) groups [] → map.len (map_of tuple_cmp es) ≡ length es → length groups ≤ length es →
      AreLaidOnce hash groups es
  laid_once groups es nothing is counted many =
      let made : map_of tuple_cmp es ≡ inserted groups map.empty = ap (map_of tuple_cmp) is ∙ inserted_pairs groups [] ∙ ap (inserted groups) nothing in
      let none : map.len (map.empty {X = List (Acc H)} {R = tuple_cmp}) ≡ 0 = map.len-empty tuple_cmp (List (Acc H)) in
      let long : map.len (inserted groups map.empty) ≡ length es = ap (λ (m : Table). map.len m) (sym made) ∙ counted in
      record {
        gives = λ t. sym (maps.value es t) ∙ ap (λ (m : Table). map.get m t) made ∙ gives_each groups map.empty (omega (arith, none, long, many)) t ∙
            ap (λ o. met_from o groups t) (ap (λ (m : Table). map.get m t) (sym nothing) ∙ maps.value [] t);
        short = omega (arith, no_more groups map.empty, none, long);
      }
