-- Groups and the rows that went into them.
use Rattle.std.specs.Prelude.{◌≡◌, ℕ, zero, suc, ◌+◌, ◌<◌, ◌≤◌, Bool, true, false, List, [], ◌∷◌, ◌++◌, length, set, Some, None, if◌then◌else◌, refl}
use Rattle.std.specs.List.{AllByRecursion}
use Rattle.std.specs.List.Sorted.{IsPermutation}
use Rattle.std.proofs.Common.{get_or, ap, ap₂, sym, ◌∙◌, subst, arith, inl, inr}
use Rattle.std.proofs.lemmas.List.{append_assoc, append-nil, length-append, length-map}
use Rattle.std.proofs.lemmas.List.Sorted.{IsPermutation-append_comm, IsPermutation-append_left, IsPermutation-append_right, IsPermutation-refl, IsPermutation-trans}
use Rattle.aggs.specs.Accs.{acc_room}
use Rattle.aggs.specs.Room.{cell_limit}
use Rattle.aggs.specs.declared.acc.Acc.{Acc}
use Rattle.cells.specs.TupleOrder.{tuple_eq, tuple_eq-equiv}
use Rattle.cells.specs.Values.{RowValue}
use Rattle.cells.specs.declared.cell.Cell.{Cell}
use Rattle.groups.specs.Accumulators.{AllFit, accs_of, accs_together, both, group, group_or, is_start, no_rows}
use Rattle.groups.specs.Bags.{AreParts, Covers, Group, IsPart, joined}
use Rattle.groups.specs.Coarsening.{TakesGroup}
use Rattle.groups.specs.Groups.{cell_at, column_of, members, tuple_of}
use Rattle.groups.specs.Laws.{accs_join, group_any_order, group_joins}
use Rattle.groups.specs.Laying.{given, met_from}
use Rattle.groups.specs.declared.aggregation.Aggregation.{Aggregation}
use Rattle.groups.proofs.TuplesLemmas.{all_both}

-- ---- there is room for few rows
module _ (H : Type 0) where
  -- what rows went into can be put together
  pub all_fit : (aggregations : List Aggregation) (xs ys : List RowValue) → length xs + length ys ≤ cell_limit → AllFit (accs_of {H = H} aggregations xs) (accs_of aggregations ys)
  all_fit [] xs ys few = tt
  all_fit (a ∷ aggregations) xs ys few = (
    acc_room H a.kind (column_of a.column xs) (column_of a.column ys) (omega (arith, few, length-map xs (cell_at a.column), length-map ys (cell_at a.column))),
    all_fit aggregations xs ys few,
  )

some_both : (xs ys : List RowValue) → no_rows xs ≡ false → no_rows (xs ++ ys) ≡ false
some_both [] ys e = cc
some_both (x ∷ xs) ys e = refl

to_end : (p q r : List RowValue) → IsPermutation ((p ++ q) ++ r) ((p ++ r) ++ q)
to_end p q r = rw (append_assoc p q r, append_assoc p r q) (IsPermutation-append_right p (q ++ r) (r ++ q) (IsPermutation-append_comm q r))

-- ---- the rows of one tuple
module _ (columns : List ℕ) where
  alike_members : (t u : List Cell) (part : List RowValue) → AllByRecursion (λ r. tuple_of columns r ≡ u) part →
      members columns t part ≡ (if tuple_eq u t then part else [])
  alike_members t u [] alike = none (tuple_eq u t)
    where
      none : (b : Bool) → ◌≡◌ {A = List RowValue} [] (if b then [] else [])
      none true = refl
      none false = refl
  alike_members t u (r ∷ part) alike = rw (alike.0, alike_members t u part alike.1) (one (tuple_eq u t))
    where
      one : (b : Bool) → (if b then r ∷ (if b then part else []) else (if b then part else [])) ≡ (if b then r ∷ part else [])
      one true = refl
      one false = refl

  started : (t u : List Cell) (part : List RowValue) → no_rows part ≡ false → AllByRecursion (λ r. tuple_of columns r ≡ u) part →
      is_start columns t ≡ true → tuple_eq u t ≡ true
  started t u [] some alike start = cc
  started t u (r ∷ part) some alike start = by_columns columns t (alike.0) start
    where
      by_columns : (columns : List ℕ) (t : List Cell) → tuple_of columns r ≡ u → is_start columns t ≡ true → tuple_eq u t ≡ true
      by_columns [] [] e s = rw (← e) refl
      by_columns [] (c ∷ t) e s = cc
      by_columns (c ∷ columns) t e s = cc

module _ {H : Type 0} (aggregations : List Aggregation) (columns : List ℕ) where
  pub covers_none : Covers {H = H} aggregations columns [] []
  covers_none = record { parts = []; each = tt; all = IsPermutation-refl [] }

  -- what holds of the accumulators of few rows holds of those of each part
  pub parts_have : (P : List (Acc H) → Type 0) (more : ℕ) → ((part : List RowValue) → length part + more ≤ cell_limit → P (accs_of aggregations part)) →
      (groups : List (Group H)) (parts : List (List RowValue)) → AreParts aggregations columns groups parts → length (joined parts) + more ≤ cell_limit → AllByRecursion (λ g. P g.1) groups
  parts_have P more each [] parts are few = tt
  parts_have P more each (g ∷ groups) [] are few = absurd are
  parts_have P more each (g ∷ groups) (p ∷ parts) are few = (
    subst P (sym (are.0).accs) (each p (omega (arith, few, length-append p (joined parts)))),
    parts_have P more each groups parts are.1 (omega (arith, few, length-append p (joined parts))),
  )

  record Later (groups : List (Group H)) (parts : List (List RowValue)) (part : List RowValue) : Type 0 where
    new : List (List RowValue)
    each : AreParts aggregations columns groups new
    all : IsPermutation (joined parts ++ part) (joined new)

  part_joined : (g : Group H) (p : List RowValue) (t : List Cell) (accs were : List (Acc H)) (part : List RowValue) →
      IsPart aggregations columns g p → IsPart aggregations columns (t, accs) part →
      g ≡ (t, were) → IsPart aggregations columns (t, accs_together were accs) (p ++ part)
  part_joined g p t accs were part is more e = record {
    some = some_both p part is.some;
    alike = all_both _ p part (subst (λ (t : List Cell). AllByRecursion (λ r. tuple_of columns r ≡ t) p) (ap (λ h. h.0) e) is.alike) more.alike;
    accs = ap₂ accs_together (sym (ap (λ h. h.1) e) ∙ is.accs) more.accs ∙ sym (accs_join aggregations p part);
  }

  module _ (t : List Cell) (accs : List (Acc H)) (part : List RowValue) (is : IsPart aggregations columns (t, accs) part) where
    one_first : (g : Group H) (p : List RowValue) (groups : List (Group H)) (parts : List (List RowValue)) → IsPart aggregations columns g p → Later groups parts part →
        Later (g ∷ groups) (p ∷ parts) part
    one_first g p groups parts one rest = record {
      new = p ∷ rest.new;
      each = (one, rest.each);
      all = rw append_assoc (IsPermutation-append_right p (joined parts ++ part) (joined rest.new) rest.all);
    }

    joined_at : (were : List (Acc H)) (groups : List (Group H)) (parts : List (List RowValue)) (i : ℕ) →
        AreParts aggregations columns groups parts → i < length groups → ((d : Group H) → get_or groups i d ≡ (t, were)) →
        Later (set groups i (t, accs_together were accs)) parts part
    joined_at were [] parts i are h e = absurd (omega arith)
    joined_at were (g ∷ groups) [] i are h e = absurd are
    joined_at were (g ∷ groups) (p ∷ parts) zero are h e = record {
      new = (p ++ part) ∷ parts;
      each = (part_joined g p t accs were part are.0 is (e g), are.1);
      all = to_end p (joined parts) part;
    }
    joined_at were (g ∷ groups) (p ∷ parts) (suc i) are h e = one_first g p _ parts are.0 (joined_at were groups parts i are.1 (omega arith) e)

    added_at : (groups : List (Group H)) (parts : List (List RowValue)) → AreParts aggregations columns groups parts → Later (groups ++ (t, accs) ∷ []) parts part
    added_at [] [] are = record { new = part ∷ []; each = (is, tt); all = rw (append-nil part) (IsPermutation-refl part) }
    added_at [] (p ∷ parts) are = absurd are
    added_at (g ∷ groups) [] are = absurd are
    added_at (g ∷ groups) (p ∷ parts) are = one_first g p _ parts are.0 (added_at groups parts are.1)

    covers_later : (rows : List RowValue) (old new is : List (Group H)) (covers : Covers aggregations columns rows old) → Later is covers.parts part → new ≡ is →
        Covers aggregations columns (rows ++ part) new
    covers_later rows old new is covers later e = record {
      parts = later.new;
      each = subst (λ gs. AreParts aggregations columns gs later.new) (sym e) later.each;
      all = IsPermutation-trans _ _ _ (IsPermutation-append_left part rows (joined covers.parts) covers.all) later.all;
    }

    pub covers_part : (rows : List RowValue) (old new : List (Group H)) → Covers aggregations columns rows old →
        TakesGroup t accs old new → Covers aggregations columns (rows ++ part) new
    covers_part rows old new covers (inl joins) =
        covers_later rows old new _ covers (joined_at joins.were old covers.parts joins.index covers.each joins.within joins.at) joins.is
    covers_part rows old new covers (inr e) = covers_later rows old new _ covers (added_at old covers.parts covers.each) e

  -- ---- the parts of groups of which some come before one, and some after it
  pub record AreCut (before : List (Group H)) (g : Group H) (after : List (Group H)) (parts : List (List RowValue)) : Type 0 where
    pub firsts : List (List RowValue)
    pub part : List RowValue
    pub lasts : List (List RowValue)
    pub are : AreParts aggregations columns before firsts
    pub is : IsPart aggregations columns g part
    pub behind : AreParts aggregations columns after lasts
    pub whole : joined parts ≡ joined firsts ++ (part ++ joined lasts)

  pub cut_at : (before : List (Group H)) (g : Group H) (after : List (Group H)) (parts : List (List RowValue)) →
      AreParts aggregations columns (before ++ g ∷ after) parts → AreCut before g after parts
  cut_at [] g after [] are = absurd are
  cut_at [] g after (p ∷ parts) are = record { firsts = []; part = p; lasts = parts; are = tt; is = are.0; behind = are.1; whole = refl }
  cut_at (b ∷ before) g after [] are = absurd are
  cut_at (b ∷ before) g after (p ∷ parts) are =
      let rest = cut_at before g after parts are.1 in
      record {
        firsts = p ∷ rest.firsts;
        part = rest.part;
        lasts = rest.lasts;
        are = (are.0, rest.are);
        is = rest.is;
        behind = rest.behind;
        whole = ap (λ l. p ++ l) rest.whole ∙ sym (append_assoc p (joined rest.firsts) (rest.part ++ joined rest.lasts));
      }

  pub cut_short : (before : List (Group H)) (g : Group H) (after : List (Group H)) (parts : List (List RowValue)) (cut : AreCut before g after parts) →
      length (joined cut.firsts) + length cut.part ≤ length (joined parts)
  cut_short before g after parts cut =
      omega (arith, ap (λ l. length l) cut.whole, length-append (joined cut.firsts) (cut.part ++ joined cut.lasts), length-append cut.part (joined cut.lasts))

  part_gives : (g : Group H) (part : List RowValue) (t : List Cell) → IsPart aggregations columns g part →
      group aggregations columns part t ≡ given g t
  part_gives g part t is = ap (group_or {H = H} aggregations (is_start columns t)) (alike_members columns t g.0 part is.alike)
      ∙ cases (tuple_eq g.0 t) (is_start columns t) refl refl ∙ ap (λ b. if b then Some g.1 else None) (tuple_eq-equiv.symm g.0 t)
    where
      cases : (b s : Bool) → tuple_eq g.0 t ≡ b → is_start columns t ≡ s →
          group_or aggregations s (if b then part else []) ≡ (if b then Some g.1 else None)
      cases true s e f = rw is.some (ap Some (sym is.accs))
      cases false true e f = let h = started columns t g.0 part is.some is.alike f in cc
      cases false false e f = refl

  -- what the groups give is what the rows give
  pub met_joined : (groups : List (Group H)) (parts : List (List RowValue)) (before : List RowValue) (t : List Cell) →
      AreParts aggregations columns groups parts →
      met_from (group aggregations columns before t) groups t ≡ group aggregations columns (before ++ joined parts) t
  met_joined [] [] before t are = ap (λ rows. group {H = H} aggregations columns rows t) (sym (append-nil before))
  met_joined [] (p ∷ parts) before t are = absurd are
  met_joined (g ∷ groups) [] before t are = absurd are
  met_joined (g ∷ groups) (p ∷ parts) before t are =
      ap (λ o. met_from o groups t) (ap (both (group aggregations columns before t)) (sym (part_gives g p t are.0)) ∙ sym (group_joins aggregations columns t before p))
      ∙ met_joined groups parts (before ++ p) t are.1
      ∙ ap (λ rows. group {H = H} aggregations columns rows t) (append_assoc before p (joined parts))

  pub met_covers : (rows : List RowValue) (groups : List (Group H)) (t : List Cell) → Covers aggregations columns rows groups →
      met_from (group aggregations columns [] t) groups t ≡ group aggregations columns rows t
  met_covers rows groups t covers = met_joined groups covers.parts [] t covers.each
      ∙ sym (group_any_order aggregations columns t rows (joined covers.parts) covers.all)
