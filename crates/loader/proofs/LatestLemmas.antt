-- The last row of a key: what rows leave once they are put, and that all shares together leave the same.
use Rattle.std.proofs.Common.{◌≡◌, ◌==◌, ℕ, ◌+◌, ◌<◌, ◌≤◌, Bool, true, false, cond, Option, Some, None, List, [], ◌∷◌, ◌++◌, length, get_or, suc, inl, inr, refl, sym, ap, ap₂, ◌∙◌, arith}
use Rattle.std.specs.FinMap.{empty, get, get-empty, get-insert, insert, same_map}
use Rattle.std.specs.List.{flat_map}
use Rattle.std.specs.Option.{option_or}
use Rattle.std.proofs.lemmas.Bool.{cases_Bool, eq-eqb, eqb-true}
use Rattle.cells.specs.CellOrder.{cell_cmp, cell_cmp-total, cell_eq}
use Rattle.cells.specs.SameKeys.{exact_cells, same_cells}
use Rattle.cells.specs.Tables.{Rows, laid_over}
use Rattle.cells.specs.Values.{RowValue}
use Rattle.cells.specs.declared.cell.Cell.{Cell}
use Rattle.loader.specs.Shares.{AreSpread, Pairs, pairs_of_share, share_count, share_of}
use Rattle.loader.specs.Tries.{inserted}

not_same : (a b : ℕ) → (a ≡ b → ⊥) → (a == b) ≡ false
not_same a b apart = elim (cases_Bool (a == b)) [ inl same ↦ absurd (apart (eqb-true a b same)) | inr other ↦ other ]

share_below : (hash : ℕ) → share_of hash < share_count
share_below hash = omega arith

or_none : (o : Option RowValue) → option_or o None ≡ o
or_none None = refl
or_none (Some row) = refl

or_or : (a b c : Option RowValue) → option_or a (option_or b c) ≡ option_or (option_or a b) c
or_or None b c = refl
or_or (Some row) b c = refl

-- the row, where it is under the key
abbrev if_same : Bool → RowValue → Option RowValue
if_same same row = cond same (Some row) None

-- the last row under the key, if there is one
abbrev latest : Cell → Pairs → Option RowValue
latest key [] = None
latest key (p ∷ pairs) = option_or (latest key pairs) (if_same (cell_eq key p.0) p.1)

latest_append : (key : Cell) (xs ys : Pairs) → latest key (xs ++ ys) ≡ option_or (latest key ys) (latest key xs)
latest_append key [] ys = sym (or_none (latest key ys))
latest_append key (p ∷ xs) ys =
    ap (λ o. option_or o (if_same (cell_eq key p.0) p.1)) (latest_append key xs ys) ∙ sym (or_or (latest key ys) (latest key xs) (if_same (cell_eq key p.0) p.1))

-- ---- rows inserted one after another

laid_one : (later earlier : Option RowValue) (row : RowValue) (same : Bool) → option_or later (cond same (Some row) earlier) ≡ option_or (option_or later (if_same same row)) earlier
laid_one None earlier row true = refl
laid_one None earlier row false = refl
laid_one (Some last) earlier row same = refl

get_inserted : (pairs : Pairs) (m : Rows) (key : Cell) → get (inserted m pairs) key ≡ option_or (latest key pairs) (get m key)
get_inserted [] m key = refl
get_inserted (p ∷ pairs) m key =
    get_inserted pairs (insert m p.0 p.1) key ∙ ap (option_or (latest key pairs)) (get-insert cell_cmp-total m p.0 p.1 key)
    ∙ laid_one (latest key pairs) (get m key) p.1 (cell_eq key p.0)

inserted_alone : (pairs : Pairs) (key : Cell) → get (inserted empty pairs) key ≡ latest key pairs
inserted_alone pairs key = get_inserted pairs empty key ∙ ap (option_or (latest key pairs)) (get-empty {X = RowValue} cell_cmp key) ∙ or_none (latest key pairs)

-- rows that are laid over others are inserted behind them
pub laid_inserted : ((later earlier : Rows) (key : Cell) → get (laid_over later earlier) key ≡ option_or (get later key) (get earlier key)) →
    (m : Rows) (pairs : Pairs) → laid_over (inserted empty pairs) m ≡ inserted m pairs
laid_inserted stands m pairs = same_map cell_cmp-total exact_cells _ _ (λ key.
    stands (inserted empty pairs) m key ∙ ap (λ o. option_or o (get m key)) (inserted_alone pairs key) ∙ sym (get_inserted pairs m key))

-- ---- rows of shares

module _ (hash_of : Cell → ℕ) (key : Cell) where
  in_front : (passes : Bool) (p : Cell × RowValue) (pairs : Pairs) →
      latest key (cond passes (p ∷ pairs) pairs) ≡ option_or (latest key pairs) (cond passes (if_same (cell_eq key p.0) p.1) None)
  in_front true p pairs = refl
  in_front false p pairs = sym (or_none (latest key pairs))

  one_more : (ours passes same : Bool) (rest : Option RowValue) (row : RowValue) → (same ≡ true → passes ≡ ours) →
      option_or (cond ours rest None) (cond passes (if_same same row) None) ≡ cond ours (option_or rest (if_same same row)) None
  one_more true true same rest row alike = refl
  one_more true false true rest row alike = absurd (let never = alike refl in cc)
  one_more true false false rest row alike = refl
  one_more false true true rest row alike = absurd (let never = alike refl in cc)
  one_more false true false rest row alike = refl
  one_more false false same rest row alike = refl

  -- the rows under a key are in one share
  latest_in : (share : ℕ) (pairs : Pairs) → latest key (pairs_of_share hash_of pairs share) ≡ cond (share_of (hash_of key) == share) (latest key pairs) None
  latest_in share [] = none (share_of (hash_of key) == share)
    where
      none : (ours : Bool) → ◌≡◌ {A = Option RowValue} None (cond ours None None)
      none true = refl
      none false = refl
  latest_in share (p ∷ pairs) =
      in_front (share_of (hash_of p.0) == share) p (pairs_of_share hash_of pairs share)
      ∙ ap (λ o. option_or o (cond (share_of (hash_of p.0) == share) (if_same (cell_eq key p.0) p.1) None)) (latest_in share pairs)
      ∙ one_more (share_of (hash_of key) == share) (share_of (hash_of p.0) == share) (cell_eq key p.0) (latest key pairs) p.1
      (λ same. ap (λ k. share_of (hash_of k) == share) (sym (same_cells key p.0 same)))

  -- these are the shares from this number on
  abbrev AreFrom : Pairs → ℕ → List Pairs → Type 0
  AreFrom pairs from shares = (i : ℕ) → i < length shares → get_or shares i [] ≡ pairs_of_share hash_of pairs (from + i)

  next_from : (pairs first : Pairs) (from : ℕ) (shares : List Pairs) → AreFrom pairs from (first ∷ shares) → AreFrom pairs (from + 1) shares
  next_from pairs first from shares are i within = are (suc i) (omega (arith, within)) ∙ ap (pairs_of_share hash_of pairs) (omega arith)

  latest_at : (pairs first : Pairs) (from : ℕ) (shares : List Pairs) → AreFrom pairs from (first ∷ shares) →
      latest key first ≡ cond (share_of (hash_of key) == from) (latest key pairs) None
  latest_at pairs first from shares are = ap (latest key) (are 0 (omega arith) ∙ ap (pairs_of_share hash_of pairs) (omega arith)) ∙ latest_in from pairs

  -- shares behind that of the key have no row under it
  latest_behind : (pairs : Pairs) (from : ℕ) (shares : List Pairs) → AreFrom pairs from shares → share_of (hash_of key) < from → latest key (flat_map (λ share. share) shares) ≡ None
  latest_behind pairs from [] are less = refl
  latest_behind pairs from (first ∷ shares) are less =
      let other : (share_of (hash_of key) == from) ≡ false = not_same (share_of (hash_of key)) from (λ e. absurd (omega (arith, less, e))) in
      latest_append key first (flat_map (λ share. share) shares)
      ∙ ap₂ option_or (latest_behind pairs (from + 1) shares (next_from pairs first from shares are) (omega (arith, less)))
      (latest_at pairs first from shares are ∙ ap (λ b. cond b (latest key pairs) None) other)

  -- the last row under the key is that of its share
  latest_there : (pairs : Pairs) (from : ℕ) (shares : List Pairs) → AreFrom pairs from shares → from ≤ share_of (hash_of key) → share_of (hash_of key) < from + length shares →
      latest key (flat_map (λ share. share) shares) ≡ latest key pairs
  latest_there pairs from [] are above below = absurd (omega (arith, above, below))
  latest_there pairs from (first ∷ shares) are above below =
      latest_append key first (flat_map (λ share. share) shares) ∙ ap (option_or (latest key (flat_map (λ share. share) shares))) (latest_at pairs first from shares are)
      ∙ (elim (cases_Bool (share_of (hash_of key) == from)) [
        | inl here ↦ let is = eqb-true (share_of (hash_of key)) from here in
            ap (λ b. option_or (latest key (flat_map (λ share. share) shares)) (cond b (latest key pairs) None)) here
            ∙ ap (λ o. option_or o (latest key pairs)) (latest_behind pairs (from + 1) shares (next_from pairs first from shares are) (omega (arith, is)))
        | inr other ↦ let apart : share_of (hash_of key) ≡ from → ⊥ = λ e. let never = sym other ∙ eq-eqb (share_of (hash_of key)) from e in cc in
            ap (λ b. option_or (latest key (flat_map (λ share. share) shares)) (cond b (latest key pairs) None)) other
            ∙ or_none (latest key (flat_map (λ share. share) shares))
            ∙ latest_there pairs (from + 1) shares (next_from pairs first from shares are) (omega (arith, above, apart)) (omega (arith, below))
      ])

-- rows spread over shares leave the same, share by share
pub spread_leaves : (hash_of : Cell → ℕ) (pairs : Pairs) (shares : List Pairs) → AreSpread hash_of pairs shares → inserted empty (flat_map (λ share. share) shares) ≡ inserted empty pairs
spread_leaves hash_of pairs shares spread = same_map cell_cmp-total exact_cells _ _ (λ key.
    inserted_alone (flat_map (λ share. share) shares) key
    ∙ latest_there hash_of key pairs 0 shares (λ i within. spread.each i (omega (arith, within, spread.many)) ∙ ap (pairs_of_share hash_of pairs) (omega arith))
    (omega arith) (omega (arith, spread.many, share_below (hash_of key)))
    ∙ sym (inserted_alone pairs key))
