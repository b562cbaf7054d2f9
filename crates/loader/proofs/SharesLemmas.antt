-- Rows spread over shares.
use Rattle.std.proofs.Common.{◌≡◌, ◌==◌, ℕ, ◌+◌, ◌<◌, ◌≤◌, Bool, true, false, List, [], ◌∷◌, ◌++◌, length, drop, get_or, map, replicate, set, zero, suc, inl, inr, refl, sym, ap, ap₂, ◌∙◌, arith}
use Rattle.std.specs.Prelude.{Vec}
use Rattle.std.specs.declared.alloc.Global.{Global}
use Rattle.std.proofs.Math.ListN.{length-set}
use Rattle.std.proofs.lemmas.Bool.{cases_Bool, eq-eqb, eqb-true}
use Rattle.std.proofs.lemmas.Grind.{flat_map-append}
use Rattle.std.proofs.lemmas.List.{append-nil, get_or-map, get_or-set_other, get_or-set_same, length-map, map-set}
use Rattle.std.proofs.lemmas.List.Elements.{filter-append}
use Rattle.cells.specs.Values.{RowValue}
use Rattle.cells.specs.declared.cell.Cell.{Cell}
use Rattle.loader.specs.Shares.{AreSpread, Pairs, in_shares, lists, pairs_in, pairs_of_share, share_count, share_of}

-- the parts of equal lists
cons_same : {A : Type 0} (x y : A) (xs ys : List A) → ◌≡◌ {A = List A} (x ∷ xs) (y ∷ ys) → (x ≡ y) × (xs ≡ ys)
cons_same x y xs ys e = (cc, cc)

-- ---- shares of no rows

nothing_at : (n share : ℕ) → get_or {A = Pairs} (replicate n []) share [] ≡ []
nothing_at zero share = refl
nothing_at (suc n) zero = refl
nothing_at (suc n) (suc share) = nothing_at n share

many_replicated : (n : ℕ) → length {A = Pairs} (replicate n []) ≡ n
many_replicated zero = refl
many_replicated (suc n) = ap suc (many_replicated n)

pub spread_none : (shares : List Pairs) → shares ≡ replicate share_count [] → (hash_of : Cell → ℕ) → AreSpread hash_of [] shares
spread_none shares is hash_of = rw is (record {
  many = many_replicated share_count;
  each = λ share within. nothing_at share_count share;
})

-- shares of no lists have no rows
pub none_in_shares : (n : ℕ) (shares : List (Vec (Vec (Cell × RowValue) Global) Global)) → map (λ share. share.items) shares ≡ replicate n [] → in_shares shares ≡ replicate n []
none_in_shares zero [] is = refl
none_in_shares zero (share ∷ shares) is = absurd (cc)
none_in_shares (suc n) [] is = absurd (cc)
none_in_shares (suc n) (share ∷ shares) is =
    let same = cons_same _ _ _ _ is in ap₂ (λ (first : Pairs) (rest : List Pairs). first ∷ rest) (ap pairs_in same.0) (none_in_shares n shares same.1)

-- ---- one row more

module _ (hash_of : Cell → ℕ) (pairs : Pairs) (one : Cell × RowValue) where
  spread_more : (shares : List Pairs) → AreSpread hash_of pairs shares → (j : ℕ) → j ≡ share_of (hash_of one.0) → j < share_count →
      AreSpread hash_of (pairs ++ one ∷ []) (set shares j (get_or shares j [] ++ one ∷ []))
  spread_more shares so_far j j_is j_lt = record {
    many = length-set shares j (get_or shares j [] ++ one ∷ []) ∙ so_far.many;
    each = λ d d_lt. each_share d d_lt (d == j) refl;
  }
    where
      within : j < length shares
      within = omega (arith, so_far.many, j_lt)

      each_share : (d : ℕ) → d < share_count → (b : Bool) → (d == j) ≡ b →
          get_or (set shares j (get_or shares j [] ++ one ∷ [])) d [] ≡ pairs_of_share hash_of (pairs ++ one ∷ []) d
      each_share d d_lt true same =
          let here : d ≡ j = eqb-true d j same in
          let passes : (share_of (hash_of one.0) == j) ≡ true = eq-eqb _ _ (sym j_is) in
          rw (here, get_or-set_same shares j (get_or shares j [] ++ one ∷ []) [] within, filter-append, passes, so_far.each j j_lt) refl
      each_share d d_lt false other =
          let apart : d ≡ j → ⊥ = λ (e : d ≡ j). let never = sym other ∙ eq-eqb d j e in cc in
          let fails : (share_of (hash_of one.0) == d) ≡ false = not_passed d other in
          rw (get_or-set_other shares j d (get_or shares j [] ++ one ∷ []) [] apart, filter-append, fails, append-nil) (so_far.each d d_lt)
        where
          not_passed : (d : ℕ) → (d == j) ≡ false → (share_of (hash_of one.0) == d) ≡ false
          not_passed d other = elim (cases_Bool (share_of (hash_of one.0) == d)) [
            | inl passes ↦ let never = sym other ∙ eq-eqb d j (sym (j_is ∙ eqb-true _ _ passes)) in absurd (cc)
            | inr fails ↦ fails
          ]

  -- a row that is pushed to the list of its share
  pub spread_pushed : (shares : List (Vec (Cell × RowValue) Global)) → AreSpread hash_of pairs (lists shares) → (j : ℕ) → j ≡ share_of (hash_of one.0) → j < share_count →
      (old new : Vec (Cell × RowValue) Global) → old ≡ get_or shares j old → new.items ≡ old.items ++ one ∷ [] →
      AreSpread hash_of (pairs ++ one ∷ []) (lists (set shares j new))
  spread_pushed shares so_far j j_is j_lt old new old_is new_is =
      let long = length-map shares (λ list. list.items) in
      let there : get_or (lists shares) j [] ≡ old.items = get_or-map (λ list. list.items) shares j old [] (omega (arith, so_far.many, long, j_lt)) ∙ ap (λ list. list.items) (sym old_is) in
      rw (map-set (λ list. list.items) shares j new, new_is, ← there) (spread_more (lists shares) so_far j j_is j_lt)

-- ---- the rows of a part behind those that are there

-- the shares with the rows of so many shares of a part
pub record AppendedBelow (old behind new : List Pairs) (share : ℕ) : Type 0 where
  pub many : length new ≡ length old
  pub done : (i : ℕ) → i < share → get_or new i [] ≡ get_or old i [] ++ get_or behind i []
  pub left : (i : ℕ) → share ≤ i → get_or new i [] ≡ get_or old i []

appended_one : (old behind now : List Pairs) (share : ℕ) (more : Pairs) → AppendedBelow old behind now share → share < length old → more ≡ get_or behind share [] →
    AppendedBelow old behind (set now share (get_or now share [] ++ more)) (share + 1)
appended_one old behind now share more so_far within is = record {
  many = length-set now share (get_or now share [] ++ more) ∙ so_far.many;
  done = λ i below. each i below (i == share) refl;
  left = λ i above. get_or-set_other now share i (get_or now share [] ++ more) [] (λ (e : i ≡ share). absurd (omega (arith, above, e))) ∙ so_far.left i (omega (arith, above));
}
  where
    each : (i : ℕ) → i < share + 1 → (b : Bool) → (i == share) ≡ b → get_or (set now share (get_or now share [] ++ more)) i [] ≡ get_or old i [] ++ get_or behind i []
    each i below true same =
        let here : i ≡ share = eqb-true i share same in
        rw (here, get_or-set_same now share (get_or now share [] ++ more) [] (omega (arith, so_far.many, within)), is, so_far.left share (omega arith)) refl
    each i below false other =
        let apart : i ≡ share → ⊥ = λ (e : i ≡ share). let never = sym other ∙ eq-eqb i share e in cc in
        get_or-set_other now share i (get_or now share [] ++ more) [] apart ∙ so_far.done i (less i below apart)
      where
        less : (i : ℕ) → i < share + 1 → (i ≡ share → ⊥) → i < share
        less i below apart = omega (arith, below, apart)

-- the list of the part's next share is pushed to the lists of that share
pub appended_pushed : (old behind : List Pairs) (now : List (Vec (Vec (Cell × RowValue) Global) Global)) (share : ℕ) (more : Vec (Cell × RowValue) Global) →
    AppendedBelow old behind (in_shares now) share → share < length now → more.items ≡ get_or behind share [] →
    (was new : Vec (Vec (Cell × RowValue) Global) Global) → was ≡ get_or now share was → new.items ≡ was.items ++ more ∷ [] →
    AppendedBelow old behind (in_shares (set now share new)) (share + 1)
appended_pushed old behind now share more so_far within is was new was_is new_is =
    let long = length-map now (λ one. pairs_in one.items) in
    let there : get_or (in_shares now) share [] ≡ pairs_in was.items = get_or-map (λ one. pairs_in one.items) now share was [] within ∙ ap (λ one. pairs_in one.items) (sym was_is) in
    let pushed : pairs_in new.items ≡ get_or (in_shares now) share [] ++ more.items =
    ap pairs_in new_is ∙ flat_map-append (λ list. list.items) was.items (more ∷ []) ∙ ap₂ (λ (front back : Pairs). front ++ back) (sym there) (append-nil more.items) in
    rw (map-set (λ one. pairs_in one.items) now share new, pushed) (appended_one old behind (in_shares now) share more.items so_far (omega (arith, so_far.many, long, within)) is)

-- the part's next list, and those behind it
pub next_list : (part : List (Vec (Cell × RowValue) Global)) (share : ℕ) (more : Vec (Cell × RowValue) Global) (rest : List (Vec (Cell × RowValue) Global)) →
    drop share part ≡ more ∷ rest → (more.items ≡ get_or (lists part) share []) × (rest ≡ drop (share + 1) part)
next_list [] zero more rest took = absurd (cc)
next_list [] (suc share) more rest took = absurd (cc)
next_list (first ∷ part) zero more rest took = (ap (λ list. list.items) (sym (cons_same first more part rest took).0), sym (cons_same first more part rest took).1)
next_list (first ∷ part) (suc share) more rest took =
    let next = next_list part share more rest took in (next.0, next.1 ∙ ap (λ n. drop n (first ∷ part)) {x = suc (share + 1)} {y = suc share + 1} (omega arith))
