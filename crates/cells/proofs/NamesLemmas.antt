-- Names of columns that are different.
use Rattle.std.proofs.Common.{◌≡◌, ℕ, ◌+◌, ◌<◌, true, false, ◌||◌, List, [], ◌∷◌, ◌++◌, length, map, take, drop, get_or, refl, sym, ap, ◌∙◌, subst, bytes_eq}
use Rattle.std.proofs.lemmas.List.{map-append, drop_more, take-append-drop, take_more}
use Rattle.std.proofs.lemmas.Map.Keys.{IsDistinct-push}
use Rattle.std.specs.List.{AllByRecursion, IsDistinct, list_any}
use Rattle.std.specs.Cmp.Lexicographic.{nat_list_eq_equiv}
use Rattle.cells.specs.declared.schema.Column.{Column}

abbrev names : List Column → List (List ℕ)
names cs = map (λ c. c.name) cs

any_name : (n : List ℕ) (cs : List Column) → list_any (λ c. bytes_eq n c.name) cs ≡ list_any (bytes_eq n) (names cs)
any_name n [] = refl
any_name n (c ∷ cs) = ap (λ b. bytes_eq n c.name || b) (any_name n cs)

in_the_middle : (P : List ℕ → Type 0) (xs : List (List ℕ)) (y : List ℕ) (ys : List (List ℕ)) → AllByRecursion P (xs ++ y ∷ ys) → P y
in_the_middle P [] y ys all = all.0
in_the_middle P (x ∷ xs) y ys all = in_the_middle P xs y ys all.1

-- among different names, none is like an earlier one
unlike_earlier : (xs : List (List ℕ)) (y : List ℕ) (ys : List (List ℕ)) → IsDistinct bytes_eq (xs ++ y ∷ ys) → list_any (bytes_eq y) xs ≡ false
unfolding IsDistinct
unlike_earlier [] y ys distinct = refl
unlike_earlier (x ∷ xs) y ys distinct =
    let apart : bytes_eq y x ≡ false = nat_list_eq_equiv.symm y x ∙ in_the_middle (λ z. bytes_eq x z ≡ false) xs y ys distinct.0 in
    rw apart (unlike_earlier xs y ys distinct.1)

pub distinct_none : IsDistinct bytes_eq []
unfolding IsDistinct
distinct_none = tt

module _ (cs : List Column) (i : ℕ) (c : Column) (within : i < length cs) (is : c ≡ get_or cs i c) where
  parted : names cs ≡ names (take i cs) ++ c.name ∷ names (drop (i + 1) cs)
  parted =
      ap names (sym (take-append-drop i cs) ∙ ap (λ rest. take i cs ++ rest) (drop_more cs i c within))
      ∙ map-append (λ d. d.name) (take i cs) (get_or cs i c ∷ drop (i + 1) cs)
      ∙ ap (λ d. names (take i cs) ++ d.name ∷ names (drop (i + 1) cs)) (sym is)

  pub found_twice : list_any (λ d. bytes_eq c.name d.name) (take i cs) ≡ true → ¬ (IsDistinct bytes_eq (names cs))
  found_twice again distinct =
      let unlike = unlike_earlier (names (take i cs)) c.name (names (drop (i + 1) cs)) (subst (IsDistinct bytes_eq) parted distinct) in
      let both : true ≡ false = sym again ∙ any_name c.name (take i cs) ∙ unlike in
      cc

  pub distinct_more : list_any (λ d. bytes_eq c.name d.name) (take i cs) ≡ false → IsDistinct bytes_eq (names (take i cs)) → IsDistinct bytes_eq (names (take (i + 1) cs))
  distinct_more new distinct =
      let pushed = IsDistinct-push nat_list_eq_equiv (names (take i cs)) c.name distinct (sym (any_name c.name (take i cs)) ∙ new) in
      let longer : names (take (i + 1) cs) ≡ names (take i cs) ++ c.name ∷ [] =
      ap names (take_more cs i c within) ∙ map-append (λ d. d.name) (take i cs) (get_or cs i c ∷ []) ∙ ap (λ d. names (take i cs) ++ d.name ∷ []) (sym is) in
      subst (IsDistinct bytes_eq) (sym longer) pushed
