-- Fields of a column that may be a key, one after another.
use Rattle.std.proofs.Common.{refl, ap, sym, subst, ◌∙◌, ◌≡◌, ℕ, Bool, true, false, ◌||◌, List, [], ◌∷◌, ◌++◌, map, append_assoc, arith, length}
use Rattle.std.proofs.lemmas.List.{map-append}
use Rattle.std.proofs.lemmas.List.Folds.{list_any-append}
use Rattle.std.proofs.lemmas.Map.Keys.{IsDistinct-push}
use Rattle.std.specs.Cmp.{IsEquivalence}
use Rattle.std.specs.List.{AllByRecursion, IsDistinct, list_any}
use Rattle.std.proofs.lemmas.Bool.Decides.{nat_tests}
use Rattle.std.specs.Prelude.{◌==◌, cond, not}
use Rattle.records.specs.Records.{Fields}
use Rattle.prepare.specs.Proposals.{AreKeys, column_of, field_in, is_null}

pub all_push : {A : Type 0} (P : A → Type 0) (xs : List A) (y : A) → AllByRecursion P xs → P y → AllByRecursion P (xs ++ y ∷ [])
all_push P [] y all last = (last, tt)
all_push P (x ∷ xs) y all last = (all.0, all_push P xs y all.1 last)

in_the_middle : {A : Type 0} (P : A → Type 0) (xs : List A) (y : A) (ys : List A) → AllByRecursion P (xs ++ y ∷ ys) → P y
in_the_middle P [] y ys all = all.0
in_the_middle P (x ∷ xs) y ys all = in_the_middle P xs y ys all.1

module _ {V : Type 0} (eq : V → V → Bool) (laws : IsEquivalence eq) where
  -- among different values, none is like an earlier one
  pub unlike_earlier : (xs : List V) (y : V) (ys : List V) → IsDistinct eq (xs ++ y ∷ ys) → list_any (eq y) xs ≡ false
  unfolding IsDistinct
  unlike_earlier [] y ys distinct = refl
  unlike_earlier (x ∷ xs) y ys distinct =
      let apart : eq y x ≡ false = laws.symm y x ∙ in_the_middle (λ z. eq x z ≡ false) xs y ys distinct.0 in
      rw apart (unlike_earlier xs y ys distinct.1)

  -- the values with one more
  met_more : (xs : List V) (y q : V) → cond (eq y q) true (list_any (eq q) xs) ≡ list_any (eq q) (xs ++ y ∷ [])
  met_more xs y q = by_test (eq y q) (list_any (eq q) xs) ∙ ap (λ b. list_any (eq q) xs || (b || false)) (laws.symm y q) ∙ sym (list_any-append (eq q) xs (y ∷ [])) where
    by_test : (here before : Bool) → cond here true before ≡ (before || (here || false))
    by_test true true = refl
    by_test true false = refl
    by_test false true = refl
    by_test false false = refl

pub distinct_none : {V : Type 0} (eq : V → V → Bool) → IsDistinct eq []
unfolding IsDistinct
distinct_none eq = tt

-- all fields are those that were read and those that are left; the first may be keys, and their values were met
pub record ReachedKeys {V : Type 0} (eq : V → V → Bool) (value : List ℕ → V) (all left : Fields) (met : List V) : Type 0 where
  pub read : Fields
  pub parted : all ≡ read ++ left
  pub are : AreKeys eq value read
  pub same : (q : V) → list_any (eq q) met ≡ list_any (eq q) (map value read)

-- the field of the next record
pub column_next : (place : ℕ) (left later : List Fields) (fields : Fields) → left ≡ fields ∷ later → column_of place left ≡ field_in place fields ∷ column_of place later
column_next place left later fields took = ap (column_of place) took

module _ {V : Type 0} (eq : V → V → Bool) (laws : IsEquivalence eq) (value : List ℕ → V) (all left later : Fields) (met : List V) (field : List ℕ)
    (reached : ReachedKeys eq value all left met) (took : left ≡ field ∷ later) where
  whole : all ≡ reached.read ++ field ∷ later
  whole = reached.parted ∙ ap (λ rest. reached.read ++ rest) took

  -- it is NULL
  pub keys_null : is_null field ≡ true → AreKeys eq value all → ⊥
  keys_null null are =
      let filled : is_null field ≡ false = in_the_middle (λ f. is_null f ≡ false) reached.read field later (subst (AllByRecursion (λ f. is_null f ≡ false)) whole are.filled) in
      let both : true ≡ false = sym null ∙ filled in
      cc

  -- its value was met
  pub keys_twice : list_any (eq (value field)) met ≡ true → AreKeys eq value all → ⊥
  keys_twice again are =
      let parted : map value all ≡ map value reached.read ++ value field ∷ map value later = ap (map value) whole ∙ map-append value reached.read (field ∷ later) in
      let unlike = unlike_earlier eq laws (map value reached.read) (value field) (map value later) (subst (IsDistinct eq) parted are.different) in
      let both : true ≡ false = sym again ∙ reached.same (value field) ∙ unlike in
      cc

  -- it is not NULL, and its value is new
  pub keys_more : (more : List V) → is_null field ≡ false → list_any (eq (value field)) met ≡ false
      → ((q : V) → list_any (eq q) more ≡ cond (eq (value field) q) true (list_any (eq q) met)) → ReachedKeys eq value all later more
  keys_more more filled new updated = record {
    read = reached.read ++ field ∷ [];
    parted = whole ∙ sym (append_assoc reached.read (field ∷ []) later);
    are = record {
      filled = all_push (λ f. is_null f ≡ false) reached.read field reached.are.filled filled;
      different = subst (IsDistinct eq) (sym (map-append value reached.read (field ∷ [])))
          (IsDistinct-push laws (map value reached.read) (value field) reached.are.different (sym (reached.same (value field)) ∙ new));
    };
    same = λ q. updated q ∙ ap (cond (eq (value field) q) true) (reached.same q)
        ∙ met_more eq laws (map value reached.read) (value field) q
        ∙ ap (list_any (eq q)) (sym (map-append value reached.read (field ∷ [])));
  }

-- ---- what the code tests

pub null_is : (field : List ℕ) → (length field == 0) ≡ true → is_null field ≡ true
null_is [] e = refl
null_is (b ∷ bs) e = absurd (grind (arith, nat_tests))

pub null_is_not : (field : List ℕ) → (length field == 0) ≡ false → is_null field ≡ false
null_is_not [] e = cc
null_is_not (b ∷ bs) e = refl

pub was_met : (added met : Bool) → added ≡ not met → added ≡ false → met ≡ true
was_met added true told test = refl
was_met added false told test = cc

pub was_not_met : (added met : Bool) → added ≡ not met → added ≡ true → met ≡ false
was_not_met added true told test = cc
was_not_met added false told test = refl
