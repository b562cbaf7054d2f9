-- Columns with the rows of others behind their own.
use Rattle.std.specs.Prelude.{◌≡◌, ℕ, ◌==◌, ◌||◌, Bool, true, false, List, [], ◌∷◌, ◌++◌, refl}
use Rattle.std.specs.List.{AllByRecursion}
use Rattle.std.proofs.Common.{ap, sym, ◌∙◌, subst}
use Rattle.std.proofs.lemmas.List.{append_assoc, append-nil}
use Rattle.std.proofs.lemmas.Map.Views.{exact_unsigned_eq}
use Rattle.cells.specs.Values.{RowValue}
use Rattle.columns.specs.Coding.{PutsFor}
use Rattle.columns.specs.Columns.{ColumnValue, ColumnsValue, Hold, cells_at, cells_of, has}
use Rattle.columns.proofs.HoldLemmas.{IsColumn, all_push, cells_both, has_push}

-- those of the columns that the other ones have, too, with the rows of both
pub record AreBoth (done other kept : ColumnsValue) : Type 0 where
  pub held : (rows more : List RowValue) → AllByRecursion (IsColumn rows) done → Hold more other → AllByRecursion (IsColumn (rows ++ more)) kept
  pub there : (index : ℕ) → has done index ≡ true → has other index ≡ true → has kept index ≡ true

-- so it is of the columns before the rest
pub record Goes (all other kept rest : ColumnsValue) : Type 0 where
  pub done : ColumnsValue
  pub split : all ≡ done ++ rest
  pub both : AreBoth done other kept

all_before : {X : Type 0} (P : X → Type 0) (xs ys : List X) → AllByRecursion P (xs ++ ys) → AllByRecursion P xs × AllByRecursion P ys
all_before P [] ys all = (tt, all)
all_before P (x ∷ xs) ys all = let rest = all_before P xs ys all.1 in ((all.0, rest.0), rest.1)

later : (all done rest left : ColumnsValue) (n : ℕ × ColumnValue) → all ≡ done ++ rest → rest ≡ n ∷ left → all ≡ (done ++ n ∷ []) ++ left
later all done rest left n e is = e ∙ ap (λ l. done ++ l) is ∙ sym (append_assoc done (n ∷ []) left)

-- one more, which the others have
pub goes_on : (all other kept new rest left : ColumnsValue) (n into : ℕ × ColumnValue) (column : ColumnValue) → rest ≡ n ∷ left → Goes all other kept rest → new ≡ kept ++ into ∷ [] →
    ((rows : List RowValue) → Hold rows other → cells_of column ≡ cells_at n.0 rows) →
    ((more : List RowValue) → cells_of column ≡ cells_at n.0 more → PutsFor (λ index. cells_at index more) n into) → into.0 ≡ n.0 → Goes all other new left
goes_on all other kept new rest left n into column is goes added cells puts same = record {
  done = goes.done ++ n ∷ [];
  split = later all goes.done rest left n goes.split is;
  both = record {
    held = λ rows more held others.
        let before = all_before (IsColumn rows) goes.done (n ∷ []) held in
        let put = puts more (cells more others) in
        subst (AllByRecursion (IsColumn (rows ++ more))) (sym added)
        (all_push (IsColumn (rows ++ more)) kept into ((goes.both).held rows more before.0 others)
        ((put.puts).behind ∙ ap (λ l. l ++ cells_at n.0 more) (before.1).0 ∙ sym (cells_both rows more n.0) ∙ ap (λ k. cells_at k (rows ++ more)) (sym put.same)));
    there = λ index one two.
        subst (λ l. has l index ≡ true) (sym added)
        (has_push kept into index ∙ either index (has goes.done index) (sym (has_push goes.done n index) ∙ one) two (λ old. (goes.both).there index old two));
  };
}
  where
    either : (index : ℕ) (b : Bool) → (b || (n.0 == index)) ≡ true → has other index ≡ true → (b ≡ true → has kept index ≡ true) → (has kept index || (into.0 == index)) ≡ true
    either index true one two old = ap (λ b. b || (into.0 == index)) (old refl)
    either index false one two old = go (has kept index) (ap (λ k. k == index) same ∙ one)
      where
        go : (b : Bool) → (into.0 == index) ≡ true → (b || (into.0 == index)) ≡ true
        go true e = refl
        go false e = e

-- one more, which they have not
pub goes_past : (all other kept rest left : ColumnsValue) (n : ℕ × ColumnValue) → rest ≡ n ∷ left → Goes all other kept rest → false ≡ has other n.0 → Goes all other kept left
goes_past all other kept rest left n is goes none = record {
  done = goes.done ++ n ∷ [];
  split = later all goes.done rest left n goes.split is;
  both = record {
    held = λ rows more held others. (goes.both).held rows more (all_before (IsColumn rows) goes.done (n ∷ []) held).0 others;
    there = λ index one two. either index (has goes.done index) refl (sym (has_push goes.done n index) ∙ one) two;
  };
}
  where
    either : (index : ℕ) (b : Bool) → has goes.done index ≡ b → (b || (n.0 == index)) ≡ true → has other index ≡ true → has kept index ≡ true
    either index true is one two = (goes.both).there index is two
    either index false is one two =
        let same : n.0 ≡ index = exact_unsigned_eq n.0 index one in
        let not : false ≡ has other index = subst (λ k. false ≡ has other k) same none in
        cc

pub goes_all : (all other kept rest : ColumnsValue) → rest ≡ [] → Goes all other kept rest → AreBoth all other kept
goes_all all other kept rest none goes = subst (λ l. AreBoth l other kept) (sym (goes.split ∙ ap (λ l. goes.done ++ l) none ∙ append-nil goes.done)) goes.both
