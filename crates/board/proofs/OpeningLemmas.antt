-- A new board keeps its rule.
use Rattle.std.proofs.Common.{◌≡◌, ◌≢◌, ℕ, zero, suc, ◌+◌, ◌*◌, ◌<◌, List, [], ◌∷◌, map, length, replicate, get_or, sym, refl, ap, ◌∙◌, subst, ⊎_elim, arith, Option, None}
use Rattle.std.proofs.lemmas.List.Elements.{All-nil}
use Rattle.std.specs.FinMap as finmap
use mathlib.Core.Option.{some, some-ne-none}
use lib.ListN.{get_elem?, length-map, length-replicate}
use Rattle.atomic_table.specs.Table as tables
use Rattle.atomic_table.proofs.Lists.{at_set}
use Rattle.cells.specs.Values.{Table}
use Rattle.board.specs.Editions.{Edition}
use Rattle.board.specs.Law.{Board, Fits, Kept, no_progress, opening}
use Rattle.board.specs.declared.law.View.{View}
use Rattle.board.proofs.HistoryLemmas.{prefix_self}

-- each place is vacant
all_vacant : {A : Type 0} (m i : ℕ) (a : A) → i < m → get_elem? (map some (replicate m a)) i ≡ some (some a)
all_vacant zero i a h = absurd (omega arith)
all_vacant (suc m) zero a h = refl
all_vacant (suc m) (suc i) a h = all_vacant m i a (omega arith)

-- the board before the first step
abbrev first_board : Board
first_board = record { history = finmap.empty ∷ []; progress = no_progress; keeper = 0; owner = λ _. 0; par = λ _. 0; held = λ _. 0; shown = λ _. 0 }

pub starts : (n : ℕ) (table : Table) (words : List ℕ) (slots : ℕ) → length words ≡ n + 1 → slots ≡ 2 * n + 2 → ((i : ℕ) → get_or words i 0 ≡ 0) → Kept n table (tables.opening words (replicate slots None) (opening table))
starts n table words slots wide deep blank = record {
  board = first_board;
  laid = record {
    wide = wide;
    deep = length-map (replicate slots None) (λ (x : Option Edition). some x) ∙ (length-replicate slots None ∙ deep);
    begun = record { later = []; is = refl };
    count = ap (λ (x : ℕ). x + 1) (blank 0);
    boxes = λ w a b. record {
      bits = (omega arith, omega arith);
      idle = λ _. blank w;
      busy = λ z. absurd (z refl);
      low = omega arith;
      active = λ _. (None, all_vacant slots (2 * w + 0) None (omega arith), refl);
      spare = λ _ _. (None, all_vacant slots (2 * w + 1) None (omega arith));
    };
    done = λ w a b c. absurd (omega (arith, a, c));
    side = λ w a b e. absurd (omega (arith, a, e));
    unmade = λ _ _. refl;
  };
  each = λ j d e. ⊎_elim (λ (t : (j ≡ 0) × (opening table ≡ d)). subst (λ (z : ℕ × View). Fits n table first_board z.0 z.1) (λ i. (sym t.0 i, t.1 i))
      record { role = (refl, refl, refl, refl); seen = prefix_self (finmap.empty ∷ []); told = All-nil _ }) (λ (t : (j ≢ 0) × (get_elem? (opening table ∷ []) j ≡ some d)). absurd (beyond j d t.0 t.1)) (at_set (opening table ∷ []) 0 j (opening table) d e);
}
  where
    beyond : (j : ℕ) (d : View) → j ≢ 0 → get_elem? (opening table ∷ []) j ≡ some d → ⊥
    beyond zero d other e = other refl
    beyond (suc j) d other e = some-ne-none d (sym e)
