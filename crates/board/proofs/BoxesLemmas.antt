-- What stays true of one box, and of one seat, over a step.
use Rattle.std.proofs.Common.{◌≡◌, ◌≢◌, ℕ, ◌+◌, ◌-◌, ◌*◌, ◌<◌, ◌≤◌, List, length, get_or, sym, refl, ap, ◌∙◌, arith, Option, Some, None}
use mathlib.Core.Logic.{dite}
use mathlib.Core.Option.{some}
use mathlib.Core.List.{IsPrefix}
use native.Mathlib.Decide.{dec_le}
use lib.ListN.{get_elem?}
use Rattle.cells.specs.Values.{Table}
use Rattle.board.specs.Editions.{Edition, History}
use Rattle.board.specs.Law.{Board, Fits, HasBox, Homes, IsBox, IsEnd, IsShown, Knows, Shows}
use Rattle.board.specs.declared.law.Progress.{Progress}
use Rattle.board.specs.declared.law.Role.{Role}
use Rattle.board.specs.declared.law.Role.TheVariants.{Noted, Keeping, Outside, Inside}
use Rattle.board.specs.declared.law.View.{View}
use Rattle.board.proofs.HistoryLemmas.{prefix_trans, prefix_length, prefix_at, at_more, last_at, last_is}

pub shows_more : (table : Table) (h h' : History) (k : ℕ) (x : Option Edition) → IsPrefix h h' → Shows table h k x → Shows table h' k x
shows_more table h h' k None pre t = t
shows_more table h h' k (Some e) pre t = (t.0, at_more h h' e.number e.rows pre t.1, t.2)

-- what is shown of a history is the last edition of so much of it
pub shows_end : (table : Table) (seen h : History) (e : Edition) → IsPrefix seen h → IsEnd seen table e → Shows table h (length seen) (Some e)
shows_end table seen h e pre end = (sym end.last.long, at_more seen h e.number e.rows pre (last_at seen e.number end.last.long ∙ ap some (sym end.last.is)), end.schema)

pub end_shown : (table : Table) (seen h : History) (e : Edition) → IsPrefix seen h → Shows table h (length seen) (Some e) → IsEnd seen table e
end_shown table seen h e pre t = let number = t.0 in record {
  last = record { long = sym number; is = last_is seen e.number e.rows (sym number) (sym (prefix_at seen h e.number pre (omega arith)) ∙ t.1) };
  schema = t.2;
}

-- a side that shows something was filled
pub filled_side : (table : Table) (h : History) (k : ℕ) (x : Option Edition) → 0 < k → Shows table h k x → (e : Edition) × (x ≡ Some e) × Shows table h k (Some e)
filled_side table h k None some_shown none = absurd (omega arith)
filled_side table h k (Some e) some_shown t = (e, refl, t)

pub box_else : (table : Table) (h h' : History) (ws ws' : List ℕ) (hs hs' : Homes) (hand hand' w par held shown : ℕ) → IsPrefix h h' → get_or ws' w 0 ≡ get_or ws w 0
    → ((c : ℕ) → c < 2 → get_elem? hs' (2 * w + c) ≡ get_elem? hs (2 * w + c)) → (hand' ≢ w → hand ≢ w)
    → IsBox table h ws hs hand w par held shown → IsBox table h' ws' hs' hand' w par held shown
box_else table h h' ws ws' hs hs' hand hand' w par held shown pre word slots hands ok = let b = ok.bits.0 in record {
  bits = ok.bits;
  idle = λ z. word ∙ ok.idle z;
  busy = λ z. word ∙ ok.busy z;
  low = (let l = prefix_length h h' pre in let k = ok.low in omega arith);
  active = λ z. let t = ok.active z in (t.0, slots par b ∙ t.1, shows_more table h h' shown t.0 pre t.2);
  spare = λ z a. let t = ok.spare z (hands a) in (t.0, slots (1 - par) (omega arith) ∙ t.1);
}

module _ (n : ℕ) (table : Table) (b b' : Board) (seat : ℕ) (pre : IsPrefix b.history b'.history) (up : (w : ℕ) → b.shown w ≤ b'.shown w) (made : b.progress.made ≤ b'.progress.made)
    (more : (w : ℕ) → b.progress.made < w → w ≤ b'.progress.made → length b.history ≤ b'.shown w) where
  -- what a step leaves of the box w, whose viewer has this seat
  abbrev pub Leaves : ℕ → Type 0
  Leaves w = (b'.owner w ≡ seat) × (b'.held w ≡ b.held w) × ((s : ℕ) → b.held w ≡ s + 1 → s ≡ b'.par w → (s ≡ b.par w) × (b'.shown w ≡ b.shown w))

  -- what was seen is still shown in each box, also in those of viewers that were made since
  shown_else : (t : History) → IsPrefix t b.history → IsShown b t → IsShown b' t
  shown_else t begins shown w low within = let l = prefix_length t b.history begins in let u = up w in
      dite (dec_le w b.progress.made) (λ old. let k = shown w low old in omega arith) (λ new. let k = more w (omega arith) within in omega arith)

  box_stays : (mine : Table) (seen : History) (w hand : ℕ) → Leaves w → HasBox n table b seat mine seen w hand → HasBox n table b' seat mine seen w hand
  box_stays mine seen w hand left k = record {
    low = k.low;
    high = k.high;
    made = omega (arith, made, k.made);
    own = left.0;
    held = left.1 ∙ k.held;
    few = omega (arith, up w, k.few);
    filled = omega (arith, up w, k.filled);
    schema = k.schema;
  }

  module _ (mine : Table) (seen : History) (begins : IsPrefix seen b.history) (keeps : (q : Progress) → Knows n table b seat mine seen (Keeping q) → Knows n table b' seat mine seen (Keeping q))
      (box : (w : ℕ) → 0 < w → w ≤ n → b.owner w ≡ seat → w ≤ b.progress.made → Leaves w) where
    role_else : (role : Role) → Knows n table b seat mine seen role → Knows n table b' seat mine seen role
    role_else Noted k = shown_else seen begins k
    role_else (Keeping q) k = keeps q k
    role_else (Outside w) k = box_stays mine seen w 0 (box w k.low k.high k.own k.made) k
    role_else (Inside w s) k =
        let own = k.0 in
        let left = box w own.low own.high own.own own.made in
        (box_stays mine seen w (s + 1) left own, λ i. let c = left.2 s own.held i in k.1 c.0 ∙ sym c.1)

  pub fits_else : (v : View) → ((q : Progress) → Knows n table b seat v.schema v.seen (Keeping q) → Knows n table b' seat v.schema v.seen (Keeping q))
      → ((w : ℕ) → 0 < w → w ≤ n → b.owner w ≡ seat → w ≤ b.progress.made → Leaves w) → Fits n table b seat v → Fits n table b' seat v
  fits_else v keeps box f = record {
    role = role_else v.schema v.seen f.seen keeps box v.role f.role;
    seen = prefix_trans v.seen b.history b'.history f.seen pre;
    told = λ i d low. let t = f.told i d low in (prefix_trans _ b.history b'.history t.0 pre, shown_else _ t.0 t.1);
  }
