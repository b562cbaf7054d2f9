-- The rows that updates leave are those of the last puts.
use Rattle.std.proofs.Common.{◌≡◌, Bool, true, false, cond, List, [], ◌∷◌, ◌++◌, refl, ap, subst, inl, inr, arith, ◌↔◌, Contains}
use Rattle.std.proofs.lemmas.List.Elements.{Contains-append_left, Contains-append_right, Contains-append_cases, Contains-push, Contains-push_cases}
use Rattle.cells.specs.Updates.{Update, Put, Delete, rows, touches, IsLastPut}
use Rattle.cells.specs.Values.{RowValue}

-- one update more at the front changes nothing behind it
under : (u : Update) (us : List Update) (row : RowValue) → IsLastPut us row → IsLastPut (u ∷ us) row
under u us row put = record { before = u ∷ put.before; later = put.later; is = ap (λ l. u ∷ l) put.is; last = put.last }

in_front : (us : List Update) (r row : RowValue) → touches r.key us ≡ false → r ≡ row → IsLastPut (Put r ∷ us) row
in_front us r row e same = subst (IsLastPut (Put r ∷ us)) same (record { before = []; later = us; is = refl; last = e })

last_put_step : (touched : Bool) (us : List Update) (r row : RowValue) → touches r.key us ≡ touched → (Contains (rows us) row → IsLastPut us row) →
    Contains (cond touched (rows us) (r ∷ rows us)) row → IsLastPut (Put r ∷ us) row
last_put_step true us r row e ih h = under (Put r) us row (ih h)
last_put_step false us r row e ih h = elim (Contains-append_cases (r ∷ []) (rows us) row h) [
  | inr more ↦ under (Put r) us row (ih more)
  | inl one ↦ elim (Contains-push_cases [] r row one) [
    | inl none ↦ absurd (omega (arith, none.1))
    | inr same ↦ in_front us r row e same
  ]
]

last_put : (us : List Update) (row : RowValue) → Contains (rows us) row → IsLastPut us row
last_put [] row h = absurd (omega (arith, h.1))
last_put (Put r ∷ us) row h = last_put_step (touches r.key us) us r row refl (last_put us row) h
last_put (Delete key ∷ us) row h = under (Delete key) us row (last_put us row h)

contains_step : (touched : Bool) (r row : RowValue) (rs : List RowValue) → Contains rs row → Contains (cond touched rs (r ∷ rs)) row
contains_step true r row rs h = h
contains_step false r row rs h = Contains-append_right (r ∷ []) rs row h

left_by_put : (before later : List Update) (row : RowValue) → touches row.key later ≡ false → Contains (rows (before ++ Put row ∷ later)) row
left_by_put [] later row e = rw e (Contains-append_left (row ∷ []) (rows later) row (Contains-push [] row))
left_by_put (Put r ∷ before) later row e =
    contains_step (touches r.key (before ++ Put row ∷ later)) r row (rows (before ++ Put row ∷ later)) (left_by_put before later row e)
left_by_put (Delete key ∷ before) later row e = left_by_put before later row e

-- the rows are those of the last puts
pub rows_are_last_puts : (us : List Update) (row : RowValue) → Contains (rows us) row ↔ IsLastPut us row
rows_are_last_puts us row = (last_put us row, λ put. rw put.is (left_by_put put.before put.later row put.last))
