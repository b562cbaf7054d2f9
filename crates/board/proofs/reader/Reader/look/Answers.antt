use Rattle.std.proofs.Common.{rules, ◌≡◌, ℕ, ◌+◌, ◌*◌, [], ◌∷◌, refl, sym, ap, ◌∙◌, subst, IfOk, Some}
use Rattle.atomic_table.specs.Table.{rest}
use Rattle.cells.specs.Values.{Table}
use Rattle.board.specs.Editions.{History}
use Rattle.board.specs.Ends.{HasLooked, first_view, known}
use Rattle.board.specs.Law.{IsEnd, Sat, inside, outside}
use Rattle.board.specs.declared.law.View.{View}
use Rattle.board.proofs.RuleLemmas.{enters, leaves}
use Rattle.board.proofs.SeatLemmas.{head_is, is_there, ok_end}
use Rattle.board.proofs.reader.Reader.look.Goals as goal

pub fetch_add-side-requires : goal.fetch_add-side-requires
fetch_add-side-requires g c =
    let d = c.args.self.now in
    let s = c.into_seat-seat.result in
    let key = c.deref.result.now.shared.key in
    let v : s.me.0 ≡ known d.badge = search rules in
    (search rules, search rules, enters key.places key.schema.value _ s.id s.me d.index (ap (λ (x : View). x.role) v ∙ d.out.1) c.into_seat-seat.ensures.3)

pub exchange-held-requires : goal.exchange-held-requires
exchange-held-requires g c =
    let e = c.fetch_add-side.ensures.2 in
    let slot : ℕ = 2 * c.args.self.now.index + c.fetch_add-side.result in
    let bare : c.fetch_add-side.new.seat.me.1 ≡ (slot, Some e.0) ∷ [] = ap (λ (m : Sat). m.1) e.3 in
    (search rules, (Some e.0, bare ∙ sym (ap (λ cs. (slot, Some e.0) ∷ rest cs) bare)))

pub copy_of-copy-requires : goal.copy_of-copy-requires
copy_of-copy-requires g c =
    let e = c.fetch_add-side.ensures.2 in
    is_there e.0 c.exchange-held.result (head_is _ _ (Some e.0) c.exchange-held.result [] (rest c.fetch_add-side.new.seat.me.1) (sym (ap (λ (m : Sat). m.1) e.3) ∙ c.exchange-held.ensures.2))

pub fetch_sub-requires : goal.fetch_sub-requires
fetch_sub-requires g c =
    let key = c.deref.result.now.shared.key in
    let old : View = c.into_seat-seat.result.me.0 in
    let e = c.fetch_add-side.ensures.2 in
    let q = c.args.self.now.index in
    let side = c.fetch_add-side.result in
    let slot : ℕ = 2 * q + side in
    let held = c.exchange-held.result in
    let same : Some e.0 ≡ held = head_is slot slot (Some e.0) held [] (rest c.fetch_add-side.new.seat.me.1) (sym (ap (λ (m : Sat). m.1) e.3) ∙ c.exchange-held.ensures.2) in
    let put : Sat → Sat = λ m. (m.0, (slot, held) ∷ rest m.1) in
    let whole : c.exchange.new.seat.me ≡ (inside q side old.schema e.1, (slot, Some e.0) ∷ []) =
    c.exchange.ensures.3 ∙ (ap put c.exchange-held.ensures.3 ∙ (ap put e.3 ∙ ap (λ z. let m : Sat = (inside q side old.schema e.1, (slot, z) ∷ []) in m) (sym same))) in (
      search rules,
      search rules,
      leaves key.places key.schema.value _ c.exchange.new.seat.id c.exchange.new.seat.me q side e.0 (ap (λ (m : Sat). m.0.role) whole) (ap (λ (m : Sat). m.1) whole)
          (subst (λ (m : Sat). IsEnd m.0.seen m.0.schema e.0) (sym whole) e.4.last),
    )

pub returns-clause-looked : goal.returns-clause-looked
returns-clause-looked g c =
    let e = c.fetch_add-side.ensures.2 in
    let old : View = c.into_seat-seat.result.me.0 in
    let inner : View = inside c.args.self.now.index c.fetch_add-side.result old.schema e.1 in
    let entered : c.exchange.new.seat.me.0 ≡ inner = ap (λ (m : Sat). m.0) c.exchange.ensures.3 ∙ (ap (λ (m : Sat). m.0) c.exchange-held.ensures.3 ∙ ap (λ (m : Sat). m.0) e.3) in
    let now : c.fetch_sub.new.seat.me.0 ≡ outside c.args.self.now.index old.schema e.1 = ap (λ (m : Sat). m.0) c.fetch_sub.ensures.2 ∙ ap (λ (v : View). outside c.args.self.now.index v.schema v.seen) entered in
    let base : HasLooked old (outside c.args.self.now.index old.schema e.1) = record { seen = e.4.seen_before; learnt = e.4.told_before; begun = e.4.begun; told = refl; schema = refl } in
    let v : old ≡ known c.args.self.now.badge = search rules in
    let w : known c.into_badge.result ≡ outside c.args.self.now.index old.schema e.1 = ap first_view c.into_badge.ensures.2 ∙ now in
    subst (λ (z : View × View). HasLooked z.0 z.1) (λ i. (v i, sym w i)) base

pub returns-clause-shown : goal.returns-clause-shown
returns-clause-shown g c =
    let e = c.fetch_add-side.ensures.2 in
    let old : View = c.into_seat-seat.result.me.0 in
    let held = c.exchange-held.result in
    let same : Some e.0 ≡ held = head_is _ _ (Some e.0) held [] (rest c.fetch_add-side.new.seat.me.1) (sym (ap (λ (m : Sat). m.1) e.3) ∙ c.exchange-held.ensures.2) in
    let seen : c.exchange.new.seat.me.0.seen ≡ e.1 = ap (λ (m : Sat). m.0.seen) c.exchange.ensures.3 ∙ (ap (λ (m : Sat). m.0.seen) c.exchange-held.ensures.3 ∙ ap (λ (m : Sat). m.0.seen) e.3) in
    let w : known c.into_badge.result ≡ c.fetch_sub.new.seat.me.0 = ap first_view c.into_badge.ensures.2 in
    let now : (known c.into_badge.result).seen ≡ e.1 = ap (λ (x : View). x.seen) w ∙ (ap (λ (m : Sat). m.0.seen) c.fetch_sub.ensures.2 ∙ seen) in
    let v : old ≡ known c.args.self.now.badge = search rules in
    let copy = c.copy_of-copy.result in
    subst (λ (z : History × Table). IfOk copy (IsEnd z.0 z.1)) (λ i. (sym now i, (v i).schema)) (ok_end e.1 old.schema e.0 held copy same c.copy_of-copy.ensures e.4.last)
