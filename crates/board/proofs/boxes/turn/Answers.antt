use Rattle.std.proofs.Common.{rules, arith, ◌≡◌, ◌+◌, ◌-◌, ◌*◌, [], ◌∷◌, sym, refl, ap, ◌∙◌, subst, Some}
use Rattle.atomic_table.specs.Table.{rest}
use Rattle.board.specs.Ends.{progress_at}
use Rattle.board.specs.Law.{IsEnd, Sat, keeping, progress_of}
use Rattle.board.specs.declared.law.Progress.{Progress}
use Rattle.board.specs.declared.law.View.{View}
use Rattle.board.proofs.RuleLemmas.{flips}
use Rattle.board.proofs.SeatLemmas.{at_of}
use Rattle.board.proofs.boxes.turn.Goals as goal

pub fetch_xor-requires : goal.fetch_xor-requires
fetch_xor-requires g c =
    let word = c.args.word in
    let e = c.args.edition in
    let side = c.args.side in
    let old : View = c.args.seat.now.me.0 in
    let P : Progress = record (progress_at c.args.seat.now) { done = word - 1; hand = word; side = side } in
    let whole : c.exchange.new.seat.me ≡ (keeping P old.schema old.seen, (2 * word + (1 - side), Some e) ∷ []) =
    c.exchange.ensures.3 ∙ ap (λ (m : Sat). (m.0, (2 * word + (1 - side), Some e) ∷ rest m.1)) c.requires.taken.at in
    let low = c.requires.table.2 in
    let key = c.args.boxes.now.key in (
      search rules,
      search rules,
      flips key.places key.schema.value _ c.exchange.new.seat.id c.exchange.new.seat.me P word e (ap (λ (m : Sat). m.0.role) whole) refl (let g : word - 1 + 1 ≡ word = omega arith in g) (ap (λ (m : Sat). m.1) whole)
          low (search rules) (subst (λ (m : Sat). IsEnd m.0.seen m.0.schema e) (sym whole) c.requires.last),
    )

pub returns : goal.returns
returns g c =
    let word = c.args.word in
    let e = c.args.edition in
    let side = c.args.side in
    let old : View = c.args.seat.now.me.0 in
    let P : Progress = record (progress_at c.args.seat.now) { done = word - 1; hand = word; side = side } in
    let whole : c.exchange.new.seat.me ≡ (keeping P old.schema old.seen, (2 * word + (1 - side), Some e) ∷ []) =
    c.exchange.ensures.3 ∙ ap (λ (m : Sat). (m.0, (2 * word + (1 - side), Some e) ∷ rest m.1)) c.requires.taken.at in
    let last : c.fetch_xor.new.seat.me ≡ (keeping (record P { hand = 0; done = word }) old.schema old.seen, []) = c.fetch_xor.ensures.2 ∙ ap (λ (m : Sat). (keeping (record (progress_of m.0.role) { hand = 0; done = word }) m.0.schema m.0.seen, [])) whole in
    let now = at_of c.fetch_xor.new.seat word P old.schema old.seen last in
    record { same = search rules; at = now.at; seen = now.seen; schema = now.schema; made = now.made }
