use Rattle.std.proofs.Common.{◌≡◌, ◌∷◌, ◌∙◌, ap, false, map, rules, sym, true}
use Rattle.std.specs.List.{list_any}
use Rattle.csv.specs.Records.{fields_of}
use Rattle.prepare.specs.Proposals.{column_of, field_in, is_null, rows_of}
use Rattle.prepare.proofs.KeysLemmas.{column_next, keys_more, keys_null, keys_twice, null_is, null_is_not, was_met, was_not_met}
use Rattle.prepare.proofs.keys.are_keys.Goals as goal

pub returns-then-is_empty : goal.returns-then-is_empty
returns-then-is_empty g c =
    let took : c.loop-met.rows ≡ fields_of c.next.new.row ∷ c.next.new.self = search rules in
    let field = field_in c.args.place (fields_of c.next.new.row) in
    let null : is_null c.field_in-field.result.now ≡ true = null_is c.field_in-field.result.now (sym c.is_empty.ensures ∙ c.if-is_empty.true) in (
      (λ h. cc),
      λ keys. absurd (keys_null g.V.PartialEq.eq g.met.V.Eq.laws g.V.Value.of (column_of c.args.place (rows_of (map (λ p. p.items) c.args.parts.now)))
          (column_of c.args.place c.loop-met.rows) (column_of c.args.place c.next.new.self) c.loop-met.met.keys field c.loop-met.invariant
          (column_next c.args.place c.loop-met.rows c.next.new.self (fields_of c.next.new.row) took) (ap is_null (sym c.field_in-field.ensures) ∙ null) keys),
    )

pub returns-then-not-branch : goal.returns-then-not-branch
returns-then-not-branch g c =
    let took : c.loop-met.rows ≡ fields_of c.next.new.row ∷ c.next.new.self = search rules in
    let field = field_in c.args.place (fields_of c.next.new.row) in
    let key : c.in_ok-of.field-0 ≡ g.V.Value.of field = c.in_ok-of.ensures ∙ ap g.V.Value.of c.field_in-field.ensures in
    let again : list_any (g.V.PartialEq.eq c.in_ok-of.field-0) c.loop-met.met.keys ≡ true = was_met _ _ c.in_ok-insert.ensures.added c.if-not-branch.true in (
      (λ h. cc),
      λ keys. absurd (keys_twice g.V.PartialEq.eq g.met.V.Eq.laws g.V.Value.of (column_of c.args.place (rows_of (map (λ p. p.items) c.args.parts.now)))
          (column_of c.args.place c.loop-met.rows) (column_of c.args.place c.next.new.self) c.loop-met.met.keys field c.loop-met.invariant
          (column_next c.args.place c.loop-met.rows c.next.new.self (fields_of c.next.new.row) took) (rw key at again) keys),
    )

pub loop-met-preserved : goal.loop-met-preserved
loop-met-preserved g c =
    let took : c.loop-met.rows ≡ fields_of c.next.new.row ∷ c.next.new.self = search rules in
    let field = field_in c.args.place (fields_of c.next.new.row) in
    let filled : is_null c.field_in-field.result.now ≡ false = null_is_not c.field_in-field.result.now (sym c.is_empty.ensures ∙ c.if-is_empty.false) in
    let key : c.in_ok-of.field-0 ≡ g.V.Value.of field = c.in_ok-of.ensures ∙ ap g.V.Value.of c.field_in-field.ensures in
    let new : list_any (g.V.PartialEq.eq c.in_ok-of.field-0) c.loop-met.met.keys ≡ false = was_not_met _ _ c.in_ok-insert.ensures.added c.if-not-branch.false in
    keys_more g.V.PartialEq.eq g.met.V.Eq.laws g.V.Value.of (column_of c.args.place (rows_of (map (λ p. p.items) c.args.parts.now)))
    (column_of c.args.place c.loop-met.rows) (column_of c.args.place c.next.new.self) c.loop-met.met.keys field c.loop-met.invariant
    (column_next c.args.place c.loop-met.rows c.next.new.self (fields_of c.next.new.row) took)
    c.insert.new.self.keys (ap is_null (sym c.field_in-field.ensures) ∙ filled) (rw key at new) (rw key at c.in_ok-insert.ensures.updates.0)
