use Rattle.std.proofs.Common.{◌<◌, ap, arith, get_or, length, refl, subst, take}
use Rattle.std.proofs.lemmas.List.{length-map, length-take, take_all}
use Rattle.groups.specs.Parting.{AreParted, codes_at, no_part}
use Rattle.groups.proofs.PartingLemmas.{parted_next}
use Rattle.groups.proofs.TuplesLemmas.{all_at}
use Rattle.groups.proofs.parting.parted_as_met.Goals as goal

pub loop-at-init : goal.loop-at-init
loop-at-init c = rw (c.in_ok-numbers.ensures.items, c.new.ensures.items) (record {
  within = tt;
  of_groups = refl;
  of_codes = refl;
  met = λ n below. absurd (omega (arith, below));
  few = omega arith;
})

pub bounds-groups-at : goal.bounds-groups-at
bounds-groups-at c = omega (arith, c.loop-at-test.true, c.requires.one)

pub bounds-rows-at : goal.bounds-rows-at
bounds-rows-at c = c.loop-at-test.true

pub bounds-codes-rows : goal.bounds-codes-rows
bounds-codes-rows c = all_at (λ row. row < length c.args.codes.now) c.args.rows.now c.loop-at.at 0 c.requires.rows c.loop-at-test.true

pub number-requires : goal.number-requires
number-requires c = omega (
  arith,
  c.loop-at-test.true,
  c.requires.few,
  c.loop-at.invariant.few,
  ap (λ l. length l) c.loop-at.invariant.of_groups,
  length-map c.loop-at.numbers.items (λ n. (get_or c.loop-at.numbering.parts.items n no_part).group),
  length-take c.loop-at.at c.args.groups.now,
)

pub loop-at-preserved : goal.loop-at-preserved
loop-at-preserved c =
    parted_next c.args.groups.now c.args.rows.now c.args.codes.now c.loop-at.numbers.items c.push.new.self.items c.loop-at.numbering.parts.items c.number.new.self.parts.items c.loop-at.at
    (get_or c.args.groups.now c.loop-at.at 0) (get_or c.args.rows.now c.loop-at.at 0) (get_or c.args.codes.now (get_or c.args.rows.now c.loop-at.at 0) 0) c.in_ok-number.field-0
    (omega (arith, c.loop-at-test.true, c.requires.one)) c.loop-at-test.true refl refl refl c.loop-at.invariant c.in_ok-number.ensures c.in_ok-push.ensures.items

pub returns : goal.returns
returns c =
    let i = c.loop-at.at in
    let groups = c.args.groups.now in
    let codes = codes_at c.args.codes.now c.args.rows.now in
    let numbers = c.loop-at.numbers.items in
    let parts = c.loop-at.numbering.parts.items in
    subst (λ l. AreParted l codes numbers parts) (take_all i groups (omega (arith, c.loop-at-test.false, c.requires.one)))
    (subst (λ l. AreParted (take i groups) l numbers parts)
    (take_all i codes (omega (arith, c.loop-at-test.false, length-map c.args.rows.now (λ row. get_or c.args.codes.now row 0)))) c.loop-at.invariant)
