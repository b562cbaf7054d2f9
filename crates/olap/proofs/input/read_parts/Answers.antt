use Rattle.std.proofs.Common.{[], ◌+◌, ◌∷◌, ◌∙◌, ap, arith, map, subst, sym}
use Rattle.std.proofs.lemmas.List.{map-append}
use Rattle.olap.proofs.FoldersLemmas.{first_unread, read_next, told_next}
use Rattle.olap.proofs.input.read_parts.Goals as goal

pub loop-name-preserved : goal.loop-name-preserved
loop-name-preserved g c =
    let ok = c.push.ensures.succeeds (omega (arith, c.loop-name.invariant.count, c.loop-name.invariant.room, c.loop-name-test.true)) in
    record {
      told = told_next (g.F.Folder.file c.args.folder.now) c.args.names.now c.loop-name.name-index c.name-item.result c.as_str.result.now
          (map (λ p. p.items) c.loop-name.parts.items) (map (λ p. p.items) c.push.new.self.items) c.in-Ok.part.items
          c.loop-name.invariant.told c.loop-name-test.true c.name-item.is c.as_str.ensures (ap (map (λ p. p.items)) (rw ok at c.push.ensures.items) ∙ map-append (λ p. p.items) c.loop-name.parts.items (c.in-Ok.part ∷ [])) c.in-Ok.ensures.told;
      read = read_next (g.F.Folder.was_read c.args.folder.now) (g.F.Folder.was_refused c.args.folder.now) c.args.names.now c.loop-name.name-index c.name-item.result c.as_str.result.now
          c.loop-name.invariant.read c.loop-name-test.true c.name-item.is c.as_str.ensures c.in-Ok.ensures.read;
      count = (rw ok at c.push.ensures.len) ∙ ap (λ n. n + 1) c.loop-name.invariant.count;
      room = omega (arith, c.loop-name.invariant.room, c.push.ensures.capacity);
    }

pub returns-in-Err-clause-named : goal.returns-in-Err-clause-named
returns-in-Err-clause-named g c =
    first_unread (g.F.Folder.was_read c.args.folder.now) (g.F.Folder.was_refused c.args.folder.now) c.args.names.now c.loop-name.name-index c.name-item.result c.not_read.result.name.now
    c.loop-name.invariant.read c.loop-name-test.true c.name-item.is c.not_read.ensures
    (subst (g.F.Folder.was_refused c.args.folder.now) (c.as_str.ensures ∙ sym c.not_read.ensures) c.in-Err.ensures.refused)
