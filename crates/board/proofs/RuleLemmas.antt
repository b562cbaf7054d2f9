-- Each step keeps the rule of the board.
use Rattle.std.proofs.Common.{◌≡◌, ◌≢◌, ℕ, ◌+◌, ◌-◌, ◌*◌, ◌%◌, ◌^◌, ◌<◌, ◌≤◌, eqb, List, [], ◌∷◌, ◌++◌, length, get_or, set, sym, refl, ap, ◌∙◌, subst, ⊎_elim, arith, Option, Some, length-set, length-append, get_or-set_other, get_or-set_same, eq-eqb}
use Rattle.std.proofs.lemmas.List.Elements.{All-append, All-cons, All-nil}
use Rattle.std.specs.FinMap as finmap
use mathlib.Core.Logic.{dite}
use mathlib.Core.Option.{none, some}
use mathlib.Core.List.{IsPrefix}
use native.Mathlib.Decide.{ℕ_discrete, dec_le}
use lib.ListN.{get_elem?}
use lib.Seq.{set-get_or}
use prog.Atomic.{either}
use Rattle.std.specs.Int.Bits.{bit_xor}
use Rattle.atomic_table.specs.Table.{State, step, keeps, takes, gives, stepped, rest, Allows, Splits, Joins}
use Rattle.atomic_table.proofs.Lists.{at_set, set_here, set_else, set_again}
use Rattle.cells.specs.Values.{Table}
use Rattle.board.specs.Editions.{Edition, History}
use Rattle.board.specs.Law.{Appended, Board, Entered, Fits, Flipped, Grabbed, Homes, IsBox, IsEnd, IsLaid, IsShown, Kept, Knows, Left, Sat, Saw, Shows, guest, host, informed, inside, keeping, nobody, note, outside, progress_of}
use Rattle.board.specs.declared.law.Progress.{Progress}
use Rattle.board.specs.declared.law.Role.{Role}
use Rattle.board.specs.declared.law.Role.TheVariants.{Noted, Keeping, Outside, Inside}
use Rattle.board.specs.declared.law.View.{View}
use Rattle.board.proofs.HistoryLemmas.{put, put_here, put_else, xor_one, prefix_self, prefix_nil, prefix_of, front, first_of, at_end, seats_stay}
use Rattle.board.proofs.BoxesLemmas.{end_shown, filled_side, shows_end, box_else, fits_else}

abbrev St : Type 0
St = State (Option Edition) View

-- the board after a step of the keeper, and after one of a viewer
abbrev moved : Board → History → Progress → (ℕ → ℕ) → (ℕ → ℕ) → Board
moved b h p par shown = record b { history = h; progress = p; par = par; shown = shown }

abbrev handed : Board → ℕ → ℕ → Board
handed b q t = record b { held = put b.held q t }

module _ (n : ℕ) (table : Table) where
  abbrev Rule : St → Type 0
  Rule = Kept n table

  knows : (s : St) (r : Rule s) (id : ℕ) (v : View) (role : Role) → get_elem? s.views id ≡ some v → v.role ≡ role → Knows n table r.board id v.schema v.seen role
  knows s r id v role at is = subst (Knows n table r.board id v.schema v.seen) is (r.each id v at).role

  -- a step of the keeper, to the progress p', at which the history becomes h'
  keeper_step : (s : St) (r : Rule s) (id : ℕ) (h' : History) (p' : Progress) (par' shown' : ℕ → ℕ) (words' : List ℕ) (homes' : Homes) → id ≡ r.board.keeper → IsPrefix r.board.history h'
      → IsLaid n table (moved r.board h' p' par' shown') words' homes' → ((w : ℕ) → r.board.shown w ≤ shown' w) → p'.made ≡ r.board.progress.made
      → ((w s : ℕ) → 0 < w → w ≤ n → r.board.held w ≡ s + 1 → s ≡ par' w → (s ≡ r.board.par w) × (shown' w ≡ r.board.shown w))
      → Rule record { words = words'; homes = homes'; views = set s.views id (keeping p' table h') }
  keeper_step s r id h' p' par' shown' words' homes' mine pre laid up made stays =
      let b' : Board = moved r.board h' p' par' shown' in
      let no_fewer : r.board.progress.made ≤ p'.made = omega (arith, made) in
      let none_new : (w : ℕ) → r.board.progress.made < w → w ≤ p'.made → ⊥ = λ w a c. omega (arith, made, a, c) in record {
        board = b';
        laid = laid;
        each = seats_stay (Fits n table b') s.views id (keeping p' table h') record { role = (refl, mine, refl, refl); seen = prefix_self h'; told = All-nil _ }
            (λ j d other at. fits_else n table r.board b' j pre up no_fewer (λ w a c. absurd (none_new w a c)) d (λ q t. absurd (other (t.1 ∙ sym mine)))
            (λ w a c o m. (o, refl, λ i e f. stays w i a c e f)) (r.each j d at));
      }

  -- a step of the viewer q, whose hand in its box goes to t
  viewer_step : (s : St) (r : Rule s) (id q t : ℕ) (v : View) (words' : List ℕ) (homes' : Homes) → q ≤ r.board.progress.made → r.board.owner q ≡ id → t + r.board.par q ≢ 2
      → length words' ≡ length s.words → length homes' ≡ length s.homes → get_or words' 0 0 ≡ get_or s.words 0 0 → ((w : ℕ) → w ≢ q → get_or words' w 0 ≡ get_or s.words w 0)
      → ((w c : ℕ) → w ≢ q → c < 2 → get_elem? homes' (2 * w + c) ≡ get_elem? s.homes (2 * w + c))
      → IsBox table r.board.history words' homes' r.board.progress.hand q (r.board.par q) t (r.board.shown q)
      → Fits n table (handed r.board q t) id v
      → Rule record { words = words'; homes = homes'; views = set s.views id v }
  viewer_step s r id q t v words' homes' made mine clear as_wide as_deep first words slots box fits =
      let b : Board = r.board in
      let b' : Board = handed b q t in
      let l = r.laid in
      let here : b'.held q ≡ t = put_here b.held q t in
      let there : (w : ℕ) → w ≢ q → b'.held w ≡ b.held w = put_else b.held q t in record {
        board = b';
        laid = record {
          wide = as_wide ∙ l.wide;
          deep = as_deep ∙ l.deep;
          begun = l.begun;
          count = ap (λ (x : ℕ). x + 1) first ∙ l.count;
          boxes = λ w low high. dite (ℕ_discrete w q)
              (λ e. subst (λ (z : ℕ × ℕ). IsBox table b.history words' homes' b.progress.hand z.0 (b.par z.0) z.1 (b.shown z.0)) (λ i. (sym e i, (sym here ∙ ap b'.held (sym e)) i)) box)
              (λ other. subst (λ (z : ℕ). IsBox table b.history words' homes' b.progress.hand w (b.par w) z (b.shown w)) (sym (there w other))
              (box_else table b.history b.history s.words words' s.homes homes' b.progress.hand b.progress.hand w (b.par w) (b.held w) (b.shown w) (prefix_self b.history) (words w other) (λ c under. slots w c other under) (λ z. z)
              (l.boxes w low high)));
          done = l.done;
          side = λ w low high e. let t' = l.side w low high e in (
            t'.0,
            dite (ℕ_discrete w q) (λ i. subst (λ (z : ℕ × ℕ). z.1 + b.par z.0 ≢ 2) (λ k. (sym i k, (sym here ∙ ap b'.held (sym i)) k)) clear)
                (λ other. subst (λ (z : ℕ). z + b.par w ≢ 2) (sym (there w other)) t'.1),
          );
          unmade = λ w above. there w (λ e. omega (arith, e, above, made)) ∙ l.unmade w above;
        };
        each = seats_stay (Fits n table b') s.views id v fits
            (λ j d other at. fits_else n table b b' j (prefix_self b.history) (λ _. omega arith) (omega arith) (λ w a c. absurd (omega (arith, a, c))) d (λ _ z. z)
            (λ w a c o m. (o, there w (λ e. other (sym o ∙ (ap b.owner e ∙ mine))), λ _ _ i. (i, refl))) (r.each j d at));
      }

  pub publishes : (slots id : ℕ) (me : Sat) (p₀ : Progress) (e : Edition) (old new : ℕ) → new ≡ old + 1 → me.0.role ≡ Keeping p₀ → length me.0.seen ≡ old + 1
      → Allows Rule slots id me 0 (λ x. either (eqb x old) new x) (Appended (step slots 0 old new (some (Some e))) me)
  publishes slots id me p₀ e old new next is long s r deep at _ =
      let k = knows s r id me.0 (Keeping p₀) at is in
      let b : Board = r.board in
      let l = r.laid in
      let x : ℕ = get_or s.words 0 0 in
      let count = l.count in
      let same : me.0.seen ≡ b.history = k.2 in
      let lengths : length me.0.seen ≡ length b.history = ap length same in
      let hit : x ≡ old = omega arith in
      let h' : History = b.history ++ e.rows ∷ [] in
      let p' : Progress = record b.progress { done = 0 } in
      let w : View = keeping p' table h' in
      let w_is : keeping (record (progress_of me.0.role) { done = 0 }) me.0.schema (me.0.seen ++ e.rows ∷ []) ≡ w = λ i. keeping (record ((ap progress_of is ∙ k.0) i) { done = 0 }) (k.3 i) (same i ++ e.rows ∷ []) in
      let words' : List ℕ = set s.words 0 new in
      let wide = l.wide in
      let longer : length h' ≡ length b.history + 1 = length-append b.history (e.rows ∷ []) in
      let pre : IsPrefix b.history h' = (e.rows ∷ [], refl) in
      let here = get_or-set_same s.words 0 new 0 (omega arith) in
      let counted : get_or words' 0 0 + 1 ≡ length h' = omega arith in (
        w,
        keeps,
        tt,
        subst (λ b. Rule (stepped s 0 (either b new x) id me.1 w keeps)) (sym (eq-eqb x old hit))
            (keeper_step s r id h' p' b.par b.shown words' s.homes k.1 pre record {
              wide = length-set s.words 0 new ∙ wide;
              deep = l.deep;
              begun = record { later = l.begun.later ++ e.rows ∷ []; is = ap (λ (z : History). z ++ e.rows ∷ []) l.begun.is };
              count = counted;
              boxes = λ v a c. box_else table b.history h' s.words words' s.homes s.homes b.progress.hand b.progress.hand v (b.par v) (b.held v) (b.shown v) pre
                  (get_or-set_other s.words 0 v new 0 (λ z. omega arith)) (λ _ _. refl) (λ z. z) (l.boxes v a c);
              done = λ v a c under. absurd (omega (arith, a, under));
              side = l.side;
              unmade = l.unmade;
            } (λ _. omega arith) refl (λ v i a c d f. (f, refl))),
        λ i. (sym w_is i, me.1),
      )

  pub grabs : (slots id : ℕ) (me : Sat) (p₀ : Progress) (q : ℕ) → me.0.role ≡ Keeping p₀ → p₀.hand ≡ 0 → me.1 ≡ [] → 0 < q → q ≤ n → Allows Rule slots id me q (λ x. x) (Grabbed (step slots q 0 0 none) me)
  grabs slots id me p₀ q is free bare low high s r deep at _ =
      let k = knows s r id me.0 (Keeping p₀) at is in
      let b : Board = r.board in
      let l = r.laid in
      let x : ℕ = get_or s.words q 0 in
      let box = l.boxes q low high in
      let b₀ = box.bits.0 in
      let c = b.par q in
      let progresses : progress_of me.0.role ≡ b.progress = ap progress_of is ∙ k.0 in
      let hands : p₀.hand ≡ b.progress.hand = ap (λ (p : Progress). p.hand) k.0 in
      let same_words : set s.words q x ≡ s.words = set-get_or s.words q 0 in
      dite (dec_le 2 x)
      (λ busy. (
        me.0,
        keeps,
        tt,
        subst (λ (ws : List ℕ). Rule record { words = ws; homes = s.homes; views = set s.views id me.0 }) (sym same_words)
            (subst (λ (vs : List View). Rule record { words = s.words; homes = s.homes; views = vs }) (sym (set_again s.views id me.0 at)) r),
        ((λ new. absurd (let z : b.held q ≡ 0 = l.unmade q (let m : (progress_of me.0.role).made ≡ b.progress.made = ap (λ (p : Progress). p.made) progresses in omega arith) in let i = box.idle z in omega arith)), (λ l. absurd (omega arith)), λ _. refl),
      ))
      (λ idle.
      let out : b.held q ≡ 0 = dite (ℕ_discrete (b.held q) 0) (λ z. z) (λ z. let t = box.busy z in absurd (omega arith)) in
      let side : x ≡ b.par q = box.idle out in
      let y = box.spare (λ z. omega arith) (λ z. omega arith) in
      let p' : Progress = record b.progress { hand = q; side = x } in
      let w : View = keeping p' table b.history in
      let w_is : keeping (record (progress_of me.0.role) { hand = q; side = x }) me.0.schema me.0.seen ≡ w = λ i. keeping (record ((ap progress_of is ∙ k.0) i) { hand = q; side = x }) (k.3 i) (k.2 i) in
      let homes' : Homes = set s.homes (2 * q + (1 - x)) none in (
        w,
        takes (2 * q + (1 - x)) y.0,
        ap (λ (z : ℕ). get_elem? s.homes (2 * q + (1 - z))) side ∙ y.1,
        subst (λ (ws : List ℕ). Rule record { words = ws; homes = homes'; views = set s.views id w }) (sym same_words)
            (keeper_step s r id b.history p' b.par b.shown s.words homes' k.1 (prefix_self b.history) record {
              wide = l.wide;
              deep = length-set s.homes (2 * q + (1 - x)) none ∙ l.deep;
              begun = l.begun;
              count = l.count;
              boxes = λ v a c. dite (ℕ_discrete v q)
                  (λ e. subst (λ (z : ℕ). IsBox table b.history s.words homes' q z (b.par z) (b.held z) (b.shown z)) (sym e) record {
                    bits = box.bits;
                    idle = box.idle;
                    busy = box.busy;
                    low = box.low;
                    active = λ z. let t = box.active z in (t.0, set_else s.homes (2 * q + (1 - x)) (2 * q + b.par q) none (λ f. omega arith) ∙ t.1, t.2);
                    spare = λ _ z. absurd (z refl);
                  })
                  (λ other. box_else table b.history b.history s.words s.words s.homes homes' b.progress.hand q v (b.par v) (b.held v) (b.shown v) (prefix_self b.history) refl
                  (λ i under. set_else s.homes (2 * q + (1 - x)) (2 * v + i) none (λ f. other (omega arith))) (λ _ z. omega arith) (l.boxes v a c));
              done = l.done;
              side = λ v a c e. (side ∙ ap b.par e, λ f. let o : b.held v ≡ 0 = ap b.held (sym e) ∙ out in let t = (l.boxes v a c).bits.0 in omega arith);
              unmade = l.unmade;
            } (λ _. omega arith) refl (λ v i a c e f. (f, refl))),
        ((λ _. omega arith), (λ _. (y.0, λ i. (sym w_is i, (2 * q + (1 - x), y.0) ∷ bare i))), λ l. absurd (idle l)),
      ))

  pub flips : (slots id : ℕ) (me : Sat) (p₀ : Progress) (q : ℕ) (e : Edition) → me.0.role ≡ Keeping p₀ → p₀.hand ≡ q → p₀.done + 1 ≡ q → me.1 ≡ (2 * q + (1 - p₀.side), Some e) ∷ [] → 0 < q → q ≤ n
      → IsEnd me.0.seen me.0.schema e → Allows Rule slots id me q (λ x. bit_xor x 1) (Flipped (step slots q 1 0 none) me)
  flips slots id me p₀ q e is hand done carried low high end s r deep at _ =
      let k = knows s r id me.0 (Keeping p₀) at is in
      let b : Board = r.board in
      let l = r.laid in
      let x : ℕ = get_or s.words q 0 in
      let y : ℕ = bit_xor x 1 in
      let box = l.boxes q low high in
      let b₀ = box.bits.0 in
      let c : ℕ = b.par q in
      let wide = l.wide in
      let deep' = l.deep in
      let hands : b.progress.hand ≡ q = ap (λ (p : Progress). p.hand) (sym k.0) ∙ hand in
      let dones : b.progress.done + 1 ≡ q = ap (λ (p : Progress). p.done + 1) (sym k.0) ∙ done in
      let on = l.side q low high hands in
      let side : p₀.side ≡ c = ap (λ (p : Progress). p.side) k.0 ∙ on.0 in
      let apart = on.1 in
      let m : ℕ = length b.history in
      let shown : Shows table b.history m (Some e) = shows_end table b.history b.history e (prefix_self b.history) (subst (λ (z : History × Table). IsEnd z.0 z.1 e) (λ i. (k.2 i, k.3 i)) end) in
      let p' : Progress = record b.progress { hand = 0; done = q } in
      let w : View = keeping p' table b.history in
      let w_is : keeping (record (progress_of me.0.role) { hand = 0; done = q }) me.0.schema me.0.seen ≡ w = λ i. keeping (record ((ap progress_of is ∙ k.0) i) { hand = 0; done = q }) (k.3 i) (k.2 i) in
      let slot : ℕ = 2 * q + (1 - c) in
      let homes' : Homes = set s.homes slot (some (Some e)) in
      let words' : List ℕ = set s.words q y in
      let par' = put b.par q (1 - c) in
      let shown' = put b.shown q m in
      let now : get_or words' q 0 ≡ y = get_or-set_same s.words q y 0 (omega arith) in
      let turned = xor_one c b₀ in
      let carried' : me.1 ≡ (slot, Some e) ∷ [] = carried ∙ ap (λ (z : ℕ). (2 * q + (1 - z), Some e) ∷ []) side in
      let box' : IsBox table b.history words' homes' 0 q (1 - c) (b.held q) m = record {
        bits = (omega arith, box.bits.1);
        idle = λ z. now ∙ (ap (λ (d : ℕ). bit_xor d 1) (box.idle z) ∙ turned.0);
        busy = λ z. now ∙ (ap (λ (d : ℕ). bit_xor d 1) (box.busy z) ∙ turned.1);
        low = omega arith;
        active = λ _. (Some e, set_here s.homes slot (some (Some e)) (omega arith), shown);
        spare = λ z _. let t = box.active (λ f. z (omega arith)) in
            (t.0, ap (λ (d : ℕ). get_elem? homes' (2 * q + d)) (let g : 1 - (1 - c) ≡ c = omega arith in g) ∙ (set_else s.homes slot (2 * q + c) (some (Some e)) (λ f. omega arith) ∙ t.1));
      } in (
        w,
        gives,
        tt,
        subst (λ (cs : List (ℕ × Option Edition)). Rule (stepped s q y id cs w gives)) (sym carried')
            (keeper_step s r id b.history p' par' shown' words' homes' k.1 (prefix_self b.history) record {
              wide = length-set s.words q y ∙ wide;
              deep = length-set s.homes slot (some (Some e)) ∙ deep';
              begun = l.begun;
              count = ap (λ (z : ℕ). z + 1) (get_or-set_other s.words q 0 y 0 (λ z. omega arith)) ∙ l.count;
              boxes = λ v a d. dite (ℕ_discrete v q)
                  (λ f. subst (λ (z : ℕ × ℕ × ℕ). IsBox table b.history words' homes' 0 z.0 z.1 (b.held z.0) z.2) (λ i. (sym f i, (sym (put_here b.par q (1 - c)) ∙ ap par' (sym f)) i, (sym (put_here b.shown q m) ∙ ap shown' (sym f)) i)) box')
                  (λ other. subst (λ (z : ℕ × ℕ). IsBox table b.history words' homes' 0 v z.0 (b.held v) z.1) (λ i. (sym (put_else b.par q (1 - c) v other) i, sym (put_else b.shown q m v other) i))
                  (box_else table b.history b.history s.words words' s.homes homes' b.progress.hand 0 v (b.par v) (b.held v) (b.shown v) (prefix_self b.history) (get_or-set_other s.words q v y 0 (λ z. other (omega arith)))
                  (λ i under. set_else s.homes slot (2 * v + i) (some (Some e)) (λ f. other (omega arith))) (λ _ z. other (sym z ∙ hands)) (l.boxes v a d)));
              done = λ v a d under. dite (ℕ_discrete v q) (λ f. ap shown' f ∙ put_here b.shown q m) (λ other. put_else b.shown q m v other ∙ l.done v a d (omega arith));
              side = λ v a d z. absurd (omega (arith, a, z));
              unmade = l.unmade;
            }
            (λ v. dite (ℕ_discrete v q) (λ f. let g : shown' v ≡ m = ap shown' f ∙ put_here b.shown q m in let under = box.low in let o : b.shown v ≡ b.shown q = ap b.shown f in omega arith)
            (λ other. let g = put_else b.shown q m v other in omega arith))
            refl
            (λ v i a d has f. dite (ℕ_discrete v q)
            (λ g. let u : i ≡ 1 - c = f ∙ (ap par' g ∙ put_here b.par q (1 - c)) in let o : b.held q ≡ i + 1 = ap b.held (sym g) ∙ has in absurd (apart (omega arith)))
            (λ other. (f ∙ put_else b.par q (1 - c) v other, put_else b.shown q m v other)))),
        λ i. (sym w_is i, rest (carried' i)),
      )

  pub enters : (slots id : ℕ) (me : Sat) (q : ℕ) → me.0.role ≡ Outside q → me.1 ≡ [] → Allows Rule slots id me q (λ x. (x + 2) % 2 ^ 64) (Entered (step slots q 2 0 none) me)
  enters slots id me q is bare s r deep at _ =
      let f = r.each id me.0 at in
      let k = knows s r id me.0 (Outside q) at is in
      let b : Board = r.board in
      let l = r.laid in
      let low = k.low in
      let out : b.held q ≡ 0 = k.held in
      let box = l.boxes q low k.high in
      let c : ℕ = b.par q in
      let b₀ = box.bits.0 in
      let wide = l.wide in
      let high = k.high in
      let x : ℕ = get_or s.words q 0 in
      let side : x ≡ c = box.idle out in
      let y : ℕ = (x + 2) % 18446744073709551616 in
      let y_is : y ≡ c + 2 = omega arith in
      let m : ℕ = b.shown q in
      let filled : 0 < m = k.filled in
      let known : length me.0.seen ≤ m = k.few in
      let took = box.active (λ z. omega arith) in
      let there = filled_side table b.history m took.0 filled took.2 in
      let e : Edition = there.0 in
      let home = took.1 ∙ ap (λ (z : Option Edition). some (some z)) there.1 in
      let t = front m b.history box.low in
      let seen : History = t.0 in
      let pre = t.1 in
      let long : length seen ≡ m = t.2 in
      let w : View = inside q x me.0.schema seen in
      let slot : ℕ = 2 * q + x in
      let homes' : Homes = set s.homes slot none in
      let words' : List ℕ = set s.words q y in
      let now : get_or words' q 0 ≡ y = get_or-set_same s.words q y 0 (omega arith) in
      let saw : Saw me.0 seen e = record {
        seen_before = prefix_of me.0.seen seen b.history f.seen pre (omega arith);
        told_before = λ i d under. let u = f.told i d under in let v = u.1 q low k.made in prefix_of _ seen b.history u.0 pre (omega arith);
        last = subst (λ (z : Table). IsEnd seen z e) (sym k.schema) (end_shown table seen b.history e pre (subst (λ (z : ℕ). Shows table b.history z (Some e)) (sym long) there.2));
        begun = (let z = first_of seen finmap.empty l.begun.later (t.1.0, t.1.1 ∙ l.begun.is) (omega arith) in record { later = z.0; is = z.1 });
      } in (
        w,
        takes slot (Some e),
        ap (λ (z : ℕ). get_elem? s.homes (2 * q + z)) side ∙ home,
        viewer_step s r id q (x + 1) w words' homes' k.made k.own (λ z. omega arith) (length-set s.words q y) (length-set s.homes slot none) (get_or-set_other s.words q 0 y 0 (λ z. omega arith))
            (λ v other. get_or-set_other s.words q v y 0 (λ z. other (omega arith))) (λ v i other under. set_else s.homes slot (2 * v + i) none (λ z. other (omega arith)))
            record {
              bits = (b₀, omega arith);
              idle = λ z. absurd (omega arith);
              busy = λ _. now ∙ y_is;
              low = box.low;
              active = λ z. absurd (z (omega arith));
              spare = λ z a. let u = box.spare (λ g. omega arith) a in (u.0, set_else s.homes slot (2 * q + (1 - c)) none (λ g. omega arith) ∙ u.1);
            }
            record {
              role = (record { low = low; high = high; made = k.made; own = k.own; held = put_here b.held q (x + 1); few = omega arith; filled = filled; schema = k.schema }, λ _. long);
              seen = pre;
              told = All-nil _;
            },
        (e, seen, omega arith, ap (λ (cs : List (ℕ × Option Edition)). (w, (slot, Some e) ∷ cs)) bare, saw),
      )

  pub leaves : (slots id : ℕ) (me : Sat) (q i : ℕ) (e : Edition) → me.0.role ≡ Inside q i → me.1 ≡ (2 * q + i, Some e) ∷ [] → IsEnd me.0.seen me.0.schema e
      → Allows Rule slots id me q (λ x. (x + (2 ^ 64 - 2)) % 2 ^ 64) (Left (step slots q 2 0 none) me)
  leaves slots id me q i e is carried end s r deep at _ =
      let f = r.each id me.0 at in
      let knew = knows s r id me.0 (Inside q i) at is in
      let k = knew.0 in
      let b : Board = r.board in
      let l = r.laid in
      let low = k.low in
      let high = k.high in
      let has : b.held q ≡ i + 1 = k.held in
      let box = l.boxes q low high in
      let c : ℕ = b.par q in
      let b₀ = box.bits.0 in
      let b₁ = box.bits.1 in
      let wide = l.wide in
      let deep' = l.deep in
      let n₀ : ℕ = get_or s.words q 0 in
      let busy : n₀ ≡ c + 2 = box.busy (λ z. omega arith) in
      let y : ℕ = (n₀ + 18446744073709551614) % 18446744073709551616 in
      let y_is : y ≡ c = omega arith in
      let w : View = outside q me.0.schema me.0.seen in
      let slot : ℕ = 2 * q + i in
      let homes' : Homes = set s.homes slot (some (Some e)) in
      let words' : List ℕ = set s.words q y in
      let now : get_or words' q 0 ≡ y = get_or-set_same s.words q y 0 (omega arith) in
      let here = shows_end table me.0.seen b.history e f.seen (subst (λ (t : Table). IsEnd me.0.seen t e) k.schema end) in
      let back : get_elem? homes' slot ≡ some (some (Some e)) = set_here s.homes slot (some (Some e)) (omega arith) in (
        w,
        gives,
        tt,
        subst (λ (cs : List (ℕ × Option Edition)). Rule (stepped s q y id cs w gives)) (sym carried)
            (viewer_step s r id q 0 w words' homes' k.made k.own (λ z. omega arith) (length-set s.words q y) (length-set s.homes slot (some (Some e))) (get_or-set_other s.words q 0 y 0 (λ z. omega arith))
            (λ v other. get_or-set_other s.words q v y 0 (λ z. other (omega arith))) (λ v j other under. set_else s.homes slot (2 * v + j) (some (Some e)) (λ z. other (omega arith)))
            record {
              bits = (b₀, omega arith);
              idle = λ _. now ∙ y_is;
              busy = λ z. absurd (z refl);
              low = box.low;
              active = λ _. dite (ℕ_discrete i c)
                  (λ g. (Some e, ap (λ (z : ℕ). get_elem? homes' (2 * q + z)) (sym g) ∙ back, subst (λ (z : ℕ). Shows table b.history z (Some e)) (knew.1 g) here))
                  (λ other. let t = box.active (λ z. other (omega arith)) in (t.0, set_else s.homes slot (2 * q + c) (some (Some e)) (λ z. other (omega arith)) ∙ t.1, t.2));
              spare = λ _ a. dite (ℕ_discrete i (1 - c))
                  (λ g. (Some e, ap (λ (z : ℕ). get_elem? homes' (2 * q + z)) (sym g) ∙ back))
                  (λ other. let t = box.spare (λ z. other (omega arith)) a in (t.0, set_else s.homes slot (2 * q + (1 - c)) (some (Some e)) (λ z. other (omega arith)) ∙ t.1));
            }
            record {
              role = record { low = low; high = high; made = k.made; own = k.own; held = put_here b.held q 0; few = k.few; filled = k.filled; schema = k.schema };
              seen = f.seen;
              told = All-nil _;
            }),
        ap (λ (cs : List (ℕ × Option Edition)). (w, rest cs)) carried,
      )

  pub tells : (id : ℕ) (v : View) (p₀ : Progress) → v.role ≡ Keeping p₀ → p₀.made ≤ p₀.done → p₀.made ≤ n → Splits Rule id v v (note v)
  tells id v p₀ is done room s r at =
      let f = r.each id v at in
      let k = knows s r id v (Keeping p₀) at is in
      let b : Board = r.board in
      let dones : b.progress.made ≤ b.progress.done = subst (λ (p : Progress). p.made ≤ p.done) k.0 done in
      let rooms : b.progress.made ≤ n = subst (λ (p : Progress). p.made ≤ n) k.0 room in
      let lengths : length v.seen ≡ length b.history = ap length k.2 in
      let given : (j : ℕ) → Fits n table b j (note v) = λ j. record {
        role = λ w low made. let t = r.laid.done w low (omega arith) (omega arith) in omega arith;
        seen = f.seen;
        told = All-nil _;
      } in record {
        board = b;
        laid = r.laid;
        each = λ j d e. ⊎_elim (seats_stay (Fits n table b) s.views id v f (λ i u _ a. r.each i u a) j d)
            (λ (t : (note v ≡ d) × (j ≡ length (set s.views id v))). subst (Fits n table b j) t.0 (given j)) (at_end (set s.views id v) (note v) d j e);
      }

  pub learns : (id : ℕ) (v : View) (other : ℕ) (w : View) → w.role ≡ Noted → Joins Rule id v other w (informed v w) nobody
  learns id v other w idle s r at apart there =
      let f = r.each id v at in
      let b : Board = r.board in
      let Ok : ℕ → View → Type 0 = Fits n table b in
      let theirs : Ok other w = ⊎_elim (λ (t : (other ≡ id) × (informed v w ≡ w)). absurd (apart t.0)) (λ (t : (other ≢ id) × (get_elem? s.views other ≡ some w)). r.each other w t.1) (at_set s.views id other (informed v w) w there) in
      let shown : IsShown b w.seen = subst (Knows n table b other w.schema w.seen) idle theirs.role in
      let mine : Ok id (informed v w) = record {
        role = f.role;
        seen = f.seen;
        told = All-append (λ (t : History). IsPrefix t b.history × IsShown b t) v.told (w.seen ∷ []) f.told (All-cons (λ (t : History). IsPrefix t b.history × IsShown b t) w.seen [] (theirs.seen, shown) (All-nil _));
      } in
      let spent : Ok other nobody = record { role = λ _ _ _. omega arith; seen = prefix_nil b.history; told = All-nil _ } in record {
        board = b;
        laid = r.laid;
        each = seats_stay Ok (set s.views id (informed v w)) other nobody spent (λ j d _ a. seats_stay Ok s.views id (informed v w) mine (λ i u _ c. r.each i u c) j d a);
      }

  pub seats : (id : ℕ) (v : View) (p₀ : Progress) → v.role ≡ Keeping p₀ → p₀.made < p₀.done → p₀.made < n → Splits Rule id v (host v) (guest v)
  seats id v p₀ is done room s r at =
      let f = r.each id v at in
      let k = knows s r id v (Keeping p₀) at is in
      let b : Board = r.board in
      let l = r.laid in
      let dones : b.progress.made < b.progress.done = subst (λ (p : Progress). p.made < p.done) k.0 done in
      let rooms : b.progress.made < n = subst (λ (p : Progress). p.made < n) k.0 room in
      let lengths : length v.seen ≡ length b.history = ap length k.2 in
      let begun = l.count in
      let progresses : progress_of v.role ≡ b.progress = ap progress_of is ∙ k.0 in
      let q : ℕ = b.progress.made + 1 in
      let full : b.shown q ≡ length b.history = l.done q (omega arith) (omega arith) (omega arith) in
      let p' : Progress = record b.progress { made = q } in
      let left' : View = keeping p' table b.history in
      let right' : View = outside q v.schema v.seen in
      let left_is : host v ≡ left' = λ i. keeping (record (progresses i) { made = (progresses i).made + 1 }) (k.3 i) (k.2 i) in
      let right_is : guest v ≡ right' = λ i. outside ((progresses i).made + 1) v.schema v.seen in
      let vs : List View = set s.views id left' in
      let owner' = put b.owner q (length vs) in
      let b' : Board = record b { progress = p'; owner = owner' } in
      let Ok : ℕ → View → Type 0 = Fits n table b' in
      let given : (j : ℕ) → j ≡ length vs → Ok j right' = λ j e. record {
        role = record {
          low = omega arith;
          high = omega arith;
          made = omega arith;
          own = put_here b.owner q (length vs) ∙ sym e;
          held = l.unmade q (omega arith);
          few = omega arith;
          filled = omega arith;
          schema = k.3;
        };
        seen = f.seen;
        told = All-nil _;
      } in
      let mine : Ok id left' = record { role = (refl, k.1, refl, refl); seen = prefix_self b.history; told = All-nil _ } in
      let no_fewer : b.progress.made ≤ q = omega arith in
      let newest : (w : ℕ) → b.progress.made < w → w ≤ q → length b.history ≤ b.shown w = λ w a c. let t = l.done w (omega arith) (omega arith) (omega arith) in omega arith in
      let whole : Rule record { words = s.words; homes = s.homes; views = vs ++ right' ∷ [] } = record {
        board = b';
        laid = record {
          wide = l.wide;
          deep = l.deep;
          begun = l.begun;
          count = l.count;
          boxes = l.boxes;
          done = l.done;
          side = l.side;
          unmade = λ w above. l.unmade w (omega (arith, no_fewer, above));
        };
        each = λ j d e. ⊎_elim
            (seats_stay Ok s.views id left' mine
            (λ i u other a. fits_else n table b b' i (prefix_self b.history) (λ _. omega arith) no_fewer newest u (λ _ t. absurd (other (t.1 ∙ sym k.1)))
            (λ w low high o m. (put_else b.owner q (length vs) w (λ z. omega (arith, z, m)) ∙ o, refl, λ _ _ z. (z, refl))) (r.each i u a)) j d)
            (λ (t : (right' ≡ d) × (j ≡ length vs)). subst (Ok j) t.0 (given j t.1)) (at_end vs right' d j e);
      } in
      subst (λ (z : View × View). Rule record { words = s.words; homes = s.homes; views = set s.views id z.0 ++ z.1 ∷ [] }) (λ i. (sym left_is i, sym right_is i)) whole
