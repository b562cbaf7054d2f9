-- What was started, put behind the rest.
use Rattle.std.proofs.Common.{◌≡◌, ℕ, zero, suc, List, [], ◌∷◌, ◌++◌, ap, ap₂, map, refl, subst, ◌∙◌}
use Rattle.std.proofs.lemmas.List.{map-append}
use Rattle.report.specs.Audiences.{watch_of}
use Rattle.report.specs.Onlookers.{onlooker_of}
use Rattle.report.specs.Onlooking.{Onlooking, OnlookersValue, sent, sent_by}
use Rattle.report.specs.Waiting.{UnderWay, Waits, under_way, with_report}
use Rattle.report.specs.Watching.{AudienceValue, Watch}
use Rattle.report.specs.declared.audience.Started.{Started}
use Rattle.report.specs.declared.backlog.Pending.{Pending}
use Rattle.report.specs.declared.onlookers.Going.{Going}

abbrev waits : List UnderWay → List ℕ → Waits
waits reports after = record { reports = reports; after = after }

abbrev audience : ℕ → List Watch → AudienceValue
audience begun watches = record { begun = begun; watches = watches }

-- a report, with the text before it
pub report_behind : {H : Type 0} (w : Waits) (reports new : List (Pending H)) (after left : List ℕ) (p : Pending H) → waits (map under_way reports) after ≡ w → new ≡ reports ++ p ∷ [] →
    left ≡ [] → p.before.items ≡ after → waits (map under_way new) left ≡ with_report w (p.answer.handle.promise.edition.value) (p.answer.handle.promise.question.value)
report_behind w reports new after left p is added none before =
    subst (λ v. waits (map under_way new) left ≡ with_report v (p.answer.handle.promise.edition.value) (p.answer.handle.promise.question.value)) is
    (ap₂ waits
    (ap (map under_way) added ∙ map-append under_way reports (p ∷ []) ∙
    ap (λ (b : List ℕ). map under_way reports ++ record { before = b; edition = p.answer.handle.promise.edition.value; question = p.answer.handle.promise.question.value } ∷ []) before)
    none)

-- a viewer
pub viewer_behind : {H : Type 0} (a : AudienceValue) (begun : ℕ) (started new : List (Started H)) (s : Started H) → audience begun (map watch_of started) ≡ a → new ≡ started ++ s ∷ [] →
    audience begun (map watch_of new) ≡ audience a.begun (a.watches ++ watch_of s ∷ [])
viewer_behind a begun started new s is added =
    subst (λ v. audience begun (map watch_of new) ≡ audience v.begun (v.watches ++ watch_of s ∷ [])) is
    (ap (audience begun) (ap (map watch_of) added ∙ map-append watch_of started (s ∷ [])))

abbrev pub onlookers : List Onlooking → List Onlooking → OnlookersValue
onlookers going waiting = record { going = going; waiting = waiting }

-- an onlooker that waits
pub waiting_behind : (o : OnlookersValue) (going waiting new : List Onlooking) (x : Onlooking) → onlookers going waiting ≡ o → new ≡ waiting ++ x ∷ [] → onlookers going new ≡ onlookers o.going (o.waiting ++ x ∷ [])
waiting_behind o going waiting new x is added = subst (λ v. onlookers going new ≡ onlookers v.going (v.waiting ++ x ∷ [])) is (ap (onlookers going) added)

-- one that goes
pub going_behind : {H : Type 0} (o : OnlookersValue) (going new : List (Going H)) (waiting : List Onlooking) (s : Going H) → onlookers (map onlooker_of going) waiting ≡ o → new ≡ going ++ s ∷ [] →
    onlookers (map onlooker_of new) waiting ≡ onlookers (o.going ++ onlooker_of s ∷ []) o.waiting
going_behind o going new waiting s is added =
    subst (λ v. onlookers (map onlooker_of new) waiting ≡ onlookers (v.going ++ onlooker_of s ∷ []) v.waiting) is
    (ap (λ all. onlookers all waiting) (ap (map onlooker_of) added ∙ map-append onlooker_of going (s ∷ [])))

sent_some_by : (o : OnlookersValue) (x : Onlooking) (n : ℕ) → (n ≡ 0 → ⊥) → sent_by o x n ≡ onlookers (o.going ++ x ∷ []) o.waiting
sent_some_by o x zero some = absurd (some refl)
sent_some_by o x (suc n) some = refl

-- that is where one is sent which has reports to make
pub sent_some : (o : OnlookersValue) (x : Onlooking) → (x.left ≡ 0 → ⊥) → sent o x ≡ onlookers (o.going ++ x ∷ []) o.waiting
sent_some o x some = sent_some_by o x x.left some
