-- Two services with one extension, proved of the functions that a host calls.
--   others-stay, services-apart, service-begins
use mathlib.Core.Path.{◌≡◌, refl, sym, ap, subst, ◌∙◌}
use mathlib.Core.Bool.{true, false}
use mathlib.Core.List.{List}
use Prim.Native.Nat.{ℕ}
use Rattle.base.proofs.Cases.{by, unlike}
use Rattle.key.specs.Key.{nrt_it}
use Rattle.section.specs.Section.{table_id, key_in}
use Rattle.answers.specs.Answers.{refusal_in}
use Rattle.shelf_laws.specs.History.{reply, after_all, whole}
use Rattle.shelf_laws.specs.Log.{held_by}
use Rattle.shelf_laws.specs.Apart.{Others}
use Rattle.shelf_laws.proofs.Apart as apart
use Rattle.shelf_histories.specs.History.{History, log_after}
use Rattle.shelf_histories.specs.Numbers.{replied}
use Rattle.shelf_histories.proofs.After.{reply-after}
use Rattle.demands.specs.Services.{OthersStay, ThenOffers, OtherLists, ServicesApart, ServiceBegins}
use Rattle.demands.proofs.Shelf.{held-exactly}
use Rattle.demands.proofs.Offers.{began-exactly}
use Rattle.demands.proofs.OtherKeys.{other_keys}

pub others-stay : OthersStay
others-stay first second payloads then q o =
    reply-after second q
    ∙ ap replied (ap (λ cs. reply (after_all cs) q) then ∙ apart.others-stay first.calls payloads q o)
    ∙ sym (reply-after first q)

pub services-apart : ServicesApart
services-apart first second one payloads i o then q e =
    others-stay first second payloads then q (subst (λ k. Others k payloads) (sym e) (other_keys one i payloads o))

-- a list that is held after them was held before them
held-before :
    (first second : History) (one : List ℕ) (payloads : List (List ℕ))
    → table_id one ≡ nrt_it
    → OtherLists one payloads
    → ThenOffers first payloads second
    → held_by (key_in one) (log_after second) ≡ true
    → held_by (key_in one) (log_after first) ≡ true
held-before first second one payloads i o then t =
    let q = whole (key_in one) in
    (held-exactly first q).0
    (λ e. (held-exactly second q).1 t (ap (λ r. refusal_in r.code) (services-apart first second one payloads i o then q refl) ∙ e))

pub service-begins : ServiceBegins
service-begins first second one payloads i o then s f free =
    let still : held_by (key_in one) (log_after second) ≡ false = by (held_by (key_in one) (log_after second)) (λ t. absurd (unlike (sym (held-before first second one payloads i o then t) ∙ f))) (λ d. d) in
    (began-exactly second (key_in one) one s).1 (still, free)
