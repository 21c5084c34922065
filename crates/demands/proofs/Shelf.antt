-- The buyer's third condition, proved of the functions that a host calls: the layer's laws, told of lent numbers.
--   held-exactly, complete-exactly, lamp-exactly, more-reception, asked-exactly, released-exactly, never-17-18, handed_out
use Rattle.std.specs.Prelude.{if◌then◌else◌, Result, Ok, Err}
use mathlib.Core.Path.{◌≡◌, refl, sym, ap, subst, ◌∙◌}
use mathlib.Core.Bool.{Bool, true, false}
use mathlib.Core.Logic.{◌↔◌}
use mathlib.Core.List.{List, [], ◌∷◌}
use Prim.Native.Nat.{ℕ, ◌<◌, ◌≤◌}
use native.Mathlib.Omega.{arith}
use Rattle.refusal.specs.Refusal.{number}
use Rattle.refusal.specs.declared.Refusal.{Refusal}
use Rattle.refusal.specs.declared.Refusal.TheVariants.{TableNotHeld}
use Rattle.refusal.proofs.Numbers.{in_byte}
use Rattle.section.specs.Section.{section_number}
use Rattle.key.specs.declared.Key.{Key}
use Rattle.shelf_offer.specs.declared.Offered.{Offered}
use Rattle.answers.specs.Answers.{refusal_in}
use Rattle.shelf_laws.specs.State.{offer_to, whole_in}
use Rattle.shelf_laws.specs.Answers.{accepted}
use Rattle.shelf_laws.specs.Named.{key_in}
use Rattle.shelf_laws.specs.History.{Entry, about, reply, reply_no, number_in, after_all, log_of, Each, copy, whole, offer, release}
use Rattle.shelf_laws.specs.Log.{held_by, since, last_since}
use Rattle.shelf_laws.specs.Questions.{reply_by}
use Rattle.shelf_laws.specs.Reception.{Undisturbed}
use Rattle.shelf_laws.proofs.Held as held
use Rattle.shelf_laws.proofs.Complete as complete-table
use Rattle.shelf_laws.proofs.Reception as reception
use Rattle.shelf_laws.proofs.HandedOut as handed
use Rattle.shelf_laws.proofs.Questions as questions
use Rattle.shelf_laws.proofs.Ranges.{Range, ranges-all}
use Rattle.shelf_laws.proofs.Never.{entry-late}
use Rattle.shelf_laws.proofs.Histories.{holds-all}
use Rattle.shelf_offer.specs.Answer.{offered_code}
use Rattle.shelf_release.specs.Answer.{released_code}
use Rattle.shelf_ask.specs.Answer.{whole_code, whole_back, is_complete, whole_lent, complete_lent, copy_out}
use Rattle.shelf_ask.proofs.Told.{complete-plainly, whole_back_lem}
use Rattle.shelf_histories.specs.Numbers.{replied, answered, in_numbers}
use Rattle.shelf_histories.specs.History.{History, left_after, log_after, whole_after, EachLine}
use Rattle.shelf_histories.proofs.Back.{entry-number}
use Rattle.shelf_histories.proofs.OneHistory.{one-history}
use Rattle.shelf_histories.proofs.After.{reply-after, reply-refusal, next-answer, next-reply}
use Rattle.demands.specs.Shelf.{complete, lamp_after, HeldExactly, CompleteExactly, LampExactly, MoreReception, AskedExactly, ReleasedExactly, Never17Nor18, HandedOut}

-- an offer that is not refused is accepted
accepted-by : (a : Result Offered Refusal) → refusal_in (offered_code a) ≡ 0 → accepted a ≡ true
accepted-by (Ok what) e = refl
accepted-by (Err r) e = let a : 0 < number r = (in_byte r).0 in let b : number r < 256 = (in_byte r).1 in absurd (omega arith)

each_number : (log : List Entry) → Each Range log
    → EachLine (λ l. (refusal_in l.answer.code ≡ 17 → ⊥) × (refusal_in l.answer.code ≡ 18 → ⊥)) (in_numbers log)
each_number [] r = tt
each_number (e ∷ log) r =
    let b = entry-late e r.0 in
    let n : refusal_in (answered e).code ≡ number_in e = entry-number e in
    ((λ z. b.0 (sym n ∙ z), λ z. b.1 (sym n ∙ z)), each_number log r.1)

pub same_log : (h : History) → log_after h ≡ log_of h.calls
same_log h = (one-history.1 h).log

pub held-exactly : HeldExactly
held-exactly h q =
    subst (λ n. (n ≡ 14 → ⊥) ↔ (held_by (about q) (log_after h) ≡ true)) (sym (reply-refusal h q))
    (subst (λ log. (reply_no (reply (after_all h.calls) q) ≡ 14 → ⊥) ↔ (held_by (about q) log ≡ true)) (sym (same_log h))
    (held.held-exactly h.calls q))

-- a table is called complete in numbers exactly when the layer calls it so
whole-after : (h : History) (key : Key) → whole_after h key ≡ whole_code (whole_in (after_all h.calls) key)
whole-after h key = ap (λ a. a.code) (reply-after h (whole key))

complete-by : (h : History) (key : Key) → whole_after h key ≡ complete → whole_in (after_all h.calls) key ≡ Ok true
complete-by h key e =
    sym (whole_back_lem (whole_in (after_all h.calls) key)) ∙ ap whole_back (sym (whole-after h key) ∙ e)

pub by-complete : (h : History) (key : Key) → whole_in (after_all h.calls) key ≡ Ok true → whole_after h key ≡ complete
by-complete h key e = whole-after h key ∙ ap whole_code e

pub complete-exactly : CompleteExactly
complete-exactly h key =
    subst
    (λ log. held_by key log ≡ true → (whole_after h key ≡ complete) ↔ ((n : ℕ) → n ≤ last_since key log → since key log n ≡ true))
    (sym (same_log h))
    (λ t.
    let both = complete-table.complete-exactly h.calls key t in
    (λ e. both.0 (complete-by h key e), λ a. by-complete h key (both.1 a)))

-- the number of a table that is called complete is no 14
held-by-whole : (h : History) (key : Key) → whole_after h key ≡ complete → held_by key (log_after h) ≡ true
held-by-whole h key e = (held-exactly h (whole key)).0 (λ z. let q : refusal_in complete ≡ 14 = ap refusal_in (sym e) ∙ z in omega arith)

-- the lamp is lit exactly when the table is called complete in its number
lit-whole : (h : History) (key : Key) → lamp_after h key ≡ true → whole_after h key ≡ complete
unfolding whole_lent
lit-whole h key e = ap whole_code ((complete-plainly (left_after h).words (left_after h).store key).0 e)

whole-lit : (h : History) (key : Key) → whole_after h key ≡ complete → lamp_after h key ≡ true
unfolding complete_lent
whole-lit h key e = ap (λ s. is_complete (whole_in s key)) (one-history.1 h).state ∙ ap is_complete (complete-by h key e)

pub lamp-exactly : LampExactly
lamp-exactly h key = (
  λ e. let held = held-by-whole h key (lit-whole h key e) in (held, (complete-exactly h key held).0 (lit-whole h key e)),
  λ w. whole-lit h key ((complete-exactly h key w.0).1 w.1),
)

pub more-reception : MoreReception
more-reception key version last bytes first second calm-first calm-second offers =
    let both =
    reception.more-reception key version last bytes first.calls second.calls
    (subst (Each (Undisturbed key version last bytes)) (same_log first) calm-first)
    (subst (Each (Undisturbed key version last bytes)) (same_log second) calm-second)
    offers in (
      λ n output e.
          reply-after second (copy key n output)
          ∙ ap copy_out (both.0 n output (sym (reply-refusal first (copy key n output)) ∙ e))
          ∙ sym (reply-after first (copy key n output)),
      λ e. by-complete second key (both.1 (complete-by first key e)),
      λ e. whole-lit second key (by-complete second key (both.1 (complete-by first key (lit-whole first key e)))),
    )

pub asked-exactly : AskedExactly
asked-exactly h q = reply-after h q ∙ ap replied (questions.asked-exactly h.calls q ∙ ap (λ log. reply_by log q) (sym (same_log h)))

-- its number
release-code : (held : Bool) → released_code (if held then Ok tt else Err TableNotHeld) ≡ (if held then 0 else 14)
release-code true = refl
release-code false = refl

pub released-exactly : ReleasedExactly
released-exactly h key =
    ap (λ a. a.code) (next-answer h (release key))
    ∙ ap released_code (held.released-exactly h.calls key)
    ∙ release-code (held_by key (log_of h.calls))
    ∙ ap (λ log. if held_by key log then 0 else 14) (sym (same_log h))

pub never-17-18 : Never17Nor18
never-17-18 h =
    subst (EachLine (λ l. (refusal_in l.answer.code ≡ 17 → ⊥) × (refusal_in l.answer.code ≡ 18 → ⊥))) (sym (one-history.1 h).answers)
    (each_number (log_of h.calls) (ranges-all h.calls))

pub handed_out : HandedOut
handed_out h payload octets e output room =
    let s = after_all h.calls in
    let good = (holds-all h.calls).good in
    let said = ap (λ a. a.code) (next-answer h (offer payload)) in
    let yes : accepted (offer_to (after_all h.calls) payload).said ≡ true =
    accepted-by (offer_to (after_all h.calls) payload).said (sym (ap refusal_in said) ∙ e) in
    next-reply h (offer payload) (octets, tt) (copy (key_in payload) (section_number payload) output)
    ∙ ap copy_out (handed.handed_out s good.formed payload yes output room)
