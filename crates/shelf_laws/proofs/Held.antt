-- A table is held exactly when the log has a beginning of it and no release since.
--   held_place, place-held, unheld-place, place-unheld    then, and only then, it has a place on the shelf
--   held-exactly         and every question about it is answered otherwise than 14
--   released-exactly     and a release of it is done, which else is 14
use Rattle.std.specs.Prelude.{if◌then◌else◌, Ok, Err}
use mathlib.Core.Path.{◌≡◌, refl, sym, ap, ◌∙◌}
use mathlib.Core.Bool.{true, false}
use mathlib.Core.List.{List}
use Prim.Native.Nat.{◌<◌, ◌≤◌}
use native.Mathlib.Omega.{arith}
use lib.Dec.{ltb}
use borrow.Author.Tests.{ltb-true, ltb-false, lt-ltb}
use Rattle.refusal.specs.declared.Refusal.TheVariants.{TableNotHeld}
use Rattle.base.proofs.Cases.{by, unlike}
use Rattle.berth.specs.Berth.{places}
use Rattle.shelf.specs.Record.{place_of}
use Rattle.key.specs.declared.Key.{Key}
use Rattle.shelf_release.specs.Release.{After}
use Rattle.shelf_laws.specs.State.{State}
use Rattle.shelf_laws.specs.History.{Question, about, reply_no, Call, after_all, log_of}
use Rattle.shelf_laws.specs.Log.{held_by}
use Rattle.shelf_laws.specs.Laws.{HeldExactly, ReleasedExactly}
use Rattle.shelf_laws.proofs.Places.{placed}
use Rattle.shelf_laws.proofs.Kept.{Good}
use Rattle.shelf_laws.proofs.Asked.{refused-14, unheld-reply, Answers, held-answer}
use Rattle.shelf_laws.proofs.Released.{Reason, Goes, goes}
use Rattle.shelf_laws.proofs.Histories.{holds-all}

module _ (h : List Call) (key : Key) where
  pub held_place : held_by key (log_of h) ≡ true → place_of (after_all h).shelf key < places
  held_place t = ltb-true _ _ (sym ((holds-all h).table key).held ∙ t)

  pub place-held : place_of (after_all h).shelf key < places → held_by key (log_of h) ≡ true
  place-held i = ((holds-all h).table key).held ∙ lt-ltb _ _ i

  pub place-unheld : place_of (after_all h).shelf key ≡ places → held_by key (log_of h) ≡ false
  place-unheld e = ((holds-all h).table key).held ∙ rw e

  pub unheld-place : held_by key (log_of h) ≡ false → place_of (after_all h).shelf key ≡ places
  unheld-place f =
      let a : places ≤ place_of (after_all h).shelf key = ltb-false _ _ (sym ((holds-all h).table key).held ∙ f) in
      let b : place_of (after_all h).shelf key ≤ places = placed (after_all h).shelf key in
      omega arith

by-14 : (q : Question) → reply_no (refused-14 q) ≡ 14
by-14 (Question.copy key n out) = refl
by-14 (Question.whole key) = refl
by-14 (Question.missing key) = refl
by-14 (Question.save key out) = refl

-- a held table is never answered 14
other : (q : Question) → Answers (λ r. reply_no r ≡ 14 → ⊥) q
other (Question.copy key n out) = (λ e. omega arith, λ e. omega arith, λ n i bytes e. omega arith)
other (Question.whole key) = λ whole e. omega arith
other (Question.missing key) = λ lowest e. omega arith
other (Question.save key out) = (λ e. omega arith, λ n i bytes e. omega arith)

pub held-exactly : HeldExactly
held-exactly h q = (
  λ not-14.
      by (held_by (about q) (log_of h))
      (λ t. t)
      (λ f. absurd (not-14 (ap reply_no (unheld-reply (after_all h) (holds-all h).good q (unheld-place h (about q) f)) ∙ by-14 q))),
  λ t. held-answer (after_all h) (holds-all h).good (λ r. reply_no r ≡ 14 → ⊥) q (held_place h (about q) t) (other q),
)

-- one release
module _ (s : State) (g : Good s) (key : Key) where
  released-by : {r : After} → Goes s key r → r.said ≡ (if ltb (place_of s.shelf key) places then Ok tt else Err TableNotHeld)
  released-by (Goes.refuses _ (Reason.17-store l)) = absurd (l g.lent)
  released-by (Goes.refuses _ (Reason.18-spoiled e)) = absurd (unlike (sym e ∙ g.unspoiled))
  released-by (Goes.refuses _ (Reason.14-unheld e)) = rw e
  released-by (Goes.done _ _ i) = rw (lt-ltb _ _ i)

pub released-exactly : ReleasedExactly
released-exactly h key =
    released-by (after_all h) (holds-all h).good key (goes (after_all h) key)
    ∙ sym (ap (λ held. if held then Ok tt else Err TableNotHeld) ((holds-all h).table key).held)
