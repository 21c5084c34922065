-- Over any history each refusal is by a number from 1 to 16, and what is copied out or saved has fewer than 65,536 bytes.
--   Refusing, Ranging, AnyRange, SizeRange, Range     what is so of a refusal, of an answer, and of an entry
--   ranges-all        it is so of every entry of every log
use mathlib.Core.Path.{◌≡◌, sym, ◌∙◌}
use mathlib.Core.List.{List, [], ◌∷◌}
use mathlib.Core.Logic.{⊎_elim, inr}
use Prim.Native.Nat.{ℕ, ◌<◌, ◌≤◌}
use native.Mathlib.Omega.{arith}
use lib.Dec.{eqb}
use borrow.Author.Tests.{eqb-true, eqb-false}
use Rattle.std.specs.Prelude.{Result, Ok, Err}
use Rattle.refusal.specs.Refusal.{number}
use Rattle.refusal.specs.declared.Refusal.{Refusal}
use Rattle.base.proofs.Cases.{by, unlike}
use Rattle.section.proofs.ExactlyWhen.{OwnNumber, refused_range}
use Rattle.berth.specs.Berth.{places}
use Rattle.shelf.specs.Record.{place_of}
use Rattle.key.specs.declared.Key.{Key}
use Rattle.shelf_offer.specs.Offer as Offer
use Rattle.shelf_release.specs.Release as Release
use Rattle.file.specs.declared.Table.{Table}
use Rattle.shelf_load.specs.Load as Load
use Rattle.shelf_laws.specs.State.{State}
use Rattle.shelf_laws.specs.History.{Question, Reply, copied, wholly, lacking, saved, about, reply, Call, Entry, offered, loaded, released, asked, entry, step, logged, log_of, start, Each}
use Rattle.shelf_laws.proofs.Places.{placed}
use Rattle.shelf_laws.proofs.Kept.{Good}
use Rattle.shelf_laws.proofs.Offering as Offering
use Rattle.shelf_laws.proofs.Released as Releasing
use Rattle.shelf_laws.proofs.Loaded as Loading
use Rattle.shelf_laws.proofs.Asked.{refused-14, unheld-reply, Answers, held-answer}
use Rattle.shelf_load.proofs.Faults.{FileFault, scan-range}
use Rattle.shelf_laws.proofs.Histories.{Holds, step-holds, start-holds}

-- a refusal that is neither 17 nor 18
abbrev pub Refusing : ℕ → Type 0
Refusing n = (1 ≤ n) × (n ≤ 46) × (n ≡ 17 → ⊥) × (n ≡ 18 → ⊥)

few : {n : ℕ} → 1 ≤ n → n ≤ 16 → Refusing n
few l h = (l, omega arith, λ e. omega arith, λ e. omega arith)

-- a section's own number, and a file's
own : {n : ℕ} → OwnNumber n → Refusing n
own = ⊎_elim (λ r. few r.0 (omega (arith, r.1))) (λ e. (omega arith, omega arith, λ q. omega arith, λ q. omega arith))

fault : {n : ℕ} → FileFault n → Refusing n
fault =
    ⊎_elim (⊎_elim (λ r. few (omega (arith, r.0)) (omega (arith, r.1))) (λ e. own (inr e)))
    (⊎_elim (λ e. few (omega arith) (omega arith)) (λ e. few (omega arith) (omega arith)))

-- what is so of an answer: of its value where it is done, of its refusal where it is refused
abbrev pub Ranging : {A : Type 0} → (A → Type 0) → Result A Refusal → Type 0
Ranging p (Ok a) = p a
Ranging p (Err r) = Refusing (number r)

-- whatever was done
abbrev pub AnyRange : {A : Type 0} → Result A Refusal → Type 0
AnyRange = Ranging (λ _. Unit {0})

-- so many bytes
abbrev pub SizeRange : Result ℕ Refusal → Type 0
SizeRange = Ranging (λ n. n < 65536)

abbrev pub ReplyRange : Reply → Type 0
ReplyRange (copied c) = SizeRange c.said
ReplyRange (wholly said) = AnyRange said
ReplyRange (lacking said) = AnyRange said
ReplyRange (saved c) = SizeRange c.said

abbrev pub Range : Entry → Type 0
Range (offered payload said) = AnyRange said
Range (loaded file said) = AnyRange said
Range (released key said) = AnyRange said
Range (asked question said) = ReplyRange said

module _ (s : State) (g : Good s) where
  offer-refusal : (payload : List ℕ) {r : Refusal} → Offering.Reason s payload r → Refusing (number r)
  offer-refusal payload (Offering.Reason.17-store l) = absurd (l g.lent)
  offer-refusal payload (Offering.Reason.18-spoiled _ e) = absurd (unlike (sym e ∙ g.unspoiled))
  offer-refusal payload (Offering.Reason.unsound r _ _ e) = own (refused_range payload r e)
  offer-refusal payload (Offering.Reason.9-full _ _ _) = few (omega arith) (omega arith)
  offer-refusal payload (Offering.Reason.10-last _ _ _ _) = few (omega arith) (omega arith)
  offer-refusal payload (Offering.Reason.10-differs _ _ _ _ _ _) = few (omega arith) (omega arith)

  offer-range : (payload : List ℕ) {r : Offer.After} → Offering.Goes s payload r → AnyRange r.said
  offer-range payload (Offering.Goes.refuses _ y) = offer-refusal payload y
  offer-range payload (Offering.Goes.began _ _ _) = tt
  offer-range payload (Offering.Goes.began_again _ _ _) = tt
  offer-range payload (Offering.Goes.added _ _ _ _ _) = tt
  offer-range payload (Offering.Goes.repeats _ _ _ _ _ _) = tt

  load-refusal : (file : List ℕ) {scan : Result Table Refusal} {r : Refusal} → Loading.Reason s file scan r → Refusing (number r)
  load-refusal file (Loading.Reason.17-store _ l) = absurd (l g.lent)
  load-refusal file (Loading.Reason.18-spoiled _ e) = absurd (unlike (sym e ∙ g.unspoiled))
  load-refusal file (Loading.Reason.faulty r e) = fault (scan-range file r e)
  load-refusal file (Loading.Reason.13-held _ _) = few (omega arith) (omega arith)
  load-refusal file (Loading.Reason.9-full _ _ _) = few (omega arith) (omega arith)

  load-range : (file : List ℕ) {scan : Result Table Refusal} {r : Load.After} → Loading.Goes s file scan r → AnyRange r.said
  load-range file (Loading.Goes.refuses _ _ y) = load-refusal file y
  load-range file (Loading.Goes.done _ _ _ _ _ _) = tt

  release-refusal : (key : Key) {r : Refusal} → Releasing.Reason s key r → Refusing (number r)
  release-refusal key (Releasing.Reason.17-store l) = absurd (l g.lent)
  release-refusal key (Releasing.Reason.18-spoiled e) = absurd (unlike (sym e ∙ g.unspoiled))
  release-refusal key (Releasing.Reason.14-unheld _) = few (omega arith) (omega arith)

  release-range : (key : Key) {r : Release.After} → Releasing.Goes s key r → AnyRange r.said
  release-range key (Releasing.Goes.refuses _ y) = release-refusal key y
  release-range key (Releasing.Goes.done _ _ _) = tt

  answer-range : (q : Question) → Answers ReplyRange q
  answer-range (Question.copy key n out) = (few (omega arith) (omega arith), few (omega arith) (omega arith), λ n i bytes. i)
  answer-range (Question.whole key) = λ whole. tt
  answer-range (Question.missing key) = λ lowest. tt
  answer-range (Question.save key out) = (few (omega arith) (omega arith), λ n i bytes. i)

  unheld-range : (q : Question) → ReplyRange (refused-14 q)
  unheld-range (Question.copy key n out) = few (omega arith) (omega arith)
  unheld-range (Question.whole key) = few (omega arith) (omega arith)
  unheld-range (Question.missing key) = few (omega arith) (omega arith)
  unheld-range (Question.save key out) = few (omega arith) (omega arith)

  reply-range : (q : Question) → ReplyRange (reply s q)
  reply-range q =
      by (eqb (place_of s.shelf (about q)) places)
      (λ t. rw (unheld-reply s g q (eqb-true _ _ t)) (unheld-range q))
      (λ t.
      let a : place_of s.shelf (about q) ≡ places → ⊥ = eqb-false _ _ t in
      let b : place_of s.shelf (about q) ≤ places = placed s.shelf (about q) in
      held-answer s g ReplyRange q (omega arith) (answer-range q))

  pub range : (c : Call) → Range (entry s c)
  range (Call.offer payload) = offer-range payload (Offering.goes s payload)
  range (Call.load file) = load-range file (Loading.goes s file)
  range (Call.release key) = release-range key (Releasing.goes s key)
  range (Call.ask question) = reply-range question

pub ranges-from : (s : State) (log : List Entry) → Holds s log → Each Range log → (cs : List Call) → Each Range (logged s log cs)
ranges-from s log h n [] = n
ranges-from s log h n (c ∷ cs) = ranges-from (step s c) (entry s c ∷ log) (step-holds s log h c) (range s h.good c, n) cs

pub ranges-all : (h : List Call) → Each Range (log_of h)
ranges-all h = ranges-from start [] start-holds tt h
