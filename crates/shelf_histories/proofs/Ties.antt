-- Each call at the boundary is the layer's on the record that the numbers are.
--   begun-state, begun-code    a beginning leaves a fresh shelf, and is accepted
--   left-state                 a call leaves the record and the store that the layer's leaves
--   same_answer                and answers the number for its answer
use Prim.Native.Nat.{ℕ}
use mathlib.Core.Path.{◌≡◌, refl, ap, ◌∙◌}
use mathlib.Core.List.{List, [], ◌∷◌}
use Rattle.shelf.specs.Record.{Shelf}
use Rattle.shelf_begin.specs.Answer.{begun_code, begin_lent}
use Rattle.shelf_begin.proofs.On.{begin-done, begin-shelf}
use Rattle.shelf_offer.specs.Answer.{offered_code, offer_lent}
use Rattle.shelf_offer.proofs.On.{offer-said, offer-shelf, offer-store}
use Rattle.shelf_release.specs.Answer.{released_code, release_lent}
use Rattle.shelf_release.proofs.On.{release-said, release-shelf, release-store}
use Rattle.shelf_ask.specs.Answer.{whole_lent, missing_lent, copy_lent}
use Rattle.shelf_save.specs.Answer.{save_lent}
use Rattle.shelf_load.specs.Answer.{loaded_code, load_lent}
use Rattle.shelf_load.proofs.On.{load_said, load-shelf, load_store}
use Rattle.shelf_laws.specs.State.{State}
use Rattle.shelf_laws.specs.History.{OfBytes, Question, Call, entry, step, start}
use Rattle.shelf_histories.specs.Numbers.{answered}
use Rattle.shelf_histories.specs.History.{Loan, Sized, state_of, answer_to, left_by, begun}
use Rattle.answers.specs.Answers.{out}

state-is : (a b : Shelf) (x y : List ℕ) → a ≡ b → x ≡ y → ◌≡◌ {A = State} (record { shelf = a; store = x }) (record { shelf = b; store = y })
state-is a b x y e f = ap (λ z. record { shelf = z; store = x }) e ∙ ap (λ z. record { shelf = b; store = z }) f

module _ (l : Loan) where
  module _ (sizes : Sized l) where
    pub begun-state : state_of (begun l) ≡ start
    unfolding begin_lent
    begun-state =
        state-is _ _ _ _ (begin-shelf l.words l.store sizes.bytes sizes.numbers)
        (ap (λ a. a.store) (begin-done l.words l.store sizes.bytes sizes.numbers))

    pub begun-code : (begin_lent l.words l.store).code ≡ 0
    unfolding begin_lent
    begun-code = ap (λ a. begun_code a.said) (begin-done l.words l.store sizes.bytes sizes.numbers)

  pub left-state : (c : Call) (cs : List Call) → OfBytes (c ∷ cs) → state_of (left_by l c) ≡ step (state_of l) c
  unfolding offer_lent load_lent release_lent
  left-state (Call.offer payload) cs b =
      state-is _ _ _ _ (offer-shelf l.words l.store payload b.0) (offer-store l.words l.store payload)
  left-state (Call.load file) cs b = state-is _ _ _ _ (load-shelf file b.0 l.words l.store) (load_store l.words l.store file)
  left-state (Call.release key) cs b = state-is _ _ _ _ (release-shelf l.words l.store key) (release-store l.words l.store key)
  left-state (Call.ask question) cs b = refl

  pub same_answer : (c : Call) → answer_to l c ≡ answered (entry (state_of l) c)
  unfolding offer_lent load_lent release_lent whole_lent missing_lent copy_lent save_lent
  same_answer (Call.offer payload) = ap (λ a. out (offered_code a) []) (offer-said l.words l.store payload)
  same_answer (Call.load file) = ap (λ a. out (loaded_code a) []) (load_said l.words l.store file)
  same_answer (Call.release key) = ap (λ a. out (released_code a) []) (release-said l.words l.store key)
  same_answer (Call.ask (Question.copy key n bytes)) = refl
  same_answer (Call.ask (Question.whole key)) = refl
  same_answer (Call.ask (Question.missing key)) = refl
  same_answer (Call.ask (Question.save key bytes)) = refl
