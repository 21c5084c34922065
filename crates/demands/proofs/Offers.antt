-- What a sound section is answered, proved of the functions that a host calls: the layer's law, told of lent numbers.
--   unsound-answered, nine-exactly, began-exactly, began-again-exactly, added-exactly, repeat-exactly, ten-exactly
use mathlib.Core.Path.{◌≡◌, sym, ap, subst, ◌∙◌}
use mathlib.Core.Logic.{◌↔◌}
use mathlib.Core.List.{List}
use Prim.Native.Nat.{ℕ}
use Rattle.std.specs.Prelude.{Result, Ok, Err}
use Rattle.refusal.specs.declared.Refusal.{Refusal}
use Rattle.refusal.specs.declared.Refusal.TheVariants.{NoFreePlace}
use Rattle.shelf_offer.specs.declared.Offered.{Offered}
use Rattle.shelf_offer.specs.Answer.{offered_code, offered_in}
use Rattle.shelf_offer.proofs.Told.{offered-back}
use Rattle.shelf_laws.specs.State.{offer_to}
use Rattle.shelf_laws.specs.History.{after_all, offer}
use Rattle.shelf_laws.specs.Offers.{Says}
use Rattle.shelf_laws.proofs.Says as says
use Rattle.shelf_histories.specs.History.{History, offer_after}
use Rattle.shelf_histories.proofs.After.{next-answer}
use Rattle.demands.specs.Offers.{Exactly, UnsoundAnswered, NineExactly, BeganExactly, BeganAgainExactly, AddedExactly, RepeatExactly, TenExactly}
use Rattle.demands.proofs.Shelf.{same_log}

module _ (h : History) (payload : List ℕ) where
  abbrev said : Result Offered Refusal
  said = (offer_to (after_all h.calls) payload).said

  told : (offer_after h payload).code ≡ offered_code said
  told = ap (λ a. a.code) (next-answer h (offer payload))

offered-exactly : (a : Result Offered Refusal) → Exactly (offered_code a) (λ key payload log. Says key payload log a)
offered-exactly a h key payload of =
    subst (λ log. ((offer_after h payload).code ≡ offered_code a) ↔ Says key payload log a) (sym (same_log h))
    (let both = says.offered-exactly h.calls key payload of a in (
      λ e. both.0 (sym (offered-back (said h payload)) ∙ ap offered_in (sym (told h payload) ∙ e) ∙ offered-back a),
      λ w. told h payload ∙ ap offered_code (both.1 w),
    ))

pub unsound-answered : UnsoundAnswered
unsound-answered h payload r e = told h payload ∙ ap offered_code (says.unsound-said h.calls payload r e)

pub nine-exactly : NineExactly
nine-exactly = offered-exactly (Err NoFreePlace)

pub began-exactly : BeganExactly
began-exactly = offered-exactly (Ok Offered.Began)

pub began-again-exactly : BeganAgainExactly
began-again-exactly = offered-exactly (Ok Offered.BeganAgain)

pub added-exactly : AddedExactly
added-exactly = offered-exactly (Ok Offered.Added)

pub repeat-exactly : RepeatExactly
repeat-exactly = offered-exactly (Ok Offered.Repeat)

pub ten-exactly : TenExactly
ten-exactly = offered-exactly (Err Refusal.Differs)
