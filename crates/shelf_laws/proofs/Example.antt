-- A history of one call: document 01's P1 is offered. It begins its table, the table is undisturbed, and it is called complete.
use mathlib.Core.Path.{◌≡◌, refl, ap}
use mathlib.Core.Bool.{true}
use mathlib.Core.List.{List, [], ◌∷◌}
use Prim.Native.Nat.{ℕ}
use native.Mathlib.Omega.{arith}
use lib.ListN.{length}
use borrow.Author.Tests.{eq-eqb}
use Rattle.std.specs.Prelude.{Ok}
use Rattle.base.specs.Bytes.{zeros}
use Rattle.base.specs.Below.{lowest, every}
use Rattle.key.specs.Key.{key_from}
use Rattle.section.specs.Section.{read_of}
use Rattle.berth.specs.Berth.{store_size}
use Rattle.berth.proofs.Laid.{zeros-length}
use Rattle.shelf.specs.Record.{fresh, free_of}
use Rattle.shelf_offer.specs.Offer.{new_of, sound_of, offer_of}
use Rattle.shelf_offer.specs.declared.Offered.{Offered}
use Rattle.shelf_laws.specs.State.{offer_to, after_offer}
use Rattle.shelf_laws.specs.Named.{key_in}
use Rattle.shelf_laws.specs.Answers.{begins}
use Rattle.shelf_laws.specs.History.{Call, start, whole_after, log_of, Each}
use Rattle.shelf_laws.specs.Reception.{Undisturbed}
use Rattle.shelf_laws.proofs.Offered.{offer-good, offer-begins}
use Rattle.shelf_laws.proofs.Asked.{kept_whole}
use Rattle.shelf_laws.proofs.Histories.{start-holds, fresh-unheld}

abbrev p1 : List ℕ
p1 = 0xC9 ∷ 0x70 ∷ 0x05 ∷ 0x12 ∷ 0x34 ∷ 0xC7 ∷ 0x00 ∷ 0x00 ∷ []

abbrev once : List Call
once = Call.offer p1 ∷ []

pub its_key : key_in p1 ≡ record { table = 201; extension = 4660; service = 0; start = 0 }
unfolding key_from
its_key = refl

pub begins-it : (offer_to start p1).said ≡ Ok Offered.Began
unfolding offer_of sound_of new_of read_of free_of lowest fresh
begins-it = rw (eq-eqb (length (zeros store_size)) store_size (zeros-length store_size), start-holds.good.unspoiled, fresh-unheld (key_in p1))

pub undisturbed : Each (Undisturbed (key_in p1) 3 0 (λ _. p1)) (log_of once)
undisturbed = (λ is. record { version = refl; last = refl; bytes = refl; room = λ e. let z : ◌≡◌ {A = ℕ} 0 1 = cc begins-it in omega arith }, tt)

pub complete : whole_after once (key_in p1) ≡ Ok true
unfolding every
complete =
    kept_whole (after_offer (offer_to start p1)) (offer-good start p1 start-holds.good) (key_in p1)
    (offer-begins start p1 start-holds.good (ap begins begins-it))
