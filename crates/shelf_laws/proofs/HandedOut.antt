-- A section that was accepted is handed out byte for byte by the next ask, whether it began its table, began it again, was
-- added or was a repeat.
use mathlib.Core.Path.{◌≡◌, refl, sym}
use mathlib.Core.Bool.{true, false}
use mathlib.Core.List.{List, ◌++◌}
use Prim.Native.Nat.{ℕ, ◌<◌, ◌≤◌}
use lib.Dec.{eqb}
use lib.ListN.{length, drop}
use borrow.Author.Tests.{eq-eqb}
use Rattle.std.specs.Prelude.{Result, Ok, Err}
use Rattle.refusal.specs.declared.Refusal.{Refusal}
use Rattle.base.proofs.Cases.{by, unlike}
use Rattle.section.specs.Section.{section_number}
use Rattle.berth.specs.Berth.{sections}
use Rattle.shelf.specs.Record.{place_of}
use Rattle.shelf_offer.specs.declared.Offered.{Offered}
use Rattle.shelf_ask.specs.Ask.{copy}
use Rattle.shelf_laws.specs.State.{State, Formed, offer_to, after_offer, copy_out}
use Rattle.shelf_laws.specs.Named.{key_in}
use Rattle.shelf_laws.specs.Answers.{begins, joins, accepted}
use Rattle.shelf_laws.specs.Laws.{HandedOut}
use Rattle.shelf_laws.proofs.Offering.{Heard, number-16}
use Rattle.shelf_laws.proofs.Kept.{Good, kept-itself}
use Rattle.shelf_laws.proofs.Offered.{offer-good, offer-begins, offer-joins, joins-held, accepted-heard}
use Rattle.shelf_laws.proofs.Asked.{kept-copied}

pub joins-else : (a : Result Offered Refusal) → accepted a ≡ true → begins a ≡ false → joins a ≡ true
joins-else (Ok Offered.Began) e b = absurd (unlike b)
joins-else (Ok Offered.BeganAgain) e b = absurd (unlike b)
joins-else (Ok Offered.Added) e b = refl
joins-else (Ok Offered.Repeat) e b = refl
joins-else (Err r) e b = absurd (unlike (sym e))

module _ (s : State) (formed : Formed s.shelf) (payload : List ℕ) (yes : accepted (offer_to s payload).said ≡ true)
    (out : List ℕ) (room : length payload ≤ length out) where
  heard : Heard s payload
  heard = accepted-heard s payload yes

  good : Good s
  good = record { formed = formed; lent = heard.lent; unspoiled = heard.unspoiled }

  number : section_number payload < sections
  number = number-16 s payload heard

  itself : eqb (section_number payload) (section_number payload) ≡ true
  itself = eq-eqb (section_number payload) (section_number payload) refl

  abbrev next : State
  next = after_offer (offer_to s payload)

  given_back : copy_out next (key_in payload) (section_number payload) out ≡ copy (Ok (length payload)) (payload ++ drop (length payload) out)
  given_back =
      by (begins (offer_to s payload).said)
      (λ b. kept-copied next (offer-good s payload good) (key_in payload) (offer-begins s payload good b) (section_number payload) number itself out room)
      (λ b.
      let j : joins (offer_to s payload).said ≡ true = joins-else (offer_to s payload).said yes b in
      let k = kept-itself s (place_of s.shelf (key_in payload)) good (key_in payload) refl (joins-held s payload good j) in
      rw itself at
      (kept-copied next (offer-good s payload good) (key_in payload) (offer-joins s payload good (place_of s.shelf (key_in payload)) k j)
      (section_number payload) number (rw itself) out (rw itself room)))

pub handed_out : HandedOut
handed_out = given_back
