-- What a free place happens to hold never matters: offers to equal records get the same answer, leave the same store and equal records.
--   SameAfter      the same answer, the same store, and equal records
--   same-offer     so of every payload and every store
use mathlib.Core.Path.{◌≡◌, refl, ap, subst, ◌∙◌}
use mathlib.Core.List.{List}
use Prim.Native.Nat.{ℕ}
use lib.Dec.{eqb}
use lib.ListN.{length}
use Rattle.base.proofs.Cases.{by}
use Rattle.berth.specs.Berth.{places, sections, put, wiped_where}
use Rattle.section.specs.Section.{read_of, header_of}
use Rattle.section.specs.declared.Header.{Header}
use Rattle.std.specs.Prelude.{Result, Ok, Err}
use Rattle.refusal.specs.declared.Refusal.{Refusal}
use Rattle.shelf.specs.Record.{place_at, with_place, holds, place_of, Same}
use Rattle.shelf.specs.Record.{Shelf}
use Rattle.shelf.proofs.Equal.{Four, same-spoiled, same_place, same-free, same-with}
use Rattle.shelf.proofs.Find.{place-le, place-taken}
use Rattle.shelf_offer.specs.declared.Step.{Step}
use Rattle.shelf_offer.specs.declared.Step.TheVariants.{Repeats, Begins, BeginsAgain, Adds}
use Rattle.shelf_offer.specs.Offer.{After, begun_place, added_place, offer_of}
use Rattle.shelf.specs.Record.{key_of}
use Rattle.shelf_offer.specs.Steps.{held_step, new_step, sound_step, reading_step, step_of, done}
use Rattle.shelf_offer.proofs.Steps.{Fits, below, step-done, step_fits}

pub record SameAfter (x y : After) : Type 0 where
  pub said : x.said ≡ y.said
  pub store : x.store ≡ y.store
  pub shelf : Same x.shelf y.shelf

module _ (a b : Shelf) (s : Same a b) (store payload : List ℕ) where
  same-sound : (h : Header) → sound_step a store payload h ≡ sound_step b store payload h
  unfolding sound_step new_step
  same-sound h =
      by (eqb (place_of a (key_of h)) places)
      (λ e. rw (← same_place a b s (key_of h), ← same-free a b s, e))
      (λ e.
      let l = below (place-le a (key_of h)) e in
      let q = s.equal (place_of a (key_of h)) l (place-taken a (key_of h) l) in
      rw (← same_place a b s (key_of h), e) (ap (λ x. held_step x store payload (place_of a (key_of h)) h) q))

  same-reading : (r : Result Header Refusal) → reading_step a store payload r ≡ reading_step b store payload r
  same-reading (Ok h) = same-sound h
  same-reading (Err r) = refl

  same_step : step_of a store payload ≡ step_of b store payload
  unfolding step_of
  same_step = rw (same-spoiled a b s, same-reading (read_of payload))

  module _ (fa : Four a) (fb : Four b) where
    same-done : (r : Result Step Refusal) → Fits a store payload r → SameAfter (done a store payload r) (done b store payload r)
    unfolding done
    same-done (Err r) f = record { said = refl; store = refl; shelf = s }
    same-done (Ok Repeats) f = record { said = refl; store = refl; shelf = s }
    same-done (Ok (Begins p)) f =
        record { said = refl; store = refl; shelf = same-with a b s fa fb p f.0.place (begun_place (header_of payload) (length payload)) }
    same-done (Ok (BeginsAgain p)) f =
        record {
          said = refl;
          store = ap
              (λ x. put (wiped_where (holds x) sections store p) p (header_of payload).number payload)
              (s.equal p f.0.place f.1);
          shelf = same-with a b s fa fb p f.0.place (begun_place (header_of payload) (length payload));
        }
    same-done (Ok (Adds p)) f =
        record {
          said = refl;
          store = refl;
          shelf = subst
              (λ x. Same (with_place a p (added_place (place_at a p) (header_of payload) (length payload))) (with_place b p (added_place x (header_of payload) (length payload))))
              (s.equal p f.0.place f.1)
              (same-with a b s fa fb p f.0.place (added_place (place_at a p) (header_of payload) (length payload)));
        }

    pub same-offer : SameAfter (offer_of a store payload) (offer_of b store payload)
    same-offer =
        let r = step_of a store payload in
        let q : done b store payload r ≡ offer_of b store payload = ap (done b store payload) same_step ∙ step-done b store payload in
        subst
        (λ x. SameAfter x (offer_of b store payload))
        (step-done a store payload)
        (subst (SameAfter (done a store payload r)) q (same-done r (step_fits a store payload)))
