-- Laws of the step that an offer comes to, and that the whole of an offer is its step, done.
--   held-again, held-last, held-adds, held-repeats, held-differs    the steps of a held key with the same version and last
--   step-done                                an offer is its step, done
--   Fits, step_fits                          what a step that writes may rely on
use mathlib.Core.Path.{◌≡◌, refl, subst, ◌∙◌}
use mathlib.Core.List.{List}
use mathlib.Core.Bool.{true, false, not}
use Prim.Native.Nat.{ℕ, ◌<◌, ◌≤◌}
use native.Mathlib.Omega.{arith}
use lib.Dec.{eqb}
use lib.ListN.{length}
use borrow.Author.Tests.{eq-eqb, ne_eqb, eqb-true, eqb-false, not-false}
use Rattle.base.specs.Bytes.{same}
use Rattle.base.proofs.Cases.{by, either}
use Rattle.berth.specs.Berth.{berth_size, store_size, places, sections, standing}
use Rattle.section.specs.Section.{read_of, header_of}
use Rattle.section.specs.declared.Header.{Header}
use Rattle.std.specs.Prelude.{Result, Ok, Err}
use Rattle.refusal.specs.declared.Refusal.{Refusal}
use Rattle.refusal.specs.declared.Refusal.TheVariants.{NoFreePlace, Differs}
use Rattle.section.proofs.Laws.{SoundFacts, sound-facts}
use Rattle.shelf.specs.Record.{place_at, length_at, holds, spoiled_of, place_of, free_of}
use Rattle.shelf.specs.Record.{Place}
use Rattle.shelf.specs.Record.{Shelf}
use Rattle.shelf.proofs.Find.{place-le, place-taken, free-le}
use Rattle.shelf_offer.specs.declared.Step.{Step}
use Rattle.shelf_offer.specs.declared.Step.TheVariants.{Repeats, Begins, BeginsAgain, Adds}
use Rattle.shelf_offer.specs.Offer.{new_of, held_of, sound_of, reading_of, offer_of}
use Rattle.shelf.specs.Record.{key_of}
use Rattle.shelf_offer.specs.Steps.{held_step, new_step, sound_step, reading_step, step_of, done}

pub held-again : (place : Place) (store payload : List ℕ) (p : ℕ) (h : Header) → (place.version ≡ h.version → ⊥) → Ok (BeginsAgain p) ≡ held_step place store payload p h
unfolding held_step
held-again place store payload p h d = rw (ne_eqb _ _ d)

pub held-last : (place : Place) (store payload : List ℕ) (p : ℕ) (h : Header) → place.version ≡ h.version → (place.last ≡ h.last → ⊥) → Err Differs ≡ held_step place store payload p h
unfolding held_step
held-last place store payload p h v d = rw (eq-eqb _ _ v, ne_eqb _ _ d)

module _ (place : Place) (store payload : List ℕ) (p : ℕ) (h : Header) (v : place.version ≡ h.version) (l : place.last ≡ h.last) where
  pub held-adds : length_at place h.number ≡ 0 → Ok (Adds p) ≡ held_step place store payload p h
  unfolding held_step
  held-adds z = rw (eq-eqb _ _ v, eq-eqb _ _ l, eq-eqb _ _ z)

  pub held-repeats : (length_at place h.number ≡ 0 → ⊥)
      → same (standing store p h.number (length_at place h.number)) payload ≡ true
      → Ok Repeats ≡ held_step place store payload p h
  unfolding held_step
  held-repeats z s = rw (eq-eqb _ _ v, eq-eqb _ _ l, ne_eqb _ _ z, s)

  pub held-differs : (length_at place h.number ≡ 0 → ⊥)
      → same (standing store p h.number (length_at place h.number)) payload ≡ false
      → Err Differs ≡ held_step place store payload p h
  unfolding held_step
  held-differs z s = rw (eq-eqb _ _ v, eq-eqb _ _ l, ne_eqb _ _ z, s)

-- a key that was looked for: the place is the one that was found
module _ (shelf : Shelf) (store payload : List ℕ) (h : Header) {p : ℕ} (e : p ≡ place_of shelf (key_of h)) where
  pub sound-held : {r : Result Step Refusal} → p < places → r ≡ held_step (place_at shelf p) store payload p h → r ≡ sound_step shelf store payload h
  unfolding sound_step
  sound-held l q = q ∙ rw (← e, ne_eqb p places (λ z. omega arith))

  pub sound-begins : {free : ℕ} → places ≤ p → p ≤ places → free ≡ free_of shelf → free < places → Ok (Begins free) ≡ sound_step shelf store payload h
  unfolding sound_step new_step
  sound-begins {free} l m f k = rw (← e, ← f, eq-eqb p places (omega arith), ne_eqb free places (λ z. omega arith))

  pub sound-full : {free : ℕ} → places ≤ p → p ≤ places → free ≡ free_of shelf → places ≤ free → free ≤ places → Err NoFreePlace ≡ sound_step shelf store payload h
  unfolding sound_step new_step
  sound-full {free} l m f k o = rw (← e, ← f, eq-eqb p places (omega arith), eq-eqb free places (omega arith))

module _ (shelf : Shelf) (store payload : List ℕ) (w : length store ≡ store_size) (u : spoiled_of shelf ≡ false) where
  pub step-sound : {r : Result Step Refusal} (h : Header) → read_of payload ≡ Ok h → r ≡ sound_step shelf store payload h → r ≡ step_of shelf store payload
  unfolding step_of
  step-sound h e q = q ∙ rw (eq-eqb (length store) store_size w, u, e)

  pub step-refused : (r : Refusal) → read_of payload ≡ Err r → Err r ≡ step_of shelf store payload
  unfolding step_of
  step-refused r e = rw (eq-eqb (length store) store_size w, u, e)

pub below : {n : ℕ} → n ≤ places → eqb n places ≡ false → n < places
below {n} le e = let d : n ≡ places → ⊥ = eqb-false n places e in omega (arith, d)

module _ (shelf : Shelf) (store payload : List ℕ) where
  -- the header that the payload has
  abbrev h : Header
  h = header_of payload

  held-done : (p : ℕ) → done shelf store payload (held_step (place_at shelf p) store payload p h) ≡ held_of shelf store payload p h
  unfolding held_step held_of done
  held-done p =
      by (not (eqb (place_at shelf p).version h.version))
      (λ a. rw a)
      (λ a.
      by (not (eqb (place_at shelf p).last h.last))
      (λ b. rw (a, b))
      (λ b.
      by (not (holds (place_at shelf p) h.number))
      (λ c. rw (a, b, c))
      (λ c.
      by (same (standing store p h.number (length_at (place_at shelf p) h.number)) payload)
      (λ d. rw (a, b, c, d))
      (λ d. rw (a, b, c, d)))))

  new-done : done shelf store payload (new_step shelf store payload) ≡ new_of shelf store payload h
  unfolding new_step new_of done
  new-done = by (eqb (free_of shelf) places) (λ a. rw a) (λ a. rw a)

  sound-done : done shelf store payload (sound_step shelf store payload h) ≡ sound_of shelf store payload h
  unfolding sound_step sound_of
  sound-done =
      by (eqb (place_of shelf (key_of h)) places)
      (λ a. rw a new-done)
      (λ a. rw a (held-done (place_of shelf (key_of h))))

  reading-done : (r : Result Header Refusal) → read_of payload ≡ r → done shelf store payload (reading_step shelf store payload r) ≡ reading_of shelf store payload r
  unfolding done
  reading-done (Ok k) e = rw (sound-facts payload k e).header sound-done
  reading-done (Err r) e = refl

  pub step-done : done shelf store payload (step_of shelf store payload) ≡ offer_of shelf store payload
  unfolding step_of offer_of done
  step-done =
      by (not (eqb (length store) store_size))
      (λ a. rw a)
      (λ a. by (spoiled_of shelf) (λ b. rw (a, b)) (λ b. rw (a, b) (reading-done (read_of payload) refl)))

  -- the store, the place, the number and the bytes are such that a berth takes them
  pub record InRange (p : ℕ) : Type 0 where
    pub whole : length store ≡ store_size
    pub unspoiled : spoiled_of shelf ≡ false
    pub place : p < places
    pub number : h.number < sections
    pub version : h.version < 32
    pub last : h.last < sections
    pub least : 8 ≤ length payload
    pub size : length payload ≤ berth_size

  -- .. and a table is there, that of the section's key
  abbrev pub Held : ℕ → Type 0
  Held p = InRange p × ((place_at shelf p).taken ≡ true) × (p ≡ place_of shelf (key_of h))

  abbrev pub Fits : Result Step Refusal → Type 0
  Fits (Err r) = Unit {0}
  Fits (Ok Repeats) = Unit {0}
  Fits (Ok (Begins p)) = InRange p × (p ≡ free_of shelf)
  Fits (Ok (BeginsAgain p)) = Held p
  Fits (Ok (Adds p)) = Held p

  module _ (w : length store ≡ store_size) (u : spoiled_of shelf ≡ false) (f : SoundFacts payload h) where
    in-range : (p : ℕ) → p < places → InRange p
    in-range p l =
        record {
          whole = w;
          unspoiled = u;
          place = l;
          number = omega (arith, f.number, f.last);
          version = f.version;
          last = omega (arith, f.last);
          least = f.least;
          size = f.most;
        }

    held_fits : (p : ℕ) → p < places → (place_at shelf p).taken ≡ true → p ≡ place_of shelf (key_of h) → Fits (held_step (place_at shelf p) store payload p h)
    unfolding held_step
    held_fits p l t k =
        either Fits (not (eqb (place_at shelf p).version h.version))
        (λ _. (in-range p l, t, k))
        (λ _.
        either Fits (not (eqb (place_at shelf p).last h.last))
        (λ _. tt)
        (λ _.
        either Fits (not (holds (place_at shelf p) h.number))
        (λ _. (in-range p l, t, k))
        (λ _. either Fits (same (standing store p h.number (length_at (place_at shelf p) h.number)) payload) (λ _. tt) (λ _. tt))))

    sound_fits : Fits (sound_step shelf store payload h)
    unfolding sound_step new_step
    sound_fits =
        either Fits (eqb (place_of shelf (key_of h)) places)
        (λ _. either Fits (eqb (free_of shelf) places) (λ _. tt) (λ e. (in-range (free_of shelf) (below (free-le shelf) e), refl)))
        (λ e.
        let l = below (place-le shelf (key_of h)) e in
        held_fits (place_of shelf (key_of h)) l (place-taken shelf (key_of h) l) refl)

  reading-fits : length store ≡ store_size → spoiled_of shelf ≡ false → (r : Result Header Refusal) → read_of payload ≡ r → Fits (reading_step shelf store payload r)
  reading-fits w u (Ok k) e =
      let q = (sound-facts payload k e).header in
      rw q (sound_fits w u (subst (SoundFacts payload) q (sound-facts payload k e)))
  reading-fits w u (Err r) e = tt

  pub step_fits : Fits (step_of shelf store payload)
  unfolding step_of
  step_fits =
      either Fits (not (eqb (length store) store_size))
      (λ _. tt)
      (λ a.
      either Fits (spoiled_of shelf)
      (λ _. tt)
      (λ b. reading-fits (eqb-true (length store) store_size (not-false (eqb (length store) store_size) a)) b (read_of payload) refl))
