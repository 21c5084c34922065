-- How an offer goes: a case for each line of document 01, "Offering a sound section", with what led to it.
--   Heard, HeardOf   the store is of its size, the record unspoiled and the section sound; and its table is held in place p
--   Reason           why it is refused
--   Goes, goes       it is refused, begins the table, begins it again, is added or is a repeat
use mathlib.Core.Path.{◌≡◌, refl, ap, ◌∙◌}
use mathlib.Core.Bool.{true, false}
use mathlib.Core.List.{List}
use Prim.Native.Nat.{ℕ, ◌<◌, ◌≤◌}
use native.Mathlib.Omega.{arith}
use lib.Dec.{eqb}
use lib.ListN.{length}
use borrow.Author.Tests.{eqb-true, eqb-false}
use Rattle.std.specs.Prelude.{Result, Ok, Err}
use Rattle.refusal.specs.declared.Refusal.{Refusal}
use Rattle.refusal.specs.declared.Refusal.TheVariants.{StoreSize, ShelfSpoiled, NoFreePlace, Differs}
use Rattle.base.specs.Bytes.{same}
use Rattle.base.proofs.Cases.{by}
use Rattle.base.proofs.Same.{same-equal, same-unequal}
use Rattle.section.specs.Section.{read_of, header_of, version, section_number, last_section_number}
use Rattle.section.specs.declared.Header.{Header}
use Rattle.berth.specs.Berth.{sections, places, store_size, berth_size, put, wiped_where, standing}
use Rattle.shelf.specs.Record.{place_at, with_place, length_at, holds, spoiled_of, place_of, free_of}
use Rattle.shelf_offer.specs.Offer.{After, begun_place, added_place, no, new_of, held_of, sound_of, reading_of, offer_of}
use Rattle.shelf_offer.specs.declared.Offered.{Offered}
use Rattle.section.proofs.Laws.{SoundFacts, sound-facts}
use Rattle.shelf_laws.specs.State.{State, offer_to}
use Rattle.shelf_laws.specs.Named.{key_in}
use Rattle.shelf_laws.proofs.Berths.{Berth}
use Rattle.shelf_laws.proofs.Places.{placed, free-le}

module _ (s : State) (payload : List ℕ) where
  pub record Heard : Type 0 where
    pub lent : length s.store ≡ store_size
    pub unspoiled : spoiled_of s.shelf ≡ false
    pub reads : read_of payload ≡ Ok (header_of payload)

  -- and its key is held, in this place
  pub record HeardOf (p : ℕ) : Type 0 where
    pub heard : Heard
    pub place : place_of s.shelf (key_in payload) ≡ p
    pub taken : p < places

  pub data Reason : Refusal → Type 0 where
    17-store : (length s.store ≡ store_size → ⊥) → Reason StoreSize
    18-spoiled : length s.store ≡ store_size → spoiled_of s.shelf ≡ true → Reason ShelfSpoiled
    unsound : (r : Refusal) → length s.store ≡ store_size → spoiled_of s.shelf ≡ false → read_of payload ≡ Err r → Reason r
    9-full : Heard → place_of s.shelf (key_in payload) ≡ places → free_of s.shelf ≡ places → Reason NoFreePlace
    10-last : (p : ℕ) → HeardOf p → (place_at s.shelf p).version ≡ version payload → ((place_at s.shelf p).last ≡ last_section_number payload → ⊥) → Reason Differs
    10-differs : (p : ℕ) → HeardOf p → (place_at s.shelf p).version ≡ version payload → (place_at s.shelf p).last ≡ last_section_number payload
        → holds (place_at s.shelf p) (section_number payload) ≡ true
        → (standing s.store p (section_number payload) (length_at (place_at s.shelf p) (section_number payload)) ≡ payload → ⊥)
        → Reason Differs

  pub data Goes : After → Type 0 where
    refuses : (r : Refusal) → Reason r → Goes (no s.shelf s.store payload r)
    began : Heard → place_of s.shelf (key_in payload) ≡ places → free_of s.shelf < places → Goes (
        record {
          said = Ok Offered.Began;
          shelf = with_place s.shelf (free_of s.shelf) (begun_place (header_of payload) (length payload));
          store = put s.store (free_of s.shelf) (section_number payload) payload;
        })
    began_again : (p : ℕ) → HeardOf p → ((place_at s.shelf p).version ≡ version payload → ⊥) → Goes (
        record {
          said = Ok Offered.BeganAgain;
          shelf = with_place s.shelf p (begun_place (header_of payload) (length payload));
          store = put (wiped_where (holds (place_at s.shelf p)) sections s.store p) p (section_number payload) payload;
        })
    added : (p : ℕ) → HeardOf p → (place_at s.shelf p).version ≡ version payload → (place_at s.shelf p).last ≡ last_section_number payload
        → holds (place_at s.shelf p) (section_number payload) ≡ false → Goes (
        record {
          said = Ok Offered.Added;
          shelf = with_place s.shelf p (added_place (place_at s.shelf p) (header_of payload) (length payload));
          store = put s.store p (section_number payload) payload;
        })
    repeats : (p : ℕ) → HeardOf p → (place_at s.shelf p).version ≡ version payload → (place_at s.shelf p).last ≡ last_section_number payload
        → holds (place_at s.shelf p) (section_number payload) ≡ true
        → standing s.store p (section_number payload) (length_at (place_at s.shelf p) (section_number payload)) ≡ payload
        → Goes (record { said = Ok Offered.Repeat; shelf = s.shelf; store = s.store })

  new-goes : Heard → place_of s.shelf (key_in payload) ≡ places → Goes (new_of s.shelf s.store payload (header_of payload))
  unfolding new_of
  new-goes a e =
      by (eqb (free_of s.shelf) places)
      (λ t. rw t (refuses NoFreePlace (9-full a e (eqb-true _ _ t))))
      (λ t.
      let ne : free_of s.shelf ≡ places → ⊥ = eqb-false _ _ t in
      let le : free_of s.shelf ≤ places = free-le s.shelf in
      rw t (began a e (omega arith)))

  held-goes : (p : ℕ) → HeardOf p → Goes (held_of s.shelf s.store payload p (header_of payload))
  unfolding held_of
  held-goes p a =
      by (eqb (place_at s.shelf p).version (version payload))
      (λ v.
      by (eqb (place_at s.shelf p).last (last_section_number payload))
      (λ l.
      by (holds (place_at s.shelf p) (section_number payload))
      (λ n.
      by (same (standing s.store p (section_number payload) (length_at (place_at s.shelf p) (section_number payload))) payload)
      (λ s. rw (v, l, n, s) (repeats p a (eqb-true _ _ v) (eqb-true _ _ l) n (same-equal _ _ s)))
      (λ s. rw (v, l, n, s) (refuses Differs (10-differs p a (eqb-true _ _ v) (eqb-true _ _ l) n (same-unequal _ _ s)))))
      (λ n. rw (v, l, n) (added p a (eqb-true _ _ v) (eqb-true _ _ l) n)))
      (λ l. rw (v, l) (refuses Differs (10-last p a (eqb-true _ _ v) (eqb-false _ _ l)))))
      (λ v. rw v (began_again p a (eqb-false _ _ v)))

  sound-goes : Heard → Goes (sound_of s.shelf s.store payload (header_of payload))
  unfolding sound_of
  sound-goes a =
      by (eqb (place_of s.shelf (key_in payload)) places)
      (λ t. rw t (new-goes a (eqb-true _ _ t)))
      (λ t.
      let ne : place_of s.shelf (key_in payload) ≡ places → ⊥ = eqb-false _ _ t in
      let le : place_of s.shelf (key_in payload) ≤ places = placed s.shelf (key_in payload) in
      rw t (held-goes (place_of s.shelf (key_in payload)) (record { heard = a; place = refl; taken = omega arith })))

  pub goes : Goes (offer_to s payload)
  unfolding offer_of
  goes =
      by (eqb (length s.store) store_size)
      (λ t.
      by (spoiled_of s.shelf)
      (λ s. rw (t, s) (refuses ShelfSpoiled (18-spoiled (eqb-true _ _ t) s)))
      (λ s. rw (t, s) (reading (eqb-true _ _ t) s (read_of payload) refl)))
      (λ t. rw t (refuses StoreSize (17-store (eqb-false _ _ t))))
    where
      reading : length s.store ≡ store_size → spoiled_of s.shelf ≡ false → (r : Result Header Refusal) → read_of payload ≡ r → Goes (reading_of s.shelf s.store payload r)
      reading l s (Ok h) e =
          let f : h ≡ header_of payload = (sound-facts payload h e).header in
          rw f (sound-goes (record { lent = l; unspoiled = s; reads = e ∙ ap Ok f }))
      reading l s (Err r) e = refuses r (unsound r l s e)

  -- what a sound section's numbers are
  module _ (a : Heard) where
    facts : SoundFacts payload (header_of payload)
    facts = sound-facts payload (header_of payload) a.reads

    pub number-last : section_number payload ≤ last_section_number payload
    number-last = facts.number

    pub last-15 : last_section_number payload ≤ 15
    last-15 = facts.last

    pub number-16 : section_number payload < sections
    number-16 = let n : section_number payload ≤ last_section_number payload = number-last in let l : last_section_number payload ≤ 15 = last-15 in omega arith

    pub version-31 : version payload ≤ 31
    version-31 = let v : version payload < 32 = facts.version in omega arith

    pub least-8 : 8 ≤ length payload
    least-8 = facts.least

    pub most-1024 : length payload ≤ berth_size
    most-1024 = facts.most

    pub own-berth : (p : ℕ) → p < places → Berth s.store p (section_number payload)
    own-berth p i = record { lent = a.lent; place = i; number = number-16 }
