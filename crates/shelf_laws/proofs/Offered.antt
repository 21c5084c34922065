-- What an offer does to the tables.
--   offer-good       the shelf stays good
--   offer-alike      every other table is left alone
--   offer-begins     a section that begins its table is all that the table holds
--   offer-joins      a section that is added, or a repeat, is held beside what was held
--   offer-refused    a refused offer changes nothing
--   offer-repeat     a repeat changes nothing
use mathlib.Core.Path.{◌≡◌, refl, sym, ap, subst, ◌∙◌}
use mathlib.Core.Bool.{true, false, ◌&&◌}
use mathlib.Core.List.{List}
use Prim.Native.Nat.{ℕ, ◌<◌, ◌≤◌}
use native.Mathlib.Omega.{arith}
use Rattle.std.specs.Prelude.{Result, Ok, Err}
use Rattle.refusal.specs.declared.Refusal.{Refusal}
use Rattle.base.proofs.Cases.{by, unlike}
use Rattle.section.specs.Section.{header_of, section_number}
use Rattle.section.proofs.Laws.{SoundFacts, sound-facts}
use Rattle.berth.specs.Berth.{sections, places, berth_size, put, wiped_where, standing}
use Rattle.berth.proofs.Berths.{where-length, where-spared}
use Rattle.shelf.specs.Record.{place_at, holds, has_key, place_of, free_of}
use Rattle.key.specs.Key.{same_key}
use Rattle.key.specs.declared.Key.{Key}
use Rattle.shelf_offer.specs.Offer.{After}
use Rattle.shelf_offer.specs.declared.Offered.{Offered}
use Rattle.shelf_laws.specs.State.{State, offer_to, after_offer}
use Rattle.shelf_laws.specs.Named.{key_in, own_place}
use Rattle.shelf_laws.specs.Answers.{begins, joins, stores, accepted}
use Rattle.shelf_laws.specs.Laws.{OfferRefused, OfferRepeat}
use Rattle.shelf_laws.proofs.Berths.{put-elsewhere}
use Rattle.shelf_laws.proofs.Places.{same-owner, its_key, has-not, held_at, unheld, free-at, one_key}
use Rattle.key.proofs.Keys.{key-itself}
use Rattle.shelf_laws.proofs.Offering.{Heard, HeardOf, Goes, goes, own-berth}
use Rattle.shelf_laws.proofs.OnlyNamed.{again-berth}
use Rattle.shelf_laws.proofs.Kept.{Good, Table, Kept, kept-itself, Alike, alike-itself, alike-with}
use Rattle.shelf_laws.proofs.Stored.{begun_table, joined_table, begun, added, begun-good, begun_kept, added-good, added-kept, repeat-kept}

unstored : (a : Result Offered Refusal) → accepted a ≡ false → stores a ≡ false
unstored (Ok Offered.Began) e = e
unstored (Ok Offered.BeganAgain) e = e
unstored (Ok Offered.Added) e = e
unstored (Ok Offered.Repeat) e = refl
unstored (Err r) e = refl

module _ (s : State) (payload : List ℕ) (g : Good s) where
  facts : Heard s payload → SoundFacts payload (header_of payload)
  facts a = sound-facts payload (header_of payload) a.reads

  its : (p : ℕ) → HeardOf s payload p → place_of s.shelf (key_in payload) < places
  its p a = rw a.place a.taken

  only_here : (p : ℕ) → HeardOf s payload p → (q : ℕ) → q < places → (q ≡ p → ⊥) → has_key (place_at s.shelf q) (key_in payload) ≡ false
  only_here p a q i ne =
      by (has_key (place_at s.shelf q) (key_in payload))
      (λ t. absurd (ne (one_key s.shelf (key_in payload) g.unspoiled q p i a.taken t (rw a.place at (held_at s.shelf (key_in payload) (its p a))))))
      (λ t. t)

  good-goes : {r : After} → Goes s payload r → Good (after_offer r)
  good-goes (Goes.refuses _ _) = g
  good-goes (Goes.began a e f) =
      begun-good payload (facts a) s g (free_of s.shelf) f (λ q i _. unheld s.shelf (key_in payload) e q i) s.store g.lent
  good-goes (Goes.began_again p a v) =
      begun-good payload (facts a.heard) s g p a.taken (only_here p a)
      (wiped_where (holds (place_at s.shelf p)) sections s.store p)
      (where-length (holds (place_at s.shelf p)) s.store g.lent p a.taken sections (omega arith))
  good-goes (Goes.added p a _ l _) =
      added-good payload (facts a.heard) s g p (kept-itself s p g (key_in payload) a.place a.taken) l
  good-goes (Goes.repeats _ _ _ _ _ _) = g

  pub offer-good : Good (after_offer (offer_to s payload))
  offer-good = good-goes (goes s payload)

  -- berths of another place stay as they were
  again-elsewhere : (p : ℕ) → HeardOf s payload p → (q n k : ℕ) → (q ≡ p → ⊥) → n < sections → k ≤ berth_size
      → standing (put (wiped_where (holds (place_at s.shelf p)) sections s.store p) p (section_number payload) payload) q n k ≡ standing s.store q n k
  again-elsewhere p a q n k ne i j =
      put-elsewhere (wiped_where (holds (place_at s.shelf p)) sections s.store p) p (section_number payload) (again-berth s payload p a) payload
      (facts a.heard).most q n k i (λ e _. ne (sym e)) j
      ∙ where-spared (holds (place_at s.shelf p)) s.store g.lent p a.taken sections (omega arith) q n k i (λ e _ _. ne (sym e)) j

  own-elsewhere : (a : Heard s payload) (p : ℕ) → p < places → (q n k : ℕ) → (q ≡ p → ⊥) → n < sections → k ≤ berth_size
      → standing (put s.store p (section_number payload) payload) q n k ≡ standing s.store q n k
  own-elsewhere a p t q n k ne i j =
      put-elsewhere s.store p (section_number payload) (own-berth s payload a p t) payload (facts a).most q n k i (λ e _. ne (sym e)) j

  module _ (key : Key) (other : key_in payload ≡ key → ⊥) where
    begun-other : has_key (begun payload) key ≡ false
    begun-other = by (has_key (begun payload) key) (λ t. absurd (other (its_key (begun payload) key t))) (λ t. t)

    place_other : (p : ℕ) → HeardOf s payload p → has_key (place_at s.shelf p) key ≡ false
    place_other p a =
        by (has_key (place_at s.shelf p) key)
        (λ t. absurd (other (sym (its_key (place_at s.shelf p) (key_in payload) (rw a.place at (held_at s.shelf (key_in payload) (its p a)))) ∙ its_key (place_at s.shelf p) key t)))
        (λ t. t)

    alike-goes : {r : After} → Goes s payload r → Alike s (after_offer r) key
    alike-goes (Goes.refuses _ _) = alike-itself s key
    alike-goes (Goes.began a e f) =
        alike-with s g.formed (free_of s.shelf) f (begun payload) (put s.store (free_of s.shelf) (section_number payload) payload) key
        (has-not (place_at s.shelf (free_of s.shelf)) key (free-at s.shelf f)) begun-other (own-elsewhere a (free_of s.shelf) f)
    alike-goes (Goes.began_again p a v) =
        alike-with s g.formed p a.taken (begun payload) (put (wiped_where (holds (place_at s.shelf p)) sections s.store p) p (section_number payload) payload) key
        (place_other p a) begun-other (again-elsewhere p a)
    alike-goes (Goes.added p a _ _ _) =
        alike-with s g.formed p a.taken (added payload (place_at s.shelf p)) (put s.store p (section_number payload) payload) key
        (place_other p a) (sym (same-owner (place_at s.shelf p) (added payload (place_at s.shelf p)) key refl refl) ∙ place_other p a) (own-elsewhere a.heard p a.taken)
    alike-goes (Goes.repeats _ _ _ _ _ _) = alike-itself s key

    pub offer-alike : Alike s (after_offer (offer_to s payload)) key
    offer-alike = alike-goes (goes s payload)

  begins-goes : {r : After} → Goes s payload r → begins r.said ≡ true
      → Kept (after_offer r) (key_in payload) (own_place s.shelf payload r.said) (begun_table payload)
  begins-goes (Goes.refuses _ _) e = absurd (unlike (sym e))
  begins-goes (Goes.began a q f) e =
      begun_kept payload (facts a) s g (free_of s.shelf) f (λ p i _. unheld s.shelf (key_in payload) q p i) s.store g.lent
  begins-goes (Goes.began_again p a v) e =
      rw a.place
      (begun_kept payload (facts a.heard) s g p a.taken (only_here p a)
      (wiped_where (holds (place_at s.shelf p)) sections s.store p)
      (where-length (holds (place_at s.shelf p)) s.store g.lent p a.taken sections (omega arith)))
  begins-goes (Goes.added _ _ _ _ _) e = absurd (unlike (sym e))
  begins-goes (Goes.repeats _ _ _ _ _ _) e = absurd (unlike (sym e))

  pub offer-begins : begins (offer_to s payload).said ≡ true
      → Kept (after_offer (offer_to s payload)) (key_in payload) (own_place s.shelf payload (offer_to s payload).said) (begun_table payload)
  offer-begins = begins-goes (goes s payload)

  module _ (p : ℕ) {t : Table} (k : Kept s (key_in payload) p t) where
    joins-goes : {r : After} → Goes s payload r → joins r.said ≡ true → Kept (after_offer r) (key_in payload) p (joined_table payload t)
    joins-goes (Goes.refuses _ _) e = absurd (unlike (sym e))
    joins-goes (Goes.began _ _ _) e = absurd (unlike (sym e))
    joins-goes (Goes.began_again _ _ _) e = absurd (unlike (sym e))
    joins-goes (Goes.added q a w m _) e =
        let z : q ≡ p = sym a.place ∙ k.place in rw z (added-kept payload (facts a.heard) s g p k (rw z at m))
    joins-goes (Goes.repeats q a w m n y) e =
        let z : q ≡ p = sym a.place ∙ k.place in repeat-kept payload (facts a.heard) s g p k (rw z at n) (rw z at y)

    pub offer-joins : joins (offer_to s payload).said ≡ true → Kept (after_offer (offer_to s payload)) (key_in payload) p (joined_table payload t)
    offer-joins = joins-goes (goes s payload)

  held-goes : {r : After} → Goes s payload r → joins r.said ≡ true → place_of s.shelf (key_in payload) < places
  held-goes (Goes.refuses _ _) e = absurd (unlike (sym e))
  held-goes (Goes.began _ _ _) e = absurd (unlike (sym e))
  held-goes (Goes.began_again _ _ _) e = absurd (unlike (sym e))
  held-goes (Goes.added p a _ _ _) e = its p a
  held-goes (Goes.repeats p a _ _ _ _) e = its p a

  -- a section joins a table that is held
  pub joins-held : joins (offer_to s payload).said ≡ true → place_of s.shelf (key_in payload) < places
  joins-held = held-goes (goes s payload)

module _ (s : State) (payload : List ℕ) where
  heard-goes : {r : After} → Goes s payload r → accepted r.said ≡ true → Heard s payload
  heard-goes (Goes.refuses _ _) e = absurd (unlike (sym e))
  heard-goes (Goes.began a _ _) e = a
  heard-goes (Goes.began_again _ a _) e = a.heard
  heard-goes (Goes.added _ a _ _ _) e = a.heard
  heard-goes (Goes.repeats _ a _ _ _ _) e = a.heard

  -- an accepted section was offered with a store of its size and an unspoiled record, and is sound
  pub accepted-heard : accepted (offer_to s payload).said ≡ true → Heard s payload
  accepted-heard = heard-goes (goes s payload)

  unchanged-goes : {r : After} → Goes s payload r → stores r.said ≡ false → after_offer r ≡ s
  unchanged-goes (Goes.refuses _ _) e = refl
  unchanged-goes (Goes.began _ _ _) e = absurd (unlike e)
  unchanged-goes (Goes.began_again _ _ _) e = absurd (unlike e)
  unchanged-goes (Goes.added _ _ _ _ _) e = absurd (unlike e)
  unchanged-goes (Goes.repeats _ _ _ _ _ _) e = refl

  -- a table of which no section is accepted is left alone
  pub offer-apart : Good s → (key : Key) → (same_key (key_in payload) key && accepted (offer_to s payload).said) ≡ false
      → Alike s (after_offer (offer_to s payload)) key
  offer-apart g key e =
      by (same_key (key_in payload) key)
      (λ t.
      subst (λ x. Alike s x key) (sym (unchanged-goes (goes s payload) (unstored (offer_to s payload).said (rw t at e)))) (alike-itself s key))
      (λ t. offer-alike s payload g key (λ q. unlike (sym (ap (λ x. same_key x key) q ∙ key-itself key) ∙ t)))

pub offer-refused : OfferRefused
offer-refused s payload n e = unchanged-goes s payload (goes s payload) (ap stores e)

pub offer-repeat : OfferRepeat
offer-repeat s payload e = unchanged-goes s payload (goes s payload) (ap stores e)
